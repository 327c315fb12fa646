-- A story owns nothing, so threads may share it.
use denote.Param.Send.{IsSync, part_keyless}
use Rattle.pool_core.specs.contracts.story.Story.{the_row}
use Rattle.pool_core.proofs.story.Story.TheSendSync.Send.{send}

pub sync : IsSync the_row
sync = record { shared = λ d b o κ q. part_keyless the_row send q d b o }
