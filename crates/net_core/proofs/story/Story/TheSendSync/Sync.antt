-- A story owns nothing, so threads may share it.
use denote.Param.Send.{IsSync, part_keyless}
use Rattle.net_core.specs.contracts.story.Story.{the_row}
use Rattle.net_core.proofs.story.Story.TheSendSync.Send.{send}

pub sync : IsSync the_row
sync = record { shared = λ d b o κ q. part_keyless the_row send q d b o }
