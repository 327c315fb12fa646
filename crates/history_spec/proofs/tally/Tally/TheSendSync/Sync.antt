-- A tally owns nothing, so threads may share it.
use denote.Param.Send.{IsSync, part_keyless}
use Rattle.history_spec.specs.contracts.tally.Tally.{the_row}
use Rattle.history_spec.proofs.tally.Tally.TheSendSync.Send.{send}

pub sync : IsSync the_row
sync = record { shared = λ d b o κ q. part_keyless the_row send q d b o }
