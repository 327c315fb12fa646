-- A stamp owns nothing, so threads may share it.
use denote.Param.Send.{IsSync, part_keyless}
use Rattle.history_spec.specs.contracts.stamp.Stamp.{the_row}
use Rattle.history_spec.proofs.stamp.Stamp.TheSendSync.Send.{send}

pub sync : IsSync the_row
sync = record { shared = λ d b o κ q. part_keyless the_row send q d b o }
