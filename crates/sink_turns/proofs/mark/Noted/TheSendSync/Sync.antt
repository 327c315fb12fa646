-- A mark without bytes owns nothing, so threads may share it.
use denote.Param.Send.{IsSync, part_keyless}
use Rattle.sink_turns.specs.contracts.mark.Noted.{the_row}
use Rattle.sink_turns.proofs.mark.Noted.TheSendSync.Send.{send}

pub sync : IsSync the_row
sync = record { shared = λ d b o κ q. part_keyless the_row send q d b o }
