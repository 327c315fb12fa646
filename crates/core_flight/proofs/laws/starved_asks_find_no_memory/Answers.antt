use Rattle.core_flight.proofs.Turned.{starved_find_none}
use Rattle.core_flight.proofs.laws.starved_asks_find_no_memory.Goals as goal

pub returns : goal.returns
returns c = starved_find_none
