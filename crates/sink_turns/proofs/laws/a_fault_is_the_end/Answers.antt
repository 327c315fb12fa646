use Rattle.sink_turns.proofs.Texts.{faults_stay}
use Rattle.sink_turns.proofs.laws.a_fault_is_the_end.Goals as goal

pub returns : goal.returns
returns c = faults_stay
