use Rattle.snapshot_core.proofs.CallProofs.{nothing_next}
use Rattle.snapshot_core.proofs.calls.next.Goals as goal

pub returns-clause-asked : goal.returns-clause-asked
returns-clause-asked c = nothing_next c.args._state.now c.args._call.now c.args._boot c.args._answers.now c.requires.core
