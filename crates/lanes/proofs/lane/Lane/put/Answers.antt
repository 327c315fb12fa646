use Rattle.std.proofs.Common.{ap, ◌∙◌, rules}
use Rattle.lanes.proofs.Moves.{puts, sees}
use Rattle.lanes.proofs.lane.Lane.put.Goals as goal

pub push_as-put-requires-clause-rule : goal.push_as-put-requires-clause-rule
push_as-put-requires-clause-rule g c = (puts _ _ _ _ (ap (λ e. e.puts) c.self.view_is ∙ c.requires), sees _ _)
