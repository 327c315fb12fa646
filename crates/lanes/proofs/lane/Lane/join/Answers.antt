use Rattle.std.proofs.Common.{ap, ◌∙◌, rules}
use Rattle.lanes.proofs.Moves.{merges}
use Rattle.lanes.proofs.lane.Lane.join.Goals as goal

pub absorb-requires-clause-rule : goal.absorb-requires-clause-rule
absorb-requires-clause-rule g c = merges _ _ _ _ (ap (λ e. e.puts) c.self.view_is ∙ c.requires.puts) (ap (λ e. e.takes) c.other.view_is ∙ c.requires.takes)
