use Rattle.std.proofs.Common.{◌∙◌}
use Rattle.def_map.proofs.map.DefMap.give_up.Goals as goal

pub returns-clause-same : goal.returns-clause-same
returns-clause-same c = λ k u. c.forget.ensures.same k u ∙ c.drop_row.ensures.same k u
