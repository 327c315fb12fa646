use Rattle.std.proofs.Common.{◌∙◌, sym}
use Rattle.def_map.specs.Map.{found}
use Rattle.def_map.proofs.MapFinds.{dropped_same, not_bare}
use Rattle.def_map.proofs.map.DefMap.drop_row.Goals as goal

pub returns-clause-same : goal.returns-clause-same
returns-clause-same c = λ k u. c.remove.ensures.dropped k u ∙ dropped_same (found c.args.self.now) c.args.kind c.args.uuid k u (sym c.in-None.ensures)

pub returns-in-Some-clause-row : goal.returns-in-Some-clause-row
returns-in-Some-clause-row c = not_bare c.args.self.now c.args.kind c.args.uuid c.in-Some.field-0.now c.in-Some.ensures
