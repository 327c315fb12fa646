use Rattle.std.proofs.Common.{◌≡◌, ◌++◌, map, vec_items}
use Rattle.def_map.specs.Rows.{rows_in}
use Rattle.def_map.specs.Walk as spec
use Rattle.def_map.proofs.walk.picked.Given as goal

abbrev pub invariant-loop-key : goal.invariant-loop-key
invariant-loop-key l = map (λ e. e.now) (vec_items l.entries) ++ spec.picked l.kind (rows_in l.key-iterator) ≡ spec.picked l.kind (rows_in l.rows.entries)
