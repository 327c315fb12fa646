use Rattle.std.proofs.Common.{◌∙◌, List, subst}
use Rattle.std.specs.Prelude.{IfOk}
use Rattle.std.specs.List.{All}
use Rattle.std.proofs.lemmas.List.{map-id}
use Rattle.atomic_table.specs.Seated.{TableId}
use Rattle.pass_rows.specs.Rows.{IsOf}
use Rattle.driver_open.proofs.row_list.more.Goals as goal

pub returns-clause-own : goal.returns-clause-own
returns-clause-own g c =
    let cells = c.args.cells.now in
    subst (λ (ids : List TableId). IfOk c.split.result (λ all. All (IsOf cells.list cells.store ids) all.list)) (map-id c.as_slice.result.now ∙ c.as_slice.ensures.value) c.split.ensures.own
