use Rattle.std.proofs.Common.{◌∙◌, List, arith, subst, sym}
use Rattle.std.specs.List.{All}
use Rattle.std.proofs.lemmas.List.{map-id}
use Rattle.atomic_table.specs.Seated.{TableId}
use Rattle.pass_rows.specs.Rows.{IsOf}
use Rattle.driver_close.proofs.Whole.{all_hold_nothing, closed_all, last_row, slots_of}
use Rattle.driver_close.proofs.closing.close_cells.Goals as goal

pub joined-row-requires-clause-own : goal.joined-row-requires-clause-own
joined-row-requires-clause-own g c =
    let cells = c.args.cells in
    subst (λ (ids : List TableId). All (IsOf cells.list cells.store ids) c.args.rows.list) (sym (map-id c.as_slice.result.now ∙ c.as_slice.ensures.value)) c.requires.own

pub joined-row-requires-clause-empty : goal.joined-row-requires-clause-empty
joined-row-requires-clause-empty g c = all_hold_nothing g.F.Files.told c.args.rows.list c.requires.idle

pub close_row-requires-clause-own : goal.close_row-requires-clause-own
close_row-requires-clause-own g c =
    let cells = c.args.cells in
    subst (λ (ids : List TableId). IsOf cells.list cells.store ids c.joined-row.result) (map-id c.as_slice.result.now ∙ c.as_slice.ensures.value) c.joined-row.ensures.own

pub close_row-requires-clause-last : goal.close_row-requires-clause-last
close_row-requires-clause-last g c =
    let cells = c.args.cells in
    last_row g.F.Files.told c.args.rows.list c.joined-row.result c.joined-row.ensures.joined c.requires.whole (slots_of cells.list cells.store cells.domains.items c.joined-row.result (close_row-requires-clause-own g c) c.requires.slots)

pub close_row-requires-clause-room : goal.close_row-requires-clause-room
close_row-requires-clause-room g c =
    let cells = c.args.cells in
    omega (arith, slots_of cells.list cells.store cells.domains.items c.joined-row.result (close_row-requires-clause-own g c) c.requires.slots, c.requires.room)

pub returns-clause-closed : goal.returns-clause-closed
returns-clause-closed g c =
    let cells = c.args.cells in
    let left = c.close_row.result in
    let own = subst (λ (ids : List TableId). IsOf cells.list cells.store ids c.joined-row.result) (map-id c.as_slice.result.now ∙ c.as_slice.ensures.value) c.joined-row.ensures.own in
    closed_all g.F.Files.told c.args.rows.list c.joined-row.result c.joined-row.ensures.joined left.0 left.1.list left.1.store left.1.cells.items (slots_of cells.list cells.store cells.domains.items c.joined-row.result own c.requires.slots)
    c.close_row.ensures.closes
