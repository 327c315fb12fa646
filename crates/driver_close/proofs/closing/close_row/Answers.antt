use Rattle.driver_close.proofs.Whole.{closes_row}
use Rattle.driver_close.proofs.closing.close_row.Goals as goal

pub returns-clause-closes : goal.returns-clause-closes
returns-clause-closes g c =
    let parts = c.into_parts-list_pass.result in
    let left = c.close-files in
    closes_row g.F.Files.told c.args.row parts.0 parts.1 parts.2 c.into_vec.result.items parts.3 parts.4 left.result.0 c.close_cell-list.result c.close_cell.result left.result.1 c.close_domains-cells.result.items c.into_parts-list_pass.ensures c.close_cell-list.ensures
    c.close_cell.ensures c.into_vec.ensures c.close_domains-cells.ensures left.ensures.files left.ensures.history left.ensures.of_acknowledged
