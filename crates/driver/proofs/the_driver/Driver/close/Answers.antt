use Rattle.std.proofs.Common.{subst, sym}
use Rattle.std.specs.List.{All}
use Rattle.driver.specs.Cells.{DriverView, IsRowOf}
use Rattle.driver.proofs.the_driver.Driver.close.Goals as goal

pub close_cells-requires-clause-own : goal.close_cells-requires-clause-own
close_cells-requires-clause-own g c = subst (λ (d : DriverView). All (IsRowOf d) c.args.rows.list) (sym c.self.view_is) c.requires.own
