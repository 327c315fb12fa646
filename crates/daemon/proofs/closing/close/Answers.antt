use Rattle.std.proofs.Common.{List, subst, sym}
use Rattle.std.specs.List.{All}
use Rattle.driver_service.specs.Below.driver.Cells.{IsIdleRow, IsRowOf}
use Rattle.driver_service.specs.Below.driver_close.Closed.{HasClosed}
use Rattle.driver_service.specs.Below.held_tasks.OfRows.{DriverRow}
use Rattle.daemon.proofs.closing.close.Goals as goal

pub close-files-requires-clause-idle : goal.close-files-requires-clause-idle
close-files-requires-clause-idle g c =
    subst (λ (l : List (DriverRow _)). All (IsIdleRow g.F.Files.told) l) (sym c.unkept_by-unkept.ensures.rows) (c.is_idle.ensures.0 c.if-not-is_idle.false)

pub close-files-requires-clause-own : goal.close-files-requires-clause-own
close-files-requires-clause-own g c =
    subst (λ (l : List (DriverRow _)). All (IsRowOf c.args.driver) l) (sym c.unkept_by-unkept.ensures.rows) c.requires.own

pub returns : goal.returns
returns g c =
    let books = c.close-files.result.1 in
    record {
      idle = c.is_idle.ensures.0 c.if-not-is_idle.false;
      books = subst (λ (l : List (DriverRow _)). HasClosed g.F.Files.told l c.close-files.result.0 books.list books.store books.cells.items) c.unkept_by-unkept.ensures.rows c.close-files.ensures.closed;
      safe = c.close-files.ensures.crash;
      unkept = c.unkept_by-unkept.ensures.unkept;
    }
