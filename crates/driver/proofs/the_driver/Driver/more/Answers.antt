use Rattle.std.specs.List.{All}
use Rattle.std.proofs.lemmas.Result.{IfOk-weaker}
use Rattle.held_tasks.specs.OfRows.{IsReadyRow}
use Rattle.driver.specs.Cells.{BecomesMany}
use Rattle.driver.proofs.Splitting.{all_ready}
use Rattle.driver.proofs.the_driver.Driver.more.Goals as goal

pub returns-clause-ready : goal.returns-clause-ready
returns-clause-ready g c =
    IfOk-weaker c.more.result (λ all. BecomesMany g.F.Files.told g.G.Guests.faults c.args.rows c.args.row all.list) (λ all. All IsReadyRow all.list)
    (λ all many. all_ready g.F.Files.told g.G.Guests.faults c.args.rows c.args.row all.list many c.requires.ready) c.more.ensures.ok
