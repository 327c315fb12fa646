use Rattle.std.proofs.Common.{sym, subst}
use Rattle.driver.specs.Called.{CameTo}
use Rattle.held_tasks.proofs.OfRows.{gone_itself}
use Rattle.request_asks.specs.declared.asked.Asked.{Asked}
use Rattle.driver.proofs.serving.serve_asked.Goals as goal

pub returns-in-Task-clause-came : goal.returns-in-Task-clause-came
returns-in-Task-clause-came g c =
    subst (λ (a : Asked). CameTo g.F.Files.told g.G.Guests.faults g.G.E.Ears.ends g.G.E.Ears.faults g.G.E.Ears.unheard g.F.Files.faults c.args.who a c.args.row c.serve_held.result.0 c.serve_held.result.1)
    (sym c.in-Task.is) c.serve_held.ensures.course

pub returns-in-Connection-clause-gone : goal.returns-in-Connection-clause-gone
returns-in-Connection-clause-gone g c = gone_itself c.args.row

pub returns-in-Refused-clause-gone : goal.returns-in-Refused-clause-gone
returns-in-Refused-clause-gone g c = gone_itself c.args.row

pub returns-in-NotRestored-clause-gone : goal.returns-in-NotRestored-clause-gone
returns-in-NotRestored-clause-gone g c = gone_itself c.args.row

pub returns-in-NoMemory-clause-gone : goal.returns-in-NoMemory-clause-gone
returns-in-NoMemory-clause-gone g c = gone_itself c.args.row

pub returns-in-Spent-clause-gone : goal.returns-in-Spent-clause-gone
returns-in-Spent-clause-gone g c = gone_itself c.args.row
