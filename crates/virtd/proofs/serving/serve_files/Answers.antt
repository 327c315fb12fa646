use Rattle.std.proofs.Common.{inr}
use Rattle.virtd.proofs.serving.serve_files.Goals as goal

pub returns-in-Ok-clause-serves : goal.returns-in-Ok-clause-serves
returns-in-Ok-clause-serves g c = inr (record {
  row = c.in-Ok.daemon.row;
  found = c.in-Ok.daemon.driver.starts;
  reports = c.in-Ok.daemon.driver.statuses;
  cells = c.in-Ok.ensures.ok;
  connects = rw (c.say_statuses.ensures, c.guests-guests.ensures) at c.serve_daemon.ensures.connects;
})
