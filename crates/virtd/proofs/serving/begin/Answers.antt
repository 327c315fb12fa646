use Rattle.std.proofs.Common.{refl, Some}
use Rattle.virtd.proofs.serving.begin.Goals as goal

pub returns-in-Ok-clause-begins : goal.returns-in-Ok-clause-begins
returns-in-Ok-clause-begins g c = rw c.in-Start.is (record {
  made = Some c.in-Ok.outcomes.items;
  begun = rw c.in-Ok.is at c.start-daemon.ensures.made;
  on_is = refl;
})

pub returns-in-Ok-made-clause-begins : goal.returns-in-Ok-made-clause-begins
returns-in-Ok-made-clause-begins g c = rw c.in-Make.is (record {
  made = Some c.in-Ok-made.outcomes.items;
  begun = rw (c.in-Ok-made.is, c.as_slice-in-Make.ensures) at c.make-daemon.ensures.made;
  on_is = c.all_done.ensures;
})
