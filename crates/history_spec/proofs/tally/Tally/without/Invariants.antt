use Rattle.history_spec.specs.Tally.{one_fewer}
use Rattle.history_spec.proofs.tally.Tally.without.Given as goal

abbrev pub ghost-after : goal.ghost-after
ghost-after g a = one_fewer g.number a._old.now.numbers
