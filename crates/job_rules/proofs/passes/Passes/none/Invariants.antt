use Rattle.std.proofs.Common.{[]}
use Rattle.job_rules.proofs.passes.Passes.none.Given as goal

abbrev pub ghost-named : goal.ghost-named
ghost-named a = []
