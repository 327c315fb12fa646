use Rattle.std.proofs.Common.{[], ◌∷◌, ◌++◌}
use Rattle.domain_spec.specs.Kept.{without_pass}
use Rattle.job_rules.proofs.passes.Passes.with.Given as goal

abbrev pub ghost-after : goal.ghost-after
ghost-after g a = without_pass a._old.now.list g.number ++ record { number = g.number; who = a._who } ∷ []
