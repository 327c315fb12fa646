use Rattle.job_rules.proofs.passes.after.Given as goal

abbrev pub ghost-named : goal.ghost-named
ghost-named g a = g.list
