use Rattle.domain_stories.proofs.report.after.Given as goal

abbrev pub ghost-named : goal.ghost-named
ghost-named g a = g.asked
