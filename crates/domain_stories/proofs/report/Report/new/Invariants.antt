use Rattle.std.proofs.Common.{[]}
use Rattle.domain_stories.proofs.report.Report.new.Given as goal

abbrev pub ghost-named : goal.ghost-named
ghost-named a = []
