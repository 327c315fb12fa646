use Rattle.std.proofs.Common.{[]}
use Rattle.row_desk.proofs.report.Report.new.Given as goal

abbrev pub ghost-named : goal.ghost-named
ghost-named a = []
