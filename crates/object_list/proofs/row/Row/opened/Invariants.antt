use Rattle.std.proofs.Common.{[]}
use Rattle.object_list.proofs.row.Row.opened.Given as goal

abbrev pub ghost-named : goal.ghost-named
ghost-named a = []
