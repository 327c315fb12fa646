use Rattle.object_list.proofs.list.begin.Given as goal

abbrev pub ghost-begin : goal.ghost-begin
ghost-begin g a = g.base
