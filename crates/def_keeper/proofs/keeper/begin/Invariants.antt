use Rattle.def_keeper.proofs.keeper.begin.Given as goal

abbrev pub ghost-begin : goal.ghost-begin
ghost-begin g a = g.base
