use Rattle.def_keeper.proofs.keep.change_free.Given as goal

abbrev pub ghost-settle : goal.ghost-settle
ghost-settle g a = g.number

abbrev pub ghost-make : goal.ghost-make
ghost-make g a = g.number

abbrev pub ghost-fail : goal.ghost-fail
ghost-fail g a = g.number
