use Rattle.def_keeper.proofs.keep.change_in.Given as goal

abbrev pub ghost-refuse : goal.ghost-refuse
ghost-refuse g a = g.number

abbrev pub ghost-change_free : goal.ghost-change_free
ghost-change_free g a = g.number
