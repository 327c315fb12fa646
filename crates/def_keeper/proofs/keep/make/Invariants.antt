use Rattle.def_keeper.proofs.keep.make.Given as goal

abbrev pub ghost-make_put : goal.ghost-make_put
ghost-make_put g a = g.number

abbrev pub ghost-make_drop : goal.ghost-make_drop
ghost-make_drop g a = g.number
