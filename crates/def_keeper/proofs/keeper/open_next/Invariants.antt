use Rattle.def_keeper.proofs.keeper.open_next.Given as goal

abbrev pub ghost-turn : goal.ghost-turn
ghost-turn g a = (a._map.now, g.F.Files.told a._files.now)
