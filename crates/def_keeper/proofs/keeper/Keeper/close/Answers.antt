use Rattle.def_keeper.proofs.keeper.Keeper.close.Goals as goal

pub returns-clause-crash : goal.returns-clause-crash
returns-clause-crash g c = λ sound. let kept = c.self.invariant.kept sound in (kept.0, kept.1, kept.2.goes.prefixes)
