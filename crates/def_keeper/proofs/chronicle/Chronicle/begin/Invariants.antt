use Rattle.std.proofs.Common.{[]}
use Rattle.def_keeper.proofs.chronicle.Chronicle.begin.Given as goal

abbrev pub ghost-named : goal.ghost-named
ghost-named g a = record { chapter = 0; base = record { map = g.base.0; begun = g.base.1 }; marks = [] }
