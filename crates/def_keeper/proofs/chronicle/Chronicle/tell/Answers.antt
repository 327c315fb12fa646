use Rattle.std.proofs.Common.{sym, subst, ◌+◌, length-append, arith}
use Rattle.def_keeper.specs.Chapters.{IsCounted}
use Rattle.def_keeper.proofs.chronicle.Chronicle.tell.Goals as goal

pub invariant_of-self : goal.invariant_of-self
invariant_of-self g c = subst (IsCounted c.self.inside.chapter (c.self.inside.marks + c.args.count)) (sym c.told_next-self-inside.ensures) (record {
  chapter_is = c.self.invariant.chapter_is;
  marks_are = omega (arith, c.self.invariant.marks_are, c.requires.0, length-append c.self.inside.story.told.marks g.more);
})
