use Rattle.std.proofs.Common.{sym, subst}
use Rattle.domain_spec.specs.declared.mark.Mark.TheVariants as mark
use Rattle.domain_spec.specs.Legal.{IsLawful}
use Rattle.core_chapter.specs.Standing.{HistoryWithRoom, in_force}
use Rattle.core_chapter.proofs.Standing.{watches}
use Rattle.core_chapter.proofs.chapter.Chapter.watch.Goals as goal

pub invariant_of-self : goal.invariant_of-self
invariant_of-self c =
    let a = c.args in
    let i = c.self.inside in
    watches i.base i.marks.list c.push.new.self.list i.state i.job i.operation a.by a.client c.self.invariant
    (subst (λ (v : HistoryWithRoom). IsLawful (in_force v.history.base v.history.marks) (mark.Watch a.by.number a.client)) (sym c.self.view_is) c.requires.lawful)
    c.push.ensures.list
