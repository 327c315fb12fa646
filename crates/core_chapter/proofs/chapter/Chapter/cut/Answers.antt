use Rattle.std.proofs.Common.{sym, subst}
use Rattle.domain_spec.specs.declared.mark.Mark.TheVariants as mark
use Rattle.domain_spec.specs.Legal.{IsLawful}
use Rattle.core_chapter.specs.Standing.{HistoryWithRoom, in_force}
use Rattle.core_chapter.proofs.Standing.{cuts}
use Rattle.core_chapter.proofs.chapter.Chapter.cut.Goals as goal

pub invariant_of-self : goal.invariant_of-self
invariant_of-self c =
    let a = c.args in
    let i = c.self.inside in
    cuts i.base i.marks.list c.push.new.self.list i.state i.job i.operation a.client a.total a.taken c.self.invariant
    (subst (λ (v : HistoryWithRoom). IsLawful (in_force v.history.base v.history.marks) (mark.Cut a.client a.total a.taken)) (sym c.self.view_is) c.requires.lawful)
    c.push.ensures.list
