use Rattle.std.proofs.Common.{sym, subst}
use Rattle.domain_spec.specs.declared.mark.Mark.TheVariants as mark
use Rattle.domain_spec.specs.Legal.{IsLawful}
use Rattle.core_chapter.specs.Standing.{HistoryWithRoom, in_force}
use Rattle.core_chapter.proofs.Standing.{refuses}
use Rattle.core_chapter.proofs.chapter.Chapter.refuse.Goals as goal

pub invariant_of-self : goal.invariant_of-self
invariant_of-self c =
    let a = c.args in
    let i = c.self.inside in
    refuses i.base i.marks.list c.push.new.self.list i.state i.job i.operation a.by a.who a.call a.code a.held c.self.invariant
    (subst (λ (v : HistoryWithRoom). IsLawful (in_force v.history.base v.history.marks) (mark.Refused a.by.number a.who a.call a.code a.held)) (sym c.self.view_is) c.requires.lawful)
    c.push.ensures.list
