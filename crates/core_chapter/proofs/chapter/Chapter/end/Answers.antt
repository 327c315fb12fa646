use Rattle.std.proofs.Common.{sym, subst}
use Rattle.domain_spec.specs.declared.mark.Mark.TheVariants as mark
use Rattle.domain_spec.specs.Legal.{IsLawful}
use Rattle.core_chapter.specs.Standing.{HistoryWithRoom, in_force}
use Rattle.core_chapter.proofs.Standing.{ends}
use Rattle.core_chapter.proofs.chapter.Chapter.end.Goals as goal

pub invariant_of-self : goal.invariant_of-self
invariant_of-self c =
    let a = c.args in
    let i = c.self.inside in
    ends i.base i.marks.list c.push.new.self.list i.state c.end_operation.new.state i.job i.operation c.set.new.operation a.by a.who a.reply c.self.invariant
    (subst (λ (v : HistoryWithRoom). IsLawful (in_force v.history.base v.history.marks) (mark.End a.by.number a.who a.reply)) (sym c.self.view_is) c.requires.lawful)
    c.end_operation.ensures c.set.ensures c.push.ensures.list
