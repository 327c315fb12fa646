use Rattle.std.proofs.Common.{sym, subst}
use Rattle.domain_spec.specs.declared.mark.Mark.TheVariants as mark
use Rattle.domain_spec.specs.Legal.{IsLawful}
use Rattle.core_chapter.specs.Standing.{HistoryWithRoom, in_force}
use Rattle.core_chapter.proofs.Standing.{exits}
use Rattle.core_chapter.proofs.chapter.Chapter.exit.Goals as goal

pub invariant_of-self : goal.invariant_of-self
invariant_of-self c =
    let a = c.args in
    let i = c.self.inside in
    exits i.base i.marks.list c.push.new.self.list i.state c.end_guest.new.state i.job c.meet_exit.new.job i.operation a.boot a.why a.told c.self.invariant
    (subst (λ (v : HistoryWithRoom). IsLawful (in_force v.history.base v.history.marks) (mark.Exit a.boot a.why a.told)) (sym c.self.view_is) c.requires.lawful)
    c.end_guest.ensures c.meet_exit.ensures c.push.ensures.list
