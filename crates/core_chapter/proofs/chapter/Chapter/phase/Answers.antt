use Rattle.std.proofs.Common.{◌≡◌, Option, Some, sym, ap, subst}
use Rattle.domain_spec.specs.declared.open.OpenJob.{OpenJob}
use Rattle.domain_spec.specs.declared.open.OpenOperation.{OpenOperation}
use Rattle.core_chapter.specs.Closing.{CanPhase}
use Rattle.core_chapter.specs.Standing.{HistoryWithRoom, Stands, in_force}
use Rattle.core_chapter.proofs.Closed.{can_be_phased, phases}
use Rattle.core_chapter.proofs.chapter.Chapter.phase.Goals as goal

pub invariant_of-self : goal.invariant_of-self
invariant_of-self c =
    let a = c.args in
    let i = c.self.inside in
    let is : i.operation ≡ Some c.in-Some.operation = c.in-Some.is in
    let can = can_be_phased i.base i.marks.list i.state i.job i.operation c.in-Some.operation a.parts a.by a.asks a.answers c.self.invariant is
    (subst (λ (v : HistoryWithRoom). CanPhase (in_force v.history.base v.history.marks) (in_force v.history.base v.history.marks).operation a.parts a.by a.asks a.answers) (sym c.self.view_is) c.requires.can) in
    subst (λ (j : Option OpenJob). Stands i.base c.close_phase.new.marks.list c.close_phase.new.state j (Some c.close_phase.new.operation)) (sym c.close.ensures)
    (phases i.base i.marks.list c.close_phase.new.marks.list i.state c.close_phase.new.state i.job c.in-Some.operation (Some c.close_phase.new.operation) a.by a.asks a.answers
    (subst (λ (o : Option OpenOperation). Stands i.base i.marks.list i.state i.job o) is c.self.invariant) can.1
    c.close_phase.ensures.state (ap (λ (o : OpenOperation). Some o) c.close_phase.ensures.operation) c.close_phase.ensures.marks)
