use Rattle.std.proofs.Common.{◌≡◌, Option, Some, sym, ◌∙◌, subst}
use Rattle.domain_spec.specs.declared.open.OpenJob.{OpenJob}
use Rattle.core_chapter.specs.Closing.{CanDo}
use Rattle.core_chapter.specs.Standing.{HistoryWithRoom, Stands, in_force}
use Rattle.core_chapter.proofs.Closed.{can_be_done, does}
use Rattle.core_chapter.proofs.chapter.Chapter.done.Goals as goal

pub invariant_of-self : goal.invariant_of-self
invariant_of-self c =
    let a = c.args in
    let i = c.self.inside in
    let is : i.job ≡ Some c.in-Some.job = sym c.take.ensures.value ∙ c.in-Some.is in
    let can = can_be_done i.base i.marks.list i.state i.job i.operation c.in-Some.job a.parts a.by a.asks a.answers c.self.invariant is
    (subst (λ (v : HistoryWithRoom). CanDo (in_force v.history.base v.history.marks) (in_force v.history.base v.history.marks).job a.parts a.by a.asks a.answers) (sym c.self.view_is) c.requires.can) in
    subst (λ (j : Option OpenJob). Stands i.base c.close_call.new.marks.list c.close_call.new.state j i.operation) (sym c.take.ensures.after)
    (does i.base i.marks.list c.close_call.new.marks.list i.state c.close_call.new.state i.job i.operation c.in-Some.job a.by a.asks a.answers c.self.invariant can.1
    c.close_call.ensures.state c.close_call.ensures.marks)
