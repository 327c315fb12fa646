use Rattle.std.proofs.Common.{◌≡◌, [], None, Result, sym, ◌∙◌, subst}
use Rattle.std.specs.Result.{IfOk}
use Rattle.history_spec.specs.declared.stamp.Stamp.{Stamp}
use Rattle.virt_types.specs.Room.{Roomy}
use Rattle.virt_types.specs.Below.types_base.declared.memory.NoMemory.{NoMemory}
use Rattle.domain_spec.specs.declared.mark.Mark.{Mark}
use Rattle.domain_spec.specs.declared.standing.Base.{Base}
use Rattle.core_chapter.specs.Standing.{HistoryWithRoom, in_force}
use Rattle.core_chapter.proofs.Closed.{turns_over}
use Rattle.core_chapter.proofs.chapter.Chapter.rotate.Goals as goal

pub invariant_of-self : goal.invariant_of-self
invariant_of-self c =
    let i = c.self.inside in
    let rs = c.args.registrations in
    let is_base : c.in_ok-base.base ≡ record { state = i.state; operation = i.operation; registrations = rs } =
    subst (λ (r : Result Base NoMemory). IfOk r (λ b. b ≡ record { state = i.state; operation = i.operation; registrations = rs })) c.in_ok-base.ensures.values.0 c.next_base.ensures in
    let is_left : c.in_ok-base.marks.list ≡ [] =
    subst (λ (r : Result (Roomy (Mark Stamp)) NoMemory). IfOk r (λ m. m.list ≡ [])) c.in_ok-base.ensures.values.1 c.empty.ensures.list in
    let none : i.job ≡ None =
    sym c.self.invariant.job
    ∙ subst (λ (v : HistoryWithRoom). (in_force v.history.base v.history.marks).job ≡ None) (sym c.self.view_is) c.requires.none in
    turns_over c.in_ok-base.base c.in_ok-base.marks.list i.state i.job i.operation rs c.self.invariant.tidy c.self.invariant.guest none is_base is_left
