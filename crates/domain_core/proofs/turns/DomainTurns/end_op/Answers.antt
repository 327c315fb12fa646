use Rattle.std.proofs.Common.{refl, sym, subst}
use Rattle.std.specs.Vec.{vec_capacity, vec_len}
use Rattle.domain_spec.specs.declared.standing.Standing.{Standing}
use Rattle.core_steps.specs.Turning.{turning}
use Rattle.core_steps.specs.OperationEnding.{CanEnd, Ends}
use Rattle.domain_core.specs.Core.{Core}
use Rattle.domain_core.proofs.Operating.{end_keeps, end_room, end_turn}
use Rattle.domain_core.proofs.Shown.{force_shown}
use Rattle.domain_spec.specs.declared.core_step.CoreStep.TheVariants as step
use Rattle.domain_core.proofs.Others.{takes_others}
use Rattle.domain_core.proofs.turns.DomainTurns.end_op.Goals as goal

pub end_op-reply-requires-clause-room : goal.end_op-reply-requires-clause-room
end_op-reply-requires-clause-room c =
    let a = c.args in
    let i = c.self.inside in
    let over = subst (λ (s : Standing). CanEnd s.operation a.by.number a.who) (sym (force_shown a.self.now i.kept i.queue i.held.items i.ears i.excluded c.self.view_is)) c.requires.over in
    end_room i.kept (vec_len i.rooms) a.by.number a.who c.self.invariant.ends over

pub end_op-reply-requires-clause-over : goal.end_op-reply-requires-clause-over
end_op-reply-requires-clause-over c =
    let a = c.args in
    let i = c.self.inside in
    subst (λ (s : Standing). CanEnd s.operation a.by.number a.who) (sym (force_shown a.self.now i.kept i.queue i.held.items i.ears i.excluded c.self.view_is)) c.requires.over

pub invariant_of-self : goal.invariant_of-self
invariant_of-self c =
    let a = c.args in
    let i = c.self.inside in
    let l = c.end_op-reply in
    let over = subst (λ (s : Standing). CanEnd s.operation a.by.number a.who) (sym (force_shown a.self.now i.kept i.queue i.held.items i.ears i.excluded c.self.view_is)) c.requires.over in
    let ended =
    end_turn i.kept l.new.kept i.queue i.held.items i.ears i.excluded (vec_len i.rooms) (vec_capacity i.held) a.by.number a.who l.result c.self.invariant over
    c.facts.ensures.lost c.facts.ensures.waits c.facts.ensures.room c.facts-2.ensures.lost c.facts-2.ensures.waits l.ensures.ends in
    end_keeps i.kept l.new.kept i.queue i.held.items i.ears i.excluded (vec_len i.rooms) (vec_capacity i.held) a.by.number a.who l.result c.self.invariant ended l.ensures.ends
    (l.ensures.marks (vec_len i.rooms) c.self.invariant.ends)

pub returns-clause-ends : goal.returns-clause-ends
returns-clause-ends c =
    let a = c.args in
    let i = c.self.inside in
    let l = c.end_op-reply in
    let over = subst (λ (s : Standing). CanEnd s.operation a.by.number a.who) (sym (force_shown a.self.now i.kept i.queue i.held.items i.ears i.excluded c.self.view_is)) c.requires.over in
    subst (λ (v : Core). Ends a.by.number a.who v.turning (turning l.new.kept i.queue i.held.items i.ears) l.result) c.self.view_is
    (end_turn i.kept l.new.kept i.queue i.held.items i.ears i.excluded (vec_len i.rooms) (vec_capacity i.held) a.by.number a.who l.result c.self.invariant over
    c.facts.ensures.lost c.facts.ensures.waits c.facts.ensures.room c.facts-2.ensures.lost c.facts-2.ensures.waits l.ensures.ends)

pub returns-clause-others : goal.returns-clause-others
returns-clause-others c =
    let a = c.args in
    let i = c.self.inside in
    let l = c.end_op-reply in
    takes_others a.self.now i.kept l.new.kept i.queue i.queue i.held.items i.held.items i.ears i.ears i.excluded a.by.number (step.EndOp a.by.number a.who) c.self.view_is (returns-clause-ends c) refl tt
    c.facts.ensures.apart c.facts.ensures.waits c.facts-2.ensures.waits l.ensures.ends.course
