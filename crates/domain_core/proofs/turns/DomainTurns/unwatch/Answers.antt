use Rattle.std.proofs.Common.{refl, ◌≡◌, [], ◌∷◌, sym, subst}
use Rattle.std.specs.Vec.{vec_capacity, vec_len}
use Rattle.domain_spec.specs.CanTake.{CanTake}
use Rattle.domain_spec.specs.declared.core_step.CoreStep.TheVariants as step
use Rattle.domain_spec.specs.declared.mark.Mark.TheVariants as mark
use Rattle.core_steps.specs.Turning.{Takes, turning}
use Rattle.domain_core.specs.Core.{Core}
use Rattle.domain_core.proofs.Watching.{leave_turn, own_quiet, watch_keeps}
use Rattle.domain_core.proofs.Others.{takes_others}
use Rattle.domain_core.proofs.turns.DomainTurns.unwatch.Goals as goal

pub unwatch-requires : goal.unwatch-requires
unwatch-requires c =
    let a = c.args in
    let i = c.self.inside in
    let can = subst (λ (v : Core). CanTake v.turning.cell (step.Unwatch a.by.number a.client)) (sym c.self.view_is) c.requires.can in
    record { quiet = own_quiet i.kept i.queue i.held.items i.ears a.by.number a.client can c.facts.ensures.apart }

pub returns-clause-leaves : goal.returns-clause-leaves
returns-clause-leaves c =
    let a = c.args in
    let i = c.self.inside in
    let l = c.unwatch in
    subst (λ (v : Core). Takes v.turning (turning l.new.kept i.queue i.held.items i.ears) (step.Unwatch a.by.number a.client) (λ left. left ≡ mark.Unwatch a.by.number a.client ∷ [])) c.self.view_is
    (leave_turn i.kept l.new.kept i.queue i.held.items i.ears i.excluded (vec_len i.rooms) (vec_capacity i.held) a.by.number a.client c.self.invariant
    c.facts.ensures.lost c.facts.ensures.waits c.facts.ensures.room c.facts-2.ensures.lost c.facts-2.ensures.waits l.ensures.leaves)

pub invariant_of-self : goal.invariant_of-self
invariant_of-self c =
    let i = c.self.inside in
    let l = c.unwatch in
    watch_keeps i.kept l.new.kept i.queue i.held.items i.ears i.excluded (vec_len i.rooms) (vec_capacity i.held) c.self.invariant
    (l.ensures.kept i.held.items i.ears (vec_len i.rooms) c.self.invariant.kept) (l.ensures.ends (vec_len i.rooms) c.self.invariant.ends)

pub returns-clause-others : goal.returns-clause-others
returns-clause-others c =
    let a = c.args in
    let i = c.self.inside in
    let l = c.unwatch in
    takes_others a.self.now i.kept l.new.kept i.queue i.queue i.held.items i.held.items i.ears i.ears i.excluded a.by.number (step.Unwatch a.by.number a.client) c.self.view_is (returns-clause-leaves c) refl tt
    c.facts.ensures.apart c.facts.ensures.waits c.facts-2.ensures.waits l.ensures.leaves.course
