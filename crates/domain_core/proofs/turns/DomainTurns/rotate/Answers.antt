use Rattle.std.proofs.Common.{◌≡◌, ℕ, sym, subst}
use Rattle.std.specs.Vec.{vec_capacity, vec_len}
use Rattle.domain_spec.specs.CanTake.{CanTake}
use Rattle.domain_spec.specs.declared.core_step.CoreStep.TheVariants as step
use Rattle.core_steps.specs.Rooms.{HasEnd, IsKept}
use Rattle.domain_core.specs.Core.{Core}
use Rattle.domain_core.proofs.Watching.{rotate_free, rotate_keeps, rotate_queue, rotates_on}
use Rattle.domain_core.proofs.Others.{rotate_others}
use Rattle.domain_core.proofs.turns.DomainTurns.rotate.Goals as goal

pub rotate-rotated-requires-clause-none : goal.rotate-rotated-requires-clause-none
rotate-rotated-requires-clause-none c =
    let a = c.args in
    let i = c.self.inside in
    let can = subst (λ (v : Core). CanTake v.turning.cell (step.Rotate a.by.number a.who)) (sym c.self.view_is) c.requires.can in
    rotate_free i.kept i.queue i.held.items i.ears a.by.number a.who can

pub invariant_of-self : goal.invariant_of-self
invariant_of-self c =
    let i = c.self.inside in
    let l = c.rotate-rotated in
    let same : c.len.result ≡ vec_len i.rooms = c.len.ensures in
    rotate_keeps i.kept l.new.kept i.queue l.new.queue i.held.items i.ears i.excluded (vec_len i.rooms) (vec_capacity i.held) c.self.invariant
    (subst (λ (k : ℕ). IsKept l.new.kept i.held.items i.ears k) same (l.ensures.kept i.held.items i.ears (subst (λ (k : ℕ). IsKept i.kept i.held.items i.ears k) (sym same) c.self.invariant.kept)))
    (subst (λ (k : ℕ). HasEnd l.new.kept k) same (l.ensures.ends (subst (λ (k : ℕ). HasEnd i.kept k) (sym same) c.self.invariant.ends)))

pub returns-clause-ok : goal.returns-clause-ok
returns-clause-ok c =
    let a = c.args in
    let i = c.self.inside in
    let l = c.rotate-rotated in
    rotates_on a.self.now i.kept l.new.kept i.queue l.new.queue i.held.items i.ears i.excluded (vec_len i.rooms) (vec_capacity i.held) a.by.number a.who l.result c.self.view_is c.self.invariant c.requires.can
    c.facts.ensures.lost c.facts.ensures.waits c.facts.ensures.room l.ensures.rotates

pub returns-clause-queue : goal.returns-clause-queue
returns-clause-queue c =
    let a = c.args in
    let i = c.self.inside in
    let l = c.rotate-rotated in
    rotate_queue a.self.now i.kept l.new.kept i.queue l.new.queue i.held.items i.ears i.excluded a.by.number a.who l.result c.self.view_is l.ensures.rotates

pub returns-clause-others : goal.returns-clause-others
returns-clause-others c =
    let a = c.args in
    let i = c.self.inside in
    let l = c.rotate-rotated in
    rotate_others a.self.now i.kept l.new.kept i.queue l.new.queue i.held.items i.ears i.excluded a.by.number a.who l.result c.self.view_is (returns-clause-ok c) l.ensures.rotates
    c.facts.ensures.apart c.facts.ensures.waits c.facts-2.ensures.waits l.ensures.course
