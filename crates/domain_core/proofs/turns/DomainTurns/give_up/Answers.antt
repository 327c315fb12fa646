use Rattle.std.proofs.Common.{refl, ◌≡◌, Option, Some, sym, ◌∙◌, subst}
use Rattle.std.specs.Vec.{vec_capacity, vec_len}
use Rattle.domain_core.specs.Core.{IsWhole, core_of}
use Rattle.domain_core.proofs.Parts.{give_goes}
use Rattle.domain_core.proofs.Whole.{given_keeps}
use Rattle.core_steps.specs.declared.refusing.Refusable.{Refusable}
use Rattle.domain_spec.specs.declared.core_step.CoreStep.TheVariants as step
use Rattle.domain_core.proofs.Others.{takes_others}
use Rattle.domain_core.proofs.turns.DomainTurns.give_up.Goals as goal

pub invariant_of-self : goal.invariant_of-self
invariant_of-self c =
    let i = c.self.inside in
    let z = c.in-Some.refusable in
    let there : i.excluded ≡ Some z = sym c.take.ensures.value ∙ c.in-Some.is in
    let whole = subst (λ (x : Option Refusable). IsWhole i.kept i.queue i.held.items i.ears x (vec_len i.rooms) (vec_capacity i.held)) there c.self.invariant in
    subst (λ (x : Option Refusable). IsWhole c.give_up.new.kept c.give_up.new.queue i.held.items i.ears x (vec_len i.rooms) (vec_capacity i.held)) (sym c.take.ensures.after)
    (given_keeps i.kept c.give_up.new.kept i.queue c.give_up.new.queue i.held.items i.ears z (vec_len i.rooms) (vec_capacity i.held) c.args.by.number whole
    c.give_up.ensures.given_up c.give_up.ensures.spare)

pub returns-clause-given_up : goal.returns-clause-given_up
returns-clause-given_up c =
    let a = c.args in
    let i = c.self.inside in
    let z = c.in-Some.refusable in
    let there : i.excluded ≡ Some z = sym c.take.ensures.value ∙ c.in-Some.is in
    let whole = subst (λ (x : Option Refusable). IsWhole i.kept i.queue i.held.items i.ears x (vec_len i.rooms) (vec_capacity i.held)) there c.self.invariant in
    let is = subst (λ (x : Option Refusable). core_of i.kept i.queue i.held.items i.ears x ≡ a.self.now) there c.self.view_is in
    give_goes a.self.now i.kept c.give_up.new.kept i.queue c.give_up.new.queue i.held.items i.ears z (vec_len i.rooms) (vec_capacity i.held) a.by.number a.who a.call.now is
    c.requires.excluded whole c.requires.can c.facts.ensures.lost c.facts.ensures.waits c.facts-2.ensures.lost c.facts-2.ensures.waits c.give_up.ensures.given_up

pub returns-clause-others : goal.returns-clause-others
returns-clause-others c =
    let a = c.args in
    let i = c.self.inside in
    let z = c.in-Some.refusable in
    takes_others a.self.now i.kept c.give_up.new.kept i.queue c.give_up.new.queue i.held.items i.held.items i.ears i.ears i.excluded a.by.number (step.GiveUp a.by.number a.who a.call.now) c.self.view_is
    (returns-clause-given_up c) refl tt c.facts.ensures.apart c.facts.ensures.waits c.facts-2.ensures.waits c.give_up.ensures.given_up.1.course
