use Rattle.std.proofs.Common.{ℕ, List, Ok, true, sym, subst}
use Rattle.domain_spec.specs.Types.{Transition}
use Rattle.domain_spec.specs.CanTake.{CanTake}
use Rattle.domain_spec.specs.declared.core_step.CoreStep.TheVariants as step
use Rattle.domain_core.specs.Below.core_steps.ClientLaws.{IsTaking}
use Rattle.domain_core.specs.Celled.{KeepsOtherShares, cell_in}
use Rattle.domain_obj.specs.Clients.{HandsOver}
use Rattle.domain_obj.proofs.ClientCells.{can_still, hands_events, hands_loss, stays_in}
use Rattle.domain_obj.proofs.clients.hand_over.Goals as goal

pub take_events-requires : goal.take_events-requires
take_events-requires g c =
    let a = c.args in
    record { can = subst (λ (k : ℕ). CanTake (cell_in a.cell.now) (step.Take k a.client)) (sym c.again.ensures) c.requires.can }

pub settle-is_lost-requires : goal.settle-is_lost-requires
settle-is_lost-requires g c =
    let a = c.args in
    let t = c.take_events in
    let x = c.in-Ok-Events in
    let takes = subst (λ (k : ℕ). IsTaking k a.client a.cell.now.core.turning t.new.self.core.turning) c.again.ensures x.ensures.takes in
    record { can = can_still a.by.number a.client a.cell.now t.new.self x.events c.holds.ensures.owed c.holds.ensures.listeners c.requires.can (rw x.field-0-is at x.ensures.given) takes }

pub returns-in-Ok-Events : goal.returns-in-Ok-Events
returns-in-Ok-Events g c =
    let a = c.args in
    let t = c.take_events in
    let x = c.in-Ok-Events in
    let s = c.settle-is_lost in
    let takes = subst (λ (k : ℕ). IsTaking k a.client a.cell.now.core.turning t.new.self.core.turning) c.again.ensures x.ensures.takes in
    let others = subst (λ (k : ℕ). KeepsOtherShares k a.cell.now t.new.self) c.again.ensures t.ensures.others in
    hands_events a.by.number a.client a.end a.cell.now t.new.self s.new.cell x.events s.result c.holds.ensures.owed c.holds.ensures.listeners c.requires.can (rw x.field-0-is at x.ensures.given) takes
    t.ensures.out others s.ensures

pub returns-in-Ok-Lost : goal.returns-in-Ok-Lost
returns-in-Ok-Lost g c =
    let a = c.args in
    let t = c.take_events in
    let x = c.in-Ok-Lost in
    let takes = subst (λ (k : ℕ). IsTaking k a.client a.cell.now.core.turning t.new.self.core.turning) c.again.ensures x.ensures.takes in
    let others = subst (λ (k : ℕ). KeepsOtherShares k a.cell.now t.new.self) c.again.ensures t.ensures.others in
    subst (λ (es : List Transition). HandsOver a.by.number a.client a.end a.cell.now t.new.self (Ok (record { events = es; is_lost = true }))) (sym c.new.ensures)
    (hands_loss a.by.number a.client _ a.end a.cell.now t.new.self c.holds.ensures.owed c.holds.ensures.listeners c.requires.can (rw x.field-0-is at x.ensures.given) takes t.ensures.out others)

pub returns-in-Err : goal.returns-in-Err
returns-in-Err g c =
    let a = c.args in
    let t = c.take_events in
    let x = c.in-Err in
    let others = subst (λ (k : ℕ). KeepsOtherShares k a.cell.now t.new.self) c.again.ensures t.ensures.others in
    stays_in a.by.number a.cell.now t.new.self x.ensures.err t.ensures.out others
