use Rattle.std.proofs.Common.{ℕ, Bool, false, sym, ◌∙◌, subst}
use Rattle.domain_spec.specs.CanTake.{CanTake}
use Rattle.domain_spec.specs.declared.core_step.CoreStep.TheVariants as step
use Rattle.domain_core.specs.Celled.{cell_in}
use Rattle.domain_obj.specs.Clients.{Settles}
use Rattle.domain_obj.proofs.ClientCells.{can_end, settle_dropped, settles_ended, settles_gone, settles_kept}
use Rattle.domain_obj.proofs.clients.settle.Goals as goal

pub drop_events-requires : goal.drop_events-requires
drop_events-requires g c =
    let a = c.args in
    record { can = subst (λ (k : ℕ). CanTake (cell_in a.cell.now) (step.Take k a.client)) (sym c.again.ensures) c.requires.can }

pub unwatch-requires : goal.unwatch-requires
unwatch-requires g c =
    let a = c.args in
    let d = c.drop_events in
    let left =
    settle_dropped a.by.number c.again.result.number a.client a.cell.now d.new.self c.again.ensures c.requires.can c.holds.ensures.owed c.holds.ensures.listeners c.holds-2.ensures.listeners
    d.ensures.drops d.ensures.listeners d.ensures.out d.ensures.others in
    record { can = can_end a.by.number a.client a.cell.now d.new.self left.0 left.1 (sym c.has.ensures ∙ c.if-not-has.false) }

pub returns-then-not-has : goal.returns-then-not-has
returns-then-not-has g c =
    let a = c.args in
    let d = c.drop_events in
    let left =
    settle_dropped a.by.number c.again.result.number a.client a.cell.now d.new.self c.again.ensures c.requires.can c.holds.ensures.owed c.holds.ensures.listeners c.holds-2.ensures.listeners
    d.ensures.drops d.ensures.listeners d.ensures.out d.ensures.others in
    settles_gone a.by.number a.client a.end a.cell.now d.new.self left.0 left.1 c.holds-2.ensures.listeners (sym c.has.ensures ∙ c.if-not-has.true)

pub returns-then-end : goal.returns-then-end
returns-then-end g c =
    let a = c.args in
    let d = c.drop_events in
    let u = c.unwatch in
    let left =
    settle_dropped a.by.number c.again.result.number a.client a.cell.now d.new.self c.again.ensures c.requires.can c.holds.ensures.owed c.holds.ensures.listeners c.holds-2.ensures.listeners
    d.ensures.drops d.ensures.listeners d.ensures.out d.ensures.others in
    subst (λ (e : Bool). Settles a.by.number a.client e a.cell.now u.new.self false) (sym c.if-end.true)
    (settles_ended a.by.number a.client a.cell.now d.new.self u.new.self left.0 left.1 (sym c.has.ensures ∙ c.if-not-has.false) u.ensures.leaves u.ensures.out u.ensures.others)

pub returns-else-end : goal.returns-else-end
returns-else-end g c =
    let a = c.args in
    let d = c.drop_events in
    let left =
    settle_dropped a.by.number c.again.result.number a.client a.cell.now d.new.self c.again.ensures c.requires.can c.holds.ensures.owed c.holds.ensures.listeners c.holds-2.ensures.listeners
    d.ensures.drops d.ensures.listeners d.ensures.out d.ensures.others in
    subst (λ (e : Bool). Settles a.by.number a.client e a.cell.now d.new.self false) (sym c.if-end.false)
    (settles_kept a.by.number a.client a.cell.now d.new.self left.0 left.1 (sym c.has.ensures ∙ c.if-not-has.false))
