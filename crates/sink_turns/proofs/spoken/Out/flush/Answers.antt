use Rattle.std.proofs.Common.{[], ◌∷◌, inr, refl}
use Rattle.sink_turns.specs.declared.mark.Deed.TheVariants.{Put, Cut}
use Rattle.sink_turns.proofs.Leaving.{adds, calm_of, failed, flushed, within_all}
use Rattle.sink_turns.proofs.Noting.{noted_first}
use Rattle.sink_turns.proofs.spoken.Out.flush.Goals as goal

pub invariant_of-self-in-Ok-put_all : goal.invariant_of-self-in-Ok-put_all
invariant_of-self-in-Ok-put_all g c =
    let calm = calm_of _ _ _ _ c.self.invariant c.self.view_is c.if-self.false in
    flushed g.number _ _ _ _ _ c.self.invariant c.self.view_is calm refl _
    (noted_first _ _ _ _ _ c.reserve.ensures.items c.push_reserved.ensures.items c.note_put-put.ensures)
    (rw c.deref.ensures.value at c.in-Ok-put_all.ensures.taken) c.put_all.ensures.cause.later c.clear.ensures.items

pub invariant_of-self-in-Err : goal.invariant_of-self-in-Err
invariant_of-self-in-Err g c =
    let calm = calm_of _ _ _ _ c.self.invariant c.self.view_is c.if-self.false in
    let took = rw c.deref.ensures.value at c.in-Err.ensures.taken in
    failed g.number _ _ _ _ _ c.self.invariant c.self.view_is calm refl _ c.in-Err.count
    (noted_first _ _ _ _ _ c.reserve.ensures.items c.push_reserved-in-Err.ensures.items c.note_cut-cut.ensures)
    took.0 took.1 c.put_all.ensures.cause.later c.in-Err.ensures.cause.failed c.self.invariant.within

pub returns-in-Ok-put_all : goal.returns-in-Ok-put_all
returns-in-Ok-put_all g c =
    let calm = calm_of _ _ _ _ c.self.invariant c.self.view_is c.if-self.false in (
      Put ∷ [],
      adds g.number _ _ _ _ _ c.self.invariant c.self.view_is calm refl _ (noted_first _ _ _ _ _ c.reserve.ensures.items c.push_reserved.ensures.items c.note_put-put.ensures),
      (calm, inr refl),
    )

pub returns-in-Err : goal.returns-in-Err
returns-in-Err g c =
    let calm = calm_of _ _ _ _ c.self.invariant c.self.view_is c.if-self.false in
    let took = rw c.deref.ensures.value at c.in-Err.ensures.taken in (
      Cut c.in-Err.count ∷ [],
      adds g.number _ _ _ _ _ c.self.invariant c.self.view_is calm refl _ (noted_first _ _ _ _ _ c.reserve.ensures.items c.push_reserved-in-Err.ensures.items c.note_cut-cut.ensures),
      inr (c.in-Err.count, calm, within_all _ _ _ _ c.self.invariant c.self.view_is calm c.in-Err.count took.0, refl),
    )
