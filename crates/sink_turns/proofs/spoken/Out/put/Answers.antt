use Rattle.std.proofs.Common.{[], ◌∷◌, refl}
use Rattle.sink_turns.specs.declared.mark.Deed.TheVariants.{Said, Cut}
use Rattle.sink_turns.proofs.Leaving.{adds, cut_said, put_said, within_both}
use Rattle.sink_turns.proofs.Noting.{noted_both}
use Rattle.sink_turns.proofs.spoken.Out.put.Goals as goal

pub invariant_of-self-in-Ok-put : goal.invariant_of-self-in-Ok-put
invariant_of-self-in-Ok-put g c =
    put_said g.number _ _ _ _ _ c.self.invariant c.self.view_is c.requires.1 refl c.args.message.now _
    (noted_both _ _ _ _ _ _ _ _ c.reserve.ensures.items c.push_reserved.ensures.items c.push_reserved-in-Ok-put.ensures.items c.note_said-said.ensures c.note_put-put.ensures)
    (rw c.as_slice-bytes.ensures at c.in-Ok-put.ensures.taken) c.put_with-put.ensures.cause.later c.put_with-put.ensures.none

pub invariant_of-self-in-Err : goal.invariant_of-self-in-Err
invariant_of-self-in-Err g c =
    let took = rw c.as_slice-bytes.ensures at c.in-Err.ensures.taken in
    cut_said g.number _ _ _ _ _ c.self.invariant c.self.view_is c.requires.1 refl c.args.message.now _ c.in-Err.count
    (noted_both _ _ _ _ _ _ _ _ c.reserve.ensures.items c.push_reserved.ensures.items c.push_reserved-in-Err.ensures.items c.note_said-said.ensures c.note_cut-cut.ensures)
    took.0 took.1 c.put_with-put.ensures.cause.later c.in-Err.ensures.cause.failed c.put_with-put.ensures.none

pub returns-in-Err : goal.returns-in-Err
returns-in-Err g c =
    let took = rw c.as_slice-bytes.ensures at c.in-Err.ensures.taken in (
      Said c.args.message.now ∷ Cut c.in-Err.count ∷ [],
      adds g.number _ _ _ _ _ c.self.invariant c.self.view_is c.requires.1 refl _
          (noted_both _ _ _ _ _ _ _ _ c.reserve.ensures.items c.push_reserved.ensures.items c.push_reserved-in-Err.ensures.items c.note_said-said.ensures c.note_cut-cut.ensures),
      (c.in-Err.count, within_both _ _ _ _ c.self.invariant c.self.view_is c.requires.1 c.in-Err.count c.args.message.now.bytes took.0, refl),
    )
