use Rattle.std.proofs.Common.{◌≡◌, ◌<◌, ◌∙◌, ◌++◌, ◌∷◌, [], Bool, not, None, Some, ap, arith, length, option_map, slice_get, sym}
use Rattle.domain_spec.specs.Snapshots.{comes_from}
use Rattle.domain_spec.specs.Types.{Snap}
use Rattle.snapshot_core.proofs.DeletionProofs.{flag_more, is_there}
use Rattle.snapshot_core.proofs.deletion.flags.Goals as goal
use Rattle.snapshot_core.proofs.deletion.flags.Goals.{in-None, in-Some+in_ok-push-in-Some}

pub loop-place-preserved : goal.loop-place-preserved
loop-place-preserved c =
    elim c.match-get.branch [
      | in-None w ↦
          let lt : c.loop-place.place < length c.args.snaps.now = omega (arith, c.loop-place-test.true, c.len-place-end.ensures) in
          let none : slice_get c.args.snaps.now c.loop-place.place ≡ None = sym c.get.ensures ∙ ap (option_map (λ s. s.now)) w.in-None.is in
          absurd (is_there c.args.snaps.now c.loop-place.place lt none)
      | in-Some+in_ok-push-in-Some w ↦
          let stays : Snap → Bool = λ snap. not (comes_from c.args.snaps.now c.args.name.now snap) in
          let some : slice_get c.args.snaps.now c.loop-place.place ≡ Some w.in-Some.snap.now = sym c.get.ensures ∙ ap (option_map (λ s. s.now)) w.in-Some.is in
          ap (λ v. v.items) w.flags-is ∙ w.in_ok-push-in-Some.ensures.items ∙ ap (λ b. c.loop-place.flags.items ++ not b ∷ []) w.comes_from.ensures
          ∙ ap (λ xs. xs ++ stays w.in-Some.snap.now ∷ []) c.loop-place.invariant ∙ sym (flag_more stays c.args.snaps.now c.loop-place.place w.in-Some.snap.now some)
    ]
