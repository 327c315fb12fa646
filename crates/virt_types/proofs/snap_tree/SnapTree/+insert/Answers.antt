use Rattle.std.proofs.Common.{◌≡◌, true, false, subst}
use Rattle.virt_types.specs.Snapshots.{IsRising, is_before}
use Rattle.virt_types.proofs.SnapAt.{is_around, is_with, is_with_left, is_with_right}
use Rattle.virt_types.proofs.snap_tree.SnapTree.+insert.Goals as goal
use Rattle.virt_types.proofs.snap_tree.SnapTree.+insert.Goals.{then-is_before, else-is_before}

pub returns-after-is_before : goal.returns-after-is_before
returns-after-is_before t c =
    let f = is_around c.self.view_is c.self.invariant c.in-Around.is in
    elim c.if-is_before.branch [
      | then-is_before w ↦
          let p : is_before c.args.new.name c.in-Around.snap.name ≡ true = cc (c.is_before.ensures, c.as_ref.ensures, w.if-is_before.true) in
          rw (w.self-inside-is, w.result-is) (is_with_left _ f p (rw w.deref_mut.ensures.value at w.insert.ensures)).is
      | else-is_before w ↦
          let p : is_before c.args.new.name c.in-Around.snap.name ≡ false = cc (c.is_before.ensures, c.as_ref.ensures, w.if-is_before.false) in
          rw (w.self-inside-is, w.result-is) (is_with_right _ f p (rw w.deref_mut-else-is_before.ensures.value at w.insert-else-is_before.ensures)).is
    ]

pub invariant_of-self-in-Around : goal.invariant_of-self-in-Around
invariant_of-self-in-Around t c = (is_with _ _ _ _ (subst IsRising c.self.view_is c.self.invariant) (returns-after-is_before t c)).rising
