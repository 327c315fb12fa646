use Rattle.std.proofs.Common.{◌≡◌, map}
use Rattle.virt_types.specs.Snapshots.{with_parent}
use Rattle.virt_types.proofs.KeptSnaps.{rising_adopted}
use Rattle.virt_types.proofs.SnapAt.{is_around}
use Rattle.virt_types.proofs.snap_tree.SnapTree.+adopt.Goals as goal
use Rattle.virt_types.proofs.snap_tree.SnapTree.+adopt.Goals.{in-Empty, in-Around}

pub invariant_of-self : goal.invariant_of-self
invariant_of-self t c =
    elim c.match-self.branch [
      | in-Empty w ↦ rw (w.self-inside-is) c.self.invariant
      | in-Around w ↦
          let f = is_around c.self.view_is c.self.invariant w.in-Around.is in
          rw (w.self-inside-is) (rising_adopted c.args.name.now c.args.parent.now f (rw w.deref_mut.ensures.value at w.adopt.ensures.tree) (rw w.as_mut.ensures.value at w.adopt_one.ensures.snap) (rw w.deref_mut-in-Around.ensures.value at w.adopt-in-Around.ensures.tree))
    ]
