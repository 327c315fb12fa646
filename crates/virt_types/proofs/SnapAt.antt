-- What is known of the snapshots of a part of the tree, once it is around one of them.
use Rattle.std.proofs.Common.{◌≡◌, Bool, true, false, cond, List, ◌∷◌, ◌++◌, Box, sym, ap, ◌∙◌, subst}
use Rattle.std.specs.declared.alloc.Global.{Global}
use Rattle.virt_types.specs.declared.domain.Snap.{Snap}
use Rattle.virt_types.specs.declared.snap_tree.SnapTree.{SnapTree}
use Rattle.virt_types.specs.declared.snap_tree.SnapNode.{SnapNode}
use Rattle.virt_types.specs.declared.snap_tree.SnapNode.TheVariants.{Around}
use Rattle.virt_types.specs.SnapNodes.{listed}
use Rattle.virt_types.specs.Snapshots.{IsRising, is_before, with_snapshot}
use Rattle.virt_types.proofs.RisingSnaps.{rising_with, with_left, with_right}

pub record IsAround (d l : List Snap) (k : Snap) (r : List Snap) : Type 0 where
  pub is : d ≡ l ++ k ∷ r
  pub rising : IsRising (l ++ k ∷ r)

pub is_around : {n : SnapNode} {d : List Snap} {l r : Box SnapTree Global} {k : Snap} → listed n ≡ d → IsRising (listed n) → n ≡ Around l k r → IsAround d l.value k r.value
is_around {n} {d} {l} {r} {k} view_is rising is =
    record { is = sym view_is ∙ ap listed is; rising = subst IsRising (ap listed is) rising }

-- what an insertion leaves, where b says that it went through
pub record IsWith (b : Bool) (new : Snap) (d after : List Snap) : Type 0 where
  pub is : after ≡ cond b (with_snapshot d new) d
  pub rising : IsRising after

pub is_with : (b : Bool) (new : Snap) (d after : List Snap) → IsRising d → after ≡ cond b (with_snapshot d new) d → IsWith b new d after
is_with true new d after h e = record { is = e; rising = rw e (rising_with d new h) }
is_with false new d after h e = record { is = e; rising = rw e h }

pub is_with_left : {d l r after : List Snap} {k new : Snap} (b : Bool) → IsAround d l k r → is_before new.name k.name ≡ true → after ≡ cond b (with_snapshot l new) l → IsWith b new d (after ++ k ∷ r)
is_with_left {d} {l} {r} {after} {k} {new} true f p e = is_with true new d _ (rw f.is f.rising) (cc (f.is, e, with_left new k l r p))
is_with_left {d} {l} {r} {after} {k} {new} false f p e = is_with false new d _ (rw f.is f.rising) (cc (f.is, e))

pub is_with_right : {d l r after : List Snap} {k new : Snap} (b : Bool) → IsAround d l k r → is_before new.name k.name ≡ false → after ≡ cond b (with_snapshot r new) r → IsWith b new d (l ++ k ∷ after)
is_with_right {d} {l} {r} {after} {k} {new} true f p e = is_with true new d _ (rw f.is f.rising) (cc (f.is, e, with_right new k l r p f.rising))
is_with_right {d} {l} {r} {after} {k} {new} false f p e = is_with false new d _ (rw f.is f.rising) (cc (f.is, e))
