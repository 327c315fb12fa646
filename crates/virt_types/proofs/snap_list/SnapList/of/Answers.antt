use Rattle.std.proofs.Common.{◌≡◌, [], ◌∷◌, ◌++◌, ap, ◌∙◌, subst, append_assoc}
use Rattle.std.specs.Vec.Iter.{into_iter_items}
use Rattle.virt_types.specs.Snapshots.{IsRising}
use Rattle.virt_types.proofs.RisingSnaps.{with_last}
use Rattle.virt_types.proofs.snap_list.SnapList.of.Goals as goal

pub loop-snap-preserved : goal.loop-snap-preserved
loop-snap-preserved c =
    let rising : IsRising (c.loop-snap.list ++ c.in-Some.snap ∷ into_iter_items c.next.new.self) = subst (λ z. IsRising (c.loop-snap.list ++ z)) c.in-Some.ensures.steps.0 c.loop-snap.invariant.1 in
    let is : c.insert.new.self ≡ c.loop-snap.list ++ c.in-Some.snap ∷ [] = cc (c.in_ok-insert.ensures.ok, with_last c.loop-snap.list c.in-Some.snap (into_iter_items c.next.new.self) rising) in
    (cc (is, c.loop-snap.invariant.0), rw is (rw (append_assoc c.loop-snap.list (c.in-Some.snap ∷ []) (into_iter_items c.next.new.self)) rising))
