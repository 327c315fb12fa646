use Rattle.std.proofs.Common.{◌≡◌, ◌++◌, ◌∷◌, ap, arith, length, length-append}
use Rattle.virt_types.specs.Snapshots.{IsRising}
use Rattle.virt_types.proofs.RisingSnaps.{rising_joined}
use Rattle.virt_types.proofs.SnapAt.{is_around}
use Rattle.virt_types.proofs.snap_tree.SnapTree.+join.Goals as goal

pub join-requires : goal.join-requires
join-requires t c =
    let f = is_around c.self.view_is c.self.invariant c.in-Around.is in
    let same : c.replace.result ≡ c.in-Around.behind.value = cc (c.replace.ensures.value, c.deref_mut.ensures.value) in
    let fewer = length-append c.in-Around.before.value (c.in-Around.snap ∷ c.in-Around.behind.value) in
    (omega (arith, c.decreases, ap length same, ap length f.is, fewer), rw same (rising_joined c.in-Around.before.value c.in-Around.snap c.in-Around.behind.value c.args.other (rw f.is at c.requires)))
