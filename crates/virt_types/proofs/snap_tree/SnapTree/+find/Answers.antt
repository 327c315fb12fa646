use Rattle.std.proofs.Common.{◌≡◌, true, false, arith}
use Rattle.virt_types.specs.Snapshots.{is_before}
use Rattle.virt_types.proofs.RisingSnaps.{named_left, named_middle, named_right, tie_named}
use Rattle.virt_types.proofs.SnapAt.{is_around}
use Rattle.virt_types.proofs.snap_tree.SnapTree.+find.Goals as goal

pub returns-then-is_before : goal.returns-then-is_before
returns-then-is_before t c =
    let f = is_around c.self.view_is c.self.invariant c.in-Around.is in
    let p : is_before c.args.name.now c.in-Around.snap.name ≡ true = cc (c.is_before.ensures, c.as_ref.ensures, c.if-is_before.true) in
    cc (f.is, c.find.ensures, c.deref.ensures, named_left c.args.name.now c.in-Around.snap c.in-Around.before.value c.in-Around.behind.value p f.rising)

pub returns-then-is_before-2 : goal.returns-then-is_before-2
returns-then-is_before-2 t c =
    let f = is_around c.self.view_is c.self.invariant c.in-Around.is in
    let p : is_before c.in-Around.snap.name c.args.name.now ≡ true = cc (c.is_before-else-is_before.ensures, c.as_ref-else-is_before.ensures, c.if-is_before-2.true) in
    cc (f.is, c.find-then-is_before-2.ensures, c.deref-then-is_before-2.ensures, named_right c.args.name.now c.in-Around.snap c.in-Around.before.value c.in-Around.behind.value p f.rising)

pub returns-else-is_before-2 : goal.returns-else-is_before-2
returns-else-is_before-2 t c =
    let f = is_around c.self.view_is c.self.invariant c.in-Around.is in
    let p : is_before c.args.name.now c.in-Around.snap.name ≡ false = cc (c.is_before.ensures, c.as_ref.ensures, c.if-is_before.false) in
    let q : is_before c.in-Around.snap.name c.args.name.now ≡ false = cc (c.is_before-else-is_before.ensures, c.as_ref-else-is_before.ensures, c.if-is_before-2.false) in
    grind (arith, f.is, c.or.ensures, c.find-else-is_before-2.ensures, c.deref-else-is_before-2.ensures, c.as_ref-else-is_before-2.ensures, named_middle c.args.name.now c.in-Around.snap c.in-Around.before.value c.in-Around.behind.value (tie_named c.args.name.now c.in-Around.snap p q))
