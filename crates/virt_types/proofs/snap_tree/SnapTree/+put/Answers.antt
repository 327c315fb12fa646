use Rattle.std.proofs.Common.{◌≡◌, true, false}
use Rattle.virt_types.specs.Snapshots.{is_before}
use Rattle.virt_types.proofs.SnapAt.{is_around, is_with_left, is_with_right}
use Rattle.virt_types.proofs.snap_tree.SnapTree.+put.Goals as goal

pub invariant_of-self-then-is_before : goal.invariant_of-self-then-is_before
invariant_of-self-then-is_before t c =
    let f = is_around c.self.view_is c.self.invariant c.in-Around.is in
    let p : is_before c.args.new.name c.in-Around.snap.name ≡ true = cc (c.is_before.ensures, c.as_ref.ensures, c.as_ref-in-Around.ensures, c.new-in-Around.view_is, c.if-is_before.true) in
    (is_with_left true f p (rw c.deref_mut.ensures.value at c.put.ensures)).rising

pub invariant_of-self-else-is_before : goal.invariant_of-self-else-is_before
invariant_of-self-else-is_before t c =
    let f = is_around c.self.view_is c.self.invariant c.in-Around.is in
    let p : is_before c.args.new.name c.in-Around.snap.name ≡ false = cc (c.is_before.ensures, c.as_ref.ensures, c.as_ref-in-Around.ensures, c.new-in-Around.view_is, c.if-is_before.false) in
    (is_with_right true f p (rw c.deref_mut-else-is_before.ensures.value at c.put-else-is_before.ensures)).rising

pub returns-then-is_before : goal.returns-then-is_before
returns-then-is_before t c =
    let f = is_around c.self.view_is c.self.invariant c.in-Around.is in
    let p : is_before c.args.new.name c.in-Around.snap.name ≡ true = cc (c.is_before.ensures, c.as_ref.ensures, c.as_ref-in-Around.ensures, c.new-in-Around.view_is, c.if-is_before.true) in
    (is_with_left true f p (rw c.deref_mut.ensures.value at c.put.ensures)).is

pub returns-else-is_before : goal.returns-else-is_before
returns-else-is_before t c =
    let f = is_around c.self.view_is c.self.invariant c.in-Around.is in
    let p : is_before c.args.new.name c.in-Around.snap.name ≡ false = cc (c.is_before.ensures, c.as_ref.ensures, c.as_ref-in-Around.ensures, c.new-in-Around.view_is, c.if-is_before.false) in
    (is_with_right true f p (rw c.deref_mut-else-is_before.ensures.value at c.put-else-is_before.ensures)).is
