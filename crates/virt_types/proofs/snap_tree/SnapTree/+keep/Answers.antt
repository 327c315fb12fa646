use Rattle.std.proofs.Common.{◌≡◌, false, true, drop, length}
use Rattle.virt_types.specs.Snapshots.{kept_by}
use Rattle.virt_types.proofs.KeptSnaps.{kept_end, kept_goes, kept_stays}
use Rattle.virt_types.proofs.SnapAt.{is_around}
use Rattle.virt_types.proofs.snap_tree.SnapTree.+keep.Goals as goal

pub invariant_of-self-then-keep-lt1 : goal.invariant_of-self-then-keep-lt1
invariant_of-self-then-keep-lt1 t c =
    let f = is_around c.self.view_is c.self.invariant c.in-Around.is in
    let left : c.keep.new.self ≡ kept_by c.in-Around.before.value c.args.flags.now = cc (c.keep.ensures.tree, c.deref_mut.ensures.value) in
    let rest : c.keep.result.now ≡ drop (length c.in-Around.before.value) c.args.flags.now = cc (c.keep.ensures.rest, c.deref_mut.ensures.value) in
    (kept_end c.args.flags.now c.keep.result.now f left rest c.in-empty.len_below).rising

pub returns-in-empty-clause-tree : goal.returns-in-empty-clause-tree
returns-in-empty-clause-tree t c =
    let f = is_around c.self.view_is c.self.invariant c.in-Around.is in
    let left : c.keep.new.self ≡ kept_by c.in-Around.before.value c.args.flags.now = cc (c.keep.ensures.tree, c.deref_mut.ensures.value) in
    let rest : c.keep.result.now ≡ drop (length c.in-Around.before.value) c.args.flags.now = cc (c.keep.ensures.rest, c.deref_mut.ensures.value) in
    (kept_end c.args.flags.now c.keep.result.now f left rest c.in-empty.len_below).is

pub invariant_of-self-else-not-stays : goal.invariant_of-self-else-not-stays
invariant_of-self-else-not-stays t c =
    let f = is_around c.self.view_is c.self.invariant c.in-Around.is in
    let left : c.keep.new.self ≡ kept_by c.in-Around.before.value c.args.flags.now = cc (c.keep.ensures.tree, c.deref_mut.ensures.value) in
    let rest : c.keep.result.now ≡ drop (length c.in-Around.before.value) c.args.flags.now = cc (c.keep.ensures.rest, c.deref_mut.ensures.value) in
    let right = rw c.deref_mut-in-len1-up.ensures.value at c.keep-rest.ensures.tree in
    (kept_stays c.args.flags.now c.keep.result.now f left rest c.in-len1-up.len_at_least c.if-not-stays.false right).rising

pub returns-else-not-stays-clause-tree : goal.returns-else-not-stays-clause-tree
returns-else-not-stays-clause-tree t c =
    let f = is_around c.self.view_is c.self.invariant c.in-Around.is in
    let left : c.keep.new.self ≡ kept_by c.in-Around.before.value c.args.flags.now = cc (c.keep.ensures.tree, c.deref_mut.ensures.value) in
    let rest : c.keep.result.now ≡ drop (length c.in-Around.before.value) c.args.flags.now = cc (c.keep.ensures.rest, c.deref_mut.ensures.value) in
    let right = rw c.deref_mut-in-len1-up.ensures.value at c.keep-rest.ensures.tree in
    (kept_stays c.args.flags.now c.keep.result.now f left rest c.in-len1-up.len_at_least c.if-not-stays.false right).is

pub join-requires : goal.join-requires
join-requires t c =
    let f = is_around c.self.view_is c.self.invariant c.in-Around.is in
    let left : c.replace-left.result ≡ kept_by c.in-Around.before.value c.args.flags.now = cc (c.replace-left.ensures.value, c.deref_mut-then-not-stays.ensures.value, c.keep.ensures.tree, c.deref_mut.ensures.value) in
    let rest : c.keep.result.now ≡ drop (length c.in-Around.before.value) c.args.flags.now = cc (c.keep.ensures.rest, c.deref_mut.ensures.value) in
    let right = rw c.deref_mut-in-len1-up.ensures.value at c.keep-rest.ensures.tree in
    let same : c.replace-right.result ≡ c.keep-rest.new.self = cc (c.replace-right.ensures.value, c.deref_mut-then-not-stays-2.ensures.value) in
    rw same (kept_goes c.args.flags.now c.keep.result.now f left rest c.in-len1-up.len_at_least c.if-not-stays.true right).rising

pub returns-then-not-stays-clause-tree : goal.returns-then-not-stays-clause-tree
returns-then-not-stays-clause-tree t c =
    let f = is_around c.self.view_is c.self.invariant c.in-Around.is in
    let left : c.replace-left.result ≡ kept_by c.in-Around.before.value c.args.flags.now = cc (c.replace-left.ensures.value, c.deref_mut-then-not-stays.ensures.value, c.keep.ensures.tree, c.deref_mut.ensures.value) in
    let rest : c.keep.result.now ≡ drop (length c.in-Around.before.value) c.args.flags.now = cc (c.keep.ensures.rest, c.deref_mut.ensures.value) in
    let right = rw c.deref_mut-in-len1-up.ensures.value at c.keep-rest.ensures.tree in
    let same : c.replace-right.result ≡ c.keep-rest.new.self = cc (c.replace-right.ensures.value, c.deref_mut-then-not-stays-2.ensures.value) in
    let kept = (kept_goes c.args.flags.now c.keep.result.now f left rest c.in-len1-up.len_at_least c.if-not-stays.true right).is in
    cc (c.replace-gone.ensures.after, c.join.ensures, same, kept)
