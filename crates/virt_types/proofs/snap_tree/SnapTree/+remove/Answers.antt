use Rattle.std.proofs.Common.{◌≡◌, Bool, false, true, not, filter, ap, sym, ◌∙◌}
use Rattle.virt_types.specs.declared.domain.Snap.{Snap}
use Rattle.virt_types.specs.Snapshots.{IsRising, is_named}
use Rattle.virt_types.proofs.RisingSnaps.{filter_cut, rising_cut, rising_kept}
use Rattle.virt_types.proofs.SnapAt.{is_around}
use Rattle.virt_types.proofs.snap_tree.SnapTree.+remove.Goals as goal

pub join-requires : goal.join-requires
join-requires t c =
    let f = is_around c.self.view_is c.self.invariant c.in-Around.is in
    let others : Snap → Bool = λ s. not (is_named c.args.name.now s) in
    let left : c.replace-left.result ≡ filter others c.in-Around.before.value = cc (c.replace-left.ensures.value, c.deref_mut-then-is_named.ensures.value, c.remove.ensures, c.deref_mut.ensures.value) in
    let right : c.replace-right.result ≡ filter others c.in-Around.behind.value = cc (c.replace-right.ensures.value, c.deref_mut-then-is_named-2.ensures.value, c.remove-in-Around.ensures, c.deref_mut-in-Around.ensures.value) in
    rw (left, right) (rising_cut others c.in-Around.before.value c.in-Around.snap c.in-Around.behind.value f.rising)

pub invariant_of-self-else-is_named : goal.invariant_of-self-else-is_named
invariant_of-self-else-is_named t c =
    let f = is_around c.self.view_is c.self.invariant c.in-Around.is in
    let others : Snap → Bool = λ s. not (is_named c.args.name.now s) in
    let left : c.remove.new.self ≡ filter others c.in-Around.before.value = cc (c.remove.ensures, c.deref_mut.ensures.value) in
    let right : c.remove-in-Around.new.self ≡ filter others c.in-Around.behind.value = cc (c.remove-in-Around.ensures, c.deref_mut-in-Around.ensures.value) in
    let stays : others c.in-Around.snap ≡ true = ap others (sym c.as_ref.ensures) ∙ ap not (sym c.is_named.ensures ∙ c.if-is_named.false) in
    rw (left, right) (rising_kept others c.in-Around.before.value c.in-Around.snap c.in-Around.behind.value stays f.rising)

pub returns-then-is_named : goal.returns-then-is_named
returns-then-is_named t c =
    let f = is_around c.self.view_is c.self.invariant c.in-Around.is in
    let others : Snap → Bool = λ s. not (is_named c.args.name.now s) in
    let left : c.replace-left.result ≡ filter others c.in-Around.before.value = cc (c.replace-left.ensures.value, c.deref_mut-then-is_named.ensures.value, c.remove.ensures, c.deref_mut.ensures.value) in
    let right : c.replace-right.result ≡ filter others c.in-Around.behind.value = cc (c.replace-right.ensures.value, c.deref_mut-then-is_named-2.ensures.value, c.remove-in-Around.ensures, c.deref_mut-in-Around.ensures.value) in
    let goes : others c.in-Around.snap ≡ false = ap others (sym c.as_ref.ensures) ∙ ap not (sym c.is_named.ensures ∙ c.if-is_named.true) in
    let cut = filter_cut others c.in-Around.before.value c.in-Around.snap c.in-Around.behind.value goes in
    cc (c.replace-gone.ensures.after, c.join.ensures, left, right, f.is, cut)
