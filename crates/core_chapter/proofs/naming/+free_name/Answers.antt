use Rattle.std.proofs.Common.{◌≡◌, ◌<◌, ◌∙◌, ◌+◌, IfOk, ap, arith, drop, false, is_some, length, option_map, subst, sym, true}
use Rattle.domain_spec.specs.Snapshots.{free_number, numbered_name, snapshot_named}
use Rattle.core_dispatch.proofs.Below.snapshot_core.DeletionProofs.{free_further, free_here}
use Rattle.core_chapter.proofs.naming.+free_name.Goals as goal

pub returns-in-None : goal.returns-in-None
returns-in-None t c =
    let free : is_some (snapshot_named c.args.snaps.now (numbered_name c.args.n)) ≡ false = ap (λ name. is_some (snapshot_named c.args.snaps.now name)) (sym c.in_ok-name.ensures) ∙ ap is_some (sym c.find.ensures.value ∙ ap (option_map (λ s. s.now)) c.in-None.is) in
    c.in_ok-name.ensures ∙ ap numbered_name (sym (free_here (drop c.args.tried c.args.snaps.now) c.args.snaps.now c.args.n free))

pub returns : goal.returns
returns t c =
    let lt : c.args.tried < length c.args.snaps.now = omega (arith, c.len.ensures, c.if-tried-len.false) in
    let taken : is_some (snapshot_named c.args.snaps.now (numbered_name c.args.n)) ≡ true = ap (λ name. is_some (snapshot_named c.args.snaps.now name)) (sym c.in_ok-name.ensures) ∙ ap is_some (sym c.find.ensures.value ∙ ap (option_map (λ s. s.now)) c.in-Some.is) in
    let further : free_number (drop (c.args.tried + 1) c.args.snaps.now) c.args.snaps.now c.in-Some-checked_add.after ≡ free_number (drop c.args.tried c.args.snaps.now) c.args.snaps.now c.args.n =
    ap (free_number (drop (c.args.tried + 1) c.args.snaps.now) c.args.snaps.now) c.in-Some-checked_add.ensures.1 ∙ sym (free_further c.args.snaps.now c.args.tried c.args.n lt taken) in
    subst (λ m. IfOk c.free_name.result (λ name. name ≡ numbered_name m)) further c.free_name.ensures
