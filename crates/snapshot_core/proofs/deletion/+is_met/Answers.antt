use Rattle.std.proofs.Common.{◌≡◌, ◌<◌, ◌∙◌, ◌+◌, ap, arith, bytes_eq, drop, false, length, sym, true}
use Rattle.domain_spec.specs.Snapshots.{is_met}
use Rattle.snapshot_core.proofs.DeletionProofs.{met_further, met_here, none_met}
use Rattle.snapshot_core.proofs.deletion.+is_met.Goals as goal

pub returns-in-None : goal.returns-in-None
returns-in-None t c = rw (c.in-None.is) (sym (none_met (drop c.args.steps c.args.snaps.now) c.args.snaps.now c.args.name.now))

pub returns-then-eq : goal.returns-then-eq
returns-then-eq t c =
    let lt : c.args.steps < length c.args.snaps.now = omega (arith, c.len.ensures, c.if-steps-len.false) in
    let same : bytes_eq c.in-Some.parent.now c.args.name.now ≡ true = cc (c.eq.ensures, c.as_bytes.ensures.value, c.as_bytes-in-Some.ensures.value, c.if-eq.true) in
    rw (c.in-Some.is) (c.if-eq.true ∙ sym (met_here c.args.snaps.now c.args.name.now c.in-Some.parent.now c.args.steps lt same))

pub returns-else-eq : goal.returns-else-eq
returns-else-eq t c =
    let lt : c.args.steps < length c.args.snaps.now = omega (arith, c.len.ensures, c.if-steps-len.false) in
    let other : bytes_eq c.in-Some.parent.now c.args.name.now ≡ false = cc (c.eq.ensures, c.as_bytes.ensures.value, c.as_bytes-in-Some.ensures.value, c.if-eq.false) in
    rw (c.in-Some.is)
    (c.is_met.ensures ∙ ap (is_met (drop (c.args.steps + 1) c.args.snaps.now) c.args.snaps.now c.args.name.now) c.parent_named.ensures
    ∙ sym (met_further c.args.snaps.now c.args.name.now c.in-Some.parent.now c.args.steps lt other))
