use Rattle.std.proofs.Common.{◌≡◌, ◌-◌, ◌<◌, true, false, sym, ap, ◌∙◌, arith}
use Rattle.text_spec.specs.Fill.{is_taken, local_mac, raised}
use Rattle.xml_fill.proofs.Macs.{raised_none, raised_taken, raised_free}
use Rattle.xml_fill.proofs.mac.raised.Goals as goal

pub loop-left-preserved : goal.loop-left-preserved
loop-left-preserved c =
    let is = c.args.interfaces.now in
    let l = c.loop-left in
    let taken : is_taken is (local_mac l.tail) ≡ true = ap (is_taken is) (sym c.local_mac.ensures) ∙ sym c.is_taken.ensures ∙ c.if-is_taken.true in
    let some : 0 < l.left = omega arith in (
      c.next_tail-tail.ensures.within,
      ap (raised (l.left - 1) is) c.next_tail-tail.ensures.value ∙ sym (raised_taken l.left is l.tail some taken) ∙ l.invariant.1,
    )

pub returns-else-is_taken-clause-value : goal.returns-else-is_taken-clause-value
returns-else-is_taken-clause-value c =
    let is = c.args.interfaces.now in
    let l = c.loop-left in
    let free : is_taken is (local_mac l.tail) ≡ false = ap (is_taken is) (sym c.local_mac.ensures) ∙ sym c.is_taken.ensures ∙ c.if-is_taken.false in
    sym (raised_free l.left is l.tail free) ∙ l.invariant.1

pub returns-after-loop-left-clause-value : goal.returns-after-loop-left-clause-value
returns-after-loop-left-clause-value c =
    let is = c.args.interfaces.now in
    let l = c.loop-left in
    let none : l.left ≡ 0 = omega arith in
    sym (raised_none is l.tail) ∙ ap (λ n. raised n is l.tail) (sym none) ∙ l.invariant.1
