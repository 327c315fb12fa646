use Rattle.std.proofs.Common.{◌≡◌, ℕ, ◌+◌, ◌-◌, suc, Bool, true, false, List, length, map, sym, ap, ◌∙◌, arith, rules}
use Rattle.std.specs.Prelude.{◌==◌}
use Rattle.command_spec.specs.Reading.{first_listens}
use Rattle.command_spec.specs.declared.command.Listen.{Listen}
use Rattle.virsh_words.specs.Rest.{behind_listens, seen}
use Rattle.virsh_words.proofs.OneByOne.{listens_end, listens_err, listens_over, listens_step}
use Rattle.virsh_words.proofs.listens.listens.Goals as goal

pub returns-then-is_over : goal.returns-then-is_over
returns-then-is_over c =
    let left : c.args.most - c.loop.counter ≡ suc (c.args.most - (c.loop.counter + 1)) = omega (arith, c.loop-test.true) in
    c.loop.invariant ∙ listens_over c.loop.list _ _ (seen c.loop.rest) left (sym c.is_over.ensures ∙ c.if-is_over.true)

pub returns-in_err-one : goal.returns-in_err-one
returns-in_err-one c =
    let left : c.args.most - c.loop.counter ≡ suc (c.args.most - (c.loop.counter + 1)) = omega (arith, c.loop-test.true) in
    let told = listens_err c.loop.list _ _ _ (seen c.loop.rest) c.in_err-one.field-0.0 c.loop.invariant left (sym c.is_over.ensures ∙ c.if-is_over.false) c.in_err-one.ensures in
    search (rules, told)

pub loop-preserved : goal.loop-preserved
loop-preserved c =
    let left : c.args.most - c.loop.counter ≡ suc (c.args.most - (c.loop.counter + 1)) = omega (arith, c.loop-test.true) in
    let step = listens_step c.loop.list c.in_ok-one.one _ _ (seen c.loop.rest) (seen c.in_ok-one.behind) left (sym c.is_over.ensures ∙ c.if-is_over.false) c.in_ok-one.ensures in
    c.loop.invariant ∙ step ∙ ap (λ (t : List Listen). behind_listens t (first_listens (c.args.most - (c.loop.counter + 1)) (seen c.in_ok-one.behind))) (sym c.in_ok-push.ensures.ok)

pub returns : goal.returns
returns c =
    let none : c.args.most - c.loop.counter ≡ 0 = omega (arith, c.loop-test.false) in
    c.loop.invariant ∙ listens_end c.loop.list _ (seen c.loop.rest) none
