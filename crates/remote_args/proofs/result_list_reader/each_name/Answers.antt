use Rattle.std.proofs.Common.{◌≡◌, ◌+◌, ◌-◌, ℕ, suc, List, sym, ap, arith, rules, ◌∙◌}
use Rattle.procedure_spec.specs.ListsReading.{first_entries}
use Rattle.procedure_spec.specs.ResultItemsReading.{first_name}
use Rattle.remote_args.proofs.EntryLists.{behind_entries, entries_end, entries_err, entries_step}
use Rattle.remote_args.proofs.result_list_reader.each_name.Goals as goal

pub returns-in_err-name : goal.returns-in_err-name
returns-in_err-name c =
    let left : c.args.count - c.loop.counter ≡ suc (c.args.count - (c.loop.counter + 1)) = omega arith in
    let told = entries_err first_name c.loop.list c.args.count _ _ c.args.reader.now c.loop.reader c.name.new.reader c.name.new.reader c.in_err-name.field-0.0 c.loop.invariant left c.in_err-name.ensures in
    search (rules, told)

pub loop-preserved : goal.loop-preserved
loop-preserved c =
    let left : c.args.count - c.loop.counter ≡ suc (c.args.count - (c.loop.counter + 1)) = omega arith in
    let step = entries_step first_name c.loop.list c.in_ok-name.field-0 _ _ c.loop.reader c.name.new.reader left c.in_ok-name.ensures in
    c.loop.invariant ∙ step ∙ ap (λ (t : List (List ℕ)). behind_entries t (first_entries first_name (c.args.count - (c.loop.counter + 1)) c.name.new.reader)) (sym c.in_ok-push.ensures.ok)

pub returns : goal.returns
returns c =
    let none : c.args.count - c.loop.counter ≡ 0 = omega arith in
    c.loop.invariant ∙ entries_end first_name c.loop.list _ c.loop.reader none
