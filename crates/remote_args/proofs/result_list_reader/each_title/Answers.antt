use Rattle.std.proofs.Common.{◌≡◌, ◌+◌, ◌-◌, ℕ, suc, List, sym, ap, arith, rules, ◌∙◌}
use Rattle.virt_types.specs.declared.value.TitleRow.{TitleRow}
use Rattle.procedure_spec.specs.ListsReading.{first_entries}
use Rattle.procedure_spec.specs.ResultItemsReading.{first_title_row}
use Rattle.remote_args.proofs.EntryLists.{behind_entries, entries_end, entries_err, entries_step}
use Rattle.remote_args.proofs.result_list_reader.each_title.Goals as goal

pub returns-in_err-title : goal.returns-in_err-title
returns-in_err-title c =
    let left : c.args.count - c.loop.counter ≡ suc (c.args.count - (c.loop.counter + 1)) = omega arith in
    let told = entries_err first_title_row c.loop.list c.args.count _ _ c.args.reader.now c.loop.reader c.title.new.reader c.title.new.reader c.in_err-title.field-0.0 c.loop.invariant left c.in_err-title.ensures in
    search (rules, told)

pub loop-preserved : goal.loop-preserved
loop-preserved c =
    let left : c.args.count - c.loop.counter ≡ suc (c.args.count - (c.loop.counter + 1)) = omega arith in
    let step = entries_step first_title_row c.loop.list c.in_ok-title.field-0 _ _ c.loop.reader c.title.new.reader left c.in_ok-title.ensures in
    c.loop.invariant ∙ step ∙ ap (λ (t : List (TitleRow)). behind_entries t (first_entries first_title_row (c.args.count - (c.loop.counter + 1)) c.title.new.reader)) (sym c.in_ok-push.ensures.ok)

pub returns : goal.returns
returns c =
    let none : c.args.count - c.loop.counter ≡ 0 = omega arith in
    c.loop.invariant ∙ entries_end first_title_row c.loop.list _ c.loop.reader none
