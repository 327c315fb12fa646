use Rattle.std.proofs.Common.{◌≡◌, ◌-◌}
use Rattle.procedure_spec.specs.ListsReading.{first_entries}
use Rattle.procedure_spec.specs.ResultItemsReading.{first_name}
use Rattle.remote_args.proofs.EntryLists.{behind_entries}
use Rattle.remote_args.proofs.result_list_reader.each_name.Given as goal

abbrev pub invariant-loop : goal.invariant-loop
invariant-loop l = first_entries first_name l.count l.initial.reader ≡ behind_entries l.list (first_entries first_name (l.count - l.counter) l.reader)
