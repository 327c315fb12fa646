use Rattle.std.proofs.Common.{◌≡◌, ◌++◌, take}
use Rattle.std.specs.List.{AllByRecursion, flat_map}
use Rattle.procedure_spec.specs.ResultItems.{IsLeaseRow, lease_row}
use Rattle.remote_args.proofs.result_list.put_each_lease.Given as goal

abbrev pub invariant-loop-entry : goal.invariant-loop-entry
invariant-loop-entry l = record {
  written : l.writer ≡ l.initial.writer ++ flat_map lease_row (take l.entry-index l.list);
  entries : AllByRecursion IsLeaseRow (take l.entry-index l.list);
}
