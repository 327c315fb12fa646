use Rattle.std.proofs.Common.{◌≡◌, ◌++◌, take}
use Rattle.std.specs.List.{AllByRecursion, flat_map}
use Rattle.procedure_spec.specs.ResultItems.{IsPoolRow, pool_row}
use Rattle.remote_args.proofs.result_list.put_each_pool.Given as goal

abbrev pub invariant-loop-entry : goal.invariant-loop-entry
invariant-loop-entry l = record {
  written : l.writer ≡ l.initial.writer ++ flat_map pool_row (take l.entry-index l.list);
  entries : AllByRecursion IsPoolRow (take l.entry-index l.list);
}
