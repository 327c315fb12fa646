use Rattle.std.proofs.Common.{◌≡◌, ◌++◌, take}
use Rattle.std.specs.List.{AllByRecursion, flat_map}
use Rattle.virt_types.specs.Name.{IsName}
use Rattle.wire_spec.specs.Xdr.{opaque}
use Rattle.remote_args.proofs.result_list.put_each_name.Given as goal

abbrev pub invariant-loop-entry : goal.invariant-loop-entry
invariant-loop-entry l = record {
  written : l.writer ≡ l.initial.writer ++ flat_map opaque (take l.entry-index l.list);
  entries : AllByRecursion IsName (take l.entry-index l.list);
}
