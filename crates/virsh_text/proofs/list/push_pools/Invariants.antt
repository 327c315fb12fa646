use Rattle.std.proofs.Common.{◌≡◌, ◌++◌, drop}
use Rattle.std.specs.String.{string_bytes}
use Rattle.command_spec.specs.Printed.{pools_text}
use Rattle.virsh_text.proofs.list.push_pools.Given as goal

abbrev pub invariant-loop-row : goal.invariant-loop-row
invariant-loop-row l =
    string_bytes l.text ++ pools_text (drop l.row-index l.rows) ≡ string_bytes l.initial.text ++ pools_text l.rows
