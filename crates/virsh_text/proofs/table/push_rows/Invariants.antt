use Rattle.std.proofs.Common.{◌≡◌, ◌++◌, drop}
use Rattle.std.specs.String.{string_bytes}
use Rattle.std.specs.List.{flat_map}
use Rattle.command_spec.specs.Printed.{domain_row}
use Rattle.virsh_text.proofs.table.push_rows.Given as goal

abbrev pub invariant-loop-row : goal.invariant-loop-row
invariant-loop-row l =
    string_bytes l.text ++ flat_map domain_row (drop l.row-index l.rows) ≡ string_bytes l.initial.text ++ flat_map domain_row l.rows
