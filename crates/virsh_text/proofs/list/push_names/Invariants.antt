use Rattle.std.proofs.Common.{◌≡◌, ◌++◌, drop}
use Rattle.std.specs.String.{string_bytes}
use Rattle.command_spec.specs.Columns.{lines}
use Rattle.virsh_text.proofs.list.push_names.Given as goal

abbrev pub invariant-loop-name : goal.invariant-loop-name
invariant-loop-name l =
    string_bytes l.text ++ lines (drop l.name-index l.names) ≡ string_bytes l.initial.text ++ lines l.names
