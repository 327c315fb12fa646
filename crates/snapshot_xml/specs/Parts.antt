-- The parts of what is read, one by one. No public clause cites this.
use Rattle.std.specs.Prelude.{ℕ, List, Option, Result, Ok, Err, option_map}
use Rattle.virt_types.specs.declared.domain.SnapInfo.{SnapInfo}
use Rattle.text_spec.specs.declared.definition.DefFault.{DefFault}
use Rattle.text_spec.specs.Table.{told}
use Rattle.snapshot_xml.specs.SnapshotText.{at_name, name_kind}

-- a name that may be absent
abbrev pub name_read : Option (List ℕ) → Result (Option (List ℕ)) DefFault
name_read text = told (option_map at_name (name_kind text)) text

-- a name and a description
abbrev pub described : Option (List ℕ) → Result (Option (List ℕ)) DefFault → Result SnapInfo DefFault
described text (Ok name) = Ok (record { name = name; description = text })
described text (Err fault) = Err fault
