-- The device, or the snapshot, that a text is.
use Rattle.std.specs.Prelude.{ℕ, List, Result, Ok, Err}
use Rattle.session_spec.specs.Refused.{at_place}
use Rattle.snapshot_xml.specs.SnapshotText.{snapshot_read}
use Rattle.text_spec.specs.Definition.{device_read}
use Rattle.text_spec.specs.Text.{read_of}
use Rattle.text_spec.specs.Tree.{Tree}
use Rattle.text_spec.specs.declared.definition.DefFault.{DefFault}
use Rattle.text_spec.specs.declared.fault.TextFault.{TextFault}
use Rattle.virt_types.specs.Below.types_base.declared.device_def.DeviceDef.{DeviceDef}
use Rattle.virt_types.specs.declared.domain.SnapInfo.{SnapInfo}

-- what is read of a tree, or the path of the element at which it is none
abbrev pub of_tree : {A : Type 0} → Result A DefFault → Result A (List ℕ)
of_tree (Ok x) = Ok x
of_tree (Err bad) = Err bad.path

-- what is read of a text by its tree, or the place where it leaves the grammar
abbrev pub of_text : {A : Type 0} → (Tree → Result A DefFault) → Result Tree TextFault → Result A (List ℕ)
of_text reads (Ok tree) = of_tree (reads tree)
of_text reads (Err bad) = Err (at_place bad.at)

-- the device that a text is, or what the refusal keeps
abbrev pub device_in : List ℕ → Result DeviceDef (List ℕ)
device_in text = of_text device_read (read_of text)

-- the snapshot that a text is, or what the refusal keeps
abbrev pub snapshot_in : List ℕ → Result SnapInfo (List ℕ)
snapshot_in text = of_text snapshot_read (read_of text)
