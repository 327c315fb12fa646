-- What is read, from its parts.
use Rattle.std.proofs.Common.{◌≡◌, ℕ, List, Option, Some, None, true, refl}
use Rattle.std.specs.Prelude.{option_map, codes}
use Rattle.text_spec.specs.declared.definition.DefKind.{DefKind}
use Rattle.text_spec.specs.Table.{told}
use Rattle.text_spec.specs.Tree.{Tree}
use Rattle.xml_tables.specs.Called.{is_called, text_called}
use Rattle.snapshot_xml.specs.Parts.{described, name_read}
use Rattle.snapshot_xml.specs.SnapshotText.{at_name, name_kind, info_fault, info_in, snapshot_in}

by_kind : (name text : Option (List ℕ)) (k : Option DefKind)
    → told (option_map at_name k) (record { name = name; description = text }) ≡ described text (told (option_map at_name k) name)
by_kind name text None = refl
by_kind name text (Some k) = refl

pub named_and_described : (t : Tree) → is_called (codes "domainsnapshot") t ≡ true
    → snapshot_in t ≡ described (text_called (codes "description") t) (name_read (text_called (codes "name") t))
unfolding snapshot_in info_fault info_in
named_and_described t is = rw is (by_kind (text_called (codes "name") t) (text_called (codes "description") t) (name_kind (text_called (codes "name") t)))
