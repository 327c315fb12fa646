-- What a whole text says of a snapshot, and what reading can give.
use Rattle.std.specs.Prelude.{◌≡◌, ℕ, List, true, Ok, None}
use Rattle.virt_types.specs.Name.{bad_place}
use Rattle.virt_types.specs.declared.domain.Snap.{Snap}
use Rattle.virt_types.specs.declared.domain.SnapInfo.{SnapInfo}
use Rattle.text_spec.specs.Spelling.{fits}
use Rattle.text_spec.specs.Text.{read_of}
use Rattle.text_spec.specs.Tree.{Tree}
use Rattle.text_spec.specs.Writable.{IsText}
use Rattle.xml_print.specs.Below.text_laws.Texts.{Of}
use Rattle.snapshot_xml.specs.SnapshotText.{info_tree, kept_tree, snapshot_read}

pub record ReadsAsSnapshot (text : List ℕ) (s : SnapInfo) : Type 0 where
  pub tree : Tree
  pub is_tree : read_of text ≡ Ok tree
  pub is_snapshot : snapshot_read tree ≡ Ok s

-- a name, of characters that a text may hold, with no blank at an end
pub record IsNameText (name : List ℕ) : Type 0 where
  pub is_name : bad_place name ≡ None
  pub is_text : IsText name

-- what reading can give
pub record IsSoundInfo (s : SnapInfo) : Type 0 where
  pub name : Of IsNameText s.name
  pub description : Of IsText s.description
  pub fitting : fits (info_tree s) ≡ true

-- a snapshot whose name, description and parent's name a text can have, and whose text is within the limits
pub record IsSoundSnapshot (s : Snap) : Type 0 where
  pub name : IsNameText s.name
  pub description : IsText s.description
  pub parent : Of IsNameText s.parent
  pub fitting : fits (kept_tree s) ≡ true
