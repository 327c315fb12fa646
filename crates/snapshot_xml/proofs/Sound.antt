-- What a whole text says of a snapshot is sound.
use Rattle.std.proofs.Common.{◌≡◌, ℕ, zero, suc, List, ◌∷◌, Bool, true, false, Option, Some, None, Ok, Err, refl, sym, subst}
use Rattle.std.specs.Prelude.{codes, find, is_none, option_map, if◌then◌else◌}
use Rattle.virt_types.specs.Name.{bad_place}
use Rattle.virt_types.specs.declared.domain.SnapInfo.{SnapInfo}
use Rattle.text_spec.specs.declared.definition.DefFault.{DefFault}
use Rattle.text_spec.specs.declared.definition.DefKind.TheVariants as kind
use Rattle.text_spec.specs.Content.{bad_unless}
use Rattle.text_spec.specs.Definition.{not_too_long}
use Rattle.text_spec.specs.Look.{listed, text_of}
use Rattle.text_spec.specs.Spelling.{fits}
use Rattle.text_spec.specs.Table.{fault_of_root, root_fault, told}
use Rattle.text_spec.specs.Text.{read_of}
use Rattle.text_spec.specs.Tree.{Tree, element, Trees, none, first}
use Rattle.text_spec.specs.Writable.{AreTrees, IsText, IsTree}
use Rattle.xml_print.specs.Below.text_laws.Formed.{IsFormed}
use Rattle.xml_print.specs.Below.text_laws.Texts.{Of}
use Rattle.xml_tables.specs.Called.{is_called, first_called, text_called}
use Rattle.snapshot_xml.specs.ReadsAs.{IsNameText, IsSoundInfo, ReadsAsSnapshot}
use Rattle.snapshot_xml.specs.SnapshotText.{at_name, info_fault, info_in, info_tree, name_kind, snapshot_in, snapshot_read}

-- ---- texts
own_text : (depth : ℕ) (t : Tree) → IsTree depth t → IsText (text_of t)
own_text zero t is = absurd is
own_text (suc depth) (element name attributes text children) is = is.2

text_by : (depth : ℕ) (word : List ℕ) (t : Tree) (ts : Trees) (b : Bool) → is_called word t ≡ b → IsTree depth t
    → Of IsText (option_map text_of (find (is_called word) (listed ts))) → Of IsText (option_map text_of (find (is_called word) (t ∷ listed ts)))
text_by depth word t ts true e is others = rw e (own_text depth t is)
text_by depth word t ts false e is others = rw e others

found_text : (depth : ℕ) (word : List ℕ) (ts : Trees) → AreTrees depth ts → Of IsText (option_map text_of (find (is_called word) (listed ts)))
found_text depth word none all = tt
found_text depth word (first t ts) all = text_by depth word t ts (is_called word t) refl all.0 (found_text depth word ts all.1)

child_text : (depth : ℕ) (word : List ℕ) (t : Tree) → IsTree (suc depth) t → Of IsText (text_called word t)
unfolding first_called
child_text depth word (element name attributes text children) is = found_text depth word children is.3

-- ---- names
no_place : (place : Option ℕ) → bad_unless (is_none place) ≡ None → place ≡ None
no_place None e = refl
no_place (Some at) e = absurd cc

name_sound : (name : Option (List ℕ)) → name_kind name ≡ None → Of IsText name → Of IsNameText name
name_sound None e is = tt
name_sound (Some name) e is = record { is_name = no_place (bad_place name) e; is_text = is }

unplaced : (k : Option _) → option_map at_name k ≡ None → k ≡ None
unplaced None e = refl
unplaced (Some k) e = absurd cc

-- ---- what was read
record IsRead (t : Tree) (s : SnapInfo) : Type 0 where
  no_fault : info_fault t ≡ None
  is : info_in t ≡ s
  fitting : fits (info_tree s) ≡ true

fitted : (fault : DefFault) (v s : SnapInfo) (b : Bool) → fits (info_tree v) ≡ b → (if b then Ok v else Err fault) ≡ Ok s → (v ≡ s) × (fits (info_tree s) ≡ true)
fitted fault v s true e is = let same : v ≡ s = cc in (same, subst (λ x. fits (info_tree x) ≡ true) same e)
fitted fault v s false e is = absurd cc

by_fault : (long : DefFault) (t : Tree) (s : SnapInfo) (fault : Option DefFault) → info_fault t ≡ fault
    → not_too_long long (λ x. fits (info_tree x)) (told fault (info_in t)) ≡ Ok s → IsRead t s
by_fault long t s None e is =
    let both = fitted long (info_in t) s (fits (info_tree (info_in t))) refl is in
    record { no_fault = e; is = both.0; fitting = both.1 }
by_fault long t s (Some fault) e is = absurd cc

by_root : (long : DefFault) (t : Tree) (s : SnapInfo) (b : Bool)
    → not_too_long long (λ x. fits (info_tree x)) (if b then told (info_fault t) (info_in t) else Err (root_fault t)) ≡ Ok s → IsRead t s
by_root long t s true is = by_fault long t s (info_fault t) refl is
by_root long t s false is = absurd cc

was_read : (t : Tree) (s : SnapInfo) → snapshot_read t ≡ Ok s → IsRead t s
unfolding snapshot_read snapshot_in
was_read t s is = by_root (fault_of_root kind.TooLong t) t s (is_called (codes "domainsnapshot") t) is

named : (t : Tree) → info_fault t ≡ None → name_kind (text_called (codes "name") t) ≡ None
unfolding info_fault
named t e = unplaced (name_kind (text_called (codes "name") t)) e

sound_in : (t : Tree) → IsTree 32 t → info_fault t ≡ None → fits (info_tree (info_in t)) ≡ true → IsSoundInfo (info_in t)
unfolding info_in
sound_in t formed clean fitting = record {
  name = name_sound (text_called (codes "name") t) (named t clean) (child_text 31 (codes "name") t formed);
  description = child_text 31 (codes "description") t formed;
  fitting = fitting;
}

pub read_sound : ((bytes : List ℕ) (t : Tree) → read_of bytes ≡ Ok t → IsFormed t) → (text : List ℕ) → (s : SnapInfo) → ReadsAsSnapshot text s → IsSoundInfo s
read_sound formed text s r =
    let read = was_read r.tree s r.is_snapshot in
    subst IsSoundInfo read.is (sound_in r.tree (formed text r.tree r.is_tree).tree read.no_fault (subst (λ x. fits (info_tree x) ≡ true) (sym read.is) read.fitting))
