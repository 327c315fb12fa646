-- The texts of snapshots, after libvirt's snapshot format: what a caller says of one, and what is told of one.
use Rattle.std.specs.Prelude.{ℕ, List, [], ◌∷◌, ◌++◌, length, Option, Some, None, Result, Err, is_none, option_map, ◌==◌, if◌then◌else◌, codes}
use Rattle.virt_types.specs.Name.{bad_place}
use Rattle.virt_types.specs.declared.domain.Snap.{Snap}
use Rattle.virt_types.specs.declared.domain.SnapInfo.{SnapInfo}
use Rattle.virt_types.specs.declared.run_state.RunState.{RunState}
use Rattle.virt_types.specs.declared.run_state.RunState.TheVariants as run
use Rattle.text_spec.specs.declared.definition.DefFault.{DefFault}
use Rattle.text_spec.specs.declared.definition.DefKind.{DefKind}
use Rattle.text_spec.specs.declared.definition.DefKind.TheVariants as kind
use Rattle.text_spec.specs.Content.{bad_unless}
use Rattle.text_spec.specs.Definition.{not_too_long}
use Rattle.text_spec.specs.Spelling.{fits}
use Rattle.text_spec.specs.Table.{fault_of_root, root_fault, told}
use Rattle.text_spec.specs.Tree.{Tree}
use Rattle.xml_tables.specs.Called.{is_called, text_called}
use Rattle.xml_tables.specs.Spelled.{spelled, worded, wordeds}

-- ---- printing
-- what a caller says: the name and the description, where there are any
unfoldable pub info_tree : SnapInfo → Tree
info_tree s = spelled (codes "domainsnapshot") [] [] (wordeds (codes "name") s.name ++ wordeds (codes "description") s.description)

-- what the guest did, in libvirt's words (virDomainState); without a guest the domain was shut off
abbrev pub run_word : Option RunState → List ℕ
run_word None = codes "shutoff"
run_word (Some run.Running) = codes "running"
run_word (Some (run.Paused cause)) = codes "paused"
run_word (Some run.Crashed) = codes "crashed"

-- an empty description says nothing
abbrev pub said : List ℕ → Option (List ℕ)
said text = if length text == 0 then None else Some text

abbrev pub parent_trees : Option (List ℕ) → List Tree
parent_trees None = []
parent_trees (Some name) = spelled (codes "parent") [] [] (worded (codes "name") name ∷ []) ∷ []

-- what is told of a snapshot: besides, its state, and the name of its parent
unfoldable pub kept_tree : Snap → Tree
kept_tree s =
    spelled (codes "domainsnapshot") [] []
    (worded (codes "name") s.name ∷ wordeds (codes "description") (said s.description)
    ++ (worded (codes "state") (run_word s.run) ∷ parent_trees s.parent))

-- what of it a caller might have said
abbrev pub info_of : Snap → SnapInfo
info_of s = record { name = Some s.name; description = said s.description }

-- ---- reading
unfoldable pub info_in : Tree → SnapInfo
info_in t = record { name = text_called (codes "name") t; description = text_called (codes "description") t }

-- a name that is none
abbrev pub name_kind : Option (List ℕ) → Option DefKind
name_kind None = None
name_kind (Some name) = bad_unless (is_none (bad_place name))

abbrev pub at_name : DefKind → DefFault
at_name k = record { path = codes "/domainsnapshot/name"; kind = k }

unfoldable pub info_fault : Tree → Option DefFault
info_fault t = option_map at_name (name_kind (text_called (codes "name") t))

-- what a tree says of a snapshot, by the table
unfoldable pub snapshot_in : Tree → Result SnapInfo DefFault
snapshot_in t = if is_called (codes "domainsnapshot") t then told (info_fault t) (info_in t) else Err (root_fault t)

-- the same where its own text is within the limits of a text
unfoldable pub snapshot_read : Tree → Result SnapInfo DefFault
snapshot_read t = not_too_long (fault_of_root kind.TooLong t) (λ s. fits (info_tree s)) (snapshot_in t)
