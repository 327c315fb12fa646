-- What the deletion of a snapshot has in hand, and when it fits.
use Rattle.std.specs.Prelude.{◌≡◌, ◌≤◌, ℕ, List, Bool, true, false, not, map, length, count_by, All, Option}
use Rattle.domain_spec.specs.Types.{Snap}
use Rattle.domain_spec.specs.Snapshots.{comes_from, is_parent, parent_of, snapshot_named}
use Rattle.snapshot_core.specs.declared.deletion.Deletion.{Deletion}
use Rattle.snapshot_core.specs.declared.deletion.Others.{Others}
use Rattle.snapshot_core.specs.declared.deletion.Others.TheVariants as others

-- the parent of the snapshot of this name
abbrev pub parent_named : List Snap → List ℕ → Option (List ℕ)
parent_named snaps name = parent_of (snapshot_named snaps name)

-- how many snapshots have a parent of this name
abbrev pub count_children : List Snap → List ℕ → ℕ
count_children snaps name = count_by (λ snap. is_parent snap.parent name) snaps

-- there is a copy of the parent for each child, or a flag for each snapshot
abbrev pub FitsOthers : Others → List Snap → List ℕ → Bool → Type 0
FitsOthers (others.Adopted copies) snaps name false =
    All (λ copy. copy ≡ parent_named snaps name) copies × (count_children snaps name ≤ length copies)
FitsOthers (others.Flagged flags) snaps name true = flags ≡ map (λ snap. not (comes_from snaps name snap)) snaps
FitsOthers other snaps name children = ⊥

-- the parent is at hand too, for the place of the current one
pub record FitsDeletion (deletion : Deletion) (snaps : List Snap) (name : List ℕ) (children : Bool) : Type 0 where
  pub parent : deletion.parent ≡ parent_named snaps name
  pub others : FitsOthers deletion.others snaps name children
