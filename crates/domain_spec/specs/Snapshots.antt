-- The snapshots of a domain: a list by rising name, in which each names its parent (libvirt's
-- snapshot XML format, `name` and `parent`).
use Rattle.std.specs.Prelude.{ℕ, ◌+◌, List, [], ◌∷◌, ◌++◌, codes, decimal, unwrap_or, Bool, true, false, not, ◌||◌, map, filter, insert, bytes_eq, Option, None, Some, is_some, if◌then◌else◌}
use Rattle.std.specs.List.{position_or_len}
use Rattle.std.specs.Ordering.{nat_cmp, is_lt}
use Rattle.std.specs.Cmp.Lexicographic.{slice_cmp}
use Rattle.domain_spec.specs.Types.{Domain, RunState, Snap, SnapInfo}
use Rattle.domain_spec.specs.Reading.{is_running}
pub use Rattle.virt_types.specs.Snapshots.{is_named, is_parent, snapshot_named}

-- the place of a name: before the first snapshot with a greater one
abbrev pub place_of : List Snap → List ℕ → ℕ
place_of snaps name = position_or_len (λ s. is_lt (slice_cmp nat_cmp name s.name)) snaps

-- the snapshots with one more, at its place
abbrev pub with_snapshot : List Snap → Snap → List Snap
with_snapshot snaps new = insert snaps (place_of snaps new.name) new

-- a snapshot has the guest's state exactly where it was taken of a guest
abbrev pub has_state : Snap → Bool
has_state snap = is_some snap.run

-- the guest ran, if there was one
abbrev pub ran_in : Option RunState → Bool
ran_in None = false
ran_in (Some r) = is_running r

-- the guest ran when the snapshot was taken
abbrev pub snapshot_ran : Snap → Bool
snapshot_ran snap = ran_in snap.run

-- the parent of a snapshot that may not be there
abbrev pub parent_of : Option Snap → Option (List ℕ)
parent_of None = None
parent_of (Some snap) = snap.parent

-- this name is met on the way from a parent to its parents; there are no more steps than snapshots
abbrev pub is_met : List Snap → List Snap → List ℕ → Option (List ℕ) → Bool
is_met [] snaps name parent = false
is_met (step ∷ steps) snaps name None = false
is_met (step ∷ steps) snaps name (Some parent) =
    bytes_eq parent name || is_met steps snaps name (parent_of (snapshot_named snaps parent))

-- the snapshot of this name, or one that comes from it
abbrev pub comes_from : List Snap → List ℕ → Snap → Bool
comes_from snaps name snap = is_named name snap || is_met snaps snaps name snap.parent

-- a child of the deleted one takes its parent
abbrev pub with_parent : List ℕ → Option (List ℕ) → Snap → Snap
with_parent name parent snap = if is_parent snap.parent name then record snap { parent = parent } else snap

-- the snapshots that stay where one goes alone
abbrev pub without_one : List Snap → List ℕ → List Snap
without_one snaps name =
    map (with_parent name (parent_of (snapshot_named snaps name))) (filter (λ snap. not (is_named name snap)) snaps)

-- the snapshots that stay where the one of this name is deleted: its children go with it, or take
-- its parent
abbrev pub without_snapshot : List Snap → List ℕ → Bool → List Snap
without_snapshot snaps name true = filter (λ snap. not (comes_from snaps name snap)) snaps
without_snapshot snaps name false = without_one snaps name

-- the current one where it is still there, else this parent
abbrev pub current_in : List Snap → Option (List ℕ) → Option (List ℕ) → Option (List ℕ)
current_in left None parent = None
current_in left (Some current) parent = if is_some (snapshot_named left current) then Some current else parent

-- the current one after a deletion: the parent of the deleted one, where the current one went
abbrev pub current_without : List Snap → Option (List ℕ) → List ℕ → Bool → Option (List ℕ)
current_without snaps current name children =
    current_in (without_snapshot snaps name children) current (parent_of (snapshot_named snaps name))

-- snap1, snap2 and so on
abbrev pub numbered_name : ℕ → List ℕ
numbered_name n = codes "snap" ++ decimal n

-- the least number from n on that no snapshot's name has; there are no more steps than snapshots
abbrev pub free_number : List Snap → List Snap → ℕ → ℕ
free_number [] snaps n = n
free_number (step ∷ steps) snaps n = if is_some (snapshot_named snaps (numbered_name n)) then free_number steps snaps (n + 1) else n

-- the name of a new snapshot: the given one, or the first free one of snap1, snap2 and so on
abbrev pub snapshot_name : Domain → SnapInfo → List ℕ
snapshot_name d info = unwrap_or info.name (numbered_name (free_number d.snaps d.snaps 1))
