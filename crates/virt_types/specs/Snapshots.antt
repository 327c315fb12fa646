-- Lists of snapshots by rising name.
use Rattle.std.specs.Prelude.{◌≡◌, ℕ, Bool, false, List, [], ◌∷◌, Option, None, Some, find, bytes_eq, if◌then◌else◌}
use Rattle.std.specs.Cmp.Lexicographic.{slice_cmp}
use Rattle.std.specs.Ordering.{is_lt, nat_cmp}
use Rattle.virt_types.specs.declared.domain.Snap.{Snap}

-- one name comes before another, byte by byte
abbrev pub is_before : List ℕ → List ℕ → Bool
is_before one other = is_lt (slice_cmp nat_cmp one other)

-- the snapshot has this name
abbrev pub is_named : List ℕ → Snap → Bool
is_named name snap = bytes_eq snap.name name

-- the first snapshot of this name
abbrev pub snapshot_named : List Snap → List ℕ → Option Snap
snapshot_named snaps name = find (is_named name) snaps

-- with a new one, after those whose names are not greater
abbrev pub with_snapshot : List Snap → Snap → List Snap
with_snapshot [] new = new ∷ []
with_snapshot (snap ∷ snaps) new =
    if is_before new.name snap.name then new ∷ snap ∷ snaps else snap ∷ with_snapshot snaps new

-- no snapshot comes before this name
abbrev pub NoneBefore : List ℕ → List Snap → Type 0
NoneBefore name [] = Unit {0}
NoneBefore name (snap ∷ snaps) = (is_before snap.name name ≡ false) × NoneBefore name snaps

-- the names rise, or stay
abbrev pub IsRising : List Snap → Type 0
IsRising [] = Unit {0}
IsRising (snap ∷ snaps) = NoneBefore snap.name snaps × IsRising snaps

-- the parent has this name
abbrev pub is_parent : Option (List ℕ) → List ℕ → Bool
is_parent None name = false
is_parent (Some parent) name = bytes_eq parent name

-- the snapshot's parent has this name
abbrev pub is_child : List ℕ → Snap → Bool
is_child name snap = is_parent snap.parent name

-- a child of this name gets that parent
abbrev pub with_parent : List ℕ → Option (List ℕ) → Snap → Snap
with_parent name parent snap = if is_child name snap then record snap { parent = parent } else snap

-- those whose flag is set, each with its own in the same order; without a flag one stays
abbrev pub kept_by : List Snap → List Bool → List Snap
kept_by [] flags = []
kept_by (snap ∷ snaps) [] = snap ∷ snaps
kept_by (snap ∷ snaps) (stays ∷ flags) = if stays then snap ∷ kept_by snaps flags else kept_by snaps flags
