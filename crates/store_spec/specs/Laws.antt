-- Laws of directories, crashes and changes, in their subject's own words.
use Rattle.std.specs.Prelude.{◌≡◌, ◌⊎◌, ◌↔◌, ◌≤◌, ◌++◌, false, List, [], ◌∷◌, ℕ, None, flat_map, All, length, take}
use Rattle.store_spec.specs.declared.change.Change.{Change}
use Rattle.store_spec.specs.declared.operation.Operation.{Operation}
use Rattle.store_spec.specs.Changes.{Definitions, changed}
use Rattle.store_spec.specs.Directory.{Directory, directory, files_after}
use Rattle.store_spec.specs.Disk.{Leaves, LeftSince, MayLeave, syncs_directory, writes}
use Rattle.store_spec.specs.Prefix.{LeavesPrefixes}
use Rattle.store_spec.specs.Settled.{IsSettled, tries_of}
use Rattle.store_spec.specs.StandsFor.{StandsFor}
use Rattle.store_spec.specs.Steps.{IsChange, steps_of}

-- a directory as it reads is one that a crash may leave
abbrev pub ReadsAsAnImage : Type 0
ReadsAsAnImage = (os : List Operation) → MayLeave os (directory os)

-- all that was done is on the disk, but for files that were not synced
abbrev pub IsUpToDate : List Operation → Directory → Type 0
IsUpToDate os left = (n : List ℕ) → Leaves (files_after os n) (left n)

-- but for the file that an operation writes, both directories are the same
abbrev pub SameBut : Operation → Directory → Directory → Type 0
SameBut o left before = (n : List ℕ) → writes n o ≡ false → left n ≡ before n

-- what a crash leaves after one operation more: all that was done, or what it left before but for the file written; and
-- after a sync of the directory just the first
abbrev pub ImagesGoOn : Type 0
ImagesGoOn = (os : List Operation) (o : Operation) (left : Directory) → MayLeave (os ++ o ∷ []) left
    → IsUpToDate (os ++ o ∷ []) left
    ⊎ ((syncs_directory o ≡ false) × (before : Directory) × MayLeave os before × SameBut o left before)

-- a crash since now leaves what a crash now leaves; one since an earlier moment may leave more, and further operations
-- take nothing of it back
abbrev pub MomentsGoOn : Type 0
MomentsGoOn = (os : List Operation) (left : Directory) → (LeftSince (length os) os left ↔ MayLeave os left)
    × ((since earlier : ℕ) → earlier ≤ since → LeftSince since os left → LeftSince earlier os left)
    × ((since : ℕ) (more : List Operation) → LeftSince since os left → LeftSince since (os ++ more) left)

-- a crash at any moment of a change leaves the map from before it or after it, and at its end just the latter
abbrev pub ChangesAreWhole : Type 0
ChangesAreWhole = (os : List Operation) (map : Definitions) (c : Change) → IsSettled os map → IsChange c
    → ((n : ℕ) (left : Directory) → MayLeave (os ++ take n (steps_of c)) left
    → StandsFor left map ⊎ StandsFor left (changed c map))
    × IsSettled (os ++ steps_of c) (changed c map)

-- of changes made one after another, a crash at any moment leaves the first ones, with all that were acknowledged
abbrev pub RunsLeavePrefixes : Type 0
RunsLeavePrefixes = (os : List Operation) (map : Definitions) (cs : List Change) → IsSettled os map → All IsChange cs
    → LeavesPrefixes (length os) (os ++ flat_map steps_of cs) map (tries_of (length os) cs)

-- an empty directory stands for no definitions, and nothing is in doubt there
abbrev pub EmptyIsSettled : Type 0
EmptyIsSettled = IsSettled [] (λ k uuid. None)
