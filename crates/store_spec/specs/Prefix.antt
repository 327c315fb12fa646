-- The promise of the store: a crash leaves what the first of the tried changes made, and every acknowledged change is
-- among these.
use Rattle.std.specs.Prelude.{◌≡◌, ◌≤◌, Bool, false, List, map, ℕ, nat_le, Option, None, Some, length, take, drop}
use Rattle.std.specs.List.{list_any}
use Rattle.store_spec.specs.declared.change.Change.{Change}
use Rattle.store_spec.specs.declared.operation.Operation.{Operation}
use Rattle.store_spec.specs.Changes.{Definitions, after}
use Rattle.store_spec.specs.Directory.{Directory}
use Rattle.store_spec.specs.Disk.{LeftSince}
use Rattle.store_spec.specs.StandsFor.{StandsFor}

-- a change that was tried, and after how many operations it was acknowledged, if it was
pub record Try : Type 0 where
  pub change : Change
  pub acknowledged : Option ℕ

-- it was acknowledged at all, and by then
abbrev pub is_by : ℕ → Option ℕ → Bool
is_by t None = false
is_by t (Some at) = nat_le at t

-- the try was acknowledged by then
abbrev pub is_acknowledged : ℕ → Try → Bool
is_acknowledged t try = is_by t try.acknowledged

-- the directory stands for the map after the first so many tries, and no later one was acknowledged by then
pub record IsPrefixAt (t : ℕ) (base : Definitions) (tries : List Try) (left : Directory) : Type 0 where
  pub count : ℕ
  pub tried : count ≤ length tries
  pub stands : StandsFor left (after base (map (λ try. try.change) (take count tries)))
  pub acknowledged : list_any (is_acknowledged t) (drop count tries) ≡ false

-- so it is with each crash since the first so many operations
abbrev pub LeavesPrefixes : ℕ → List Operation → Definitions → List Try → Type 0
LeavesPrefixes since os base tries =
    (t : ℕ) (left : Directory) → since ≤ t → LeftSince t os left → IsPrefixAt t base tries left
