-- Laws of openings, in their subject's own words.
use Rattle.std.specs.Prelude.{◌≡◌, ◌++◌, List, ℕ, All, length}
use Rattle.store_spec.specs.declared.operation.Operation.{Operation}
use Rattle.store_spec.specs.Directory.{Directory}
use Rattle.store_spec.specs.Disk.{LeftSince, MayLeave}
use Rattle.store_spec.specs.FileNames.{IsDefinitionName}
use Rattle.def_keeper.specs.Tidying.{IsTidying}

-- a crash at any moment of an opening leaves the files of definitions as a crash before it may leave them
abbrev pub OpeningsKeepDefinitions : Type 0
OpeningsKeepDefinitions = (os added : List Operation) (left : Directory) → All IsTidying added → LeftSince (length os) (os ++ added) left
    → (before : Directory) × MayLeave os before × ((n : List ℕ) → IsDefinitionName n → left n ≡ before n)
