-- Files of version 1 that are put again, with their titles, in a store that was just opened.
use Rattle.std.specs.Prelude.{◌≡◌, ◌++◌, ℕ, List, ◌∷◌, None, Ok}
use Rattle.std.specs.List.{AllZip}
use Rattle.outside_spec.specs.Faults.{Rose}
use Rattle.virt_types.specs.Below.types_base.declared.memory.OrNoMemory.{OrNoMemory}
use Rattle.virt_types.specs.Below.types_base.declared.memory.OrNoMemory.TheVariants as or
use Rattle.store_spec.specs.declared.change.Change.{Change}
use Rattle.store_spec.specs.declared.kind.BookKind.{BookKind}
use Rattle.store_spec.specs.Changes.{Definitions, after, kind_of, uuid_of}
use Rattle.def_keeper.specs.declared.mark.StoreAction.TheVariants as action
use Rattle.def_keeper.specs.declared.mark.StoreMark.{StoreMark}
use Rattle.def_keeper.specs.Calls.{IsTaken}
use Rattle.def_keeper.specs.Chapters.{by, with_marks}
use Rattle.def_keeper.specs.Keeper.{Keeping}
use Rattle.def_map.specs.Map.{found}
use Rattle.driver_store.specs.declared.fault.DriverFault.{DriverFault}
use Rattle.driver_store.specs.declared.fault.DriverFault.TheVariants as fault

-- the mark of a change that was made, which the first pass left
abbrev pub IsMarkOf : Change → StoreMark → Type 0
IsMarkOf c m = (moment : ℕ) × (m ≡ by 0 (action.Changed c (Ok tt) moment))

-- these changes were made, in their order: each left one mark, and nothing is in doubt
pub record HasPut {F : Type 0} (changes : List Change) (old new : Keeping F) : Type 0 where
  pub marks : List StoreMark
  pub made : AllZip IsMarkOf changes marks
  pub history : new.history ≡ with_marks marks old.history
  pub map : (k : BookKind) (u : List ℕ) → found new.map k u ≡ after (found old.map) changes k u
  pub doubt : new.doubt ≡ None

-- why a change was not made: the store failed, or another object of its kind has the name in this map
abbrev pub IsCauseOf : Change → Definitions → ℕ → ℕ → OrNoMemory DriverFault → Type 0
IsCauseOf c map before now (or.Fault fault.Device) = Rose before now
IsCauseOf c map before now (or.Fault (fault.TwoOfOneName k one two)) = (k ≡ kind_of c) × (two ≡ uuid_of c) × IsTaken c one map
IsCauseOf c map before now (or.Fault other) = ⊥
IsCauseOf c map before now or.NoMemory = Unit {0}

-- the first of the changes were made, and the next was not
pub record IsNotPut {F : Type 0} (faults : F → ℕ) (changes : List Change) (old new : Keeping F) (f : OrNoMemory DriverFault) : Type 0 where
  pub first : List Change
  pub next : Change
  pub rest : List Change
  pub changes_are : changes ≡ first ++ next ∷ rest
  pub between : Keeping F
  pub put : HasPut first old between
  pub cause : IsCauseOf next (found between.map) (faults old.files) (faults new.files) f
  pub base : new.history.base ≡ old.history.base
