-- The domains of a driver, one in each slot of the list: those that were found are in slots 0, 1, .., by rising name.
use Rattle.std.specs.Prelude.{◌≡◌, ◌-◌, ◌++◌, false, List, ◌∷◌, [], length, map, replicate, None, Some}
use Rattle.std.specs.List.{All, AllZip}
use Rattle.atomic_table.specs.Seated.{TableId}
use Rattle.virt_types.specs.Limits.{most_domains}
use Rattle.turn_cell.specs.Passes.{IsFirst}
use Rattle.driver_cells.specs.OfCells.{Celled, meaning, new_cell}
use Rattle.driver_cells.specs.OfObjects.{DomainPass}
use Rattle.pass_rows.specs.Cutting.{cell_of}
use Rattle.pass_rows.specs.Resting.{IsIdle}
use Rattle.driver_store.specs.Below.found_domains.declared.found.FoundDomain.{FoundDomain}

-- a domain as it was found, and the domain of a slot in which none was
abbrev pub found_cell : FoundDomain → Celled
found_cell d = new_cell (Some d.definition) d.autostart

-- a slot without a domain
abbrev pub vacant_cell : Celled
vacant_cell = new_cell None false

-- what is in the slots
unfoldable pub cells_of : List FoundDomain → List Celled
cells_of ds = map found_cell ds ++ replicate (most_domains - length ds) vacant_cell

-- the first pass of a domain that is so
abbrev pub IsFirstOf : Celled → DomainPass → Type 0
IsFirstOf cell pass = IsFirst meaning cell 0 pass

-- these are the first passes of domains that are so, in this order, and of these cells; nothing is kept for them
pub record AreFirst (cells : List Celled) (ids : List TableId) (passes : List DomainPass) : Type 0 where
  pub ids_are : map cell_of passes ≡ ids
  pub first : AllZip IsFirstOf cells passes
  pub idle : All (IsIdle meaning) passes

-- such a domain was put after the others, with its first pass
pub record IsPushed (cell : Celled) (ids ids_now : List TableId) (passes passes_now : List DomainPass) : Type 0 where
  pub pass : DomainPass
  pub first : IsFirstOf cell pass
  pub idle : IsIdle meaning pass
  pub ids_are : ids_now ≡ ids ++ pass.cell ∷ []
  pub passes_are : passes_now ≡ passes ++ pass ∷ []
