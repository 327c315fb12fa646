-- How many parts of the right to close passes have.
use Rattle.std.specs.Prelude.{◌≡◌, ℕ, map}
use Rattle.turn_cell.specs.Passes.{Passed}
use Rattle.driver_cells.specs.Known.{DriverRow}

-- those of a pass
abbrev pub parts_of : {B M S : Type 0} → Passed B M S → ℕ
parts_of pass = pass.parts

-- each pass of the row has as many as before
pub record KeepsParts {G : Type 0} (before after : DriverRow G) : Type 0 where
  pub list : after.list.parts ≡ before.list.parts
  pub store : after.store.parts ≡ before.store.parts
  pub domains : map parts_of after.domains ≡ map parts_of before.domains
