-- Parts of passes that are cut off.
use Rattle.std.specs.Prelude.{◌≤◌, ℕ, ◌-◌}
use Rattle.atomic_table.specs.Seated.{TableId}
use Rattle.turn_cell.specs.Passes.{Passed}

module _ {B M S : Type 0} where
  -- the pass after so many parts were cut off
  abbrev pub fewer : ℕ → Passed B M S → Passed B M S
  fewer count pass = record pass { parts = pass.parts - count }

  -- its cell
  abbrev pub cell_of : Passed B M S → TableId
  cell_of pass = pass.cell

  -- it has at least so many parts
  abbrev pub HasParts : ℕ → Passed B M S → Type 0
  HasParts count pass = count ≤ pass.parts
