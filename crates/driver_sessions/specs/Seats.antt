-- Those who have six rows of a driver each.
use Rattle.std.specs.Prelude.{List, [], ◌∷◌}
use Rattle.six_rows.specs.Six.{all_six}
use Rattle.driver_sessions.specs.Turned.{turned}
use Rattle.driver_crossing.specs.Below.held_tasks.OfRows.{DriverRow}
use Rattle.six_rows.specs.Below.row_session.declared.connection.SixRows.{SixRows}

-- six rows, and who has them
pub record Seat (G C : Type 0) : Type 0 where
  pub rows : SixRows (DriverRow G)
  pub holder : C

module _ {G C : Type 0} where
  -- the rows of all, those of the last first
  abbrev pub rows_of : List (Seat G C) → List (DriverRow G)
  rows_of all = turned (λ one. all_six one.rows) all

  -- and who they are, the last first
  abbrev pub holders_of : List (Seat G C) → List C
  holders_of all = turned (λ one. one.holder ∷ []) all
