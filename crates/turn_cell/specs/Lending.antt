-- A turn, after a write to the value that it lent.
use Rattle.turn_cell.specs.Passes.{Turned}

abbrev pub turn_with : {T B M S : Type 0} → Turned T B M S → T → Turned T B M S
turn_with turn value = record turn { value = value }
