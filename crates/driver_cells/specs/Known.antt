-- What is known of a row of passes, as outcomes speak of it.
use Rattle.std.specs.Prelude.{ℕ, List, map}
use Rattle.book_spec.specs.Slots.{Slots}
use Rattle.book_spec.specs.declared.list.ListMark.{ListMark}
use Rattle.domain_tasks.specs.Below.def_keeper.declared.mark.StoreBase.{StoreBase}
use Rattle.domain_tasks.specs.Below.def_keeper.declared.mark.StoreMark.{StoreMark}
use Rattle.domain_tasks.specs.Below.domain_core.Celled.{CellShare}
use Rattle.domain_spec.specs.declared.mark.Mark.{Mark}
use Rattle.domain_spec.specs.declared.standing.Base.{Base}
use Rattle.domain_tasks.specs.OfOutcomes.{Known, KnownRow}
use Rattle.pass_rows.specs.Rows.{PassRow}
use Rattle.turn_cell.specs.Passes.{Passed}

-- a row of passes of the list of domains, the store, and the domain in each slot
abbrev pub DriverRow : Type 0 → Type 0
DriverRow G = PassRow Slots ListMark (List ℕ) StoreBase StoreMark (Unit {0}) Base (Mark ℕ) CellShare G

-- a pass: its number, what it has seen, its own marks, and whether no ticket is left
abbrev pub known : {B M S : Type 0} → Passed B M S → Known B M
known p = record { number = p.number; seen = p.seen; mine = p.mine; spent = p.spent }

-- and so of each pass of a row
abbrev pub known_row : {G : Type 0} → DriverRow G → KnownRow
known_row row = record { list = known row.list; store = known row.store; domains = map known row.domains }
