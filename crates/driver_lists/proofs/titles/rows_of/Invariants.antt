use Rattle.std.proofs.Common.{◌≡◌, map, take}
use Rattle.driver_cells.specs.OfOutcomes.{title_row}
use Rattle.driver_lists.proofs.titles.rows_of.Given as goal

abbrev pub invariant-loop-entry : goal.invariant-loop-entry
invariant-loop-entry l = l.rows.items ≡ map (λ entry. title_row entry.now) (take l.entry-index l.entries)
