-- What is read of the list and of the cells of its domains.
use Rattle.std.specs.Prelude.{◌≡◌, List, Option, Result, Ok, Err}
use Rattle.driver_cells.specs.OfOutcomes.{HasSpent, IsList, KnownRow, rows_of}
use Rattle.virt_types.specs.Below.types_base.declared.caller.Front.{Front}
use Rattle.virt_types.specs.declared.domain.Domain.{Domain}
use Rattle.virt_types.specs.declared.value.DomainRow.{DomainRow}
use Rattle.driver_lists.specs.declared.stopping.Stop.{Stop}
use Rattle.driver_lists.specs.declared.stopping.Stop.TheVariants as stop

-- the rows are those of the domains that were found where the list told them, and this is how far the list had come; or no
-- ticket was left for a pass, or there was no memory
abbrev pub HasReadList : KnownRow → KnownRow → Result (List DomainRow × Front) Stop → Type 0
HasReadList before after (Ok read) = (found : List (Option Domain)) × IsList before after read.1 found × (read.0 ≡ rows_of found)
HasReadList before after (Err stop.Spent) = HasSpent after
HasReadList before after (Err stop.NoMemory) = Unit {0}
