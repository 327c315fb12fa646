-- How a request is told that it came to no answer of a cell.
use Rattle.std.specs.Prelude.{◌≡◌}
use Rattle.driver_cells.specs.OfObjects.{TellsSpent}
use Rattle.refusals.specs.Replies.{no_memory_reply}
use Rattle.virt_types.specs.declared.value.Reply.{Reply}
use Rattle.driver_lists.specs.declared.stopping.Stop.{Stop}
use Rattle.driver_lists.specs.declared.stopping.Stop.TheVariants as stop

-- what is told
abbrev pub TellsStop : Stop → Reply → Type 0
TellsStop stop.NoMemory said = said ≡ no_memory_reply
TellsStop stop.Spent said = TellsSpent said
