-- What is found out by what a request says alone, whatever the passes are. No public clause cites these.
use Rattle.std.specs.Prelude.{ℕ, List}
use Rattle.outcome_spec.specs.Below.store_asks.Turning.{StorePass}
use Rattle.virt_types.specs.Below.types_base.declared.memory.OrNoMemory.{OrNoMemory}
use Rattle.virt_types.specs.Below.types_base.declared.memory.OrNoMemory.TheVariants as or
use Rattle.virt_types.specs.Below.types_base.declared.refusal.Refusal.{Refusal}
use Rattle.virt_types.specs.declared.request.Request.{Request}
use Rattle.request_asks.specs.Found.{IsFound}
use Rattle.request_asks.specs.declared.asked.Asked.{Asked}
use Rattle.request_asks.specs.declared.asked.Asked.TheVariants as asked

-- what comes of a request that is refused for this
abbrev pub refused_by : OrNoMemory Refusal → Asked
refused_by (or.Fault why) = asked.Refused why
refused_by or.NoMemory = asked.NoMemory

-- what was found out with these words drawn, of any pass of the store
abbrev pub IsSaid : List ℕ → Request → Asked → Type 0
IsSaid words r a = (before after : StorePass) → IsFound before after words r a
