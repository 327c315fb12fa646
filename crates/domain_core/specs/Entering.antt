-- How a call finds that begins an operation, or takes one up: it does one of the two, as its kind says.
use Rattle.std.specs.Prelude.{◌≡◌, ◌⊎◌, ℕ, is_some, true}
use Rattle.domain_spec.specs.Types.{Call, Who}
use Rattle.domain_spec.specs.Call.{begins, takes_up}
use Rattle.domain_spec.specs.Cell.{Queue}
use Rattle.core_steps.specs.Beginning.{BeginsSo, LooksToBegin, LooksToTakeUp, TakesUpSo}
use Rattle.core_steps.specs.OfRecord.{Recorded}
use Rattle.core_steps.specs.Turning.{Turning}
use Rattle.core_steps.specs.declared.beginning.OperationLook.{OperationLook}

-- it begins an operation, or takes one up
abbrev pub Operates : Call → Type 0
Operates d = (is_some (begins d) ≡ true) ⊎ (is_some (takes_up d) ≡ true)

-- its look, over the history and the queue
abbrev pub EntersSo : ℕ → Who → Call → Recorded → Recorded → Queue → Queue → OperationLook → Type 0
EntersSo n who d old new q p result = ((is_some (begins d) ≡ true) × BeginsSo n who d old new q p result) ⊎ ((is_some (takes_up d) ≡ true) × TakesUpSo n who d old new q p result)

-- and in the turn of a domain
abbrev pub LooksFor : ℕ → Who → Call → Turning → Turning → OperationLook → Type 0
LooksFor n who d old new result = ((is_some (begins d) ≡ true) × LooksToBegin n who d old new result) ⊎ ((is_some (takes_up d) ≡ true) × LooksToTakeUp n who d old new result)
