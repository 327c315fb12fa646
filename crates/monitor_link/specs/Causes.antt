-- What a link answers has its cause in a count: of the guest's ends, or of the faults of the link.
use Rattle.std.specs.Prelude.{ℕ, ◌≤◌}
use Rattle.outside_spec.specs.Faults.{Rose}
use Rattle.monitor_link.specs.declared.link.Heard.{Heard}
use Rattle.monitor_link.specs.declared.link.Heard.TheVariants as heard
use Rattle.virt_types.specs.declared.answer.Answer.{Answer}
use Rattle.virt_types.specs.declared.answer.Answer.TheVariants as answer
use Rattle.virt_types.specs.Below.types_base.declared.memory.Fault.{Fault}
use Rattle.virt_types.specs.Below.types_base.declared.memory.Fault.TheVariants as fault

-- a guest has ended only where an end was counted, a link is lost only where a fault was counted in
-- this call, and the store answers nothing here
abbrev pub IsAnswerCaused : Answer → ℕ → ℕ → ℕ → Type 0
IsAnswerCaused (answer.Ended reason) ends before now = 1 ≤ ends
IsAnswerCaused answer.Lost ends before now = Rose before now
IsAnswerCaused answer.Device ends before now = ⊥
IsAnswerCaused other ends before now = Unit {0}

-- the same of what is heard
abbrev pub IsHeardCaused : Heard → ℕ → ℕ → ℕ → Type 0
IsHeardCaused (heard.Ended reason) ends before now = 1 ≤ ends
IsHeardCaused heard.Lost ends before now = Rose before now
IsHeardCaused other ends before now = Unit {0}

-- a guest could not be made only where a fault was counted in this call
abbrev pub IsFaultCaused : Fault → ℕ → ℕ → Type 0
IsFaultCaused fault.Failed before now = Rose before now
IsFaultCaused fault.NoMemory before now = Unit {0}

-- an answer that a link may give: any but the store's
abbrev pub IsOfGuest : Answer → Type 0
IsOfGuest answer.Device = ⊥
IsOfGuest other = Unit {0}
