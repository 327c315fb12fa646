-- What a test answers, against the fault that it looks for.
use Rattle.std.specs.Prelude.{◌≡◌, Option, Some, None, Result, Ok, Err}
use Rattle.types_base.specs.declared.memory.OrNoMemory.{OrNoMemory}
use Rattle.types_base.specs.declared.memory.OrNoMemory.TheVariants as or

-- the fault is this one, unless there was no memory
abbrev pub FaultUnlessNoMemory : {F : Type 0} → OrNoMemory F → Option F → Type 0
FaultUnlessNoMemory or.NoMemory fault = Unit {0}
FaultUnlessNoMemory (or.Fault f) fault = fault ≡ Some f

-- a test passes exactly where there is no fault, and reports the fault otherwise
abbrev pub Tests : {A F : Type 0} → Result A (OrNoMemory F) → Option F → Type 0
Tests (Ok passed) fault = fault ≡ None
Tests (Err e) fault = FaultUnlessNoMemory e fault
