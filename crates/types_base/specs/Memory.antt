-- What a call that takes memory answers, against the answer where there is memory enough.
use Rattle.std.specs.Prelude.{◌≡◌, Result, Ok, Err}
use Rattle.types_base.specs.declared.memory.OrNoMemory.{OrNoMemory}
use Rattle.types_base.specs.declared.memory.OrNoMemory.TheVariants.{Fault, NoMemory}

-- the error is the one of this answer, unless there was no memory
abbrev pub FailsUnlessNoMemory : {A F : Type 0} → OrNoMemory F → Result A F → Type 0
FailsUnlessNoMemory (Fault f) answer = answer ≡ Err f
FailsUnlessNoMemory NoMemory answer = Unit {0}

-- the result is this answer, unless there was no memory
abbrev pub UnlessNoMemory : {A F : Type 0} → Result A (OrNoMemory F) → Result A F → Type 0
UnlessNoMemory (Ok value) answer = answer ≡ Ok value
UnlessNoMemory (Err e) answer = FailsUnlessNoMemory e answer
