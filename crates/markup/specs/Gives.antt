-- What a reader of this crate answers, against the reading of a text.
use Rattle.std.specs.Prelude.{◌≡◌, Result, Ok, Err}
use Rattle.text_spec.specs.declared.fault.Flaw.{Flaw}
use Rattle.types_base.specs.declared.memory.OrNoMemory.{OrNoMemory}

-- what a reader answered that takes no memory is what reading gives, its value seen by view
abbrev pub Tells : {X Y : Type 0} → (X → Y) → Result X Flaw → Result Y Flaw → Type 0
Tells view (Ok x) read = read ≡ Ok (view x)
Tells view (Err f) read = read ≡ Err f

-- an answer with its value seen by view
abbrev pub viewed : {X Y F : Type 0} → (X → Y) → Result X (OrNoMemory F) → Result Y (OrNoMemory F)
viewed view (Ok x) = Ok (view x)
viewed view (Err e) = Err e
