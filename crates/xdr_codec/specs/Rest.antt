-- What is left of a payload, as the private steps of a reader hand it on.
use Rattle.std.specs.Prelude.{◌≡◌, ℕ, List, None, Some, Result, Ok, Err, IsOk}
use Rattle.std.specs.Borrow.{Bor}
use Rattle.types_base.specs.declared.memory.OrNoMemory.{OrNoMemory}
use Rattle.types_base.specs.declared.memory.OrNoMemory.TheVariants.{Fault, NoMemory}
use Rattle.wire_spec.specs.XdrReading.{Left, text_fault}
use Rattle.wire_spec.specs.declared.fault.XdrFault.{XdrFault}
use Rattle.xdr_codec.specs.declared.rest.Rest.{Rest}

abbrev pub seen : Rest → Left
seen r = record { place = r.place; bytes = r.bytes.now }

-- a step answered, and left, what reading gives
abbrev pub Steps : {A : Type 0} → Result (A × Left) XdrFault → Result (A × Rest) XdrFault → Type 0
Steps read (Ok x) = read ≡ Ok (x.0, seen x.1)
Steps read (Err f) = read ≡ Err f

-- the same of a step that takes memory
abbrev pub StepsOrNoMemory : {A : Type 0} → Result (A × Left) XdrFault → Result (A × Rest) (OrNoMemory XdrFault) → Type 0
StepsOrNoMemory read (Ok x) = read ≡ Ok (x.0, seen x.1)
StepsOrNoMemory read (Err (Fault f)) = read ≡ Err f
StepsOrNoMemory read (Err NoMemory) = IsOk read

-- after a value the reader is after it, and after an error where it was
abbrev pub Keeps : {A E : Type 0} → Rest → Result (A × Rest) E → Result A E → Rest → Type 0
Keeps old (Ok x) result new = (result ≡ Ok x.0) × (new ≡ x.1)
Keeps old (Err e) result new = (result ≡ Err e) × (new ≡ old)

-- a step that answers bytes as they lie in the payload
abbrev pub Slices : Result (List ℕ × Left) XdrFault → Result (Bor (List ℕ) × Rest) XdrFault → Type 0
Slices read (Ok x) = read ≡ Ok (x.0.now, seen x.1)
Slices read (Err f) = read ≡ Err f

-- a step that answers nothing but what is left
abbrev pub Passes : Result Left XdrFault → Result Rest XdrFault → Type 0
Passes read (Ok rest) = read ≡ Ok (seen rest)
Passes read (Err f) = read ≡ Err f

-- the bytes from this place on are this text, or this is the first that is not UTF-8
abbrev pub IsText : ℕ → List ℕ → Result (Bor (List ℕ)) XdrFault → Type 0
IsText place bytes (Ok text) = (text_fault place bytes ≡ None) × (text.now ≡ bytes)
IsText place bytes (Err f) = text_fault place bytes ≡ Some f

-- bytes were copied, where there was memory
abbrev pub Copies : Result (Bor (List ℕ) × Rest) XdrFault → Result (List ℕ × Rest) (OrNoMemory XdrFault) → Type 0
Copies (Ok x) (Ok y) = (y.0 ≡ x.0.now) × (y.1 ≡ x.1)
Copies (Ok x) (Err e) = e ≡ NoMemory
Copies (Err f) result = result ≡ Err (Fault f)
