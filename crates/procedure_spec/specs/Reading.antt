-- Payloads read item by item: the value and what is left, or the first fault.
use Rattle.std.specs.Prelude.{◌==◌, ℕ, List, length, Option, None, Some, Result, Ok, Err, if◌then◌else◌}
use Rattle.wire_spec.specs.XdrReading.{Left, all_of}
use Rattle.wire_spec.specs.declared.fault.XdrFault.{XdrFault}
use Rattle.wire_spec.specs.declared.fault.XdrFault.TheVariants.{Extra}
use Rattle.procedure_spec.specs.Faults.{xdr}
use Rattle.procedure_spec.specs.declared.fault.ArgFault.{ArgFault}
use Rattle.procedure_spec.specs.declared.fault.ArgFault.TheVariants.{Xdr}

-- one item after another; the first fault ends it
infixl 10 ◌>>=◌
abbrev pub ◌>>=◌ : {A B : Type 0} → Result A ArgFault → (A → Result B ArgFault) → Result B ArgFault
(Ok x) >>= next = next x
(Err f) >>= next = Err f

-- the value, unless there is a fault
abbrev pub unless : {A : Type 0} → Option ArgFault → A → Result A ArgFault
unless None x = Ok x
unless (Some f) x = Err f

-- an item of XDR
abbrev pub item : {A : Type 0} → (Left → Result (A × Left) XdrFault) → Left → Result (A × Left) ArgFault
item first l = xdr (first l)

-- nothing is left
abbrev pub ended : {A : Type 0} → A × Left → Result A ArgFault
ended x = if length x.1.bytes == 0 then Ok x.0 else Err (Xdr (Extra x.1.place))

-- all of a payload, with nothing after it
unfoldable pub all : {A : Type 0} → (Left → Result (A × Left) ArgFault) → List ℕ → Result A ArgFault
all first payload = do
  x ← first (all_of payload)
  ended x
