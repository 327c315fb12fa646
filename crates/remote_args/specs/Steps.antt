-- What a reader of several items did.
use Rattle.std.specs.Prelude.{◌≡◌, ◌==◌, true, false, length, Result, Ok, Err}
use Rattle.virt_types.specs.Below.types_base.declared.memory.OrNoMemory.{OrNoMemory}
use Rattle.virt_types.specs.Below.types_base.declared.memory.OrNoMemory.TheVariants.{Fault, NoMemory}
use Rattle.wire_spec.specs.declared.fault.XdrFault.{XdrFault}
use Rattle.wire_spec.specs.declared.fault.XdrFault.TheVariants.{Extra}
use Rattle.wire_spec.specs.XdrReading.{Left}
use Rattle.procedure_spec.specs.declared.fault.ArgFault.{ArgFault}
use Rattle.procedure_spec.specs.declared.fault.ArgFault.TheVariants.{Xdr}

-- the answer is what reading gives, and what it leaves is left, or there was no memory
abbrev pub Walks : {A F : Type 0} → (Left → Result (A × Left) F) → Left → Result A (OrNoMemory F) → Left → Type 0
Walks first old (Ok v) new = first old ≡ Ok (v, new)
Walks first old (Err (Fault f)) new = first old ≡ Err f
Walks first old (Err NoMemory) new = Unit {0}

-- the same of what takes no value
abbrev pub Passes : {A F : Type 0} → (Left → Result Left F) → Left → Result A (OrNoMemory F) → Left → Type 0
Passes first old (Ok v) new = first old ≡ Ok new
Passes first old (Err (Fault f)) new = first old ≡ Err f
Passes first old (Err NoMemory) new = Unit {0}

-- a fault of an item is reported as a fault of a payload
abbrev pub Lifts : {A : Type 0} → Result A (OrNoMemory XdrFault) → Result A (OrNoMemory ArgFault) → Type 0
Lifts (Ok x) result = result ≡ Ok x
Lifts (Err (Fault f)) result = result ≡ Err (Fault (Xdr f))
Lifts (Err NoMemory) result = result ≡ Err NoMemory

-- nothing is left, or what is left begins here
abbrev pub Ends : {A : Type 0} → Left → Result A (OrNoMemory ArgFault) → Type 0
Ends l (Ok v) = (length l.bytes == 0) ≡ true
Ends l (Err (Fault f)) = ((length l.bytes == 0) ≡ false) × (f ≡ Xdr (Extra l.place))
Ends l (Err NoMemory) = ⊥
