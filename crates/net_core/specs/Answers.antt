-- What the parts of the book answer, before being out of memory is a refusal too.
use Rattle.std.specs.Prelude.{◌≡◌, ℕ, List, Option, None, Some, Result, Ok, Err}
use Rattle.virt_types.specs.Below.types_base.declared.mac.Mac.{Mac}
use Rattle.virt_types.specs.Below.types_base.declared.refusal.Refusal.{Refusal}
use Rattle.virt_types.specs.Below.types_base.declared.memory.OrNoMemory.{OrNoMemory}
use Rattle.virt_types.specs.Below.types_base.declared.memory.OrNoMemory.TheVariants.{Fault, NoMemory}
use Rattle.book_spec.specs.declared.book.Network.{Network}
use Rattle.book_spec.specs.declared.book.LeaseFault.{LeaseFault}
use Rattle.book_spec.specs.declared.book.NetAnswer.{NetAnswer}
use Rattle.book_spec.specs.declared.book.NetAnswer.TheVariants.{Done, Leased, NotLeased, Refused}
use Rattle.book_spec.specs.declared.book.NetCall.{NetCall}
use Rattle.book_spec.specs.declared.book.NetCall.TheVariants as call
use Rattle.book_spec.specs.declared.book.NetMark.{NetMark}
use Rattle.book_spec.specs.Networks.{Networks}
use Rattle.book_spec.specs.NetCalls.{no_memory, no_network, networks_after}
use Rattle.book_spec.specs.NetHistory.{NetHistory, with_mark, open_chapter}

-- the answer to a call, where there is memory enough
abbrev pub Tells : Result Unit (OrNoMemory Refusal) → NetAnswer → Type 0
Tells (Ok done) given = given ≡ Done
Tells (Err (Fault refusal)) given = given ≡ Refused refusal
Tells (Err NoMemory) given = Unit {0}

abbrev pub TellsLease : Result ℕ (OrNoMemory LeaseFault) → NetAnswer → Type 0
TellsLease (Ok address) given = given ≡ Leased address
TellsLease (Err (Fault fault)) given = given ≡ NotLeased fault
TellsLease (Err NoMemory) given = Unit {0}

-- the answer that is told
abbrev pub tested : Result Unit (OrNoMemory Refusal) → NetAnswer
tested (Ok done) = Done
tested (Err (Fault refusal)) = Refused refusal
tested (Err NoMemory) = Refused no_memory

-- being out of memory is a refusal too
abbrev pub plain_of : {A : Type 0} → Result A (OrNoMemory Refusal) → Result A Refusal
plain_of (Ok value) = Ok value
plain_of (Err (Fault refusal)) = Err refusal
plain_of (Err NoMemory) = Err no_memory

-- the book changes where the call is done
abbrev pub TakesEffect : NetCall → Result Unit (OrNoMemory Refusal) → Networks → Networks → Type 0
TakesEffect c (Ok done) old new = new ≡ networks_after c Done old
TakesEffect c (Err e) old new = new ≡ old

abbrev pub LeaseTakesEffect : List ℕ → Mac → Result ℕ (OrNoMemory LeaseFault) → Networks → Networks → Type 0
LeaseTakesEffect name mac (Ok address) old new = new ≡ networks_after (call.Lease name mac) (Leased address) old
LeaseTakesEffect name mac (Err e) old new = new ≡ old

-- a call that was answered so leaves this mark; where there was no memory it leaves none
abbrev pub Leaves : {A F : Type 0} → NetMark → Result A (OrNoMemory F) → NetHistory → NetHistory → Type 0
Leaves mark (Ok a) old new = new ≡ with_mark mark (open_chapter old)
Leaves mark (Err (Fault f)) old new = new ≡ with_mark mark (open_chapter old)
Leaves mark (Err NoMemory) old new = new ≡ old

-- a test that was answered so leaves this mark where it refuses; where it does not, the chapter gets room for a mark
abbrev pub LeavesRefusal : NetMark → Result Unit (OrNoMemory Refusal) → NetHistory → NetHistory → Type 0
LeavesRefusal mark (Ok done) old new = new ≡ open_chapter old
LeavesRefusal mark (Err e) old new = Leaves {A = Unit {0}} mark (Err e) old new

-- what is read of a network that is there, or that it is not there
abbrev pub IsFoundOf : {A : Type 0} → (Network → A → Type 0) → List ℕ → Option Network → Result A (OrNoMemory Refusal) → Type 0
IsFoundOf Is uuid (Some network) (Ok value) = Is network value
IsFoundOf Is uuid None (Ok value) = ⊥
IsFoundOf Is uuid (Some network) (Err (Fault refusal)) = ⊥
IsFoundOf Is uuid None (Err (Fault refusal)) = refusal ≡ no_network uuid
IsFoundOf Is uuid network (Err NoMemory) = Unit {0}

-- why there is nothing to read
abbrev pub IsMissing : List ℕ → OrNoMemory Refusal → Type 0
IsMissing uuid (Fault refusal) = refusal ≡ no_network uuid
IsMissing uuid NoMemory = Unit {0}
