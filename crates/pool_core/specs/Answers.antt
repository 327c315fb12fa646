-- What the table answers, before being out of memory is a refusal too.
use Rattle.std.specs.Prelude.{◌≡◌, Result, Ok, Err}
use Rattle.virt_types.specs.Below.types_base.declared.refusal.Refusal.{Refusal}
use Rattle.virt_types.specs.Below.types_base.declared.memory.OrNoMemory.{OrNoMemory}
use Rattle.virt_types.specs.Below.types_base.declared.memory.OrNoMemory.TheVariants.{Fault, NoMemory}
use Rattle.book_spec.specs.declared.pool_book.PoolAnswer.{PoolAnswer}
use Rattle.book_spec.specs.declared.pool_book.PoolAnswer.TheVariants.{Done, Refused}
use Rattle.book_spec.specs.declared.pool_book.PoolCall.{PoolCall}
use Rattle.book_spec.specs.Pools.{Pools}
use Rattle.book_spec.specs.PoolCalls.{no_memory, pools_after}

-- the answer to a call, where there is memory enough
abbrev pub Tells : Result Unit (OrNoMemory Refusal) → PoolAnswer → Type 0
Tells (Ok done) given = given ≡ Done
Tells (Err (Fault refusal)) given = given ≡ Refused refusal
Tells (Err NoMemory) given = Unit {0}

-- being out of memory is a refusal too
abbrev pub plain_of : {A : Type 0} → Result A (OrNoMemory Refusal) → Result A Refusal
plain_of (Ok value) = Ok value
plain_of (Err (Fault refusal)) = Err refusal
plain_of (Err NoMemory) = Err no_memory

-- what is done changes so; what is not changes nothing
abbrev pub OnDone : {X : Type 0} → (X → X) → Result Unit (OrNoMemory Refusal) → X → X → Type 0
OnDone change (Ok done) old new = new ≡ change old
OnDone change (Err e) old new = new ≡ old

-- the book changes where the call is done
abbrev pub TakesEffect : PoolCall → Result Unit (OrNoMemory Refusal) → Pools → Pools → Type 0
TakesEffect c t old new = OnDone (pools_after c Done) t old new

-- what is there to read, or why there is nothing
abbrev pub IsFound : {A B : Type 0} → (B → A → Type 0) → Result B Refusal → Result A (OrNoMemory Refusal) → Type 0
IsFound Is (Ok there) (Ok value) = Is there value
IsFound Is (Err why) (Ok value) = ⊥
IsFound Is (Ok there) (Err (Fault refusal)) = ⊥
IsFound Is (Err why) (Err (Fault refusal)) = refusal ≡ why
IsFound Is there (Err NoMemory) = Unit {0}

-- the reason is this one, unless there was no memory to say it
abbrev pub IsWhy : Refusal → OrNoMemory Refusal → Type 0
IsWhy refusal (Fault given) = given ≡ refusal
IsWhy refusal NoMemory = Unit {0}

-- the value that is read is the one that is there
abbrev pub IsSame : {A : Type 0} → A → A → Type 0
IsSame there value = value ≡ there
