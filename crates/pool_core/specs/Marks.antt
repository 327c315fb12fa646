-- Which marks the answers of the table leave.
use Rattle.std.specs.Prelude.{◌≡◌, Result, Ok, Err}
use Rattle.virt_types.specs.Below.types_base.declared.refusal.Refusal.{Refusal}
use Rattle.virt_types.specs.Below.types_base.declared.memory.OrNoMemory.{OrNoMemory}
use Rattle.virt_types.specs.Below.types_base.declared.memory.OrNoMemory.TheVariants.{Fault, NoMemory}
use Rattle.book_spec.specs.declared.pool_book.PoolAnswer.{PoolAnswer}
use Rattle.book_spec.specs.declared.pool_book.PoolAnswer.TheVariants.{Done, Refused}
use Rattle.book_spec.specs.declared.pool_book.PoolMark.{PoolMark}
use Rattle.book_spec.specs.PoolCalls.{no_memory}
use Rattle.book_spec.specs.PoolHistory.{PoolHistory, with_mark, open_chapter}

-- the answer that is told
abbrev pub tested : Result Unit (OrNoMemory Refusal) → PoolAnswer
tested (Ok done) = Done
tested (Err (Fault refusal)) = Refused refusal
tested (Err NoMemory) = Refused no_memory

-- a call that was answered so leaves this mark; where there was no memory it leaves none
abbrev pub Leaves : {A F : Type 0} → PoolMark → Result A (OrNoMemory F) → PoolHistory → PoolHistory → Type 0
Leaves mark (Ok a) old new = new ≡ with_mark mark (open_chapter old)
Leaves mark (Err (Fault f)) old new = new ≡ with_mark mark (open_chapter old)
Leaves mark (Err NoMemory) old new = new ≡ old

-- a test that was answered so leaves this mark where it refuses; where it does not, the chapter gets room for a mark
abbrev pub LeavesRefusal : PoolMark → Result Unit (OrNoMemory Refusal) → PoolHistory → PoolHistory → Type 0
LeavesRefusal mark (Ok done) old new = new ≡ open_chapter old
LeavesRefusal mark (Err e) old new = Leaves {A = Unit {0}} mark (Err e) old new
