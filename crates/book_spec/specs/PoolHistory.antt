-- The history of the book of pools: what was in it when the chapter began, and a mark for each call.
use Rattle.std.specs.Prelude.{◌≡◌, ◌⊎◌, ℕ, ◌+◌, ◌<◌, ◌++◌, nat_lt, [], ◌∷◌, length, Result, Ok, Err, if◌then◌else◌}
use Rattle.std.specs.List.{fold}
use Rattle.history_spec.specs.declared.history.History.{History}
use Rattle.virt_types.specs.Below.types_base.declared.refusal.Refusal.{Refusal}
use Rattle.book_spec.specs.declared.pool_book.PoolCall.{PoolCall}
use Rattle.book_spec.specs.declared.pool_book.PoolAnswer.{PoolAnswer}
use Rattle.book_spec.specs.declared.pool_book.PoolAnswer.TheVariants.{Done, Refused}
use Rattle.book_spec.specs.declared.pool_book.PoolMark.{PoolMark}
use Rattle.book_spec.specs.Pools.{Pools}
use Rattle.book_spec.specs.PoolCalls.{answer, pools_after, no_memory}

abbrev pub PoolHistory : Type 0
PoolHistory = History Pools PoolMark

-- the book after a mark
abbrev pub marked : Pools → PoolMark → Pools
marked pools mark = pools_after mark.call mark.answer pools

-- the book at the end of a history
unfoldable pub pools_of : PoolHistory → Pools
pools_of h = fold marked h.base h.marks

-- a chapter may end once it holds as many marks
abbrev pub most_marks : ℕ
most_marks = 4096

-- the chapter in which a call leaves its mark: the present one, or where that is long the next
unfoldable pub open_chapter : PoolHistory → PoolHistory
open_chapter h = if nat_lt (length h.marks) most_marks then h else record { chapter = h.chapter + 1; base = pools_of h; marks = [] }

-- one mark more
unfoldable pub with_mark : PoolMark → PoolHistory → PoolHistory
with_mark mark h = record h { marks = h.marks ++ mark ∷ [] }

-- one mark more, of this call as the book has it
abbrev pub with_call : ℕ → PoolCall → PoolHistory → PoolHistory
with_call number call h = with_mark (record { number = number; call = call; answer = answer call (pools_of h) }) h

-- what a caller was told
abbrev pub told : Result Unit Refusal → PoolAnswer
told (Ok done) = Done
told (Err refusal) = Refused refusal

-- a call was answered as the book has it and left its mark, in a chapter that had room for it
abbrev pub IsCalled : ℕ → PoolCall → PoolAnswer → PoolHistory → PoolHistory → Type 0
IsCalled number call given old new = (given ≡ answer call (pools_of old)) × (new ≡ with_call number call (open_chapter old))

-- there was no memory: no mark is left
abbrev pub LacksMemory : PoolAnswer → PoolHistory → PoolHistory → Type 0
LacksMemory given old new = (given ≡ Refused no_memory) × (new ≡ old)

-- a call was answered and left its mark, unless there was no memory
abbrev pub HasCalled : ℕ → PoolCall → PoolAnswer → PoolHistory → PoolHistory → Type 0
HasCalled number call given old new = IsCalled number call given old new ⊎ LacksMemory given old new

-- nothing forbids the call, and the chapter has room for its mark
pub record CanCall (call : PoolCall) (h : PoolHistory) : Type 0 where
  pub may : answer call (pools_of h) ≡ Done
  pub room : length h.marks < most_marks

-- the tests of a call were made, and nothing forbids it: its mark is left later, in the chapter that is opened for it
abbrev pub MayCall : ℕ → PoolCall → Result Unit Refusal → PoolHistory → PoolHistory → Type 0
MayCall number call (Ok done) old new = (new ≡ open_chapter old) × CanCall call new
MayCall number call (Err refusal) old new = HasCalled number call (Refused refusal) old new
