-- The history of the book of networks: what was in it when the chapter began, and a mark for each call.
use Rattle.std.specs.Prelude.{◌≡◌, ◌⊎◌, ℕ, ◌+◌, ◌<◌, ◌++◌, nat_lt, List, [], ◌∷◌, length, Result, Ok, Err, if◌then◌else◌}
use Rattle.std.specs.List.{fold}
use Rattle.history_spec.specs.declared.history.History.{History}
use Rattle.virt_types.specs.Below.types_base.declared.refusal.Refusal.{Refusal}
use Rattle.virt_types.specs.Below.types_base.declared.memory.OrNoMemory.{OrNoMemory}
use Rattle.virt_types.specs.Below.types_base.declared.memory.OrNoMemory.TheVariants.{Fault, NoMemory}
use Rattle.book_spec.specs.declared.book.LeaseFault.{LeaseFault}
use Rattle.book_spec.specs.declared.book.NetCall.{NetCall}
use Rattle.book_spec.specs.declared.book.NetAnswer.{NetAnswer}
use Rattle.book_spec.specs.declared.book.NetAnswer.TheVariants.{Done, Leased, NotLeased, Refused}
use Rattle.book_spec.specs.declared.book.NetMark.{NetMark}
use Rattle.book_spec.specs.Networks.{Networks}
use Rattle.book_spec.specs.NetCalls.{answer, networks_after, no_memory}

abbrev pub NetHistory : Type 0
NetHistory = History Networks NetMark

-- the book after a mark
abbrev pub marked : Networks → NetMark → Networks
marked networks mark = networks_after mark.call mark.answer networks

-- the book at the end of a history
unfoldable pub networks_of : NetHistory → Networks
networks_of h = fold marked h.base h.marks

-- a chapter may end once it holds as many marks
abbrev pub most_marks : ℕ
most_marks = 4096

-- the chapter in which a call leaves its mark: the present one, or where that is long the next
unfoldable pub open_chapter : NetHistory → NetHistory
open_chapter h = if nat_lt (length h.marks) most_marks then h else record { chapter = h.chapter + 1; base = networks_of h; marks = [] }

-- one mark more
unfoldable pub with_mark : NetMark → NetHistory → NetHistory
with_mark mark h = record h { marks = h.marks ++ mark ∷ [] }

-- one mark more, of this call as the book has it
abbrev pub with_call : ℕ → NetCall → NetHistory → NetHistory
with_call number call h = with_mark (record { number = number; call = call; answer = answer call (networks_of h) }) h

-- what a caller was told
abbrev pub told : Result Unit Refusal → NetAnswer
told (Ok done) = Done
told (Err refusal) = Refused refusal

abbrev pub told_lease : Result ℕ (OrNoMemory LeaseFault) → NetAnswer
told_lease (Ok address) = Leased address
told_lease (Err (Fault fault)) = NotLeased fault
told_lease (Err NoMemory) = Refused no_memory

-- a call was answered as the book has it and left its mark, in a chapter that had room for it
abbrev pub IsCalled : ℕ → NetCall → NetAnswer → NetHistory → NetHistory → Type 0
IsCalled number call given old new = (given ≡ answer call (networks_of old)) × (new ≡ with_call number call (open_chapter old))

-- there was no memory: no mark is left
abbrev pub LacksMemory : NetAnswer → NetHistory → NetHistory → Type 0
LacksMemory given old new = (given ≡ Refused no_memory) × (new ≡ old)

-- a call was answered and left its mark, unless there was no memory
abbrev pub HasCalled : ℕ → NetCall → NetAnswer → NetHistory → NetHistory → Type 0
HasCalled number call given old new = IsCalled number call given old new ⊎ LacksMemory given old new

-- nothing forbids the call, and the chapter has room for its mark
pub record CanCall (call : NetCall) (h : NetHistory) : Type 0 where
  pub may : answer call (networks_of h) ≡ Done
  pub room : length h.marks < most_marks

-- the tests of a call were made, and nothing forbids it: its mark is left later, in the chapter that is opened for it
abbrev pub MayCall : ℕ → NetCall → Result Unit Refusal → NetHistory → NetHistory → Type 0
MayCall number call (Ok done) old new = (new ≡ open_chapter old) × CanCall call new
MayCall number call (Err refusal) old new = HasCalled number call (Refused refusal) old new
