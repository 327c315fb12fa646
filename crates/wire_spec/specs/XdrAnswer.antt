-- What readers of XDR answer: a value exactly where one is at the front, and otherwise the first fault.
use Rattle.std.specs.Prelude.{◌≡◌, ℕ, ◌+◌, List, ◌++◌, length, Result, Ok, Err, IfOk, IsOk}
use Rattle.types_base.specs.Memory.{UnlessNoMemory}
use Rattle.types_base.specs.declared.memory.OrNoMemory.{OrNoMemory}
use Rattle.types_base.specs.declared.memory.OrNoMemory.TheVariants.{Fault, NoMemory}
use Rattle.wire_spec.specs.XdrReading.{Left}
use Rattle.wire_spec.specs.declared.fault.XdrFault.{XdrFault}

-- the item was at the front, and is taken
pub record Takes (old : Left) (item : List ℕ) (new : Left) : Type 0 where
  pub parts : old.bytes ≡ item ++ new.bytes
  pub place : new.place ≡ old.place + length item

-- a value is answered and taken exactly where its spelling is at the front
pub record Answers {A : Type 0} (IsValue : A → Type 0) (spelled : A → List ℕ) (old : Left) (result : Result A XdrFault) (new : Left) : Type 0 where
  pub found : IfOk result (λ v. IsValue v × Takes old (spelled v) new)
  pub only : (v : A) (rest : List ℕ) → IsValue v → old.bytes ≡ spelled v ++ rest → result ≡ Ok v

-- the answer is what reading gives; after a fault nothing is taken
abbrev pub Reads : {A : Type 0} → (Left → Result (A × Left) XdrFault) → Left → Result A XdrFault → Left → Type 0
Reads first old (Ok v) new = first old ≡ Ok (v, new)
Reads first old (Err f) new = (first old ≡ Err f) × (new ≡ old)

-- as `Answers`, of a value that takes memory
pub record AnswersOrNoMemory {A : Type 0} (IsValue : A → Type 0) (spelled : A → List ℕ) (old : Left) (result : Result A (OrNoMemory XdrFault)) (new : Left) : Type 0 where
  pub found : IfOk result (λ v. IsValue v × Takes old (spelled v) new)
  pub only : (v : A) (rest : List ℕ) → IsValue v → old.bytes ≡ spelled v ++ rest → UnlessNoMemory result (Ok v)

-- as `Reads`, of a value that takes memory: there is no memory only where there is a value
abbrev pub ReadsOrNoMemory : {A : Type 0} → (Left → Result (A × Left) XdrFault) → Left → Result A (OrNoMemory XdrFault) → Left → Type 0
ReadsOrNoMemory first old (Ok v) new = first old ≡ Ok (v, new)
ReadsOrNoMemory first old (Err (Fault f)) new = (first old ≡ Err f) × (new ≡ old)
ReadsOrNoMemory first old (Err NoMemory) new = IsOk (first old) × (new ≡ old)
