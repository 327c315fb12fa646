-- Entries of lists that are read one by one.
use Rattle.std.proofs.Common.{◌≡◌, ℕ, ◌+◌, ◌≤◌, suc, List, [], ◌∷◌, ◌++◌, length, Result, Ok, Err, refl, sym, ap, ◌∙◌, append_assoc, arith}
use Rattle.std.proofs.lemmas.List.{append-nil, length-append}
use Rattle.virt_types.specs.Below.types_base.declared.memory.OrNoMemory.{OrNoMemory}
use Rattle.virt_types.specs.Below.types_base.declared.memory.OrNoMemory.TheVariants.{Fault, NoMemory}
use Rattle.wire_spec.specs.Xdr.{fixed, opaque, padding, word}
use Rattle.wire_spec.specs.XdrAnswer.{Takes}
use Rattle.wire_spec.specs.XdrReading.{Left}
use Rattle.procedure_spec.specs.ListsReading.{first_entries}
use Rattle.procedure_spec.specs.Reading.{◌>>=◌}
use Rattle.procedure_spec.specs.declared.fault.ArgFault.{ArgFault}
use Rattle.remote_args.specs.Steps.{Walks}

-- what is read, after what was read
abbrev pub behind_entries : {A : Type 0} → List A → Result (List A × Left) ArgFault → Result (List A × Left) ArgFault
behind_entries xs (Ok y) = Ok (xs ++ y.0, y.1)
behind_entries xs (Err f) = Err f

one_more : {A : Type 0} (xs : List A) (x : A) (read : Result (List A × Left) ArgFault) → behind_entries xs (read >>= λ more. Ok (x ∷ more.0, more.1)) ≡ behind_entries (xs ++ x ∷ []) read
one_more {A = A} xs x (Ok y) = ap (λ (t : List A). Ok (t, y.1)) (sym (append_assoc xs (x ∷ []) y.0))
one_more xs x (Err f) = refl

-- an entry was read
pub entries_step : {A : Type 0} (first : Left → Result (A × Left) ArgFault) (xs : List A) (x : A) (n m : ℕ) (old new : Left) → n ≡ suc m → first old ≡ Ok (x, new) → behind_entries xs (first_entries first n old) ≡ behind_entries (xs ++ x ∷ []) (first_entries first m new)
unfolding first_entries
entries_step first xs x n m old new is read = rw (is, read) (one_more xs x (first_entries first m new))

-- an entry has a fault
pub entries_fault : {A : Type 0} (first : Left → Result (A × Left) ArgFault) (xs : List A) (n m : ℕ) (old : Left) (f : ArgFault) → n ≡ suc m → first old ≡ Err f → behind_entries xs (first_entries first n old) ≡ Err f
unfolding first_entries
entries_fault first xs n m old f is read = rw (is, read) refl

-- all are read
pub entries_end : {A : Type 0} (first : Left → Result (A × Left) ArgFault) (xs : List A) (n : ℕ) (old : Left) → n ≡ 0 → behind_entries xs (first_entries first n old) ≡ Ok (xs, old)
unfolding first_entries
entries_end {A = A} first xs n old is = rw is (ap (λ (t : List A). Ok (t, old)) (append-nil xs))

-- ---- the loop

pub entries_err : {A : Type 0} (first : Left → Result (A × Left) ArgFault) (xs : List A) (count n m : ℕ) (start old new last : Left) (e : OrNoMemory ArgFault) → first_entries first count start ≡ behind_entries xs (first_entries first n old) → n ≡ suc m → Walks first old (Err e) new → Walks (first_entries first count) start (Err e) last
entries_err first xs count n m start old new last (Fault f) so is walks = so ∙ entries_fault first xs n m old f is walks
entries_err first xs count n m start old new last NoMemory so is walks = tt

-- ---- places

-- a string that was taken was there
pub string_fits : (old : Left) (text : List ℕ) (new : Left) → Takes old (opaque text) new → 4 + length text ≤ length old.bytes
unfolding word
string_fits old text new taken = omega (arith, ap length taken.parts, length-append (opaque text) new.bytes, length-append (word (length text)) (fixed text), length-append text (padding (length text)))
