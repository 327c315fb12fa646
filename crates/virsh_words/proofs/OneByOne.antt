-- Domains to listen to, that are read one by one.
use Rattle.std.proofs.Common.{◌≡◌, ℕ, suc, Bool, true, false, List, [], ◌∷◌, ◌++◌, length, Result, Ok, Err, refl, sym, ap, ◌∙◌, append_assoc}
use Rattle.std.specs.Prelude.{◌==◌}
use Rattle.std.proofs.lemmas.List.{append-nil}
use Rattle.types_base.specs.declared.memory.OrNoMemory.{OrNoMemory}
use Rattle.types_base.specs.declared.memory.OrNoMemory.TheVariants.{Fault, NoMemory}
use Rattle.command_spec.specs.Reading.{Left, ◌>>=◌, first_listen, first_listens}
use Rattle.command_spec.specs.declared.command.Listen.{Listen}
use Rattle.command_spec.specs.declared.fault.WordFault.{WordFault}
use Rattle.virsh_words.specs.Rest.{StepsOrNoMemory, behind_listens, seen}
use Rattle.virsh_words.specs.declared.rest.Rest.{Rest}

one_more : (xs : List Listen) (x : Listen) (read : Result (List Listen × Left) WordFault) → behind_listens xs (read >>= λ more. Ok (x ∷ more.0, more.1)) ≡ behind_listens (xs ++ x ∷ []) read
one_more xs x (Ok y) = ap (λ (t : List Listen). Ok (t, y.1)) (sym (append_assoc xs (x ∷ []) y.0))
one_more xs x (Err f) = refl

-- one was read
pub listens_step : (xs : List Listen) (x : Listen) (n m : ℕ) (old new : Left) → n ≡ suc m → (length old.words == 0) ≡ false → first_listen old ≡ Ok (x, new) → behind_listens xs (first_listens n old) ≡ behind_listens (xs ++ x ∷ []) (first_listens m new)
unfolding first_listens
listens_step xs x n m old new is some read = rw (is, some, read) (one_more xs x (first_listens m new))

-- one has a fault
listens_fault : (xs : List Listen) (n m : ℕ) (old : Left) (f : WordFault) → n ≡ suc m → (length old.words == 0) ≡ false → first_listen old ≡ Err f → behind_listens xs (first_listens n old) ≡ Err f
unfolding first_listens
listens_fault xs n m old f is some read = rw (is, some, read) refl

-- nothing is left
pub listens_over : (xs : List Listen) (n m : ℕ) (old : Left) → n ≡ suc m → (length old.words == 0) ≡ true → behind_listens xs (first_listens n old) ≡ Ok (xs, old)
unfolding first_listens
listens_over xs n m old is none = rw (is, none) (ap (λ (t : List Listen). Ok (t, old)) (append-nil xs))

-- no more may come
pub listens_end : (xs : List Listen) (n : ℕ) (old : Left) → n ≡ 0 → behind_listens xs (first_listens n old) ≡ Ok (xs, old)
unfolding first_listens
listens_end xs n old is = rw is (ap (λ (t : List Listen). Ok (t, old)) (append-nil xs))

-- the fault of one is that of all
pub listens_err : (xs : List Listen) (whole : Result (List Listen × Left) WordFault) (n m : ℕ) (old : Left) (e : OrNoMemory WordFault) → whole ≡ behind_listens xs (first_listens n old) → n ≡ suc m → (length old.words == 0) ≡ false
    → StepsOrNoMemory (first_listen old) (Err e) → StepsOrNoMemory whole (Err e)
listens_err xs whole n m old (Fault f) so is some steps = so ∙ listens_fault xs n m old f is some steps
listens_err xs whole n m old NoMemory so is some steps = tt
