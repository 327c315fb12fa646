-- Words, names and fronts that were written are read.
use Rattle.std.proofs.Common.{◌≡◌, ℕ, ◌+◌, ◌<◌, List, [], ◌∷◌, ◌++◌, length, Bool, true, false, cond, Ok, refl, ◌∙◌, ap, ap₂, arith, eq-eqb, length-append}
use Rattle.std.specs.Prelude.{nat_lt}
use Rattle.std.specs.List.{prefix_len, AllByRecursion}
use Rattle.std.proofs.lemmas.List.{take_at, drop_at}
use Rattle.std.proofs.lemmas.Bool.Decides.{nat_tests}
use Rattle.text_spec.specs.declared.fault.Flaw.{Flaw}
use Rattle.text_spec.specs.Character.{is_name_char, is_blank, after_blanks}
use Rattle.text_spec.specs.Reading.{expect}
use Rattle.text_spec.specs.Name.{front, name_at}
use Rattle.text_spec.specs.Writable.{IsName}

pub expect_word : (told : Flaw) (w rest : List ℕ) → expect told w (w ++ rest) ≡ Ok rest
unfolding expect
expect_word told [] rest = refl
expect_word told (c ∷ w) rest = rw (eq-eqb c c refl) (expect_word told w rest)

pub prefix_back : (p : ℕ → Bool) (xs : List ℕ) (c : ℕ) (rest : List ℕ) → AllByRecursion (λ x. p x ≡ true) xs → p c ≡ false
    → prefix_len p (xs ++ c ∷ rest) ≡ length xs
prefix_back p [] c rest all stop = ap (λ b. cond b (1 + prefix_len p rest) 0) stop
prefix_back p (x ∷ xs) c rest all stop =
    ap (λ b. cond b (1 + prefix_len p (xs ++ c ∷ rest)) 0) all.0 ∙ omega (arith, prefix_back p xs c rest all.1 stop)

is_less : (a b : ℕ) → a < b → nat_lt a b ≡ true
is_less a b h = grind (arith, nat_tests)

front_back : (xs : List ℕ) (c : ℕ) (rest : List ℕ) → front (length xs) (xs ++ c ∷ rest) ≡ Ok (xs, c ∷ rest)
front_back xs c rest =
    let more : nat_lt (length xs) (length (xs ++ c ∷ rest)) ≡ true = is_less _ _ (omega (arith, length-append xs (c ∷ rest))) in
    rw more (ap₂ (λ a b. Ok (a, b)) (take_at xs (c ∷ rest) (length xs) refl) (drop_at xs (c ∷ rest) (length xs) refl))

pub name_back : (told : Flaw) (n : List ℕ) (c : ℕ) (rest : List ℕ) → IsName n → is_name_char c ≡ false
    → name_at told (n ++ c ∷ rest) ≡ Ok (n, c ∷ rest)
unfolding name_at
name_back told [] c rest is stop = absurd is
name_back told (x ∷ n) c rest is stop =
    rw (is.0, prefix_back is_name_char (x ∷ n) c rest is.1 stop) (front_back (x ∷ n) c rest)

pub no_blanks : (c : ℕ) (cs : List ℕ) → is_blank c ≡ false → after_blanks (c ∷ cs) ≡ c ∷ cs
unfolding after_blanks
no_blanks c cs e = rw e
