-- Addresses that are raised, and interfaces that are filled one by one.
use Rattle.std.proofs.Common.{◌≡◌, ℕ, zero, suc, ◌+◌, ◌-◌, ◌<◌, ◌≤◌, List, [], ◌∷◌, ◌++◌, length, get_or, set, take, drop, true, false, Option, Some, None, refl, sym, ◌∙◌, ap, subst, arith, append_assoc, append-nil}
use Rattle.std.proofs.lemmas.List.{drop_more, drop-set-lt, take_more_set, take-append-drop, drop_all, take_all}
use Rattle.std.proofs.lemmas.Option.{slice_get-get_or}
use Rattle.types_base.specs.declared.device_def.Interface.{Interface}
use Rattle.types_base.specs.declared.mac.Mac.{Mac}
use Rattle.text_spec.specs.Fill.{local_mac, is_taken, next_tail, raised, with_own, IsMacFilled, AreMacsFilled}
use Rattle.xml_fill.specs.Chosen.{IsChosenFor, IsChosenOf, IsMacChosen}

-- ---- raising
pub raised_none : (interfaces : List Interface) (tail : ℕ) → raised 0 interfaces tail ≡ tail
unfolding raised
raised_none interfaces tail = refl

pub raised_taken : (n : ℕ) (interfaces : List Interface) (tail : ℕ) → 0 < n → is_taken interfaces (local_mac tail) ≡ true
    → raised n interfaces tail ≡ raised (n - 1) interfaces (next_tail tail)
unfolding raised
raised_taken zero interfaces tail some taken = absurd (omega (arith, some))
raised_taken (suc n) interfaces tail some taken =
    let same : suc n - 1 ≡ n = omega arith in
    rw (taken, same)

pub raised_free : (n : ℕ) (interfaces : List Interface) (tail : ℕ) → is_taken interfaces (local_mac tail) ≡ false
    → raised n interfaces tail ≡ tail
unfolding raised
raised_free zero interfaces tail free = refl
raised_free (suc n) interfaces tail free = rw free

-- ---- filling
abbrev with_address : Interface → Option Mac → Interface
with_address i m = record i { mac = m }

filled_by : (words : List ℕ) (interfaces : List Interface) (x : Interface) (own : Option Mac) (mac : Mac) → x.mac ≡ own
    → IsChosenFor words interfaces own mac → IsMacFilled words interfaces x own (with_own x mac)
filled_by words interfaces x None mac e chosen = (chosen.0, ap (with_own x) chosen.1, chosen.2)
filled_by words interfaces x (Some own) mac e chosen =
    let back : Some mac ≡ x.mac = ap (λ m. Some m) chosen.0 ∙ sym e in
    (ap (with_address x) back, chosen.1)

-- however the interfaces from a place on are filled, of whichever words, all are then filled of the
-- words drawn so far and of those
abbrev pub IsFilledSoFar : List Interface → List ℕ → List Interface → ℕ → Type 0
IsFilledSoFar original drawn xs i =
    (words : List ℕ) (new : List Interface) → AreMacsFilled words (take i xs) (drop i xs) new
    → AreMacsFilled (drawn ++ words) [] original (take i xs ++ new)

module _ (original xs : List Interface) (i : ℕ) (d : Interface) (mac : Mac) (drawn first : List ℕ) (within : i < length xs)
    (chosen : IsMacChosen first xs i mac) where
  is_chosen : IsChosenFor first xs (get_or xs i d).mac mac
  is_chosen = subst (λ o. IsChosenOf first xs o mac) (slice_get-get_or xs i d within) chosen

  pub step : IsFilledSoFar original drawn xs i
      → IsFilledSoFar original (drawn ++ first) (set xs i (with_own (get_or xs i d) mac)) (i + 1)
  step so_far words new filled =
      let x = get_or xs i d in
      let j = with_own x mac in
      let front : take (i + 1) (set xs i j) ≡ take i xs ++ j ∷ [] = take_more_set xs i j within in
      let back : drop (i + 1) (set xs i j) ≡ drop (i + 1) xs = drop-set-lt (i + 1) xs i j (omega arith) in
      let left : drop i xs ≡ x ∷ drop (i + 1) xs = drop_more xs i d within in
      let whole : xs ≡ take i xs ++ x ∷ drop (i + 1) xs = sym (take-append-drop i xs) ∙ ap (λ ys. take i xs ++ ys) left in
      let one : IsMacFilled first (take i xs ++ x ∷ drop (i + 1) xs) x x.mac j =
      subst (λ ys. IsMacFilled first ys x x.mac j) whole (filled_by first xs x x.mac mac refl is_chosen) in
      let others : AreMacsFilled words (take i xs ++ j ∷ []) (drop (i + 1) xs) new =
      subst (λ ys. AreMacsFilled words ys (drop (i + 1) xs) new) front (subst (λ ys. AreMacsFilled words (take (i + 1) (set xs i j)) ys new) back filled) in
      let all : AreMacsFilled (first ++ words) (take i xs) (drop i xs) (j ∷ new) =
      subst (λ ys. AreMacsFilled (first ++ words) (take i xs) ys (j ∷ new)) (sym left) (first, words, one, others, refl) in
      let joined : take (i + 1) (set xs i j) ++ new ≡ take i xs ++ (j ∷ new) =
      ap (λ ys. ys ++ new) front ∙ append_assoc (take i xs) (j ∷ []) new in
      subst (λ ws. AreMacsFilled ws [] original (take (i + 1) (set xs i j) ++ new)) (sym (append_assoc drawn first words))
      (subst (AreMacsFilled (drawn ++ (first ++ words)) [] original) (sym joined) (so_far (first ++ words) (j ∷ new) all))

pub ended : (original xs : List Interface) (i : ℕ) (drawn : List ℕ) → length xs ≤ i → IsFilledSoFar original drawn xs i
    → AreMacsFilled drawn [] original xs
ended original xs i drawn past so_far =
    let none : drop i xs ≡ [] = drop_all i xs past in
    let whole : take i xs ++ [] ≡ xs = append-nil (take i xs) ∙ take_all i xs past in
    let last : AreMacsFilled [] (take i xs) (drop i xs) [] = subst (λ ys. AreMacsFilled [] (take i xs) ys []) (sym none) refl in
    subst (λ ws. AreMacsFilled ws [] original xs) (append-nil drawn)
    (subst (AreMacsFilled (drawn ++ []) [] original) whole (so_far [] [] last))
