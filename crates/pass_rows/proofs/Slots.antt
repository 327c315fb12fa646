-- What is taken out of a slot, and put back.
use Rattle.std.proofs.Common.{◌≡◌, ℕ, suc, ◌+◌, ◌-◌, ◌<◌, ◌≤◌, List, [], ◌∷◌, ◌++◌, length, take, drop, get_or, set, refl, sym, ap, ◌∙◌, subst, arith, add-one}
use Rattle.std.specs.List.{swap, swap_remove}
use Rattle.std.proofs.lemmas.List.{append_assoc, append-nil, length-append, take_at, drop_at, drop-drop, take_all, take_more, drop_more, drop_all, take-append-drop, set_split, set_at, get_or_at, get_or_push, get_or-append-add, length-take-le, length-drop, set-get_or, set-append_left}
use Rattle.std.proofs.lemmas.List.Edits.{swap_is}
use Rattle.std.proofs.Math.Seq.{take-append-add}

module _ {X : Type 0} where
  front_and_last : (y : X) (s : List X) (d : X) → y ∷ s ≡ take (length s) (y ∷ s) ++ get_or (y ∷ s) (length s) d ∷ []
  front_and_last y s d = sym (take_all (length s + 1) (y ∷ s) (omega arith)) ∙ take_more (y ∷ s) (length s) d (omega arith)

  -- of a list that ends here
  ends_here : (a : List X) (i : ℕ) → length a ≡ i → (take i a ≡ a) × (drop (i + 1) a ++ take 1 (drop i a) ≡ [])
  ends_here a i la = (take_all i a (omega arith), (λ j. drop_all (i + 1) a (omega arith) j ++ take 1 (drop_all i a (omega arith) j)))

  -- of a list that goes on
  goes_on : (a u : List X) (i : ℕ) (l : X) → length a ≡ i → (take i (a ++ l ∷ u) ≡ a) × (drop (i + 1) (a ++ l ∷ u) ++ take 1 (drop i (a ++ l ∷ u)) ≡ u ++ l ∷ [])
  goes_on a u i l la =
      let here : drop i (a ++ l ∷ u) ≡ l ∷ u = drop_at a (l ∷ u) i la in
      let next : drop (i + 1) (a ++ l ∷ u) ≡ u = sym (drop-drop 1 i (a ++ l ∷ u)) ∙ ap (drop 1) here in
      (take_at a (l ∷ u) i la, (λ j. next j ++ take 1 (here j)))

  -- the list without the one in a slot, whose place the last one took
  without : List X → List X → X → List X → Type 0
  without a t x rest = a ++ x ∷ t ≡ take (length a) rest ++ x ∷ (drop (length a + 1) rest ++ take 1 (drop (length a) rest))

  taken_by : (a t rest : List X) (x l : X) → rest ≡ take (length a + length t) (a ++ l ∷ t) → l ≡ get_or (a ++ x ∷ t) (length a + length t) x → without a t x rest
  unfolding without
  taken_by a [] rest x l is at =
      let all : rest ≡ a = is ∙ (take-append-add a (l ∷ []) 0 ∙ append-nil a) in
      let ends = ends_here a (length a) refl in
      subst (λ (r : List X). a ++ x ∷ [] ≡ take (length a) r ++ x ∷ (drop (length a + 1) r ++ take 1 (drop (length a) r))) (sym all)
      (λ j. sym ends.0 j ++ x ∷ sym ends.1 j)
  taken_by a (y ∷ s) rest x l is at =
      let u : List X = take (length s) (y ∷ s) in
      let all : rest ≡ a ++ l ∷ u = is ∙ take-append-add a (l ∷ y ∷ s) (length (y ∷ s)) in
      let last : l ≡ get_or (y ∷ s) (length s) x = at ∙ get_or-append-add a (x ∷ y ∷ s) (length (y ∷ s)) x in
      let on = goes_on a u (length a) l refl in
      let tail : y ∷ s ≡ u ++ l ∷ [] = front_and_last y s x ∙ ap (λ (z : X). u ++ z ∷ []) (sym last) in
      subst (λ (r : List X). a ++ x ∷ y ∷ s ≡ take (length a) r ++ x ∷ (drop (length a + 1) r ++ take 1 (drop (length a) r))) (sym all)
      (λ j. sym on.0 j ++ x ∷ (tail ∙ sym on.1) j)

  pub taken : (xs rest : List X) (i : ℕ) (x given : X) → i < length xs → x ≡ get_or xs i x → rest ≡ swap_remove xs i x → given ≡ x → xs ≡ take i rest ++ given ∷ (drop (i + 1) rest ++ take 1 (drop i rest))
  unfolding without
  taken xs rest i x given in' at is same =
      let a : List X = take i xs in
      let t : List X = drop (i + 1) xs in
      let l : X = get_or xs (length xs - 1) x in
      let la : length a ≡ i = length-take-le i xs (omega arith) in
      let lt : length t ≡ length xs - (i + 1) = length-drop (i + 1) xs in
      let count : length xs - 1 ≡ length a + length t = omega arith in
      let whole : xs ≡ a ++ x ∷ t = sym (take-append-drop i xs) ∙ (ap (λ (r : List X). a ++ r) (drop_more xs i x in') ∙ ap (λ (z : X). a ++ z ∷ t) (sym at)) in
      let put : set xs i l ≡ a ++ l ∷ t = set_split xs i l in' ∙ ap (λ (n : ℕ). a ++ l ∷ drop n xs) (sym (add-one i)) in
      let left : rest ≡ take (length a + length t) (a ++ l ∷ t) = is ∙ λ j. take (count j) (put j) in
      let last : l ≡ get_or (a ++ x ∷ t) (length a + length t) x = λ j. get_or (whole j) (count j) x in
      let all : a ++ x ∷ t ≡ take (length a) rest ++ x ∷ (drop (length a + 1) rest ++ take 1 (drop (length a) rest)) = taken_by a t rest x l left last in
      whole ∙ (all ∙ λ j. take (la j) rest ++ sym same j ∷ (drop (la j + 1) rest ++ take 1 (drop (la j) rest)))

  -- a value is put after the others, and changes places with the one in the slot
  put_by : (a m : List X) (y new : X) → set (set ((a ++ y ∷ m) ++ new ∷ []) (length a) new) (length (a ++ y ∷ m)) y ≡ a ++ new ∷ (m ++ y ∷ [])
  put_by a m y new =
      let flat : (a ++ y ∷ m) ++ new ∷ [] ≡ a ++ y ∷ (m ++ new ∷ []) = append_assoc a (y ∷ m) (new ∷ []) in
      let one : set ((a ++ y ∷ m) ++ new ∷ []) (length a) new ≡ a ++ new ∷ (m ++ new ∷ []) = ap (λ (r : List X). set r (length a) new) flat ∙ set_at a y (m ++ new ∷ []) new (length a) refl in
      let again : a ++ new ∷ (m ++ new ∷ []) ≡ (a ++ new ∷ m) ++ new ∷ [] = sym (append_assoc a (new ∷ m) (new ∷ [])) in
      let long : length (a ++ new ∷ m) ≡ length (a ++ y ∷ m) = length-append a (new ∷ m) ∙ sym (length-append a (y ∷ m)) in
      let two : set ((a ++ new ∷ m) ++ new ∷ []) (length (a ++ y ∷ m)) y ≡ (a ++ new ∷ m) ++ y ∷ [] = set_at (a ++ new ∷ m) new [] y (length (a ++ y ∷ m)) long in
      ap (λ (r : List X). set r (length (a ++ y ∷ m)) y) (one ∙ again) ∙ (two ∙ append_assoc a (new ∷ m) (y ∷ []))

  swapped : (rest : List X) (i : ℕ) (new : X) → i ≤ length rest → swap (rest ++ new ∷ []) i (length rest) ≡ set (set (rest ++ new ∷ []) i new) (length rest) (get_or (rest ++ new ∷ []) i new)
  swapped rest i new in' =
      let long : length (rest ++ new ∷ []) ≡ length rest + 1 = length-append rest (new ∷ []) in
      let last : get_or (rest ++ new ∷ []) (length rest) new ≡ new = get_or_push rest new new (length rest) refl in
      sym (swap_is (rest ++ new ∷ []) i (length rest) new (omega arith) (omega arith)) ∙ ap (λ (z : X). set (set (rest ++ new ∷ []) i z) (length rest) (get_or (rest ++ new ∷ []) i new)) last

  put_at : (rest : List X) (i : ℕ) (new : X) (tail : List X) → i ≤ length rest → drop i rest ≡ tail → swap (rest ++ new ∷ []) i (length rest) ≡ take i rest ++ new ∷ (drop (i + 1) rest ++ take 1 (drop i rest))
  put_at rest i new [] in' is =
      let none : length (drop i rest) ≡ 0 = ap length is in
      let at : length rest ≡ i = omega (arith, none, length-drop i rest) in
      let ends = ends_here rest i at in
      let same : get_or (rest ++ new ∷ []) i new ≡ new = get_or_push rest new new i at in
      let one : set (rest ++ new ∷ []) i new ≡ rest ++ new ∷ [] = set_at rest new [] new i at in
      let two : set (rest ++ new ∷ []) (length rest) new ≡ rest ++ new ∷ [] = set_at rest new [] new (length rest) refl in
      swapped rest i new in' ∙ ((λ j. set (one j) (length rest) (same j)) ∙ (two ∙ λ j. sym ends.0 j ++ new ∷ sym ends.1 j))
  put_at rest i new (y ∷ m) in' is =
      let a : List X = take i rest in
      let la : length a ≡ i = length-take-le i rest in' in
      let whole : rest ≡ a ++ y ∷ m = sym (take-append-drop i rest) ∙ ap (λ (r : List X). a ++ r) is in
      let next : drop (i + 1) rest ≡ m = sym (drop-drop 1 i rest) ∙ ap (drop 1) is in
      let here : get_or (rest ++ new ∷ []) i new ≡ y = ap (λ (r : List X). get_or (r ++ new ∷ []) i new) whole ∙ (ap (λ (r : List X). get_or r i new) (append_assoc a (y ∷ m) (new ∷ [])) ∙ get_or_at a y (m ++ new ∷ []) new i la) in
      let put : set (set ((a ++ y ∷ m) ++ new ∷ []) (length a) new) (length (a ++ y ∷ m)) y ≡ a ++ new ∷ (m ++ y ∷ []) = put_by a m y new in
      swapped rest i new in' ∙ ((λ j. set (set (whole j ++ new ∷ []) (sym la j) new) (length (whole j)) (here j)) ∙ (put ∙ λ j. a ++ new ∷ (sym next j ++ take 1 (sym is j))))

  pub put_back : (old now : List X) (rest : List X) (i : ℕ) (new given : X) → i ≤ length rest → old ≡ rest ++ new ∷ [] → now ≡ swap old i (length rest) → new ≡ given → now ≡ take i rest ++ given ∷ (drop (i + 1) rest ++ take 1 (drop i rest))
  put_back old now rest i new given in' pushed is same =
      is ∙ (ap (λ (r : List X). swap r i (length rest)) pushed ∙ (put_at rest i new (drop i rest) in' refl ∙ ap (λ (z : X). take i rest ++ z ∷ (drop (i + 1) rest ++ take 1 (drop i rest))) same))
