-- Lists that a loop goes through.
use Rattle.std.proofs.Common.{◌≡◌, ℕ, zero, suc, ◌+◌, ◌<◌, List, [], ◌∷◌, ◌++◌, length, map, take, drop, get_or, set, refl, sym, ap, ◌∙◌, subst, arith, add-one}
use Rattle.std.specs.List.{All, AllZip}
use Rattle.std.proofs.lemmas.List.{set_at, length-take-le, length-map, take_more, drop_more, map_push, append_assoc, get_or_at, get_or-map}

module _ {X Y : Type 0} where
  -- pairs one by one, and one more
  pub zip_push : (R : X → Y → Type 0) (xs : List X) (ys : List Y) (x : X) (y : Y) → AllZip R xs ys → R x y → AllZip R (xs ++ x ∷ []) (ys ++ y ∷ [])
  zip_push R [] [] x y all r = (r, tt)
  zip_push R [] (z ∷ ys) x y all r = absurd all
  zip_push R (z ∷ xs) [] x y all r = absurd all
  zip_push R (z ∷ xs) (w ∷ ys) x y all r = (all.0, zip_push R xs ys x y all.1 r)

  pub zip_length : (R : X → Y → Type 0) (xs : List X) (ys : List Y) → AllZip R xs ys → length xs ≡ length ys
  zip_length R [] [] all = refl
  zip_length R [] (z ∷ ys) all = absurd all
  zip_length R (z ∷ xs) [] all = absurd all
  zip_length R (z ∷ xs) (w ∷ ys) all = ap suc (zip_length R xs ys all.1)

module _ {X : Type 0} where
  -- what a loop that changes each value finds at its place, and what it leaves
  pub found_at : (f : X → X) (xs now : List X) (i : ℕ) (d : X) → now ≡ map f (take i xs) ++ drop i xs → i < length xs → get_or now i d ≡ get_or xs i d
  found_at f xs now i d is in' =
      let whole : now ≡ map f (take i xs) ++ get_or xs i d ∷ drop (i + 1) xs = is ∙ ap (λ (r : List X). map f (take i xs) ++ r) (drop_more xs i d in') in
      let at : length (map f (take i xs)) ≡ i = length-map (take i xs) f ∙ length-take-le i xs (omega arith) in
      ap (λ (l : List X). get_or l i d) whole ∙ get_or_at (map f (take i xs)) (get_or xs i d) (drop (i + 1) xs) d i at

  pub changed_at : (f : X → X) (xs now : List X) (i : ℕ) (d new : X) → now ≡ map f (take i xs) ++ drop i xs → i < length xs → new ≡ f (get_or xs i d) → set now i new ≡ map f (take (i + 1) xs) ++ drop (i + 1) xs
  changed_at f xs now i d new is in' by =
      let whole : now ≡ map f (take i xs) ++ get_or xs i d ∷ drop (i + 1) xs = is ∙ ap (λ (r : List X). map f (take i xs) ++ r) (drop_more xs i d in') in
      let at : length (map f (take i xs)) ≡ i = length-map (take i xs) f ∙ length-take-le i xs (omega arith) in
      let written : set now i new ≡ map f (take i xs) ++ new ∷ drop (i + 1) xs = ap (λ (l : List X). set l i new) whole ∙ set_at (map f (take i xs)) (get_or xs i d) (drop (i + 1) xs) new i at in
      let more : map f (take (i + 1) xs) ≡ map f (take i xs) ++ f (get_or xs i d) ∷ [] = ap (map f) (take_more xs i d in') ∙ map_push f (take i xs) (get_or xs i d) in
      written ∙ (ap (λ (x : X). map f (take i xs) ++ x ∷ drop (i + 1) xs) by
      ∙ (sym (append_assoc (map f (take i xs)) (f (get_or xs i d) ∷ []) (drop (i + 1) xs)) ∙ ap (λ (l : List X). l ++ drop (i + 1) xs) (sym more)))
