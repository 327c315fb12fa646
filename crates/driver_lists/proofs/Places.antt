-- Lists of which one element is another now.
use Rattle.std.proofs.Common.{◌≡◌, ℕ, zero, suc, List, [], ◌∷◌, ◌++◌, length, map, get_or, slice_get, Some, refl, ap, ◌∙◌, subst, arith}
use Rattle.std.specs.List.{All}
use Rattle.std.proofs.lemmas.List.Elements.{All-cons}

module _ {X : Type 0} where
  -- what holds of each holds of each still
  pub all_at : (P : X → Type 0) (first : List X) (old new : X) (rest : List X) → All P (first ++ old ∷ rest) → P new → All P (first ++ new ∷ rest)
  all_at P [] old new rest all p = All-cons P new rest p (λ k d lt. all (suc k) d (omega (arith, lt)))
  all_at P (x ∷ first) old new rest all p =
      All-cons P x (first ++ new ∷ rest) (all zero x (omega arith)) (all_at P first old new rest (λ k d lt. all (suc k) d (omega (arith, lt))) p)

  -- it holds of the one
  pub one_of : (P : X → Type 0) (first : List X) (old : X) (rest : List X) → All P (first ++ old ∷ rest) → P old
  one_of P [] old rest all = all zero old (omega arith)
  one_of P (x ∷ first) old rest all = one_of P first old rest (λ k d lt. all (suc k) d (omega (arith, lt)))

module _ {X Y : Type 0} (f : X → Y) where
  pub same_map : (first : List X) (old new : X) (rest : List X) → f new ≡ f old → map f (first ++ new ∷ rest) ≡ map f (first ++ old ∷ rest)
  same_map [] old new rest same = ap (λ (y : Y). y ∷ map f rest) same
  same_map (x ∷ first) old new rest same = ap (λ (ys : List Y). f x ∷ ys) (same_map first old new rest same)

  stands_there : (first : List X) (one : X) (rest : List X) → slice_get (map f (first ++ one ∷ rest)) (length first) ≡ Some (f one)
  stands_there [] one rest = refl
  stands_there (x ∷ first) one rest = stands_there first one rest

  pub stands_in : (first : List X) (one : X) (rest : List X) (slot : ℕ) → length first ≡ slot → slice_get (map f (first ++ one ∷ rest)) slot ≡ Some (f one)
  stands_in first one rest slot at = subst (λ (n : ℕ). slice_get (map f (first ++ one ∷ rest)) n ≡ Some (f one)) at (stands_there first one rest)

  -- what is there in the other list
  pub value_in : (first : List X) (one : X) (rest : List X) (slot : ℕ) (ys : List Y) (d : Y) → length first ≡ slot → map f (first ++ one ∷ rest) ≡ ys → f one ≡ get_or ys slot d
  value_in [] one rest slot ys d at is = subst (λ (n : ℕ). f one ≡ get_or ys n d) at (ap (λ (l : List Y). get_or l 0 d) is)
  value_in (x ∷ first) one rest slot ys d at is =
      subst (λ (n : ℕ). f one ≡ get_or ys n d) at (there first refl ∙ ap (λ (l : List Y). get_or l (length (x ∷ first)) d) is)
    where
      there : (xs : List X) → length xs ≡ length xs → f one ≡ get_or (f x ∷ map f (xs ++ one ∷ rest)) (suc (length xs)) d
      there [] e = refl
      there (z ∷ xs) e = there xs refl
