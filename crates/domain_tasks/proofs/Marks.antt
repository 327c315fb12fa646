-- Marks that a pass left, and where the last one is.
use Rattle.std.proofs.Common.{◌≡◌, ℕ, ◌<◌, ◌≤◌, ◌+◌, ◌-◌, ◌++◌, List, [], ◌∷◌, length, Some, slice_get, refl, sym, ap, ◌∙◌, subst, append_assoc, length-append, arith}
use Rattle.virt_types.specs.Below.types_base.declared.caller.Front.{Front}
use Rattle.outcome_spec.specs.Marks.{HasLeft, StandsAt}
use Rattle.outcome_spec.specs.Rows.{Known}

-- what comes after a list

get_behind : {A : Type 0} (xs ys : List A) (x : A) → slice_get (xs ++ x ∷ ys) (length xs) ≡ Some x
get_behind [] ys x = refl
get_behind (z ∷ xs) ys x = get_behind xs ys x

get_among : {A : Type 0} (bs xs ys : List A) (x : A) → slice_get (bs ++ (xs ++ x ∷ ys)) (length bs + length xs) ≡ Some x
get_among {A = A} bs xs ys x =
    ap (λ (l : List A). slice_get l (length bs + length xs)) (sym (append_assoc bs xs (x ∷ ys)))
    ∙ (ap (λ (k : ℕ). slice_get ((bs ++ xs) ++ x ∷ ys) k) (sym (length-append bs xs)) ∙ get_behind (bs ++ xs) ys x)

module _ {B M : Type 0} where
  mark_among : (before after : Known B M) (xs ys : List (ℕ × M)) (c : ℕ) (m : M) → after.mine ≡ before.mine ++ (xs ++ (c, m) ∷ ys) → slice_get after.mine (length before.mine + length xs) ≡ Some (c, m)
  mark_among before after xs ys c m mine = ap (λ (l : List (ℕ × M)). slice_get l (length before.mine + length xs)) mine ∙ get_among before.mine xs ys (c, m)

  -- a mark among those that the pass left
  pub left_among : (before after : Known B M) (xs ys : List (ℕ × M)) (c : ℕ) (m : M) → after.mine ≡ before.mine ++ (xs ++ (c, m) ∷ ys) → HasLeft before after m
  left_among before after xs ys c m mine = record { at = length before.mine + length xs; chapter = c; new = omega arith; mark = mark_among before after xs ys c m mine }

  -- the last of them, where the pass has seen it
  pub stands_last : (before after : Known B M) (front : Front) (xs : List (ℕ × M)) (c : ℕ) (m : M) → after.mine ≡ before.mine ++ (xs ++ (c, m) ∷ []) → front.chapter ≡ c → c ≤ after.seen.chapter → 0 < front.marks
      → (c ≡ after.seen.chapter → slice_get after.seen.marks (front.marks - 1) ≡ Some m) → StandsAt before after front m
  stands_last before after front xs c m mine at so_far some there = record {
    left = record { at = length before.mine + length xs; chapter = c; new = omega arith; mark = mark_among before after xs [] c m mine };
    chapter = sym at;
    so_far = subst (λ (k : ℕ). k ≤ after.seen.chapter) (sym at) so_far;
    some = some;
    place = λ e. there (sym at ∙ e);
  }
