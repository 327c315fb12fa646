-- The last mark that a pass left, and where it is.
use Rattle.std.proofs.Common.{◌≡◌, ℕ, ◌<◌, ◌+◌, ◌-◌, ◌++◌, List, [], ◌∷◌, length, Some, slice_get, refl, ap, ◌∙◌, length-append, le_refl, arith}
use Rattle.outcome_spec.specs.Histories.{front_of}
use Rattle.outcome_spec.specs.Marks.{HasLeft, StandsAt}
use Rattle.outcome_spec.specs.Rows.{Known}

-- what comes after a list
get_behind : {A : Type 0} (xs : List A) (x : A) → slice_get (xs ++ x ∷ []) (length xs) ≡ Some x
get_behind [] x = refl
get_behind (y ∷ xs) x = get_behind xs x

get_last : {A : Type 0} (xs all : List A) (x : A) → all ≡ xs ++ x ∷ [] → slice_get all (length all - 1) ≡ Some x
get_last {A = A} xs all x e =
    let n : length all ≡ length xs + 1 = ap (λ (l : List A). length l) e ∙ length-append xs (x ∷ []) in
    let k : length all - 1 ≡ length xs = omega arith in
    ap (λ (i : ℕ). slice_get all i) k ∙ (ap (λ (l : List A). slice_get l (length xs)) e ∙ get_behind xs x)

some_there : {A : Type 0} (xs all : List A) (x : A) → all ≡ xs ++ x ∷ [] → 0 < length all
some_there {A = A} xs all x e =
    let n : length all ≡ length xs + 1 = ap (λ (l : List A). length l) e ∙ length-append xs (x ∷ []) in
    omega arith

module _ {B M : Type 0} where
  -- a pass left one mark
  pub left_one : (before after : Known B M) (c : ℕ) (m : M) → after.mine ≡ before.mine ++ (c, m) ∷ [] → HasLeft before after m
  left_one before after c m mine = record {
    at = length before.mine;
    chapter = c;
    new = le_refl (length before.mine);
    mark = ap (λ (l : List (ℕ × M)). slice_get l (length before.mine)) mine ∙ get_behind before.mine (c, m);
  }

  -- which is the last that it has seen
  pub stands_last : (before after : Known B M) (earlier : List M) (m : M) → after.mine ≡ before.mine ++ (after.seen.chapter, m) ∷ [] → after.seen.marks ≡ earlier ++ m ∷ [] → StandsAt before after (front_of after.seen) m
  stands_last before after earlier m mine seen = record {
    left = record {
      at = length before.mine;
      chapter = after.seen.chapter;
      new = le_refl (length before.mine);
      mark = ap (λ (l : List (ℕ × M)). slice_get l (length before.mine)) mine ∙ get_behind before.mine (after.seen.chapter, m);
    };
    chapter = refl;
    so_far = le_refl after.seen.chapter;
    some = some_there earlier after.seen.marks m seen;
    place = λ same. get_last earlier after.seen.marks m seen;
  }
