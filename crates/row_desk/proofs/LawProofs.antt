-- Why whatever the store answered has its mark.
use Rattle.std.proofs.Common.{◌≡◌, ◌∙◌, ◌++◌, ℕ, Bool, true, false, List, [], ◌∷◌, Option, None, Some, ap, arith, refl, subst, sym, not}
use Rattle.std.specs.Prelude.{◌<◌, ◌≤◌, ◌+◌, All, Contains, filter, get_or, length, slice_get, if◌then◌else◌}
use Rattle.std.proofs.lemmas.List.{get_or-append-add, length-append}
use Rattle.std.proofs.lemmas.List.Elements.{All-cons, All-contains, All-contains_itself, All-filter, All-nil, All-weaker, Contains-append_left, Contains-append_right}
use Rattle.std.proofs.lemmas.Option.{slice_get-get_or}
use Rattle.files_disk.specs.Telling.{Told}
use Rattle.domain_spec.specs.Types.{Answer, Ask}
use Rattle.def_keeper.specs.declared.mark.StoreMark.{StoreMark}
use Rattle.def_keeper.specs.Marks.{StoreHistory}
use Rattle.row_desk.specs.Laws.{HasMark, StoreAsksHaveMarks}
use Rattle.row_desk.specs.Served.{HasServed}
use Rattle.row_desk.specs.Stored.{AreStored, IsStored, answers_in, is_stored, is_tried, stored_in}
use Rattle.row_desk.specs.Views.{StorePass}

-- ---- lists
module _ {X : Type 0} where
  first_of : (x : X) (xs : List X) → Contains (x ∷ xs) x
  first_of x xs = Contains-append_left (x ∷ []) xs x (0, omega arith, refl)

  rest_of : (x y : X) (xs : List X) → Contains xs y → Contains (x ∷ xs) y
  rest_of x y xs has = Contains-append_right (x ∷ []) xs y has

  passes_here : (p : X → Bool) (x : X) (xs : List X) (b : Bool) → p x ≡ b → p x ≡ true → Contains (if b then x ∷ filter p xs else filter p xs) x
  passes_here p x xs true is e = first_of x (filter p xs)
  passes_here p x xs false is e = let no_way : false ≡ true = sym is ∙ e in cc

  passes_later : (p : X → Bool) (x y : X) (xs : List X) (b : Bool) → Contains (filter p xs) y → Contains (if b then x ∷ filter p xs else filter p xs) y
  passes_later p x y xs true has = rest_of x y (filter p xs) has
  passes_later p x y xs false has = has

  all_pass : (p : X → Bool) (xs : List X) → All (λ x. p x ≡ true → Contains (filter p xs) x) xs
  all_pass p [] = All-nil (λ x. p x ≡ true → Contains (filter p []) x)
  all_pass p (x ∷ xs) =
      All-cons (λ y. p y ≡ true → Contains (filter p (x ∷ xs)) y) x xs (λ e. passes_here p x xs (p x) refl e)
      (All-weaker (λ y. p y ≡ true → Contains (filter p xs) y) (λ y. p y ≡ true → Contains (filter p (x ∷ xs)) y) (λ y has e. passes_later p x y xs (p x) (has e)) xs (all_pass p xs))

  -- what passes the test is still there
  passes : (p : X → Bool) (xs : List X) (x : X) → Contains xs x → p x ≡ true → Contains (filter p xs) x
  passes p xs x has e = All-contains (λ y. p y ≡ true → Contains (filter p xs) y) xs x (all_pass p xs) has e

  -- what is left was there
  was_there : (p : X → Bool) (xs : List X) (x : X) → Contains (filter p xs) x → Contains xs x
  was_there p xs x has = All-contains (Contains xs) (filter p xs) x (All-filter p (Contains xs) xs (All-contains_itself xs)) has

  -- what is in the second of two lists
  stands_behind : (xs ys : List X) (x : X) (k : ℕ) → k < length ys → get_or ys k x ≡ x → slice_get (xs ++ ys) (length xs + k) ≡ Some x
  stands_behind xs ys x k lt is = slice_get-get_or (xs ++ ys) (length xs + k) x (omega (arith, lt, length-append xs ys)) ∙ ap Some (get_or-append-add xs ys k x ∙ is)

-- ---- marks
-- a mark that gives the answer, among these
abbrev pub HasOne : ℕ → StoreHistory → List (ℕ × StoreMark) → Ask × Answer → Type 0
HasOne number seen ms p = (m : ℕ × StoreMark) × Contains ms m × IsStored number seen p m

has_more : (number : ℕ) (seen : StoreHistory) (m : ℕ × StoreMark) (ms : List (ℕ × StoreMark)) (p : Ask × Answer) → HasOne number seen ms p → HasOne number seen (m ∷ ms) p
has_more number seen m ms p one = (one.0, rest_of m one.0 ms one.1, one.2)

have_marks : (number : ℕ) (seen : StoreHistory) (ps : List (Ask × Answer)) (ms : List (ℕ × StoreMark)) → AreStored number seen ps ms → All (HasOne number seen ms) ps
have_marks number seen [] [] it = All-nil (HasOne number seen [])
have_marks number seen [] (m ∷ ms) it = absurd it
have_marks number seen (p ∷ ps) [] it = absurd it
have_marks number seen (p ∷ ps) (m ∷ ms) it =
    All-cons (HasOne number seen (m ∷ ms)) p ps (m, first_of m ms, it.0)
    (All-weaker (HasOne number seen ms) (HasOne number seen (m ∷ ms)) (has_more number seen m ms) ps (have_marks number seen ps ms it.1))

among : (first now : StorePass) (asked : Ask × Answer) (more : List (ℕ × StoreMark)) (m : ℕ × StoreMark) → now.mine ≡ first.mine ++ more → Contains more m → IsStored first.number now.seen asked m
    → HasMark first now asked
among first now asked more m is has tells = record {
  at = length first.mine + has.0;
  mark = m;
  new = omega arith;
  stands = subst (λ (l : List (ℕ × StoreMark)). slice_get l (length first.mine + has.0) ≡ Some m) (sym is) (stands_behind first.mine more m has.0 has.1 has.2);
  tells = tells;
}

pub marks_there : {F : Type 0} (disk : F → Told) → StoreAsksHaveMarks disk
marks_there disk report first now asked served has stored =
    let here : Contains (stored_in report) asked = passes (λ (p : Ask × Answer). is_stored p.0) report asked has stored in
    let one : HasOne first.number now.seen (answers_in served.more) asked =
    All-contains (HasOne first.number now.seen (answers_in served.more)) (stored_in report) asked (have_marks first.number now.seen (stored_in report) (answers_in served.more) served.stored) here in
    among first now asked served.more one.0 served.goes.went.mine (was_there (λ (m : ℕ × StoreMark). not (is_tried m.1.action)) served.more one.0 one.1) one.2
