-- The asks that are made along the answers are those of the definition, and there is room for them.
use Rattle.std.proofs.Common.{◌≡◌, ℕ, zero, suc, ◌+◌, ◌-◌, ◌<◌, ◌≤◌, List, [], ◌∷◌, ◌++◌, Bool, true, false, not, Option, None, Some, if◌then◌else◌, length, drop, take, map, slice_get, refl, sym, ap, ◌∙◌, arith, nat_lt}
use Rattle.std.specs.List.{position_or_len}
use Rattle.std.proofs.lemmas.Bool.Decides.{nat_tests}
use Rattle.std.proofs.Math.Numerals.{add-one}
use Rattle.std.proofs.Math.Seq.{drop-nil, take-nil}
use Rattle.std.proofs.lemmas.List.{length-append}
use Rattle.domain_spec.specs.Types.{Answer, Ask}
use Rattle.domain_spec.specs.Types.answer
use Rattle.domain_spec.specs.declared.planned.PlannedAsk.{PlannedAsk}
use Rattle.domain_spec.specs.Asks.{asks_left, asks_made, course, course_at, first_bad, first_bad_at, is_ok_answer, is_undone, undo_at}
use Rattle.core_rules.specs.declared.next.Next.TheVariants as next
use Rattle.core_rules.specs.Next.{is_ask, next_of}
use Rattle.core_plan.specs.Along.{Asked, answered, made_along, most_asks}
use Rattle.core_plan.specs.Starving.{GoesOn, next_in}

-- all asks, by the place of the first answer that is not Ok, and by that answer
abbrev course_by : List PlannedAsk → Option ℕ → Option Answer → List Ask
course_by plan None bad = map (λ p. p.ask) plan
course_by plan (Some k) bad = map (λ p. p.ask) (take (k + 1) plan) ++ undo_at (slice_get plan k) bad

-- the place after this one
abbrev pub further : Option ℕ → Option ℕ
further None = None
further (Some k) = Some (1 + k)

further_by : (n m : ℕ) (b : Bool) → nat_lt n m ≡ b → (if nat_lt (1 + n) (suc m) then Some (1 + n) else None) ≡ further (if b then Some n else None)
further_by n m true e = let f : nat_lt (1 + n) (suc m) ≡ true = grind (arith, nat_tests) in ap (λ (t : Bool). if t then Some (1 + n) else None) f
further_by n m false e = let f : nat_lt (1 + n) (suc m) ≡ false = grind (arith, nat_tests) in ap (λ (t : Bool). if t then Some (1 + n) else None) f

place_if : (a : Answer) (n m : ℕ) → is_ok_answer a ≡ true
    → (let first = (if not (not (is_ok_answer a)) then 1 + n else 0) in if nat_lt first (suc m) then Some first else None) ≡ further (if nat_lt n m then Some n else None)
place_if a n m e =
    ap (λ (t : Bool). let first = (if not (not t) then 1 + n else 0) in if nat_lt first (suc m) then Some first else None) e ∙ further_by n m (nat_lt n m) refl

-- after an answer Ok the first that is not Ok is one place further
pub bad_behind : (a : Answer) (answers : List Answer) → is_ok_answer a ≡ true → first_bad_at (a ∷ answers) ≡ further (first_bad_at answers)
bad_behind a answers e = place_if a (position_or_len (λ x. not (is_ok_answer x)) answers) (length answers) e

pub bad_first : (a : Answer) (answers : List Answer) → is_ok_answer a ≡ false → first_bad_at (a ∷ answers) ≡ Some 0
bad_first a answers e =
    let n : ℕ = position_or_len (λ x. not (is_ok_answer x)) answers in
    let lt : nat_lt 0 (suc (length answers)) ≡ true = grind (arith, nat_tests) in
    ap (λ (t : Bool). let first = (if not (not t) then 1 + n else 0) in if nat_lt first (suc (length answers)) then Some first else None) e
    ∙ ap (λ (t : Bool). if t then Some 0 else None) lt

more_taken : (k : ℕ) (p : PlannedAsk) (plan : List PlannedAsk) → take ((1 + k) + 1) (p ∷ plan) ≡ p ∷ take (k + 1) plan
more_taken k p plan = let e : (1 + k) + 1 ≡ suc (k + 1) = omega arith in ap (λ (n : ℕ). take n (p ∷ plan)) e

get_further : (k : ℕ) (p : PlannedAsk) (plan : List PlannedAsk) → slice_get (p ∷ plan) (1 + k) ≡ slice_get plan k
get_further k p plan = let e : 1 + k ≡ suc k = omega arith in ap (λ (n : ℕ). slice_get (p ∷ plan) n) e

-- the asks after the first, where that was done
behind : (p : PlannedAsk) (plan : List PlannedAsk) (o : Option ℕ) (bad : Option Answer)
    → course_by (p ∷ plan) (further o) bad ≡ p.ask ∷ course_by plan o bad
behind p plan None bad = refl
behind p plan (Some k) bad =
    ap (λ (ps : List PlannedAsk). map (λ x. x.ask) ps ++ undo_at (slice_get (p ∷ plan) (1 + k)) bad) (more_taken k p plan)
    ∙ ap (λ (x : Option PlannedAsk). p.ask ∷ (map (λ y. y.ask) (take (k + 1) plan) ++ undo_at x bad)) (get_further k p plan)

course_by_is : (plan : List PlannedAsk) (answers : List Answer) (o : Option ℕ) → course_at plan answers o ≡ course_by plan o (first_bad answers)
course_by_is plan answers None = refl
course_by_is plan answers (Some k) = refl

pub first_behind : (a : Answer) (answers : List Answer) → is_ok_answer a ≡ true → first_bad (a ∷ answers) ≡ first_bad answers
first_behind a answers e = ap (λ (t : Bool). if not t then Some a else first_bad answers) e

pub first_is : (a : Answer) (answers : List Answer) → is_ok_answer a ≡ false → first_bad (a ∷ answers) ≡ Some a
first_is a answers e = ap (λ (t : Bool). if not t then Some a else first_bad answers) e

-- the course of a plan along the answers
course_behind : (p : PlannedAsk) (plan : List PlannedAsk) (a : Answer) (answers : List Answer) → is_ok_answer a ≡ true → course (p ∷ plan) (a ∷ answers) ≡ p.ask ∷ course plan answers
course_behind p plan a answers e =
    course_by_is (p ∷ plan) (a ∷ answers) (first_bad_at (a ∷ answers))
    ∙ ap (λ (o : Option ℕ). course_by (p ∷ plan) o (first_bad (a ∷ answers))) (bad_behind a answers e)
    ∙ ap (λ (bad : Option Answer). course_by (p ∷ plan) (further (first_bad_at answers)) bad) (first_behind a answers e)
    ∙ behind p plan (first_bad_at answers) (first_bad answers)
    ∙ ap (λ (asks : List Ask). p.ask ∷ asks) (sym (course_by_is plan answers (first_bad_at answers)))

course_bad : (p : PlannedAsk) (plan : List PlannedAsk) (a : Answer) (answers : List Answer) → is_ok_answer a ≡ false → course (p ∷ plan) (a ∷ answers) ≡ p.ask ∷ (if is_undone a then p.undo else [])
course_bad p plan a answers e =
    course_by_is (p ∷ plan) (a ∷ answers) (first_bad_at (a ∷ answers))
    ∙ ap (λ (o : Option ℕ). course_by (p ∷ plan) o (first_bad (a ∷ answers))) (bad_first a answers e)
    ∙ ap (λ (bad : Option Answer). course_by (p ∷ plan) (Some 0) bad) (first_is a answers e)

no_course : (answers : List Answer) (o : Option ℕ) → course_at [] answers o ≡ []
no_course answers None = refl
no_course answers (Some k) = rw (take-nil (k + 1)) refl

nothing_left : (answers : List Answer) → next_of (asks_left [] answers) ≡ next.Finish
nothing_left answers = ap next_of (ap (λ (asks : List Ask). drop (length answers) asks) (no_course answers (first_bad_at answers)) ∙ drop-nil (length answers))

taken_if : (b : Bool) (n : ℕ) (asks : List Ask) → take n (if b then asks else []) ≡ (if b then take n asks else [])
taken_if true n asks = refl
taken_if false n asks = take-nil n

made_by : (b : Bool) (p : PlannedAsk) (plan : List PlannedAsk) (a : Answer) (answers : List Answer) → is_ok_answer a ≡ b → made_along plan answers ≡ asks_made plan answers
    → (if b then made_along plan answers else if is_undone a then take (length answers) p.undo else []) ≡ drop 1 (asks_made (p ∷ plan) (a ∷ answers))
made_by true p plan a answers e so = so ∙ sym (ap (λ (asks : List Ask). drop 1 (take (suc (length answers)) asks)) (course_behind p plan a answers e))
made_by false p plan a answers e so =
    sym (taken_if (is_undone a) (length answers) p.undo) ∙ sym (ap (λ (asks : List Ask). drop 1 (take (suc (length answers)) asks)) (course_bad p plan a answers e))

made_first : (b : Bool) (p : PlannedAsk) (plan : List PlannedAsk) (a : Answer) (answers : List Answer) → is_ok_answer a ≡ b
    → asks_made (p ∷ plan) (a ∷ answers) ≡ p.ask ∷ drop 1 (asks_made (p ∷ plan) (a ∷ answers))
made_first true p plan a answers e = rw (course_behind p plan a answers e) refl
made_first false p plan a answers e = rw (course_bad p plan a answers e) refl

-- the asks that are made along the answers are those of the definition
pub made_so : (plan : List PlannedAsk) (answers : List Answer) → made_along plan answers ≡ asks_made plan answers
made_so plan [] = refl
made_so [] (a ∷ answers) = sym (ap (λ (asks : List Ask). take (suc (length answers)) asks) (no_course (a ∷ answers) (first_bad_at (a ∷ answers))))
made_so (p ∷ plan) (a ∷ answers) =
    ap (λ (asks : List Ask). p.ask ∷ asks) (ap (λ (t : Bool). if t then made_along plan answers else if is_undone a then take (length answers) p.undo else []) refl ∙ made_by (is_ok_answer a) p plan a answers refl (made_so plan answers))
    ∙ sym (made_first (is_ok_answer a) p plan a answers refl)

-- there is room for each answer

short_undo : (b : Bool) (p : PlannedAsk) (plan : List PlannedAsk) → length (p.ask ∷ (if b then p.undo else [])) ≤ most_asks (p ∷ plan)
short_undo true p plan = omega arith
short_undo false p plan = omega arith

all_short : (plan : List PlannedAsk) → length (map (λ p. p.ask) plan) ≤ most_asks plan
all_short [] = omega arith
all_short (p ∷ plan) = let h : length (map (λ p. p.ask) plan) ≤ most_asks plan = all_short plan in omega (arith, h)

short_by : (b : Bool) (p : PlannedAsk) (plan : List PlannedAsk) (a : Answer) (answers : List Answer) → is_ok_answer a ≡ b → length (course plan answers) ≤ most_asks plan
    → length (course (p ∷ plan) (a ∷ answers)) ≤ most_asks (p ∷ plan)
short_by true p plan a answers e h = rw (course_behind p plan a answers e) (omega (arith, h))
short_by false p plan a answers e h = rw (course_bad p plan a answers e) (short_undo (is_undone a) p plan)

course_short : (plan : List PlannedAsk) (answers : List Answer) → length (course plan answers) ≤ most_asks plan
course_short plan [] = all_short plan
course_short [] (a ∷ answers) = rw (no_course (a ∷ answers) (first_bad_at (a ∷ answers))) (omega arith)
course_short (p ∷ plan) (a ∷ answers) = short_by (is_ok_answer a) p plan a answers refl (course_short plan answers)

has_more : (n : ℕ) (asks : List Ask) → is_ask (next_of (drop n asks)) ≡ true → n < length asks
has_more zero [] e = cc
has_more zero (a ∷ asks) e = omega arith
has_more (suc n) [] e = cc
has_more (suc n) (a ∷ asks) e = let h : n < length asks = has_more n asks e in omega (arith, h)

pub has_room : (plan : List PlannedAsk) (answers : List Answer) → is_ask (next_of (asks_left plan answers)) ≡ true → length answers < most_asks plan
has_room plan answers e =
    let h : length answers < length (course plan answers) = has_more (length answers) (course plan answers) e in
    let short : length (course plan answers) ≤ most_asks plan = course_short plan answers in
    omega (arith, h, short)

-- one more ask that is planned
pub most_more : (plan : List PlannedAsk) (p : PlannedAsk) → most_asks (plan ++ p ∷ []) ≡ most_asks plan + (1 + length p.undo)
most_more [] p = omega arith
most_more (q ∷ plan) p =
    let h : most_asks (plan ++ p ∷ []) ≡ most_asks plan + (1 + length p.undo) = most_more plan p in
    omega (arith, h)

-- one more answer, and the ask that it answers

take_more : (n : ℕ) (xs : List Ask) (a : Ask) → next_of (drop n xs) ≡ next.Ask a → take (suc n) xs ≡ take n xs ++ a ∷ []
take_more zero [] a e = cc
take_more zero (x ∷ xs) a e = let same : x ≡ a = cc in ap (λ (y : Ask). y ∷ []) same
take_more (suc n) [] a e = cc
take_more (suc n) (x ∷ xs) a e = ap (λ (ys : List Ask). x ∷ ys) (take_more n xs a e)

first_more : (ok undone : Bool) (p : PlannedAsk) (plan : List PlannedAsk) → p.ask ∷ (if ok then [] else if undone then take 0 p.undo else []) ≡ p.ask ∷ []
first_more true undone p plan = refl
first_more false true p plan = refl
first_more false false p plan = refl

none_dropped : (n : ℕ) → next_of (drop n []) ≡ next.Finish
none_dropped n = ap next_of (drop-nil n)

not_both : (a : Ask) → next.Finish ≡ next.Ask a → ⊥
not_both a e = cc

undone_more : (undone : Bool) (p : PlannedAsk) (answers : List Answer) (x : Answer) (a : Ask) → next_of (drop (length answers) (if undone then p.undo else [])) ≡ next.Ask a
    → (if undone then take (length (answers ++ x ∷ [])) p.undo else []) ≡ (if undone then take (length answers) p.undo else []) ++ a ∷ []
undone_more true p answers x a e =
    let more : length (answers ++ x ∷ []) ≡ suc (length answers) = length-append answers (x ∷ []) ∙ add-one (length answers) in
    ap (λ (n : ℕ). take n p.undo) more ∙ take_more (length answers) p.undo a e
undone_more false p answers x a e = absurd (not_both a (sym (none_dropped (length answers)) ∙ e))

behind_more : (ok : Bool) (p : PlannedAsk) (plan : List PlannedAsk) (b : Answer) (answers : List Answer) (x : Answer) (a : Ask) → is_ok_answer b ≡ ok
    → (next_of (asks_left plan answers) ≡ next.Ask a → made_along plan (answers ++ x ∷ []) ≡ made_along plan answers ++ a ∷ [])
    → next_of (asks_left (p ∷ plan) (b ∷ answers)) ≡ next.Ask a
    → p.ask ∷ (if ok then made_along plan (answers ++ x ∷ []) else if is_undone b then take (length (answers ++ x ∷ [])) p.undo else [])
    ≡ (p.ask ∷ (if ok then made_along plan answers else if is_undone b then take (length answers) p.undo else [])) ++ a ∷ []
behind_more true p plan b answers x a is more e =
    ap (λ (asks : List Ask). p.ask ∷ asks) (more (sym (ap (λ (asks : List Ask). next_of (drop (suc (length answers)) asks)) (course_behind p plan b answers is)) ∙ e))
behind_more false p plan b answers x a is more e =
    ap (λ (asks : List Ask). p.ask ∷ asks) (undone_more (is_undone b) p answers x a (sym (ap (λ (asks : List Ask). next_of (drop (suc (length answers)) asks)) (course_bad p plan b answers is)) ∙ e))

along_more : (plan : List PlannedAsk) (answers : List Answer) (x : Answer) (a : Ask) → next_of (asks_left plan answers) ≡ next.Ask a
    → made_along plan (answers ++ x ∷ []) ≡ made_along plan answers ++ a ∷ []
along_more [] answers x a e = absurd (not_both a (sym (nothing_left answers) ∙ e))
along_more (p ∷ plan) [] x a e = let same : p.ask ≡ a = cc in first_more (is_ok_answer x) (is_undone x) p plan ∙ ap (λ (y : Ask). y ∷ []) same
along_more (p ∷ plan) (b ∷ answers) x a e =
    behind_more (is_ok_answer b) p plan b answers x a refl (along_more plan answers x a) e

-- one more ask for which there was no memory
pub goes_on_more : (a : Asked) (x : Option Ask) (new : Asked) → is_ask (next_in a) ≡ true → GoesOn (answered a answer.NoMemory) x new → GoesOn a x new
goes_on_more a x new waits h = record { count = suc h.count; asks = (waits, h.asks); starved_so = h.starved_so; is_next = h.is_next }

-- the asks that are made where one more answer comes
pub made_more : (plan : List PlannedAsk) (answers : List Answer) (x : Answer) (a : Ask) → next_of (asks_left plan answers) ≡ next.Ask a
    → asks_made plan (answers ++ x ∷ []) ≡ asks_made plan answers ++ a ∷ []
made_more plan answers x a e =
    sym (made_so plan (answers ++ x ∷ [])) ∙ along_more plan answers x a e ∙ ap (λ (asks : List Ask). asks ++ a ∷ []) (made_so plan answers)
