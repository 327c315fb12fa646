-- What a phase was answered that makes the guest: where each answer is Ok, the last one is that of its last ask.
use Rattle.std.proofs.Common.{◌≡◌, ℕ, zero, suc, ◌+◌, List, [], ◌∷◌, ◌++◌, map, length, take, drop, replicate, Bool, true, false, not, ◌||◌, Option, None, Some, if◌then◌else◌, refl, sym, ap, ◌∙◌, subst, arith, nat_lt}
use Rattle.std.specs.List.{list_any, position_or_len}
use Rattle.std.proofs.lemmas.Bool.Decides.{nat_tests}
use Rattle.domain_spec.specs.Types.{Answer, Ask}
use Rattle.domain_spec.specs.Types.answer
use Rattle.domain_spec.specs.Asks.{asks_left, asks_made, course, course_at, first_bad, first_bad_at, is_ended_answer, is_lost_answer, is_ok_answer, is_undone, undone_by}

-- answers that are all Ok

further : Option ℕ → Option ℕ
further None = None
further (Some k) = Some (1 + k)

no_further : (n m : ℕ) (b : Bool) → nat_lt n m ≡ b → (if b then Some n else None) ≡ None → (if nat_lt (1 + n) (suc m) then Some (1 + n) else None) ≡ None
no_further n m true e none = cc
no_further n m false e none = let f : nat_lt (1 + n) (suc m) ≡ false = grind (arith, nat_tests) in ap (λ (t : Bool). if t then Some (1 + n) else None) f

no_bad_behind : (a : Answer) (answers : List Answer) → is_ok_answer a ≡ true → first_bad_at answers ≡ None → first_bad_at (a ∷ answers) ≡ None
no_bad_behind a answers e none =
    let n : ℕ = position_or_len (λ x. not (is_ok_answer x)) answers in
    ap (λ (t : Bool). let first = (if not (not t) then 1 + n else 0) in if nat_lt first (suc (length answers)) then Some first else None) e
    ∙ no_further n (length answers) (nat_lt n (length answers)) refl none

first_behind : (a : Answer) (answers : List Answer) → is_ok_answer a ≡ true → first_bad (a ∷ answers) ≡ first_bad answers
first_behind a answers e = ap (λ (t : Bool). if not t then Some a else first_bad answers) e

ok_first : (b : Bool) (a : Answer) (answers : List Answer) → is_ok_answer a ≡ b → first_bad (a ∷ answers) ≡ None → is_ok_answer a ≡ true
ok_first true a answers e none = e
ok_first false a answers e none = let f : first_bad (a ∷ answers) ≡ Some a = ap (λ (t : Bool). if not t then Some a else first_bad answers) e in cc

pub ok_head : (a : Answer) (answers : List Answer) → first_bad (a ∷ answers) ≡ None → is_ok_answer a ≡ true
ok_head a answers none = ok_first (is_ok_answer a) a answers refl none

pub ok_tail : (a : Answer) (answers : List Answer) → first_bad (a ∷ answers) ≡ None → first_bad answers ≡ None
ok_tail a answers none = sym (first_behind a answers (ok_head a answers none)) ∙ none

no_place : (answers : List Answer) → first_bad answers ≡ None → first_bad_at answers ≡ None
no_place [] none = refl
no_place (a ∷ answers) none = no_bad_behind a answers (ok_head a answers none) (no_place answers (ok_tail a answers none))

pub ok_before : (xs ys : List Answer) → first_bad (xs ++ ys) ≡ None → first_bad xs ≡ None
ok_before [] ys none = refl
ok_before (a ∷ xs) ys none = first_behind a xs (ok_head a (xs ++ ys) none) ∙ ok_before xs ys (ok_tail a (xs ++ ys) none)

pub ok_after : (xs ys : List Answer) → first_bad (xs ++ ys) ≡ None → first_bad ys ≡ None
ok_after [] ys none = none
ok_after (a ∷ xs) ys none = ok_after xs ys (ok_tail a (xs ++ ys) none)

pub no_memory_none : (more : ℕ) → first_bad (replicate more answer.NoMemory) ≡ None → replicate more answer.NoMemory ≡ []
no_memory_none zero none = refl
no_memory_none (suc more) none = cc

-- the first answer that is not Ok is one after which what was done is undone, but for an end and a loss

other_bad : (a : Answer) → is_ok_answer a ≡ false → is_ended_answer a ≡ false → is_lost_answer a ≡ false → is_undone a ≡ true
other_bad (answer.Ok v) bad ended lost = cc
other_bad (answer.Ended why) bad ended lost = cc
other_bad answer.Lost bad ended lost = cc
other_bad (answer.Refused class) bad ended lost = refl
other_bad answer.Device bad ended lost = refl
other_bad answer.NoMemory bad ended lost = refl

none_first : (p : Answer → Bool) (b : Bool) (a : Answer) (answers : List Answer) → p a ≡ b → list_any p (a ∷ answers) ≡ false → p a ≡ false
none_first p true a answers e none = let f : list_any p (a ∷ answers) ≡ true = ap (λ (t : Bool). t || list_any p answers) e in cc
none_first p false a answers e none = e

none_behind : (p : Answer → Bool) (a : Answer) (answers : List Answer) → p a ≡ false → list_any p (a ∷ answers) ≡ false → list_any p answers ≡ false
none_behind p a answers e none = sym (ap (λ (t : Bool). t || list_any p answers) e) ∙ none

undone_by_it : (b : Bool) (a bad : Answer) (answers : List Answer) → is_ok_answer a ≡ b → first_bad (a ∷ answers) ≡ Some bad → is_ended_answer a ≡ false → is_lost_answer a ≡ false
    → (first_bad answers ≡ Some bad → is_undone bad ≡ true) → is_undone bad ≡ true
undone_by_it true a bad answers e is ended lost rest = rest (sym (first_behind a answers e) ∙ is)
undone_by_it false a bad answers e is ended lost rest =
    let f : first_bad (a ∷ answers) ≡ Some a = ap (λ (t : Bool). if not t then Some a else first_bad answers) e in
    let same : a ≡ bad = cc in
    subst (λ (x : Answer). is_undone x ≡ true) same (other_bad a e ended lost)

pub bad_is_undone : (answers : List Answer) (bad : Answer) → first_bad answers ≡ Some bad → list_any is_ended_answer answers ≡ false → list_any is_lost_answer answers ≡ false → is_undone bad ≡ true
bad_is_undone [] bad is ended lost = cc
bad_is_undone (a ∷ answers) bad is ended lost =
    let e : is_ended_answer a ≡ false = none_first is_ended_answer (is_ended_answer a) a answers refl ended in
    let l : is_lost_answer a ≡ false = none_first is_lost_answer (is_lost_answer a) a answers refl lost in
    undone_by_it (is_ok_answer a) a bad answers refl is e l
    (λ rest. bad_is_undone answers bad rest (none_behind is_ended_answer a answers e ended) (none_behind is_lost_answer a answers l lost))

-- the asks of a plan where each answer is Ok

planned : (undo asks : List Ask) → map (λ p. p.ask) (undone_by undo asks) ≡ asks
planned undo [] = refl
planned undo (a ∷ asks) = ap (λ (xs : List Ask). a ∷ xs) (planned undo asks)

course_of : (undo asks : List Ask) (answers : List Answer) → first_bad answers ≡ None → course (undone_by undo asks) answers ≡ asks
course_of undo asks answers none = ap (λ (o : Option ℕ). course_at (undone_by undo asks) answers o) (no_place answers none) ∙ planned undo asks

-- the asks up to the one that waits are all of them, where one answer more is the last

all_asked : (asks : List Ask) (answers : List Answer) (a : Answer) → length (take (length (answers ++ a ∷ [])) asks) ≡ length (answers ++ a ∷ []) → drop (length (answers ++ a ∷ [])) asks ≡ []
    → take (length answers) asks ++ take 1 (drop (length answers) asks) ≡ asks
all_asked [] [] a long over = cc
all_asked (x ∷ asks) [] a long over = ap (λ (xs : List Ask). x ∷ xs) (sym over)
all_asked [] (b ∷ answers) a long over = cc
all_asked (x ∷ asks) (b ∷ answers) a long over =
    let same : length (take (length (answers ++ a ∷ [])) asks) ≡ length (answers ++ a ∷ []) = omega (arith, long) in
    ap (λ (xs : List Ask). x ∷ xs) (all_asked asks answers a same over)

-- a plan was made whole, and each answer is Ok: at the last answer the last ask waited
pub last_waited : (undo asks : List Ask) (answers : List Answer) (a : Answer) → first_bad (answers ++ a ∷ []) ≡ None
    → length (asks_made (undone_by undo asks) (answers ++ a ∷ [])) ≡ length (answers ++ a ∷ []) → asks_left (undone_by undo asks) (answers ++ a ∷ []) ≡ []
    → asks_made (undone_by undo asks) answers ++ take 1 (asks_left (undone_by undo asks) answers) ≡ asks
last_waited undo asks answers a none long over =
    let whole : course (undone_by undo asks) (answers ++ a ∷ []) ≡ asks = course_of undo asks (answers ++ a ∷ []) none in
    let so_far : course (undone_by undo asks) answers ≡ asks = course_of undo asks answers (ok_before answers (a ∷ []) none) in
    ap (λ (xs : List Ask). take (length answers) xs ++ take 1 (drop (length answers) xs)) so_far
    ∙ all_asked asks answers a
    (sym (ap (λ (xs : List Ask). length (take (length (answers ++ a ∷ [])) xs)) whole) ∙ long)
    (sym (ap (λ (xs : List Ask). drop (length (answers ++ a ∷ [])) xs) whole) ∙ over)

-- a plan that has an ask is not made without answers
pub some_answer : (undo asks : List Ask) (last : Ask) → asks_left (undone_by undo (asks ++ last ∷ [])) [] ≡ [] → ⊥
some_answer undo [] last over = cc
some_answer undo (a ∷ asks) last over = cc
