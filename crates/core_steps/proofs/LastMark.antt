-- The last mark of a pass, seen from the end.
use Rattle.std.proofs.Common.{◌≡◌, ◌<◌, ◌-◌, ℕ, suc, take, get_or, length-append, ◌+◌, List, [], ◌∷◌, ◌++◌, length, map, Bool, true, false, ◌||◌, if◌then◌else◌, refl, sym, ap, ◌∙◌, arith}
use Rattle.std.proofs.Math.Seq.{take-length, take-suc}
use Rattle.std.specs.List.{list_any}
use Rattle.history_spec.specs.declared.stamp.Stamp.{Stamp}
use Rattle.domain_spec.specs.declared.mark.Mark.{Mark}
use Rattle.domain_spec.specs.declared.mark.Mark.TheVariants as mark
use Rattle.core_log.specs.Below.core_chapter.Numbered.{all_numbered, numbered}
use Rattle.core_steps.specs.Places.{is_of_pass, last_place}

-- one mark more

or_true : (a : Bool) → (a || true) ≡ true
or_true true = refl
or_true false = refl

or_false : (a : Bool) → (a || false) ≡ a
or_false true = refl
or_false false = refl

either_true : (a b : Bool) → b ≡ true → (a || b) ≡ true
either_true a b e = ap (λ (x : Bool). a || x) e ∙ or_true a

any_last : {N : Type 0} → (ms : List (Mark N)) (m : Mark N) → is_of_pass m ≡ true → list_any is_of_pass (ms ++ m ∷ []) ≡ true
any_last [] m e = or_false (is_of_pass m) ∙ e
any_last (k ∷ ms) m e = either_true (is_of_pass k) (list_any is_of_pass (ms ++ m ∷ [])) (any_last ms m e)

any_same : {N : Type 0} → (ms : List (Mark N)) (m : Mark N) → is_of_pass m ≡ false → list_any is_of_pass (ms ++ m ∷ []) ≡ list_any is_of_pass ms
any_same [] m e = or_false (is_of_pass m) ∙ e
any_same (k ∷ ms) m e = ap (λ (b : Bool). is_of_pass k || b) (any_same ms m e)

one_more : (b : Bool) (n k : ℕ) → b ≡ true → n ≡ k → (if b then n + 1 else 0) ≡ k + 1
one_more true n k e f = ap (λ (x : ℕ). x + 1) f
one_more false n k e f = cc

suc_length : {A : Type 0} → (xs : List A) (x : A) → length xs + 1 ≡ length (x ∷ xs)
suc_length xs x = omega arith

pub last_here : {N : Type 0} → (ms : List (Mark N)) (m : Mark N) → is_of_pass m ≡ true → last_place (ms ++ m ∷ []) ≡ length ms + 1
last_here [] m e = one_more (list_any is_of_pass (m ∷ [])) 0 0 (any_last [] m e) refl
last_here (k ∷ ms) m e =
    one_more (list_any is_of_pass (k ∷ (ms ++ m ∷ []))) (last_place (ms ++ m ∷ [])) (length (k ∷ ms)) (any_last (k ∷ ms) m e) (last_here ms m e ∙ suc_length ms k)

same_if : (a b : Bool) (n k : ℕ) → a ≡ b → n ≡ k → (if a then n + 1 else 0) ≡ (if b then k + 1 else 0)
same_if a b n k e f = ap (λ (x : Bool). if x then n + 1 else 0) e ∙ ap (λ (x : ℕ). if b then x + 1 else 0) f

none_if : (b : Bool) (n : ℕ) → b ≡ false → (if b then n + 1 else 0) ≡ 0
none_if true n e = cc
none_if false n e = refl

pub last_before : {N : Type 0} → (ms : List (Mark N)) (m : Mark N) → is_of_pass m ≡ false → last_place (ms ++ m ∷ []) ≡ last_place ms
last_before [] m e = none_if (list_any is_of_pass (m ∷ [])) 0 (any_same [] m e)
last_before (k ∷ ms) m e =
    same_if (list_any is_of_pass (k ∷ (ms ++ m ∷ []))) (list_any is_of_pass (k ∷ ms)) (last_place (ms ++ m ∷ [])) (last_place ms) (any_same (k ∷ ms) m e) (last_before ms m e)

-- the numbers make no difference

of_numbered : (m : Mark Stamp) → is_of_pass (numbered m) ≡ is_of_pass m
of_numbered (mark.Admit by who wanted c boot) = refl
of_numbered (mark.Done by who c boot asks answers r events) = refl
of_numbered (mark.Refused by who c why held) = refl
of_numbered (mark.Start by who c boot) = refl
of_numbered (mark.TakeUp by who c) = refl
of_numbered (mark.Phase by who p asks answers o events) = refl
of_numbered (mark.End by who r) = refl
of_numbered (mark.Exit boot why events) = refl
of_numbered (mark.Event boot e events) = refl
of_numbered (mark.Watch by client) = refl
of_numbered (mark.Unwatch by client) = refl
of_numbered (mark.Cut client total taken) = refl

any_numbered : (ms : List (Mark Stamp)) → list_any is_of_pass (all_numbered ms) ≡ list_any is_of_pass ms
any_numbered [] = refl
any_numbered (m ∷ ms) = ap (λ (b : Bool). b || list_any is_of_pass (all_numbered ms)) (of_numbered m) ∙ ap (λ (b : Bool). is_of_pass m || b) (any_numbered ms)

pub last_numbered : (ms : List (Mark Stamp)) → last_place (all_numbered ms) ≡ last_place ms
last_numbered [] = refl
last_numbered (m ∷ ms) = same_if (list_any is_of_pass (all_numbered (m ∷ ms))) (list_any is_of_pass (m ∷ ms)) (last_place (all_numbered ms)) (last_place ms) (any_numbered (m ∷ ms)) (last_numbered ms)

-- the list seen as its last entry and those before it

one_before : (n : ℕ) → 0 < n → n ≡ suc (n - 1)
one_before n h = omega (arith, h)

below_one : (n : ℕ) → 0 < n → n - 1 < n
below_one n h = omega (arith, h)

split_end : {A : Type 0} → (l : List A) (d : A) → 0 < length l → l ≡ take (length l - 1) l ++ get_or l (length l - 1) d ∷ []
split_end l d h =
    sym (take-length l) ∙ ap (λ (n : ℕ). take n l) (one_before (length l) h) ∙ take-suc l (length l - 1) d (below_one (length l) h)

as_split : {A : Type 0} → (l : List A) (m : A) → 0 < length l → m ≡ get_or l (length l - 1) m → l ≡ take (length l - 1) l ++ m ∷ []
as_split {A = A} l m h e = split_end l m h ∙ ap (λ (x : A). take (length l - 1) l ++ x ∷ []) (sym e)

pub last_out : {N : Type 0} → (ms : List (Mark N)) (m : Mark N) → 0 < length ms → m ≡ get_or ms (length ms - 1) m → is_of_pass m ≡ false → last_place (take (length ms - 1) ms) ≡ last_place ms
last_out {N = N} ms m h e f = sym (ap (λ (xs : List (Mark N)). last_place xs) (as_split ms m h e) ∙ last_before (take (length ms - 1) ms) m f)

pub last_in : {N : Type 0} → (ms : List (Mark N)) (m : Mark N) → 0 < length ms → m ≡ get_or ms (length ms - 1) m → is_of_pass m ≡ true → length ms ≡ last_place ms
last_in {N = N} ms m h e f =
    ap (λ (xs : List (Mark N)). length xs) (as_split ms m h e)
    ∙ length-append (take (length ms - 1) ms) (m ∷ [])
    ∙ sym (last_here (take (length ms - 1) ms) m f)
    ∙ sym (ap (λ (xs : List (Mark N)). last_place xs) (as_split ms m h e))
