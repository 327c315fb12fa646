-- The registrations of another number stay, with what they took.
use Rattle.std.proofs.Common.{◌≡◌, ℕ, zero, suc, ◌+◌, ◌-◌, ◌==◌, List, [], ◌∷◌, ◌++◌, filter, length, map, slice_get, take, Bool, true, false, not, ◌&&◌, ◌||◌, Option, None, Some, if◌then◌else◌, refl, sym, ap, ◌∙◌, subst, arith}
use Rattle.std.specs.List.{list_any}
use Rattle.std.proofs.lemmas.Bool.Decides.{nat_tests}
use Rattle.domain_spec.specs.Types.{Transition}
use Rattle.domain_spec.specs.declared.core_step.CoreStep.{CoreStep}
use Rattle.domain_spec.specs.declared.core_step.CoreStep.TheVariants as step
use Rattle.domain_spec.specs.declared.mark.Mark.{Mark}
use Rattle.domain_spec.specs.declared.mark.Mark.TheVariants as mark
use Rattle.domain_spec.specs.declared.standing.Registration.{Registration}
use Rattle.domain_spec.specs.declared.standing.Standing.{Standing}
use Rattle.domain_spec.specs.CanTake.{CanTake}
use Rattle.domain_spec.specs.Cell.{Cell, Taken, standing_of}
use Rattle.domain_spec.specs.Fold.{after, transitions_of}
use Rattle.domain_spec.specs.Registrations.{cut_after, is_numbered, registrations_after, registrations_at, registrations_taken, taken_from, tells_loss, with_pending}
use Rattle.domain_spec.specs.Turns.{BeginsBy, GoOn, GoesOnBy, MayLeave, kept_after}
use Rattle.core_step_laws.specs.Shares.{AreApart, IsStepOf}
use Rattle.core_step_laws.proofs.Jobs.{differ, same_by}

-- what a number has taken by its registrations
abbrev pub taken_by : Registration → Taken
taken_by r = record { client = r.client; taken = r.taken }

abbrev pub taken_of : ℕ → List Registration → List Taken
taken_of m rs = map (λ r. record { client = r.client; taken = r.taken }) (filter (λ r. r.number == m) rs)

keep_if : (b : Bool) (x y : Registration) (xs ys : List Registration) → taken_by x ≡ taken_by y → map (λ (r : Registration). taken_by r) xs ≡ map (λ (r : Registration). taken_by r) ys
    → map (λ (r : Registration). taken_by r) (if b then x ∷ xs else xs) ≡ map (λ (r : Registration). taken_by r) (if b then y ∷ ys else ys)
keep_if true x y xs ys e f = ap (λ (t : Taken). t ∷ map (λ (r : Registration). taken_by r) xs) e ∙ ap (λ (ts : List Taken). taken_by y ∷ ts) f
keep_if false x y xs ys e f = f

pub same_head : (m : ℕ) (x : Registration) (xs ys : List Registration) → taken_of m xs ≡ taken_of m ys → taken_of m (x ∷ xs) ≡ taken_of m (x ∷ ys)
same_head m x xs ys e = keep_if (x.number == m) x x (filter (λ r. r.number == m) xs) (filter (λ r. r.number == m) ys) refl e

-- told of transitions, or cut

told_one : (m : ℕ) (events : List Transition) (lost : Bool) (r : Registration) (xs ys : List Registration) → taken_of m xs ≡ taken_of m ys
    → taken_of m ((if lost then r else record r { pending = r.pending ++ events }) ∷ xs) ≡ taken_of m (r ∷ ys)
told_one m events true r xs ys e = same_head m r xs ys e
told_one m events false r xs ys e =
    keep_if (r.number == m) (record r { pending = r.pending ++ events }) r (filter (λ r. r.number == m) xs) (filter (λ r. r.number == m) ys) refl e

told_stay : (m : ℕ) (events : List Transition) (rs : List Registration) → taken_of m (map (with_pending events) rs) ≡ taken_of m rs
told_stay m events [] = refl
told_stay m events (r ∷ rs) = told_one m events r.is_lost r (map (with_pending events) rs) rs (told_stay m events rs)

cut_one : (m total : ℕ) (b : Bool) (r : Registration) (xs ys : List Registration) → taken_of m xs ≡ taken_of m ys
    → taken_of m ((if b then record r { pending = take (total - r.taken) r.pending; is_lost = true } else r) ∷ xs) ≡ taken_of m (r ∷ ys)
cut_one m total true r xs ys e =
    keep_if (r.number == m) (record r { pending = take (total - r.taken) r.pending; is_lost = true }) r (filter (λ r. r.number == m) xs) (filter (λ r. r.number == m) ys) refl e
cut_one m total false r xs ys e = same_head m r xs ys e

cut_stay : (m client total : ℕ) (rs : List Registration) → taken_of m (map (cut_after client total) rs) ≡ taken_of m rs
cut_stay m client total [] = refl
cut_stay m client total (r ∷ rs) = cut_one m total (is_numbered client r && not r.is_lost) r (map (cut_after client total) rs) rs (cut_stay m client total rs)

-- one of another number comes or goes

pub other_head : (m : ℕ) (x : Registration) (xs : List Registration) → (x.number ≡ m → ⊥) → taken_of m (x ∷ xs) ≡ taken_of m xs
other_head m x xs unlike =
    ap (λ (b : Bool). map (λ (r : Registration). taken_by r) (if b then x ∷ filter (λ r. r.number == m) xs else filter (λ r. r.number == m) xs)) (differ x.number m (x.number == m) refl unlike)

came_stay : (m : ℕ) (x : Registration) (rs : List Registration) → (x.number ≡ m → ⊥) → taken_of m (rs ++ x ∷ []) ≡ taken_of m rs
came_stay m x [] unlike = other_head m x [] unlike
came_stay m x (r ∷ rs) unlike = same_head m r (rs ++ x ∷ []) rs (came_stay m x rs unlike)

-- the registrations of this client are this number's
abbrev IsAllOf : ℕ → ℕ → List Registration → Type 0
IsAllOf n client [] = Unit {0}
IsAllOf n client (r ∷ rs) = (is_numbered client r ≡ true → r.number ≡ n) × IsAllOf n client rs

none_first : (n client : ℕ) (b : Bool) (r : Registration) (rs : List Registration) → is_numbered client r ≡ b → list_any (is_numbered client) (r ∷ rs) ≡ false
    → (list_any (is_numbered client) rs ≡ false → IsAllOf n client rs) → IsAllOf n client (r ∷ rs)
none_first n client true r rs is e rest = cc
none_first n client false r rs is e rest = (λ f. cc, rest cc)

none_of : (n client : ℕ) (rs : List Registration) → list_any (is_numbered client) rs ≡ false → IsAllOf n client rs
none_of n client [] e = tt
none_of n client (r ∷ rs) e = none_first n client (is_numbered client r) r rs refl e (none_of n client rs)

pub is_its : (a b : ℕ) (t : Bool) → (a == b) ≡ t → a ≡ b → t ≡ true
is_its a b true e f = refl
is_its a b false e f = grind (arith, nat_tests, e, f)

not_both : (b : Bool) → b ≡ true → b ≡ false → ⊥
not_both true e f = cc
not_both false e f = cc

either_false : (a b : Bool) → (a || b) ≡ false → (a ≡ false) × (b ≡ false)
either_false true b e = cc
either_false false b e = (refl, e)

some_at : (client place : ℕ) (r : Registration) (rs : List Registration) → slice_get rs place ≡ Some r → r.client ≡ client → list_any (is_numbered client) rs ≡ false → ⊥
some_at client zero r [] at is none = cc
some_at client (suc place) r [] at is none = cc
some_at client zero r (x ∷ rs) at is none =
    let same : x ≡ r = cc in
    let its : x.client ≡ client = ap (λ (y : Registration). y.client) same ∙ is in
    not_both (is_numbered client x) (is_its x.client client (x.client == client) refl its) (either_false (is_numbered client x) (list_any (is_numbered client) rs) none).0
some_at client (suc place) r (x ∷ rs) at is none = some_at client place r rs at is (either_false (is_numbered client x) (list_any (is_numbered client) rs) none).1

all_of : (n client place : ℕ) (r : Registration) (rs : List Registration) → slice_get rs place ≡ Some r → r.client ≡ client → r.number ≡ n → AreApart rs → IsAllOf n client rs
all_of n client place r [] at is mine apart = tt
all_of n client zero r (x ∷ rs) at is mine apart =
    let same : x ≡ r = cc in
    let its : x.client ≡ client = ap (λ (y : Registration). y.client) same ∙ is in
    (λ f. ap (λ (y : Registration). y.number) same ∙ mine, none_of n client rs (sym (ap (λ (k : ℕ). list_any (is_numbered k) rs) its) ∙ apart.0))
all_of n client (suc place) r (x ∷ rs) at is mine apart = (
  λ f. absurd (some_at client place r rs at is (sym (ap (λ (k : ℕ). list_any (is_numbered k) rs) (same_by x.client client (x.client == client) refl f)) ∙ apart.0)),
  all_of n client place r rs at is mine apart.1,
)

left_one : (n m client : ℕ) (b : Bool) (r : Registration) (rs kept : List Registration) → is_numbered client r ≡ b → (is_numbered client r ≡ true → r.number ≡ n) → (m ≡ n → ⊥) → taken_of m kept ≡ taken_of m rs
    → taken_of m (if not b then r ∷ kept else kept) ≡ taken_of m (r ∷ rs)
left_one n m client true r rs kept e mine unlike h = h ∙ sym (other_head m r rs (λ f. unlike (sym f ∙ mine e)))
left_one n m client false r rs kept e mine unlike h = same_head m r kept rs h

left_stay : (n m client : ℕ) (rs : List Registration) → IsAllOf n client rs → (m ≡ n → ⊥) → taken_of m (filter (λ r. not (is_numbered client r)) rs) ≡ taken_of m rs
left_stay n m client [] mine unlike = refl
left_stay n m client (r ∷ rs) mine unlike =
    left_one n m client (is_numbered client r) r rs (filter (λ r. not (is_numbered client r)) rs) refl mine.0 unlike (left_stay n m client rs mine.1 unlike)

took_more : (m : ℕ) (told : Bool) (r : Registration) (rs : List Registration) → (r.number ≡ m → ⊥)
    → taken_of m ((if told then [] else (record r { taken = r.taken + length r.pending; pending = [] }) ∷ []) ++ rs) ≡ taken_of m rs
took_more m true r rs unlike = refl
took_more m false r rs unlike = other_head m (record r { taken = r.taken + length r.pending; pending = [] }) rs unlike

took_one : (n m client : ℕ) (b : Bool) (r : Registration) (rs kept : List Registration) → is_numbered client r ≡ b → (is_numbered client r ≡ true → r.number ≡ n) → (m ≡ n → ⊥) → taken_of m kept ≡ taken_of m rs
    → taken_of m (if b then taken_from r ++ rs else r ∷ kept) ≡ taken_of m (r ∷ rs)
took_one n m client true r rs kept e mine unlike h =
    let apart : r.number ≡ m → ⊥ = λ f. unlike (sym f ∙ mine e) in
    took_more m (tells_loss r) r rs apart ∙ sym (other_head m r rs apart)
took_one n m client false r rs kept e mine unlike h = same_head m r kept rs h

took_stay : (n m client : ℕ) (rs : List Registration) → IsAllOf n client rs → (m ≡ n → ⊥) → taken_of m (registrations_taken rs client) ≡ taken_of m rs
took_stay n m client [] mine unlike = refl
took_stay n m client (r ∷ rs) mine unlike = took_one n m client (is_numbered client r) r rs (registrations_taken rs client) refl mine.0 unlike (took_stay n m client rs mine.1 unlike)

-- mark by mark

goes_listed : (c : Cell) (t : CoreStep ℕ) (m : ℕ) (s : Standing) (k : Mark ℕ) (rs : List Registration) → GoesOnBy c t s k → taken_of m (registrations_after rs k) ≡ taken_of m rs
goes_listed c t m s (mark.Done number who d boot asks answers r events) rs h = told_stay m events rs
goes_listed c t m s (mark.Phase number who p asks answers next events) rs h = told_stay m events rs
goes_listed c t m s (mark.Start number who d boot) rs h = told_stay m [] rs
goes_listed c t m s (mark.TakeUp number who d) rs h = told_stay m [] rs
goes_listed c t m s (mark.Exit boot why events) rs h = told_stay m events rs
goes_listed c t m s (mark.Event boot g events) rs h = told_stay m events rs
goes_listed c t m s (mark.Cut client total taken) rs h = cut_stay m client total rs
goes_listed c t m s other rs h = absurd h

on_listed : (c : Cell) (t : CoreStep ℕ) (m : ℕ) (s : Standing) (marks : List (Mark ℕ)) (rs : List Registration) → GoOn c t s marks → taken_of m (registrations_at rs marks) ≡ taken_of m rs
on_listed c t m s [] rs h = refl
on_listed c t m s (k ∷ marks) rs h = on_listed c t m (after s k) marks (registrations_after rs k) h.2 ∙ goes_listed c t m s k rs h.0

begins_listed : (c : Cell) (t : CoreStep ℕ) (n m : ℕ) (k : Mark ℕ) → IsStepOf n t → (m ≡ n → ⊥) → CanTake c t → AreApart c.registrations → BeginsBy c t (standing_of c) k
    → taken_of m (registrations_after c.registrations k) ≡ taken_of m c.registrations
begins_listed c t n m (mark.Admit number w wanted d boot) e unlike can apart h = told_stay m [] c.registrations
begins_listed c t n m (mark.Refused number w d why held) e unlike can apart h = told_stay m [] c.registrations
begins_listed c t n m (mark.End number w r) e unlike can apart h = told_stay m [] c.registrations
begins_listed c (step.Watch x) n m (mark.Watch number client) e unlike can apart h = came_stay m _ c.registrations (λ f. unlike (sym f ∙ h.0 ∙ e))
begins_listed c t n m (mark.Watch number client) e unlike can apart h = absurd h
begins_listed c (step.Unwatch x y) n m (mark.Unwatch number client) e unlike can apart h =
    let there = can.1 in
    left_stay n m client c.registrations (all_of n client there.2 can.0 c.registrations there.3 (there.1 ∙ sym h.1) (there.0 ∙ e) apart) unlike
begins_listed c t n m (mark.Unwatch number client) e unlike can apart h = absurd h
begins_listed c t n m k e unlike can apart h = goes_listed c t m (standing_of c) k c.registrations h

left_listed : (c : Cell) (t : CoreStep ℕ) (n m : ℕ) (marks : List (Mark ℕ)) → IsStepOf n t → (m ≡ n → ⊥) → CanTake c t → AreApart c.registrations → MayLeave c t marks
    → taken_of m (registrations_at c.registrations marks) ≡ taken_of m c.registrations
left_listed c t n m [] e unlike can apart h = refl
left_listed c t n m (k ∷ marks) e unlike can apart h =
    on_listed c t m (after (standing_of c) k) marks (registrations_after c.registrations k) h.2 ∙ begins_listed c t n m k e unlike can apart h.0

pub kept_listed : (c : Cell) (t : CoreStep ℕ) (n m : ℕ) (marks : List (Mark ℕ)) → IsStepOf n t → (m ≡ n → ⊥) → CanTake c t → AreApart c.registrations → MayLeave c t marks
    → taken_of m (kept_after c t marks) ≡ taken_of m c.registrations
kept_listed c (step.Take x client) n m marks e unlike can apart h =
    let there = can.1 in
    took_stay n m client c.registrations (all_of n client there.2 can.0 c.registrations there.3 there.1 (there.0 ∙ e) apart) unlike
kept_listed c other n m marks e unlike can apart h = left_listed c other n m marks e unlike can apart h
