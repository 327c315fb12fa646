-- What a number has taken by its registrations, after turns in which no client comes, goes or takes.
use Rattle.std.proofs.Common.{◌≡◌, ℕ, ◌-◌, ◌==◌, List, [], ◌∷◌, ◌++◌, filter, map, take, Bool, true, false, not, ◌&&◌, if◌then◌else◌, refl, ap, ◌∙◌}
use Rattle.domain_spec.specs.Types.{Transition}
use Rattle.domain_spec.specs.declared.core_step.CoreStep.{CoreStep}
use Rattle.domain_spec.specs.declared.core_step.CoreStep.TheVariants as step
use Rattle.domain_spec.specs.declared.mark.Mark.{Mark}
use Rattle.domain_spec.specs.declared.mark.Mark.TheVariants as mark
use Rattle.domain_spec.specs.declared.standing.Registration.{Registration}
use Rattle.domain_spec.specs.declared.standing.Standing.{Standing}
use Rattle.domain_spec.specs.Cell.{Cell, Taken, standing_of}
use Rattle.domain_spec.specs.Fold.{after}
use Rattle.domain_spec.specs.Registrations.{cut_after, is_numbered, registrations_after, registrations_at, with_pending}
use Rattle.domain_spec.specs.Turns.{BeginsBy, GoOn, GoesOnBy, MayLeave}
use Rattle.core_step_laws.proofs.Listed.{taken_by, taken_of}

-- two registrations of one number and client, which took as many
record IsAlike (x y : Registration) : Type 0 where
  number : x.number ≡ y.number
  its : taken_by x ≡ taken_by y

first_if : (b : Bool) (x y : Registration) (xs ys : List Registration) → taken_by x ≡ taken_by y → map (λ (r : Registration). taken_by r) xs ≡ map (λ (r : Registration). taken_by r) ys
    → map (λ (r : Registration). taken_by r) (if b then x ∷ xs else xs) ≡ map (λ (r : Registration). taken_by r) (if b then y ∷ ys else ys)
first_if true x y xs ys e f = ap (λ (t : Taken). t ∷ map (λ (r : Registration). taken_by r) xs) e ∙ ap (λ (ts : List Taken). taken_by y ∷ ts) f
first_if false x y xs ys e f = f

first_alike : (n : ℕ) (x y : Registration) (xs ys : List Registration) → IsAlike x y → taken_of n xs ≡ taken_of n ys → taken_of n (x ∷ xs) ≡ taken_of n (y ∷ ys)
first_alike n x y xs ys e f =
    ap (λ (k : ℕ). map (λ (r : Registration). taken_by r) (if k == n then x ∷ filter (λ r. r.number == n) xs else filter (λ r. r.number == n) xs)) e.number
    ∙ first_if (y.number == n) x y (filter (λ r. r.number == n) xs) (filter (λ r. r.number == n) ys) e.its f

alike_all : (n : ℕ) (f : Registration → Registration) (rs : List Registration) → ((r : Registration) → IsAlike (f r) r) → taken_of n (map f rs) ≡ taken_of n rs
alike_all n f [] alike = refl
alike_all n f (r ∷ rs) alike = first_alike n (f r) r (map f rs) rs (alike r) (alike_all n f rs alike)

told_if : (events : List Transition) (b : Bool) (r : Registration) → IsAlike (if b then r else record r { pending = r.pending ++ events }) r
told_if events true r = record { number = refl; its = refl }
told_if events false r = record { number = refl; its = refl }

cut_if : (total : ℕ) (b : Bool) (r : Registration) → IsAlike (if b then record r { pending = take (total - r.taken) r.pending; is_lost = true } else r) r
cut_if total true r = record { number = refl; its = refl }
cut_if total false r = record { number = refl; its = refl }

told_all : (n : ℕ) (events : List Transition) (rs : List Registration) → taken_of n (map (with_pending events) rs) ≡ taken_of n rs
told_all n events rs = alike_all n (with_pending events) rs (λ r. told_if events r.is_lost r)

cut_all : (n client total : ℕ) (rs : List Registration) → taken_of n (map (cut_after client total) rs) ≡ taken_of n rs
cut_all n client total rs = alike_all n (cut_after client total) rs (λ r. cut_if total (is_numbered client r && not r.is_lost) r)

-- mark by mark

goes_listed : (c : Cell) (t : CoreStep ℕ) (n : ℕ) (s : Standing) (k : Mark ℕ) (rs : List Registration) → GoesOnBy c t s k → taken_of n (registrations_after rs k) ≡ taken_of n rs
goes_listed c t n s (mark.Done number who d boot asks answers r events) rs h = told_all n events rs
goes_listed c t n s (mark.Phase number who p asks answers next events) rs h = told_all n events rs
goes_listed c t n s (mark.Start number who d boot) rs h = told_all n [] rs
goes_listed c t n s (mark.TakeUp number who d) rs h = told_all n [] rs
goes_listed c t n s (mark.Exit boot why events) rs h = told_all n events rs
goes_listed c t n s (mark.Event boot g events) rs h = told_all n events rs
goes_listed c t n s (mark.Cut client total taken) rs h = cut_all n client total rs
goes_listed c t n s k rs h = absurd h

pub on_listed : (c : Cell) (t : CoreStep ℕ) (n : ℕ) (s : Standing) (marks : List (Mark ℕ)) (rs : List Registration) → GoOn c t s marks → taken_of n (registrations_at rs marks) ≡ taken_of n rs
on_listed c t n s [] rs h = refl
on_listed c t n s (k ∷ marks) rs h = on_listed c t n (after s k) marks (registrations_after rs k) h.2 ∙ goes_listed c t n s k rs h.0

-- no client comes or goes by the step
abbrev pub KeepsClients : CoreStep ℕ → Type 0
KeepsClients (step.Watch n) = ⊥
KeepsClients (step.Unwatch n client) = ⊥
KeepsClients other = Unit {0}

begins_listed : (c : Cell) (t : CoreStep ℕ) (n : ℕ) (k : Mark ℕ) (rs : List Registration) → KeepsClients t → BeginsBy c t (standing_of c) k → taken_of n (registrations_after rs k) ≡ taken_of n rs
begins_listed c t n (mark.Admit number w wanted d boot) rs e h = told_all n [] rs
begins_listed c t n (mark.Refused number w d why held) rs e h = told_all n [] rs
begins_listed c t n (mark.End number w r) rs e h = told_all n [] rs
begins_listed c (step.Watch x) n (mark.Watch number client) rs e h = absurd e
begins_listed c t n (mark.Watch number client) rs e h = absurd h
begins_listed c (step.Unwatch x y) n (mark.Unwatch number client) rs e h = absurd e
begins_listed c t n (mark.Unwatch number client) rs e h = absurd h
begins_listed c t n k rs e h = goes_listed c t n (standing_of c) k rs h

pub left_listed : (c : Cell) (t : CoreStep ℕ) (n : ℕ) (left : List (Mark ℕ)) (rs : List Registration) → KeepsClients t → MayLeave c t left → taken_of n (registrations_at rs left) ≡ taken_of n rs
left_listed c t n [] rs e h = refl
left_listed c t n (k ∷ left) rs e h = on_listed c t n (after (standing_of c) k) left (registrations_after rs k) h.2 ∙ begins_listed c t n k rs e h.0
