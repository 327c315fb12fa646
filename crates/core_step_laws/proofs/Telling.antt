-- What a number's share shows of the steps that it can take.
use Rattle.std.proofs.Common.{◌≡◌, ℕ, zero, suc, ◌==◌, List, [], ◌∷◌, filter, map, slice_get, Bool, true, false, not, ◌&&◌, Option, None, Some, if◌then◌else◌, refl, sym, ap, ◌∙◌, subst}
use Rattle.domain_spec.specs.Types.{Answer, Who}
use Rattle.domain_spec.specs.declared.open.OpenJob.{OpenJob}
use Rattle.domain_spec.specs.declared.open.OpenOperation.{OpenOperation}
use Rattle.domain_spec.specs.declared.standing.Registration.{Registration}
use Rattle.domain_spec.specs.declared.standing.Standing.{Standing}
use Rattle.domain_spec.specs.declared.step.Outcome.{Outcome}
use Rattle.domain_spec.specs.declared.step.Outcome.TheVariants as outcome
use Rattle.domain_spec.specs.CanTake.{HasNoneOpen, IsAway, IsNotJobOf, IsNotOperationOf, IsOperationOf, IsRegistration, WaitsForAnswer}
use Rattle.domain_spec.specs.Cell.{Cell, OpenCall, Taken, call_of, operation_of, standing_of}
use Rattle.domain_spec.specs.Open.{IsOtherNumber, is_rest}
use Rattle.core_step_laws.specs.Telling.{SharesTell, Tells}
use Rattle.core_step_laws.proofs.Jobs.{same_by}
use Rattle.core_step_laws.proofs.Listed.{is_its, taken_by, taken_of}

no_test : (b : Bool) → b ≡ false → b ≡ true → ⊥
no_test true e f = cc
no_test false e f = cc

not_here : {A : Type 0} (a n : ℕ) (b : Bool) (x : A) → (a == n) ≡ b → (if b then Some x else None) ≡ None → n ≡ a → ⊥
not_here a n true x e none same = cc
not_here a n false x e none same = no_test (a == n) e (is_its a n (a == n) refl (sym same))

no_job : (s : Standing) (j : Option OpenJob) (answers : List Answer) (n : ℕ) → call_of s j answers n ≡ None → IsNotJobOf j n
no_job s None answers n e = tt
no_job s (Some j) answers n e = not_here j.number n (j.number == n) _ refl e

awake : (a n : ℕ) (b r : Bool) (o : OpenOperation) → (a == n) ≡ b → r ≡ false → (if b && not r then Some o else None) ≡ None → n ≡ a → ⊥
awake a n true true o e f none same = cc
awake a n true false o e f none same = cc
awake a n false r o e f none same = no_test (a == n) e (is_its a n (a == n) refl (sym same))

no_operation_at : (q : Outcome) (o : OpenOperation) (n : ℕ) → (if (o.number == n) && not (is_rest q) then Some o else None) ≡ None → IsOtherNumber q n o.number
no_operation_at (outcome.Rest r) o n e = tt
no_operation_at (outcome.On p) o n e = awake o.number n (o.number == n) false o refl refl e
no_operation_at (outcome.Over r) o n e = awake o.number n (o.number == n) false o refl refl e

no_operation : (q : Option OpenOperation) (n : ℕ) → operation_of q n ≡ None → IsNotOperationOf q n
no_operation None n e = tt
no_operation (Some o) n e = no_operation_at o.outcome o n e

here : {A : Type 0} (b : Bool) (x y : A) → (if b then Some x else None) ≡ Some y → b ≡ true
here true x y e = refl
here false x y e = cc

is_away : (c : Cell) (j : Option OpenJob) (n : ℕ) (o : OpenCall) → call_of (standing_of c) j c.answers n ≡ Some o → WaitsForAnswer c j → IsAway c j n
is_away c None n o e waits = cc
is_away c (Some j) n o e waits = (sym (same_by j.number n (j.number == n) refl (here (j.number == n) _ o e)), waits)

and_both : (a b : Bool) → (a && b) ≡ true → (a ≡ true) × (b ≡ true)
and_both true b e = (refl, e)
and_both false b e = cc

not_true : (b : Bool) → not b ≡ true → b ≡ false
not_true true e = cc
not_true false e = refl

the_same : {A : Type 0} (b : Bool) (x y : A) → (if b then Some x else None) ≡ Some y → x ≡ y
the_same true x y e = cc
the_same false x y e = cc

its_operation : (q : Option OpenOperation) (n : ℕ) (o : OpenOperation) → operation_of q n ≡ Some o → IsOperationOf q n o.who
its_operation None n o e = cc
its_operation (Some x) n o e =
    let tests = and_both (x.number == n) (not (is_rest x.outcome)) (here ((x.number == n) && not (is_rest x.outcome)) x o e) in (
      sym (same_by x.number n (x.number == n) refl tests.0),
      ap (λ (y : OpenOperation). y.who) (sym (the_same ((x.number == n) && not (is_rest x.outcome)) x o e)),
      not_true (is_rest x.outcome) tests.1,
    )

-- a registration that is among those of a number

pub record IsThere (n client : ℕ) (rs : List Registration) : Type 0 where
  pub one : Registration
  pub number : one.number ≡ n
  pub its : one.client ≡ client
  pub place : ℕ
  pub at : slice_get rs place ≡ Some one

later : (n client : ℕ) (x : Registration) (rs : List Registration) → IsThere n client rs → IsThere n client (x ∷ rs)
later n client x rs h = record { one = h.one; number = h.number; its = h.its; place = suc h.place; at = h.at }

abbrev taken_at : List Registration → ℕ → Option Taken
taken_at rs place = slice_get {X = Taken} (map (λ r. record { client = r.client; taken = r.taken }) rs) place

first_or_later : (n client taken place : ℕ) (b : Bool) (x : Registration) (rs kept : List Registration) → (x.number == n) ≡ b
    → taken_at (if b then x ∷ kept else kept) place ≡ Some (record { client = client; taken = taken })
    → ((k : ℕ) → taken_at kept k ≡ Some (record { client = client; taken = taken }) → IsThere n client rs) → IsThere n client (x ∷ rs)
first_or_later n client taken zero true x rs kept e at rest =
    let same : taken_by x ≡ record { client = client; taken = taken } = cc in
    record { one = x; number = same_by x.number n (x.number == n) refl e; its = ap (λ (t : Taken). t.client) same; place = zero; at = refl }
first_or_later n client taken (suc k) true x rs kept e at rest = later n client x rs (rest k at)
first_or_later n client taken place false x rs kept e at rest = later n client x rs (rest place at)

is_there : (n client taken place : ℕ) (rs : List Registration) → slice_get (taken_of n rs) place ≡ Some (record { client = client; taken = taken }) → IsThere n client rs
is_there n client taken zero [] at = cc
is_there n client taken (suc k) [] at = cc
is_there n client taken place (x ∷ rs) at =
    first_or_later n client taken place (x.number == n) x rs (filter (λ r. r.number == n) rs) refl at (λ k e. is_there n client taken k rs e)

pub shares_tell : SharesTell
shares_tell c n = record {
  none_open = λ call operation. record { no_call = no_job (standing_of c) (standing_of c).job c.answers n call; no_operation = no_operation (standing_of c).operation n operation };
  away = λ o call waits. is_away c (standing_of c).job n o call waits;
  operation = λ o operation. its_operation (standing_of c).operation n o operation;
  registered = λ place client taken at. (let there = is_there n client taken place c.registrations at in (there.one, (there.number, there.its, there.place, there.at)));
}
