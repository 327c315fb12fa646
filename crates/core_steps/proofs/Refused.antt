-- A call that looked often enough is refused; and who waits where a caller that came leaves again.
use Rattle.std.proofs.Common.{◌≡◌, ℕ, ◌+◌, ◌==◌, List, [], ◌∷◌, ◌++◌, filter, min, Bool, true, false, not, ◌&&◌, Option, if◌then◌else◌, refl, sym, ap, ◌∙◌, subst, arith}
use Rattle.std.proofs.lemmas.Bool.Decides.{nat_tests}
use Rattle.domain_spec.specs.Types.{Who}
use Rattle.domain_spec.specs.Types.code
use Rattle.domain_spec.specs.declared.core_step.CoreStep.TheVariants as step
use Rattle.domain_spec.specs.declared.mark.Mark.TheVariants as mark
use Rattle.domain_spec.specs.CanTake.{CanTake}
use Rattle.domain_spec.specs.Cell.{HeldEvent, LentEars, Queue, Waiter, WaitingPass}
use Rattle.domain_spec.specs.Kept.{joined_queue, left_queue, looked, without_caller, without_pass}
use Rattle.domain_spec.specs.Open.{is_same_who}
use Rattle.core_log.specs.Record.{Recorded, force_of}
use Rattle.core_steps.specs.declared.refusing.Refusable.{Refusable}
use Rattle.core_steps.specs.Refusing.{GivesUp, HasRefused}
use Rattle.core_steps.specs.TurnLaws.{RefusalsAreTurns}
use Rattle.core_steps.specs.Turning.{FitsJob, HasTurned, IsSettled, Takes, cell_of, turning}
use Rattle.core_steps.proofs.Idling.{given_up}

pub refused_are : RefusalsAreTurns
refused_are old new q p held ears n x can settled fits after h =
    let jobs = h.0 in
    let is = h.1 in
    subst (λ (z : Queue). Takes (turning old q held ears) (turning new z held ears) (step.GiveUp n x.who x.call) (HasRefused n x.who x.call code.OperationTimeout)) (sym h.3) (
      mark.Refused n x.who x.call code.OperationTimeout jobs ∷ [],
      given_up old new q held ears n x.who x.call jobs can (record {
        refused = is.refused;
        waiting = h.2;
        lost = settled.lost;
        fits = fits;
        marked = is.marked;
        course = is.course;
        settled = after;
      }),
      (refl, refl, refl, refl),
    )

-- a caller that came, or looked once more, and leaves: who waits is as if it had left at once

same_who : (w : Who) → is_same_who w w ≡ true
same_who w = grind (arith, nat_tests)

left_alone : (b : Bool) (w : Waiter) (xs ys : List Waiter) → xs ≡ ys → (if not b then w ∷ xs else xs) ≡ (if not b then w ∷ ys else ys)
left_alone b w xs ys e = ap (λ (zs : List Waiter). if not b then w ∷ zs else zs) e

found_left : (b : Bool) (w : Waiter) (callers : List Waiter) (who : Who) → is_same_who w.who who ≡ b → without_caller (looked callers who) who ≡ without_caller callers who
    → without_caller (if b then record { who = w.who; looks = min (w.looks + 1) 1000 } ∷ callers else w ∷ looked callers who) who ≡ without_caller (w ∷ callers) who
found_left true w callers who e rest =
    let left : List Waiter = without_caller callers who in
    ap (λ (c : Bool). if not c then record { who = w.who; looks = min (w.looks + 1) 1000 } ∷ left else left) e
    ∙ sym (ap (λ (c : Bool). if not c then w ∷ left else left) e)
found_left false w callers who e rest = left_alone (is_same_who w.who who) w (without_caller (looked callers who) who) (without_caller callers who) rest

looked_left : (callers : List Waiter) (who : Who) → without_caller (looked callers who) who ≡ without_caller callers who
looked_left [] who = ap (λ (b : Bool). if not b then record { who = who; looks = 1 } ∷ [] else []) (same_who who)
looked_left (w ∷ callers) who = found_left (is_same_who w.who who) w callers who refl (looked_left callers who)

same_number : (n : ℕ) → (n == n) ≡ true
same_number n = grind (arith, nat_tests)

pass_by : (b : Bool) (p : WaitingPass) (left more : List WaitingPass) (n : ℕ) → (p.number == n) ≡ b → without_pass (left ++ more) n ≡ left
    → without_pass ((if not b then p ∷ left else left) ++ more) n ≡ (if not b then p ∷ left else left)
pass_by true p left more n e rest = rest
pass_by false p left more n e rest =
    ap (λ (c : Bool). if not c then p ∷ without_pass (left ++ more) n else without_pass (left ++ more) n) e ∙ ap (λ (ps : List WaitingPass). p ∷ ps) rest

pass_left : (passes : List WaitingPass) (n : ℕ) (who : Who) → without_pass (without_pass passes n ++ record { number = n; who = who } ∷ []) n ≡ without_pass passes n
pass_left [] n who = ap (λ (b : Bool). if not b then record { number = n; who = who } ∷ [] else []) (same_number n)
pass_left (p ∷ passes) n who = pass_by (p.number == n) p (without_pass passes n) (record { number = n; who = who } ∷ []) n refl (pass_left passes n who)

pub left_joined : (q : Queue) (n : ℕ) (who : Who) → left_queue (joined_queue q n who) n who ≡ left_queue q n who
left_joined q n who =
    ap (λ (cs : List Waiter). record { callers = cs; passes = without_pass (without_pass q.passes n ++ record { number = n; who = who } ∷ []) n }) (looked_left q.callers who)
    ∙ ap (λ (ps : List WaitingPass). record { callers = without_caller q.callers who; passes = ps }) (pass_left q.passes n who)
