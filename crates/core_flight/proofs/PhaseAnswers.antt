-- What an answer makes of a phase's course, and what is set aside for it.
use Rattle.std.specs.Prelude.{Ok, Err, IfOk}
use Rattle.std.proofs.Common.{◌≡◌, Result, ℕ, zero, suc, ◌==◌, List, [], ◌∷◌, ◌++◌, length, true, false, Option, None, Some, refl, sym, ap, ◌∙◌, subst, arith}
use Rattle.std.proofs.lemmas.Bool.Decides.{nat_tests}
use Rattle.domain_spec.specs.Types.{Answer, Ask, Call, State}
use Rattle.domain_spec.specs.Types.answer
use Rattle.domain_spec.specs.Types.ask
use Rattle.domain_spec.specs.declared.open.OpenOperation.{OpenOperation}
use Rattle.domain_spec.specs.declared.planned.PlannedAsk.{PlannedAsk}
use Rattle.domain_spec.specs.declared.standing.Standing.{Standing}
use Rattle.domain_spec.specs.Asks.{value_of}
use Rattle.domain_spec.specs.Phase.{plan_in}
use Rattle.domain_spec.specs.PhaseAsks.{copied_bytes}
use Rattle.core_plan.specs.Along.{Asked, answered}
use Rattle.core_plan.specs.Copying.{is_image, writes_second, writing, written}
use Rattle.core_plan.specs.Starving.{starved}
use Rattle.core_plan.specs.PhaseCopying.{plan_after, with_answer, with_copy}
use Rattle.core_plan.proofs.Writing.{in_written}
use Rattle.core_plan.specs.Below.core_dispatch.Fits.{FitsPhase}
use Rattle.core_plan.specs.Below.core_dispatch.declared.phases.PhaseParts.{PhaseParts}
use Rattle.core_plan.specs.Below.core_dispatch.declared.phases.PhaseParts.TheVariants as made_for
use Rattle.core_flight.specs.Away.{HasCopyRoom}
use Rattle.core_flight.specs.PhaseTurn.{IsPhaseReady, IsReadyFor}
use Rattle.core_flight.specs.declared.phase_out.PhaseReady.{PhaseReady}

-- the first answer

plan_first : (a : Asked) (x : Answer) → a.answers ≡ [] → plan_after a.answers x a.plan ≡ plan_after [] x a.plan
plan_first a x e = ap (λ (answers : List Answer). plan_after answers x a.plan) e

not_image : (bytes : List ℕ) (y : Ask) → is_image y ≡ false → writing bytes y ≡ y
not_image bytes (ask.WriteImage name k ran def saved) e = cc
not_image bytes other e = refl

unwritten : (bytes : List ℕ) (plan : List PlannedAsk) → writes_second plan ≡ false → written bytes plan ≡ plan
unwritten bytes [] e = refl
unwritten bytes (p ∷ []) e = refl
unwritten bytes (p ∷ q ∷ plan) e = ap (λ (y : Ask). p ∷ record q { ask = y } ∷ plan) (not_image bytes q.ask e)

pub bare_first : (a : Asked) (x : Answer) → a.answers ≡ [] → writes_second a.plan ≡ false → plan_after [] x a.plan ≡ written (copied_bytes (value_of x)) a.plan → answered a x ≡ with_answer a x
bare_first a x none bare second =
    ap (λ (plan : List PlannedAsk). record { plan = plan; answers = a.answers ++ x ∷ [] }) (sym (plan_first a x none ∙ second ∙ unwritten (copied_bytes (value_of x)) a.plan bare))

pub copy_first : (a : Asked) (x : Answer) (mid new : Asked) (bytes : List ℕ) → a.answers ≡ [] → plan_after [] x a.plan ≡ written (copied_bytes (value_of x)) a.plan
    → mid ≡ answered a x → bytes ≡ copied_bytes (value_of x) → new ≡ record mid { plan = written bytes mid.plan } → new ≡ with_answer a x
copy_first a x mid new bytes none second is same e =
    e ∙ ap (λ (c : Asked). record c { plan = written bytes c.plan }) is
    ∙ ap (λ (b : List ℕ). record { plan = written b a.plan; answers = a.answers ++ x ∷ [] }) same
    ∙ ap (λ (plan : List PlannedAsk). record { plan = plan; answers = a.answers ++ x ∷ [] }) (sym (plan_first a x none ∙ second))

pub no_room : (plan : List PlannedAsk) (copy : Option (Unit {0})) → copy ≡ None → HasCopyRoom [] plan copy → writes_second plan ≡ false
no_room plan None e h = h
no_room plan (Some r) e h = cc

not_none : (n : ℕ) → (suc n == 0) ≡ true → ⊥
not_none n e = grind (arith, nat_tests, e)

pub is_none : (answers : List Answer) → (length answers == 0) ≡ true → answers ≡ []
is_none [] e = refl
is_none (a ∷ answers) e = absurd (not_none (length answers) e)

later_by : (answers : List Answer) (plan : List PlannedAsk) (x : Answer) → (length answers == 0) ≡ false → plan ≡ plan_after answers x plan
later_by [] plan x e = cc
later_by (a ∷ answers) plan x e = refl

pub later : (a : Asked) (x : Answer) → (length a.answers == 0) ≡ false → answered a x ≡ with_answer a x
later a x e = ap (λ (plan : List PlannedAsk). record { plan = plan; answers = a.answers ++ x ∷ [] }) (later_by a.answers a.plan x e)

pub second_by : (s : State) (c : Call) (plan : List PlannedAsk) (answers : List Answer) (x : Answer) → plan ≡ plan_in s c answers → answers ≡ [] → plan_after [] x plan ≡ written (copied_bytes (value_of x)) plan
second_by s c plan answers x is none =
    let e : plan ≡ plan_in s c [] = is ∙ ap (λ (xs : List Answer). plan_in s c xs) none in
    ap (λ (ps : List PlannedAsk). with_copy (copied_bytes (value_of x)) ps) e ∙ in_written s c x ∙ sym (ap (λ (ps : List PlannedAsk). written (copied_bytes (value_of x)) ps) e)

-- room for the copy is needed no more after the first answer

copy_more : (answers : List Answer) (plan : List PlannedAsk) (x : Answer) (copy : Option (Unit {0})) → HasCopyRoom (answers ++ x ∷ []) plan copy
copy_more [] plan x copy = tt
copy_more (a ∷ answers) plan x copy = tt

pub copy_after : (a : Asked) (x : Answer) (copy : Option (Unit {0})) → HasCopyRoom (with_answer a x).answers (with_answer a x).plan copy
copy_after a x copy = copy_more a.answers (with_answer a x).plan x copy

pub copy_starved : (count : ℕ) (a : Asked) (copy : Option (Unit {0})) → HasCopyRoom a.answers a.plan copy → HasCopyRoom (starved count a).answers (starved count a).plan copy
copy_starved zero a copy h = h
copy_starved (suc n) a copy h = copy_starved n (answered a answer.NoMemory) copy (copy_more a.answers a.plan answer.NoMemory copy)

-- what is set aside reads no number of the operation

numbered_fits : (p : PhaseParts) (s : State) (o : OpenOperation) (n : ℕ) → FitsPhase p s o → FitsPhase p s (record o { number = n })
numbered_fits (made_for.Lifecycle p) s o n h = h
numbered_fits (made_for.Save p) s o n h = h
numbered_fits (made_for.Snapshot p) s o n h = h

ready_numbered : (s : State) (o : OpenOperation) (n : ℕ) (r : PhaseReady) → IsReadyFor s o r → IsReadyFor s (record o { number = n }) r
ready_numbered s o n r h = record {
  away = record { course = h.away.course; parts = numbered_fits r.away.parts s o n h.away.parts; rooms = h.away.rooms; copy = h.away.copy };
  own = h.own;
  in_mark = h.in_mark;
  boot = h.boot;
}

pub shown_ready : (s : State) (shown o : OpenOperation) (r : PhaseReady) → record shown { number = o.number } ≡ o → IsReadyFor s shown r → IsReadyFor s o r
shown_ready s shown o r e h = subst (λ (x : OpenOperation). IsReadyFor s x r) e (ready_numbered s shown o.number r h)

pub ready_in : {E : Type 0} (s : Standing) (q : Option OpenOperation) (o shown : OpenOperation) (at : State) (r : Result PhaseReady E)
    → q ≡ Some o → at ≡ s.state → record shown { number = o.number } ≡ o → IfOk r (IsReadyFor at shown) → IfOk r (IsPhaseReady s q)
ready_in s q o shown at (Ok x) is here same h =
    subst (λ (p : Option OpenOperation). IsPhaseReady s p x) (sym is) (shown_ready s.state shown o x same (subst (λ (t : State). IsReadyFor t shown x) here h))
ready_in s q o shown at (Err e) is here same h = tt
