-- The call and the operation that are open under another number stay.
use Rattle.std.proofs.Common.{◌≡◌, ℕ, ◌==◌, List, [], ◌∷◌, ◌++◌, Bool, true, false, not, ◌&&◌, Option, None, Some, if◌then◌else◌, refl, sym, ap, ◌∙◌, subst, arith}
use Rattle.std.proofs.lemmas.Bool.Decides.{nat_tests}
use Rattle.domain_spec.specs.Types.{Answer, Ask, Call, Job, OpKind, Reply, State, Transition, Who}
use Rattle.domain_spec.specs.declared.core_step.CoreStep.{CoreStep}
use Rattle.domain_spec.specs.declared.core_step.CoreStep.TheVariants as step
use Rattle.domain_spec.specs.declared.mark.HeldOperation.{HeldOperation}
use Rattle.domain_spec.specs.declared.mark.Mark.{Mark}
use Rattle.domain_spec.specs.declared.mark.Mark.TheVariants as mark
use Rattle.domain_spec.specs.declared.open.OpenJob.{OpenJob}
use Rattle.domain_spec.specs.declared.open.OpenOperation.{OpenOperation}
use Rattle.domain_spec.specs.declared.standing.Standing.{Standing}
use Rattle.domain_spec.specs.declared.step.Outcome.{Outcome}
use Rattle.domain_spec.specs.declared.step.Outcome.TheVariants as outcome
use Rattle.domain_spec.specs.Reading.{live_boot}
use Rattle.domain_spec.specs.Types.{Phase}
use Rattle.domain_spec.specs.Begin.{begin_state, due_phase, named_call}
use Rattle.domain_spec.specs.Call.{takes_up}
use Rattle.domain_spec.specs.Chapter.{next_base}
use Rattle.domain_spec.specs.CanTake.{CanTake}
use Rattle.domain_spec.specs.Cell.{Cell, as_let_in, operation_of, standing_of}
use Rattle.domain_spec.specs.Fold.{after, after_phase, after_take_up, at_base, carries, job_at_exit, standing, taken_up}
use Rattle.domain_spec.specs.JobTable.{MayBegin}
use Rattle.domain_spec.specs.Lawful.{IsDone, IsEnded, IsPhased, IsStarted, IsTakenUp}
use Rattle.domain_spec.specs.Open.{MayAdmit, is_rest, job_held, operation_held}
use Rattle.domain_spec.specs.Sequential.{meets_ended}
use Rattle.domain_spec.specs.Steps.{IsPhaseLetIn, LetsIn}
use Rattle.domain_spec.specs.TakeUp.{rests_for}
use Rattle.domain_spec.specs.Turns.{BeginsBy, GoOn, GoesOnBy, IsTurn, Leads, MayLeave}
use Rattle.domain_spec.proofs.ClosedProofs.{none_may}
use Rattle.domain_spec.proofs.LawProofs.{standing-append}
use Rattle.core_step_laws.specs.Shares.{IsStepOf}
use Rattle.core_step_laws.proofs.Marks.{lets_in_of, own_is}

-- numbers that differ

equal_by : (a b : ℕ) → (a == b) ≡ true → a ≡ b
equal_by a b e = grind (arith, nat_tests, e)

pub differ : (a b : ℕ) (t : Bool) → (a == b) ≡ t → (a ≡ b → ⊥) → t ≡ false
differ a b true e unlike = absurd (unlike (equal_by a b e))
differ a b false e unlike = refl

pub same_by : (a b : ℕ) (t : Bool) → (a == b) ≡ t → t ≡ true → a ≡ b
same_by a b t e f = equal_by a b (e ∙ f)

-- the call that is open, as another number sees it

abbrev pub seen_of : ℕ → Option OpenJob → Option OpenJob
seen_of m None = None
seen_of m (Some j) = if j.number == m then Some (as_let_in j) else None

pub seen_none : (m : ℕ) (j : OpenJob) → (j.number ≡ m → ⊥) → seen_of m (Some j) ≡ None
seen_none m j unlike = ap (λ (b : Bool). if b then Some (as_let_in j) else None) (differ j.number m (j.number == m) refl unlike)

open_none : (m : ℕ) (o : OpenOperation) → (o.number ≡ m → ⊥) → operation_of (Some o) m ≡ None
open_none m o unlike = ap (λ (b : Bool). if b && not (is_rest o.outcome) then Some o else None) (differ o.number m (o.number == m) refl unlike)

and_not : (b r : Bool) (o : OpenOperation) → r ≡ true → (if b && not r then Some o else None) ≡ None
and_not true true o e = refl
and_not false true o e = refl
and_not b false o e = cc

rest_none : (m : ℕ) (o : OpenOperation) → is_rest o.outcome ≡ true → operation_of (Some o) m ≡ None
rest_none m o e = and_not (o.number == m) (is_rest o.outcome) o e

-- what another number has open stays
pub record Stays (m : ℕ) (s t : Standing) : Type 0 where
  pub job : seen_of m t.job ≡ seen_of m s.job
  pub operation : operation_of t.operation m ≡ operation_of s.operation m

stays_then : (m : ℕ) (s t u : Standing) → Stays m s t → Stays m t u → Stays m s u
stays_then m s t u h g = record { job = g.job ∙ h.job; operation = g.operation ∙ h.operation }

-- mark by mark

pub done_stays : (m : ℕ) (s : Standing) (j : Option OpenJob) (number : ℕ) (who : Who) (d : Call) (boot : Option ℕ) (asks : List Ask) (answers : List Answer) (r : Reply) (events : List Transition)
    → s.job ≡ j → IsDone s j number who d boot asks answers r events → (number ≡ m → ⊥) → Stays m s (after s (mark.Done number who d boot asks answers r events))
done_stays m s None number who d boot asks answers r events is h unlike = absurd h
done_stays m s (Some j) number who d boot asks answers r events is h unlike = record {
  job = sym (ap (λ (x : Option OpenJob). seen_of m x) is ∙ seen_none m j (λ e. unlike (h.0.numbered ∙ e)));
  operation = refl;
}

pub phase_stays : (m : ℕ) (s : Standing) (j : Option OpenJob) (o : Option OpenOperation) (number : ℕ) (who : Who) (p : Phase) (asks : List Ask) (answers : List Answer) (next : Outcome) (events : List Transition)
    → s.job ≡ j → s.operation ≡ o → IsPhased s j o number who p asks answers next events → (number ≡ m → ⊥) → Stays m s (after s (mark.Phase number who p asks answers next events))
phase_stays m s None o number who p asks answers next events is op h unlike = absurd h
phase_stays m s (Some j) None number who p asks answers next events is op h unlike = absurd h
phase_stays m s (Some j) (Some o) number who p asks answers next events is op h unlike = record {
  job =
      ap (λ (q : Option OpenOperation). seen_of m (after_phase s q answers next).job) op
      ∙ sym (ap (λ (x : Option OpenJob). seen_of m x) is ∙ seen_none m j (λ e. unlike (h.nested.job_number ∙ e)));
  operation =
      ap (λ (q : Option OpenOperation). operation_of (after_phase s q answers next).operation m) op
      ∙ open_none m (record o { outcome = next }) (λ e. unlike (h.nested.numbered ∙ e))
      ∙ sym (ap (λ (q : Option OpenOperation). operation_of q m) op ∙ open_none m o (λ e. unlike (h.nested.numbered ∙ e)));
}

-- the operation that begins
abbrev begun : Standing → ℕ → Who → Call → OpenOperation
begun s number who d =
    let next = begin_state s.state who d in record { number = number; who = who; call = named_call s.state d; boot = live_boot next; outcome = outcome.On (due_phase next) }

pub start_stays : (m : ℕ) (s : Standing) (j : Option OpenJob) (number : ℕ) (who : Who) (d : Call) (boot : Option ℕ) → s.job ≡ j → IsStarted s j number who d boot → (number ≡ m → ⊥)
    → Stays m s (after s (mark.Start number who d boot))
start_stays m s None number who d boot is h unlike = absurd h
start_stays m s (Some j) number who d boot is h unlike = record {
  job = sym (ap (λ (x : Option OpenJob). seen_of m x) is ∙ seen_none m j (λ e. unlike (h.call.numbered ∙ e)));
  operation = open_none m (begun s number who d) unlike ∙ sym (ap (λ (q : Option OpenOperation). operation_of q m) h.alone);
}

first_of : (a b : Bool) → (a && b) ≡ true → a ≡ true
first_of true b e = refl
first_of false b e = cc

second_of : (a b : Bool) → (a && b) ≡ true → b ≡ true
second_of true b e = e
second_of false b e = cc

none_rests : (k : Option OpKind) → rests_for k None ≡ true → ⊥
none_rests None e = cc
none_rests (Some k) e = cc

rests_then : (k : Option OpKind) (o : OpenOperation) → rests_for k (operation_held (Some o)) ≡ true → is_rest o.outcome ≡ true
rests_then None o e = cc
rests_then (Some k) o e = first_of (is_rest o.outcome) _ e

pub take_up_stays : (m : ℕ) (s : Standing) (j : Option OpenJob) (o : Option OpenOperation) (number : ℕ) (who : Who) (d : Call) → s.job ≡ j → s.operation ≡ o → IsTakenUp s j number who d → (number ≡ m → ⊥)
    → Stays m s (after s (mark.TakeUp number who d))
take_up_stays m s None o number who d is op h unlike = absurd h
take_up_stays m s (Some j) None number who d is op h unlike =
    let rests : rests_for (takes_up d) (operation_held s.operation) ≡ true = second_of (not (meets_ended s.state d j.boot)) _ h.takes in
    absurd (none_rests (takes_up d) (sym (ap (λ (q : Option OpenOperation). rests_for (takes_up d) (operation_held q)) op) ∙ rests))
take_up_stays m s (Some j) (Some o) number who d is op h unlike =
    let rests : rests_for (takes_up d) (operation_held s.operation) ≡ true = second_of (not (meets_ended s.state d j.boot)) _ h.takes in
    let rest : is_rest o.outcome ≡ true = rests_then (takes_up d) o (sym (ap (λ (q : Option OpenOperation). rests_for (takes_up d) (operation_held q)) op) ∙ rests) in
    record {
      job =
          ap (λ (q : Option OpenOperation). seen_of m (after_take_up s q number who d).job) op
          ∙ sym (ap (λ (x : Option OpenJob). seen_of m x) is ∙ seen_none m j (λ e. unlike (h.call.numbered ∙ e)));
      operation =
          ap (λ (q : Option OpenOperation). operation_of (after_take_up s q number who d).operation m) op
          ∙ open_none m (taken_up number who d o) unlike
          ∙ sym (ap (λ (q : Option OpenOperation). operation_of q m) op ∙ rest_none m o rest);
    }

exit_if : (m : ℕ) (at : State) (j : OpenJob) (b : Bool) → seen_of m (Some (if b then record j { before = Some at } else j)) ≡ seen_of m (Some j)
exit_if m at j true = refl
exit_if m at j false = refl

pub exit_seen : (m : ℕ) (at : State) (boot : ℕ) (j : Option OpenJob) → seen_of m (job_at_exit at boot j) ≡ seen_of m j
exit_seen m at boot None = refl
exit_seen m at boot (Some j) = exit_if m at j (carries j.boot boot)

end_stays : (m : ℕ) (s : Standing) (o : Option OpenOperation) (number : ℕ) (who : Who) (r : Reply) → s.operation ≡ o → IsEnded s o number who r → (number ≡ m → ⊥) → Stays m s (after s (mark.End number who r))
end_stays m s None number who r op h unlike = absurd h
end_stays m s (Some o) number who r op h unlike = record {
  job = refl;
  operation = sym (ap (λ (q : Option OpenOperation). operation_of q m) op ∙ open_none m o (λ e. unlike (h.numbered ∙ e)));
}

not_own : (n m number : ℕ) → number ≡ n → (m ≡ n → ⊥) → number ≡ m → ⊥
not_own n m number own unlike e = unlike (sym e ∙ own)

goes_stays : (c : Cell) (t : CoreStep ℕ) (n m : ℕ) (s : Standing) (k : Mark ℕ) → IsStepOf n t → (m ≡ n → ⊥) → GoesOnBy c t s k → Stays m s (after s k)
goes_stays c t n m s (mark.Done number who d boot asks answers r events) e unlike h =
    done_stays m s s.job number who d boot asks answers r events refl h.2 (not_own n m number (own_is t n number e h.0) unlike)
goes_stays c t n m s (mark.Phase number who p asks answers next events) e unlike h =
    phase_stays m s s.job s.operation number who p asks answers next events refl refl h.2 (not_own n m number (own_is t n number e h.0) unlike)
goes_stays c t n m s (mark.Start number who d boot) e unlike h = start_stays m s s.job number who d boot refl h.1 (not_own n m number (own_is t n number e h.0) unlike)
goes_stays c t n m s (mark.TakeUp number who d) e unlike h = take_up_stays m s s.job s.operation number who d refl refl h.1 (not_own n m number (own_is t n number e h.0) unlike)
goes_stays c t n m s (mark.Exit boot why events) e unlike h = record { job = exit_seen m s.state boot s.job; operation = refl }
goes_stays c t n m s (mark.Event boot g events) e unlike h = record { job = refl; operation = refl }
goes_stays c t n m s (mark.Cut client total taken) e unlike h = record { job = refl; operation = refl }
goes_stays c t n m s other e unlike h = absurd h

-- where a call is let in none is open

free_by : (j : Option OpenJob) (op : Option HeldOperation) (taking : Option OpKind) (wanted : Job) (who : Who) → MayAdmit (job_held j) op taking wanted who → j ≡ None
free_by None op taking wanted who may = refl
free_by (Some j) op taking wanted who may = absurd (none_may j.number (Some j) op taking wanted who refl may)

begin_free : (j : Option OpenJob) (op : Option HeldOperation) → MayBegin (job_held j) op → j ≡ None
begin_free None op may = refl
begin_free (Some j) op may = absurd may

phase_free : (s : Standing) (o : Option OpenOperation) (number : ℕ) (w : Who) (wanted : Job) (d : Call) (boot : Option ℕ) → IsPhaseLetIn s o number w wanted d boot → s.job ≡ None
phase_free s None number w wanted d boot h = absurd h
phase_free s (Some o) number w wanted d boot h = h.free

pub lets_in_free : (c : Cell) (t : CoreStep ℕ) (number : ℕ) (w : Who) (wanted : Job) (d : Call) (boot : Option ℕ) → LetsIn c t number w wanted d boot → (standing_of c).job ≡ None
lets_in_free c (step.Look k who x first) number w wanted d boot h = free_by (standing_of c).job _ _ _ _ h.2
lets_in_free c (step.BeginOp k who x) number w wanted d boot h = begin_free (standing_of c).job _ h.2
lets_in_free c (step.TakeUp k who x) number w wanted d boot h = free_by (standing_of c).job _ _ _ _ h.2
lets_in_free c (step.Phase k who) number w wanted d boot h = phase_free (standing_of c) (standing_of c).operation number w wanted d boot h
lets_in_free c other number w wanted d boot h = absurd h

begins_stays : (c : Cell) (t : CoreStep ℕ) (n m : ℕ) (k : Mark ℕ) → IsStepOf n t → (m ≡ n → ⊥) → CanTake c t → BeginsBy c t (standing_of c) k → Stays m (standing_of c) (after (standing_of c) k)
begins_stays c t n m (mark.Admit number w wanted d boot) e unlike can h = record {
  job =
      seen_none m (record { number = number; who = w; job = wanted; call = d; boot = boot; before = None }) (not_own n m number (lets_in_of c t n number w wanted d boot e can h) unlike)
      ∙ sym (ap (λ (x : Option OpenJob). seen_of m x) (lets_in_free c t number w wanted d boot h));
  operation = refl;
}
begins_stays c t n m (mark.Refused number w d why held) e unlike can h = record { job = refl; operation = refl }
begins_stays c (step.EndOp x who) n m (mark.End number w r) e unlike can h = end_stays m (standing_of c) (standing_of c).operation number w r refl h.2 (not_own n m number (h.0 ∙ e) unlike)
begins_stays c t n m (mark.End number w r) e unlike can h = absurd h
begins_stays c t n m (mark.Watch number client) e unlike can h = record { job = refl; operation = refl }
begins_stays c t n m (mark.Unwatch number client) e unlike can h = record { job = refl; operation = refl }
begins_stays c t n m k e unlike can h = goes_stays c t n m (standing_of c) k e unlike h

on_stays : (c : Cell) (t : CoreStep ℕ) (n m : ℕ) (s : Standing) (marks : List (Mark ℕ)) → IsStepOf n t → (m ≡ n → ⊥) → GoOn c t s marks → Stays m s (standing s marks)
on_stays c t n m s [] e unlike h = record { job = refl; operation = refl }
on_stays c t n m s (k ∷ marks) e unlike h = stays_then m s (after s k) (standing (after s k) marks) (goes_stays c t n m s k e unlike h.0) (on_stays c t n m (after s k) marks e unlike h.2)

left_stays : (c : Cell) (t : CoreStep ℕ) (n m : ℕ) (marks : List (Mark ℕ)) → IsStepOf n t → (m ≡ n → ⊥) → CanTake c t → MayLeave c t marks → Stays m (standing_of c) (standing (standing_of c) marks)
left_stays c t n m [] e unlike can h = record { job = refl; operation = refl }
left_stays c t n m (k ∷ marks) e unlike can h =
    let s : Standing = standing_of c in
    stays_then m s (after s k) (standing (after s k) marks) (begins_stays c t n m k e unlike can h.0) (on_stays c t n m (after s k) marks e unlike h.2)

-- from one cell to the next

pub on_base : (c d : Cell) (left : List (Mark ℕ)) → d.base ≡ c.base → d.marks ≡ c.marks ++ left → standing_of d ≡ standing (standing_of c) left
on_base c d left base marks =
    ap (λ (b : _). standing (at_base b) d.marks) base ∙ ap (λ (ms : List (Mark ℕ)). standing (at_base c.base) ms) marks ∙ standing-append (at_base c.base) c.marks left

rotated : (c d : Cell) (m : ℕ) → (standing_of c).job ≡ None → d.base ≡ next_base (standing_of c) c.registrations → d.marks ≡ [] → Stays m (standing_of c) (standing_of d)
rotated c d m free base marks =
    let is : standing_of d ≡ at_base (next_base (standing_of c) c.registrations) =
    ap (λ (b : _). standing (at_base b) d.marks) base ∙ ap (λ (ms : List (Mark ℕ)). standing (at_base (next_base (standing_of c) c.registrations)) ms) marks in
    record {
      job = ap (λ (s : Standing). seen_of m s.job) is ∙ sym (ap (λ (x : Option OpenJob). seen_of m x) free);
      operation = ap (λ (s : Standing). operation_of s.operation m) is;
    }

pub cell_stays : (c d : Cell) (t : CoreStep ℕ) (n m : ℕ) (left : List (Mark ℕ)) → IsStepOf n t → (m ≡ n → ⊥) → IsTurn c t left → Leads c t left d → Stays m (standing_of c) (standing_of d)
cell_stays c d (step.Rotate k who) n m left e unlike turn leads = rotated c d m turn.can.1 leads.base leads.marks
cell_stays c d other n m left e unlike turn leads =
    subst (λ (s : Standing). Stays m (standing_of c) s) (sym (on_base c d left leads.base leads.marks)) (left_stays c other n m left e unlike turn.can turn.left)
