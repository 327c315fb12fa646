-- Why what the ledger leaves of an operation is what a turn of a domain may leave.
use Rattle.std.proofs.Common.{◌≡◌, ℕ, ◌+◌, List, [], ◌∷◌, ◌++◌, length, take, Bool, true, false, inl, Option, None, Some, if◌then◌else◌, refl, sym, ap, ◌∙◌, subst}
use Rattle.std.proofs.lemmas.List.{length-append}
use Rattle.domain_spec.specs.Types.{Answer, Ask, Job, OpKind, State, Who}
use Rattle.domain_spec.specs.Types.job
use Rattle.domain_spec.specs.Types.reason
use Rattle.domain_spec.specs.declared.core_step.CoreStep.{CoreStep}
use Rattle.domain_spec.specs.declared.core_step.CoreStep.TheVariants as step
use Rattle.domain_spec.specs.declared.mark.HeldOperation.{HeldOperation}
use Rattle.domain_spec.specs.declared.mark.Mark.{Mark}
use Rattle.domain_spec.specs.declared.mark.Mark.TheVariants as mark
use Rattle.domain_spec.specs.declared.open.OpenJob.{OpenJob}
use Rattle.domain_spec.specs.declared.open.OpenOperation.{OpenOperation}
use Rattle.domain_spec.specs.declared.planned.PlannedAsk.{PlannedAsk}
use Rattle.domain_spec.specs.declared.standing.Standing.{Standing}
use Rattle.domain_spec.specs.Asks.{asks_left, asks_made}
use Rattle.domain_spec.specs.Call.{takes_up}
use Rattle.domain_spec.specs.CanTake.{WaitsForAnswer}
use Rattle.domain_spec.specs.Cell.{Cell, asks_so_far, phase_asks, planned_at, standing_of}
use Rattle.domain_spec.specs.Exit.{exit_transitions}
use Rattle.domain_spec.specs.Fold.{after, after_phase, lost_boot, standing}
use Rattle.domain_spec.specs.Legal.{IsLawful, MarksLoss}
use Rattle.domain_spec.specs.Open.{IsOwnJob, MayAdmit, job_held, operation_held}
use Rattle.domain_spec.specs.Phase.{phase_asked, phase_of, phase_still_asked, plan_in}
use Rattle.domain_spec.specs.Reading.{carries_ended, is_live, live_boot}
use Rattle.domain_spec.specs.Steps.{AnswersBy, IsExitOf, IsPhaseLetIn}
use Rattle.domain_spec.specs.Turns.{GoOn, IsOwn}
use Rattle.core_rules.specs.Next.{is_ask, next_of}
use Rattle.core_plan.specs.Along.{Asked}
use Rattle.core_plan.specs.Going.{first_course}
use Rattle.core_flight.proofs.Turned.{done_is_left}
use Rattle.core_flight.specs.Turned.{admit_of}
use Rattle.core_plan.specs.PhaseAway.{IsPhaseAway}
use Rattle.core_plan.proofs.Keeping.{is_there}
use Rattle.core_chapter.proofs.Closed.{is_lost_live}
use Rattle.core_flight.specs.Ledger.{IsPhaseLawful, loss, phase_closing, phased_by}
use Rattle.core_flight.specs.Operations.{nested_admit}
use Rattle.core_flight.specs.Operated.{AwayPhaseWaits, BegunIsLeft, EndIsLeft, PhaseIsLeft, PhaseLetInIsLeft, RefusedIsLeft, TakenUpIsLeft}

no_loss : (s : Standing) (m : Mark ℕ) → s.lost ≡ None → MarksLoss s.lost m
no_loss s m e = subst (λ (o : Option ℕ). MarksLoss o m) (sym e) tt

pub begun_is_left : BegunIsLeft
begun_is_left c n who d boot more lost letin lawful h = (letin, no_loss (standing_of c) (admit_of n who d boot) lost, ((refl, lawful.in_order), lawful.loss, h))

pub taken_up_is_left : TakenUpIsLeft
taken_up_is_left c n who d boot more lost letin lawful h = (letin, no_loss (standing_of c) (admit_of n who d boot) lost, ((refl, lawful.in_order), lawful.loss, h))

pub refused_is_left : RefusedIsLeft
refused_is_left c t n who d boot more lost letin own answers lawful h =
    let s : Standing = after (standing_of c) (admit_of n who d boot) in (
      letin,
      no_loss (standing_of c) (admit_of n who d boot) lost,
      done_is_left c t s n (first_course (standing_of c).state d boot) more own answers lawful h,
    )

-- the end of a boot that was lost comes next

lost_next : (c : Cell) (t : CoreStep ℕ) (s : Standing) (lost : Option ℕ) (more : List (Mark ℕ)) → s.lost ≡ lost → ((boot : ℕ) → lost ≡ Some boot → IsExitOf s t boot reason.Lost (exit_transitions reason.Lost))
    → GoOn c t (standing s (loss lost)) more → GoOn c t s (loss lost ++ more)
lost_next c t s None more e exit h = h
lost_next c t s (Some boot) more e exit h = (
  exit boot refl,
  subst (λ (o : Option ℕ). MarksLoss o (mark.Exit boot reason.Lost (exit_transitions reason.Lost))) (sym e) (refl, refl),
  h,
)

-- what is in force after a phase, by the operation that is open
lost_after : (s : Standing) (o : OpenOperation) (q : Option OpenOperation) (n : ℕ) (a : Asked) → s.operation ≡ q → q ≡ Some o
    → (after s (phased_by s o n a)).lost ≡ lost_boot (phase_of s.state o a.answers).state o.boot a.answers
lost_after s o q n a is same = ap (λ (r : Option OpenOperation). (after_phase s r a.answers (phase_of s.state o a.answers).outcome).lost) (is ∙ same)

state_after : (s : Standing) (o : OpenOperation) (n : ℕ) (a : Asked) → s.operation ≡ Some o → (after s (phased_by s o n a)).state ≡ (phase_of s.state o a.answers).state
state_after s o n a is = ap (λ (r : Option OpenOperation). (after_phase s r a.answers (phase_of s.state o a.answers).outcome).state) is

phase_left : (c : Cell) (t : CoreStep ℕ) (s : Standing) (q : Option OpenOperation) (n : ℕ) (a : Asked) (more : List (Mark ℕ)) → s.operation ≡ q → IsOwn t n → AnswersBy c t a.answers → IsPhaseLawful s q n a
    → GoOn c t (standing s (phase_closing s q n a)) more → GoOn c t s (phase_closing s q n a ++ more)
phase_left c t s None n a more is own answers lawful h = absurd lawful
phase_left c t s (Some o) n a more is own answers lawful h =
    let next : State = (phase_of s.state o a.answers).state in
    let there : Standing = after s (phased_by s o n a) in (
      (own, answers, lawful.in_order),
      lawful.loss,
      lost_next c t there (lost_boot next o.boot a.answers) more (lost_after s o s.operation n a refl is)
          (λ boot e. record {
            by = inl (lost_after s o s.operation n a refl is ∙ e, refl);
            live = subst (λ (x : State). is_live x boot ≡ true) (sym (state_after s o n a is)) (is_lost_live next o.boot a.answers boot e);
            told = refl;
          }) h,
    )

pub phase_is_left : PhaseIsLeft
phase_is_left c t s n a more own answers lawful h = phase_left c t s s.operation n a more refl own answers lawful h

-- a phase that is let in

free_by : (j : Option OpenJob) (op : HeldOperation) (taking : Option OpKind) (who : Who) → MayAdmit (job_held j) (Some op) taking job.Nested who → (j ≡ None) × (who ≡ op.who)
free_by None op None who may = (refl, may.caller)
free_by None op (Some k) who may = (refl, may.caller)
free_by (Some j) op None who may = absurd may
free_by (Some j) op (Some k) who may = absurd may

phase_let_in : (s : Standing) (o : OpenOperation) (n : ℕ) (who : Who) → s.operation ≡ Some o → IsLawful s (nested_admit s o n who) → IsPhaseLetIn s s.operation n who job.Nested o.call (live_boot s.state)
phase_let_in s o n who is lawful =
    let own : IsOwnJob (Some o) n job.Nested o.call = subst (λ (q : Option OpenOperation). IsOwnJob q n job.Nested o.call) is lawful.in_order.own in
    let may : MayAdmit (job_held s.job) (operation_held (Some o)) (takes_up o.call) job.Nested who =
    subst (λ (q : Option OpenOperation). MayAdmit (job_held s.job) (operation_held q) (takes_up o.call) job.Nested who) is lawful.in_order.may in
    let free = free_by s.job _ (takes_up o.call) who may in
    subst (λ (q : Option OpenOperation). IsPhaseLetIn s q n who job.Nested o.call (live_boot s.state)) (sym is) (record {
      free = free.0;
      numbered = own.0;
      caller = free.1;
      same_call = refl;
      nested = refl;
      due = own.2;
      carried = refl;
    })

pub phase_let_in_is_left : PhaseLetInIsLeft
phase_let_in_is_left c o n who a more is lost lawful answers phased h =
    let s : Standing = after (standing_of c) (nested_admit (standing_of c) o n who) in (
      phase_let_in (standing_of c) o n who is lawful,
      lawful.loss,
      phase_is_left c (step.Phase n who) s n a more refl answers phased h,
    )

-- a phase that is away

one_left : (asks : List Ask) → is_ask (next_of asks) ≡ true → length (take 1 asks) ≡ 1
one_left [] e = cc
one_left (x ∷ asks) e = refl

asked_live : (ended : Bool) (asks : List Ask) → ended ≡ false → (if ended then [] else asks) ≡ asks
asked_live true asks e = cc
asked_live false asks e = refl

waits_by_plan : (at : State) (o : OpenOperation) (a : Asked) → a.plan ≡ plan_in at o.call a.answers → carries_ended at o.boot ≡ false → length (asks_made a.plan a.answers) ≡ length a.answers
    → is_ask (next_of (asks_left a.plan a.answers)) ≡ true → length (phase_asks at (Some o) a.answers) ≡ length a.answers + 1
waits_by_plan at o a is live len waits =
    let made_so : phase_asked at o a.answers ≡ asks_made a.plan a.answers =
    asked_live (carries_ended at o.boot) (asks_made (plan_in at o.call a.answers) a.answers) live ∙ sym (ap (λ (p : List PlannedAsk). asks_made p a.answers) is) in
    let left_so : phase_still_asked at o a.answers ≡ asks_left a.plan a.answers =
    asked_live (carries_ended at o.boot) (asks_left (plan_in at o.call a.answers) a.answers) live ∙ sym (ap (λ (p : List PlannedAsk). asks_left p a.answers) is) in
    let one : length (take 1 (asks_left a.plan a.answers)) ≡ 1 = one_left (asks_left a.plan a.answers) waits in
    ap (λ (xs : List Ask). length (xs ++ take 1 (phase_still_asked at o a.answers))) made_so
    ∙ ap (λ (xs : List Ask). length (asks_made a.plan a.answers ++ take 1 xs)) left_so
    ∙ length-append (asks_made a.plan a.answers) (take 1 (asks_left a.plan a.answers))
    ∙ ap (λ (m : ℕ). m + length (take 1 (asks_left a.plan a.answers))) len
    ∙ ap (λ (m : ℕ). length a.answers + m) one

waits_in : (c : Cell) (s : Standing) (k : Option OpenJob) (j : OpenJob) (o : OpenOperation) (a : Asked) → standing_of c ≡ s → k ≡ Some j → s.operation ≡ Some o → IsPhaseAway s.state o j a → c.answers ≡ a.answers
    → WaitsForAnswer c k
waits_in c s None j o a at is op h e = cc
waits_in c s (Some k) j o a at is op h e =
    let same : k ≡ j = cc in
    let live : carries_ended (planned_at s.state j) o.boot ≡ false = is_there (planned_at s.state j) o.boot h.boot h.was_live h.operated in
    subst (λ (x : OpenJob). WaitsForAnswer c (Some x)) (sym same)
    (subst (λ (x : Standing). length (asks_so_far x j.job j c.answers) ≡ length c.answers + 1) (sym at)
    (subst (λ (xs : List Answer). length (asks_so_far s j.job j xs) ≡ length xs + 1) (sym e)
    (subst (λ (w : Job). length (asks_so_far s w j a.answers) ≡ length a.answers + 1) (sym h.nested.nested)
    (subst (λ (q : Option OpenOperation). length (phase_asks (planned_at s.state j) q a.answers) ≡ length a.answers + 1) (sym op)
    (waits_by_plan (planned_at s.state j) o a h.plan live h.asked h.waits)))))

pub away_phase_waits : AwayPhaseWaits
away_phase_waits c j o a is op h e = waits_in c (standing_of c) (standing_of c).job j o a refl is op h e

pub end_is_left : EndIsLeft
end_is_left c n who r more lawful h = ((refl, refl, lawful.in_order), lawful.loss, h)
