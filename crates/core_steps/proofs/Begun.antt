-- A call that looks whether its operation may begin, or may be taken up.
use Rattle.std.proofs.Common.{◌≡◌, ℕ, ◌==◌, List, [], ◌∷◌, ◌++◌, map, Bool, true, false, inl, inr, not, ◌&&◌, Option, None, Some, if◌then◌else◌, refl, sym, ap, ◌∙◌, subst, append-nil, arith}
use Rattle.std.proofs.lemmas.Bool.Decides.{nat_tests}
use Rattle.domain_spec.specs.Types.{Call, Job, OpKind, Reply, Who}
use Rattle.domain_spec.specs.Types.code
use Rattle.domain_spec.specs.declared.core_step.CoreStep.{CoreStep}
use Rattle.domain_spec.specs.declared.core_step.CoreStep.TheVariants as step
use Rattle.domain_spec.specs.declared.mark.HeldJobs.{HeldJobs}
use Rattle.domain_spec.specs.declared.mark.HeldOperation.{HeldOperation}
use Rattle.domain_spec.specs.declared.mark.Mark.{Mark}
use Rattle.domain_spec.specs.declared.mark.Mark.TheVariants as mark
use Rattle.domain_spec.specs.declared.open.OpenJob.{OpenJob}
use Rattle.domain_spec.specs.declared.open.OpenOperation.{OpenOperation}
use Rattle.domain_spec.specs.declared.standing.Registration.{Registration}
use Rattle.domain_spec.specs.declared.standing.Standing.{Standing}
use Rattle.domain_spec.specs.declared.step.Outcome.{Outcome}
use Rattle.domain_spec.specs.declared.step.Outcome.TheVariants as outcome
use Rattle.domain_spec.specs.Call.{job_of, takes_up}
use Rattle.domain_spec.specs.Cell.{Cell, HeldEvent, LentEars, Queue, operation_of}
use Rattle.domain_spec.specs.Fold.{after, after_take_up, standing}
use Rattle.domain_spec.specs.JobTable.{MayBegin, MayTakeUp}
use Rattle.domain_spec.specs.Kept.{LooksOn, WaitAfter, events_in, left_queue}
use Rattle.domain_spec.specs.Open.{Excludes, OperationGoesOn, is_rest, job_held, operation_held}
use Rattle.domain_spec.specs.Reading.{live_boot}
use Rattle.domain_spec.specs.Registrations.{with_pending}
use Rattle.domain_spec.specs.Sequential.{meets_ended}
use Rattle.domain_spec.specs.Steps.{AnswersBy, IsTurnedAway, LetsIn, TurnsAway}
use Rattle.domain_spec.specs.TakeUp.{rests_for}
use Rattle.domain_spec.specs.Turns.{GoOn, IsOwn}
use Rattle.domain_spec.proofs.LawProofs.{standing-append}
use Rattle.core_log.specs.Below.core_plan.Along.{Asked}
use Rattle.core_log.specs.Below.core_plan.Going.{first_course}
use Rattle.core_log.specs.Below.core_flight.Ledger.{closing, standing_in}
use Rattle.core_log.specs.Below.core_flight.Told.{told_last}
use Rattle.event_queue.specs.Listening.{registrations}
use Rattle.job_rules.specs.QueueWaiting.{callers_in}
use Rattle.core_log.specs.Record.{HasMarked, IsDoneWith, Recorded, admit_of, cuts_after, force_of}
use Rattle.core_log.proofs.Cuts.{legal_ending}
use Rattle.core_log.proofs.Joining.{force_after}
use Rattle.core_steps.specs.Looking.{IsTurned, with_room}
use Rattle.core_steps.specs.Turning.{HasDone, HasTurned, IsSettled, Takes, cell_of, turning}
use Rattle.core_steps.proofs.LookedAt.{DoneAt, done_at, no_loss}
use Rattle.core_steps.proofs.Marks.{cuts_go_on, events_append, has_done, no_event_closing, no_event_cut}
use Rattle.core_steps.proofs.Waiting.{none_open}
use Rattle.core_log.proofs.Below.core_flight.Operated.{begun_is_left, refused_is_left, taken_up_is_left}
use Rattle.core_steps.specs.Beginning.{Looks, WaitsSo}
use Rattle.core_steps.specs.OperationLaws.{BeginsAreTurns, CanTurn, TakeUpsAreTurns}
use Rattle.core_steps.specs.Phasing.{IsDue}
use Rattle.core_steps.specs.declared.beginning.OperationLook.{OperationLook}
use Rattle.core_steps.specs.declared.beginning.OperationLook.TheVariants as look
use Rattle.core_steps.proofs.Admitted.{take_up_may}
use Rattle.core_steps.proofs.Taken.{IsPlain, KeepsAnswers, frees, idle, none_held, stays}

-- a step by which a call looks
pub record Asks (t : CoreStep ℕ) (n : ℕ) (who : Who) (d : Call) : Type 0 where
  pub plain : IsPlain t
  pub own : IsOwn t n
  pub keeps : KeepsAnswers t []
  pub keeps_turned : (held : HeldJobs) → KeepsAnswers t (mark.Refused n who d code.TooManyWaiting held ∷ [])
  pub looks : (c : Cell) (p : Queue) → LooksOn c n who d [] p → WaitAfter c t [] p
  pub leaves : (c : Cell) (m : Mark ℕ) (left : List (Mark ℕ)) → WaitAfter c t (m ∷ left) (left_queue c.queue n who)
  pub answers : (c : Cell) → AnswersBy c t []
  pub turns_away : (c : Cell) (held : HeldJobs) → IsTurnedAway c n who d n who d held → TurnsAway c t n who d code.TooManyWaiting held

begins_asks : (n : ℕ) (who : Who) (d : Call) → Asks (step.BeginOp n who d) n who d
begins_asks n who d = record {
  plain = tt;
  own = refl;
  keeps = tt;
  keeps_turned = λ held. tt;
  looks = λ c p h. h;
  leaves = λ c m left. refl;
  answers = λ c. (0, refl);
  turns_away = λ c held h. (h, refl);
}

takes_asks : (n : ℕ) (who : Who) (d : Call) → Asks (step.TakeUp n who d) n who d
takes_asks n who d = record {
  plain = tt;
  own = refl;
  keeps = tt;
  keeps_turned = λ held. tt;
  looks = λ c p h. h;
  leaves = λ c m left. refl;
  answers = λ c. (0, refl);
  turns_away = λ c held h. (h, refl);
}

-- a call that was let in is refused at once

refused : (t : CoreStep ℕ) (old new : Recorded) (q p : Queue) (held : List HeldEvent) (ears : Option LentEars) (n : ℕ) (who : Who) (d : Call) (boot : Option ℕ) (r : Reply)
    → Asks t n who d → CanTurn old q held ears t → LetsIn (cell_of old q held ears) t n who (job_of d) d boot → held ≡ [] → IsSettled new
    → (spare : ℕ) → IsDoneWith (with_room old spare) (admit_of n who d boot ∷ []) n (first_course (force_of old).state d boot) new r → p ≡ left_queue q n who
    → Takes (turning old q held ears) (turning new p held ears) t (HasDone n r)
unfolding standing_in
refused t was new q p held ears n who d boot r asks h lets_in none_held settled spare done left_so =
    let old : Recorded = with_room was spare in
    let m : Mark ℕ = admit_of n who d boot in
    let c : Cell = cell_of old q held ears in
    let a : Asked = first_course (force_of old).state d boot in
    let s : Standing = after (force_of old) m in
    let at : DoneAt old new (m ∷ []) s n a r = done_at old new (m ∷ []) n a r done in
    let cuts : List (Mark ℕ) = cuts_after (registrations old.listeners) (told_last (m ∷ closing s s.job n a)) in
    let due : List Registration = map (with_pending (told_last (m ∷ closing s s.job n a))) (registrations old.listeners) in
    let left : List (Mark ℕ) = m ∷ (closing s s.job n a ++ cuts) in
    let marked = at.told.marked in
    let there : force_of new ≡ standing (force_of old) left = force_after old new left marked in
    let lost_last : (standing (force_of old) left).lost ≡ None = sym (ap (λ (x : Standing). x.lost) there) ∙ settled.lost in
    let legal_cuts = legal_ending s (closing s s.job n a) cuts marked.legal.1 in
    let split = standing-append s (closing s s.job n a) cuts in
    let go : GoOn c t (standing s (closing s s.job n a)) cuts =
    subst (λ (ms : List (Mark ℕ)). GoOn c t (standing s (closing s s.job n a)) ms) (append-nil cuts)
    (cuts_go_on c t (standing s (closing s s.job n a)) due [] legal_cuts (sym (ap (λ (x : Standing). x.lost) split) ∙ lost_last)) in
    let no_events : events_in left ≡ [] =
    events_append (closing s s.job n a) cuts ∙ ap (λ (hs : List HeldEvent). hs ++ events_in cuts) (no_event_closing s s.job n a) ∙ no_event_cut due in (
      left,
      frees t old new q p held ears left asks.plain h.can (refused_is_left c t n who d boot cuts h.settled.lost lets_in asks.own (asks.answers c) at.lawful go)
          marked no_events none_held (none_open new done.none_away settled.waits) done.none_away
          (subst (λ (z : Queue). WaitAfter c t left z) (sym left_so) (asks.leaves c m (closing s s.job n a ++ cuts))) settled,
      has_done s n a r cuts at.lawful at.reply,
    )

-- a phase is due of the operation that goes on for the call

same_number : (b : Bool) (m n : ℕ) → m ≡ n → (m == n) ≡ b → b ≡ true
same_number true m n e f = refl
same_number false m n e f = grind (arith, nat_tests, e, f)

own_if : (b rests : Bool) (o : OpenOperation) → b ≡ true → rests ≡ false → (if b && not rests then Some o else None) ≡ Some o
own_if true false o e f = refl
own_if true true o e f = cc
own_if false rests o e f = cc

pub own_operation : (o : OpenOperation) (n : ℕ) → o.number ≡ n → is_rest o.outcome ≡ false → operation_of (Some o) n ≡ Some o
own_operation o n e awake = own_if (o.number == n) (is_rest o.outcome) o (same_number (o.number == n) o.number n e refl) awake

awake_by : (o : Outcome) → OperationGoesOn o → is_rest o ≡ false
awake_by (outcome.On p) due = refl
awake_by (outcome.Over r) due = absurd due
awake_by (outcome.Rest r) due = absurd due

due_by : (q : Option OpenOperation) (o : OpenOperation) (n : ℕ) (who : Who) → q ≡ Some o → o.number ≡ n → o.who ≡ who → OperationGoesOn o.outcome → IsDue (operation_of q n) n who
due_by q o n who is numbered caller due =
    subst (λ (x : Option OpenOperation). IsDue (operation_of x n) n who) (sym is)
    (subst (λ (x : Option OpenOperation). IsDue x n who) (sym (own_operation o n numbered (awake_by o.outcome due))) (sym numbered, sym caller, due))

-- a call that is excluded

turned_away : (t : CoreStep ℕ) (old new : Recorded) (q p : Queue) (held : List HeldEvent) (ears : Option LentEars) (n : ℕ) (who : Who) (d : Call) (jobs : HeldJobs) (spare : ℕ)
    → Asks t n who d → CanTurn old q held ears t → IsSettled new → IsTurned n who d jobs (with_room old spare) new → jobs.waiting ≡ callers_in q → p ≡ left_queue q n who
    → HasTurned (turning old q held ears) (turning new p held ears) t (mark.Refused n who d code.TooManyWaiting jobs ∷ [])
unfolding standing_in
turned_away t was new q p held ears n who d jobs spare asks h settled is waiting left_so =
    let old : Recorded = with_room was spare in
    let m : Mark ℕ = mark.Refused n who d code.TooManyWaiting jobs in
    let c : Cell = cell_of old q held ears in
    let there : force_of new ≡ after (force_of old) m = force_after old new (m ∷ []) is.marked in
    stays t old new q p held ears (m ∷ []) asks.plain (asks.keeps_turned jobs) h.can
    ((asks.turns_away c jobs (record { numbered = refl; caller = refl; same_call = refl; waiting = waiting }), is.refused), no_loss (force_of old) m h.settled.lost, h.settled.lost)
    is.marked refl (ap (λ (s : Standing). s.job) there) is.course h.fits (subst (λ (z : Queue). WaitAfter c t (m ∷ []) z) (sym left_so) (asks.leaves c m [])) settled

idles : (t : CoreStep ℕ) (old new : Recorded) (q p : Queue) (held : List HeldEvent) (ears : Option LentEars) (n : ℕ) (who : Who) (d : Call)
    → Asks t n who d → CanTurn old q held ears t → IsSettled new → new ≡ with_room old new.spare → LooksOn (cell_of old q held ears) n who d [] p
    → HasTurned (turning old q held ears) (turning new p held ears) t []
idles t old new q p held ears n who d asks h settled same looks =
    idle t old new q p held ears asks.plain asks.keeps h.can h.settled h.room h.fits (ap (λ (r : Recorded). r.history) same) (ap (λ (r : Recorded). r.listeners) same) (ap (λ (r : Recorded). r.course) same)
    (asks.looks (cell_of old q held ears) p looks) settled

waits_are : (t : CoreStep ℕ) (marks : List (Mark ℕ)) (old new : Recorded) (q p : Queue) (held : List HeldEvent) (ears : Option LentEars) (n : ℕ) (who : Who) (d : Call) (result : OperationLook)
    → Asks t n who d → CanTurn old q held ears t → IsSettled new → Excludes (job_held (force_of old).job) (operation_held (force_of old).operation) d who → WaitsSo n who d old new q p result
    → Looks t marks n who d (turning old q held ears) (turning new p held ears) result
unfolding standing_in
waits_are t marks old new q p held ears n who d look.Begun asks h settled excluded x = absurd x
waits_are t marks old new q p held ears n who d (look.Done r) asks h settled excluded x = absurd x
waits_are t marks old new q p held ears n who d look.NoMemory asks h settled excluded x = ([], idles t old new q p held ears n who d asks h settled x.0 (inl x.1), refl)
waits_are t marks old new q p held ears n who d (look.WaitersFull w) asks h settled excluded x = (
  mark.Refused n who d code.TooManyWaiting x.0 ∷ [],
  turned_away t old new q p held ears n who d x.0 x.1 asks h settled x.2 x.3 x.4,
  ((refl, refl, refl, refl), x.5),
)
waits_are t marks old new q p held ears n who d (look.Excluded j b k) asks h settled excluded x = (
  [],
  idles t old new q p held ears n who d asks h settled x.0 (inr (excluded, x.1)),
  (
    refl,
    record {
      active_is = x.2;
      op_is = x.3;
      excluded =
          subst (λ (y : Option (Job × Who)). Excludes y j.op d who) (sym x.2)
          (subst (λ (y : Option HeldOperation). Excludes (job_held (force_of old).job) y d who) (sym x.3) excluded);
      boot_is = x.4;
      looks_are = x.5;
    },
  ),
)

-- a call that begins an operation

free_to_begin : (j : Option OpenJob) (o : Option OpenOperation) → MayBegin (job_held j) (operation_held o) → j ≡ None
free_to_begin None o may = refl
free_to_begin (Some j) None may = absurd may
free_to_begin (Some j) (Some o) may = absurd may

pub begins_are : BeginsAreTurns
unfolding standing_in
begins_are old new q p held ears n who d look.Begun h settled (inl x) =
    let boot = live_boot (force_of old).state in
    let roomy : Recorded = with_room old x.1.0 in
    let c : Cell = cell_of old q held ears in
    let t : CoreStep ℕ = step.BeginOp n who d in
    let left : List (Mark ℕ) = admit_of n who d boot ∷ mark.Start n who d boot ∷ [] in
    let marked : HasMarked roomy new left = x.1.1.1 in
    let there : force_of new ≡ standing (force_of old) left = force_after roomy new left marked in
    let free = free_to_begin (force_of old).job (force_of old).operation x.0 in (
      left,
      frees t roomy new q p held ears left tt h.can
          (begun_is_left c n who d boot [] h.settled.lost (record { numbered = refl; caller = refl; same_call = refl; own_job = refl }, refl, x.0) marked.legal.1.0 h.settled.lost)
          marked refl (none_held (force_of old).job held free h.fits) (ap (λ (s : Standing). s.job) there) x.1.1.3 x.1.2 settled,
      (refl, due_by (force_of new).operation _ n who (ap (λ (s : Standing). s.operation) there) refl refl tt),
    )
begins_are old new q p held ears n who d (look.Done r) h settled (inl x) =
    refused (step.BeginOp n who d) old new q p held ears n who d (live_boot (force_of old).state) r (begins_asks n who d) h
    (record { numbered = refl; caller = refl; same_call = refl; own_job = refl }, refl, x.0) (none_held (force_of old).job held (free_to_begin (force_of old).job (force_of old).operation x.0) h.fits) settled x.1.0 x.1.1.1 x.1.2
begins_are old new q p held ears n who d look.NoMemory h settled (inl x) =
    ([], idles (step.BeginOp n who d) old new q p held ears n who d (begins_asks n who d) h settled x.1.0 (inl x.1.1), refl)
begins_are old new q p held ears n who d (look.Excluded j b k) h settled (inl x) = absurd x.1
begins_are old new q p held ears n who d (look.WaitersFull w) h settled (inl x) = absurd x.1
begins_are old new q p held ears n who d result h settled (inr x) = waits_are (step.BeginOp n who d) _ old new q p held ears n who d result (begins_asks n who d) h settled x.0 x.1

-- a call that takes one up

free_to_take : (j : Option OpenJob) (o : Option OpenOperation) → MayTakeUp (job_held j) (operation_held o) → j ≡ None
free_to_take None o may = refl
free_to_take (Some j) None may = absurd may
free_to_take (Some j) (Some o) may = absurd may

resting : (b : Bool) (k : Option OpKind) (q : Option OpenOperation) → (b && rests_for k (operation_held q)) ≡ true → (o : OpenOperation) × (q ≡ Some o)
resting b k (Some o) e = (o, refl)
resting true None None e = cc
resting true (Some k) None e = cc
resting false k None e = cc

pub take_ups_are : TakeUpsAreTurns
unfolding standing_in
take_ups_are old new q p held ears n who d look.Begun h settled (inl x) =
    let boot = live_boot (force_of old).state in
    let roomy : Recorded = with_room old x.1.0 in
    let c : Cell = cell_of old q held ears in
    let t : CoreStep ℕ = step.TakeUp n who d in
    let left : List (Mark ℕ) = admit_of n who d boot ∷ mark.TakeUp n who d ∷ [] in
    let marked : HasMarked roomy new left = x.1.1.1 in
    let there : force_of new ≡ standing (force_of old) left = force_after roomy new left marked in
    let s : Standing = after (force_of old) (admit_of n who d boot) in
    let rest = resting (not (meets_ended (force_of old).state d boot)) (takes_up d) (force_of old).operation x.1.1.0 in
    let free = free_to_take (force_of old).job (force_of old).operation x.0 in (
      left,
      frees t roomy new q p held ears left tt h.can
          (taken_up_is_left c n who d boot [] h.settled.lost
          (record { numbered = refl; caller = refl; same_call = refl; own_job = refl }, refl, take_up_may (job_held (force_of old).job) (operation_held (force_of old).operation) d who h.can.1 x.0)
          marked.legal.1.0 (ap (λ (y : Option OpenOperation). (after_take_up s y n who d).lost) rest.1 ∙ h.settled.lost))
          marked refl (none_held (force_of old).job held free h.fits)
          (ap (λ (y : Standing). y.job) there ∙ ap (λ (y : Option OpenOperation). (after_take_up s y n who d).job) rest.1) x.1.1.3 x.1.2 settled,
      (refl, due_by (force_of new).operation _ n who (ap (λ (y : Standing). y.operation) there ∙ ap (λ (y : Option OpenOperation). (after_take_up s y n who d).operation) rest.1) refl refl tt),
    )
take_ups_are old new q p held ears n who d (look.Done r) h settled (inl x) =
    refused (step.TakeUp n who d) old new q p held ears n who d (live_boot (force_of old).state) r (takes_asks n who d) h
    (record { numbered = refl; caller = refl; same_call = refl; own_job = refl }, refl, take_up_may (job_held (force_of old).job) (operation_held (force_of old).operation) d who h.can.1 x.0)
    (none_held (force_of old).job held (free_to_take (force_of old).job (force_of old).operation x.0) h.fits) settled x.1.0 x.1.1.1 x.1.2
take_ups_are old new q p held ears n who d look.NoMemory h settled (inl x) =
    ([], idles (step.TakeUp n who d) old new q p held ears n who d (takes_asks n who d) h settled x.1.0 (inl x.1.1), refl)
take_ups_are old new q p held ears n who d (look.Excluded j b k) h settled (inl x) = absurd x.1
take_ups_are old new q p held ears n who d (look.WaitersFull w) h settled (inl x) = absurd x.1
take_ups_are old new q p held ears n who d result h settled (inr x) = waits_are (step.TakeUp n who d) _ old new q p held ears n who d result (takes_asks n who d) h settled x.0 x.1
