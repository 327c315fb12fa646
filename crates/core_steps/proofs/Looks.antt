-- What a look answers is what its turn left.
use Rattle.std.proofs.Common.{◌≡◌, ℕ, List, [], ◌∷◌, inl, inr, Option, None, Some, refl, sym, ap, subst}
use Rattle.domain_spec.specs.Types.{Ask, Call, Job, OpKind, Who}
use Rattle.domain_spec.specs.Types.code
use Rattle.domain_spec.specs.declared.core_step.CoreStep.TheVariants as step
use Rattle.domain_spec.specs.declared.core_step.First.{First}
use Rattle.domain_spec.specs.declared.core_step.First.TheVariants as first
use Rattle.domain_spec.specs.declared.mark.HeldJobs.{HeldJobs}
use Rattle.domain_spec.specs.declared.mark.HeldOperation.{HeldOperation}
use Rattle.domain_spec.specs.declared.mark.Mark.TheVariants as mark
use Rattle.domain_spec.specs.declared.open.OpenJob.{OpenJob}
use Rattle.domain_spec.specs.declared.standing.Standing.{Standing}
use Rattle.domain_spec.specs.Call.{job_of}
use Rattle.domain_spec.specs.Carried.{IsBootAt}
use Rattle.domain_spec.specs.Cell.{HeldEvent, LentEars, Queue, share_of}
use Rattle.domain_spec.specs.JobTable.{May}
use Rattle.domain_spec.specs.Kept.{LooksOn, left_queue}
use Rattle.domain_spec.specs.Open.{Excludes, MayAdmit, job_held, operation_held}
use Rattle.domain_spec.specs.Reading.{live_boot}
use Rattle.core_log.specs.Below.core_plan.Along.{Asked}
use Rattle.core_log.specs.Below.core_flight.Ledger.{standing_in}
use Rattle.job_rules.specs.QueueWaiting.{callers_in}
use Rattle.core_log.specs.Record.{IsAsking, Recorded, admit_of, force_of}
use Rattle.core_log.proofs.Joining.{force_after}
use Rattle.core_steps.specs.declared.looking.Looked.TheVariants as looked
use Rattle.core_steps.specs.Looking.{IsKnownFirst, IsTurned, Looks, boot_first, with_room}
use Rattle.core_steps.specs.TurnLaws.{CanLookSo, LooksAreTurns}
use Rattle.core_steps.specs.Turning.{AsksLast, FitsJob, HasTurned, IsSettled, Turning, cell_of, turning}
use Rattle.core_steps.proofs.Asking.{asks_last}
use Rattle.core_steps.proofs.Idling.{look_idle, look_turned}
use Rattle.core_steps.proofs.LookedAt.{Entering, look_away, look_done}

pub free_by : (j : Option OpenJob) (op : Option HeldOperation) (wanted : Job) (who : Who) (held : List HeldEvent) → May (job_held j) op wanted who → FitsJob j held → held ≡ []
free_by None op wanted who held may fits = fits
free_by (Some j) op wanted who held may fits = absurd may

boot_at : (old : Recorded) (q : Queue) (held : List HeldEvent) (ears : Option LentEars) (f : First) → IsKnownFirst f (cell_of old q held ears)
    → IsBootAt f old.history.base old.history.marks (boot_first f (live_boot (force_of old).state))
unfolding standing_in
boot_at old q held ears first.Now known = refl
boot_at old q held ears (first.Boot boot) known = (refl, known)

entering : (old : Recorded) (q : Queue) (held : List HeldEvent) (ears : Option LentEars) (n : ℕ) (who : Who) (d : Call) (f : First) (spare : ℕ) → CanLookSo old q held ears n who d f
    → May (job_held (force_of old).job) (operation_held (force_of old).operation) (job_of d) who → Entering (with_room old spare) q held ears n who d f (boot_first f (live_boot (force_of old).state))
unfolding standing_in
entering old q held ears n who d f spare h may = record {
  can = h.can;
  lets_in = (
    record { numbered = refl; caller = refl; same_call = refl; own_job = refl },
    boot_at old q held ears f h.known,
    subst (λ (k : Option OpKind). MayAdmit (job_held (force_of old).job) (operation_held (force_of old).operation) k (job_of d) who) (sym h.can.takes_none) may,
  );
  lost = h.settled.lost;
  none_held = free_by (force_of old).job (operation_held (force_of old).operation) (job_of d) who held may h.fits;
}

idle : (old new : Recorded) (q p : Queue) (held : List HeldEvent) (ears : Option LentEars) (n : ℕ) (who : Who) (d : Call) (f : First) → CanLookSo old q held ears n who d f → new ≡ with_room old new.spare
    → LooksOn (cell_of old q held ears) n who d [] p → HasTurned (turning old q held ears) (turning new p held ears) (step.Look n who d f) []
idle old new q p held ears n who d f h same looks =
    subst (λ (t : Turning). HasTurned (turning old q held ears) t (step.Look n who d f) []) (sym (ap (λ (r : Recorded). turning r p held ears) same))
    (look_idle old q p held ears n who d f h.can h.settled h.room h.fits looks)

asked_in : (old new : Recorded) (q p : Queue) (held : List HeldEvent) (ears : Option LentEars) (n : ℕ) (who : Who) (d : Call) (boot : Option ℕ) (a : Asked) (x : Ask) → IsSettled new
    → IsAsking old (admit_of n who d boot ∷ []) a new x → AsksLast (share_of (cell_of new p held ears) n).call x
asked_in old new q p held ears n who d boot a x settled h =
    let there = force_after old new (admit_of n who d boot ∷ []) h.marked in
    asks_last new p held ears _ a x n (ap (λ (s : Standing). s.job) there) refl h.away settled.waits h.asks

turned : (old new : Recorded) (q p : Queue) (held : List HeldEvent) (ears : Option LentEars) (n : ℕ) (who : Who) (d : Call) (f : First) (jobs : HeldJobs) → CanLookSo old q held ears n who d f → IsSettled new
    → IsTurned n who d jobs old new → jobs.waiting ≡ callers_in q → p ≡ left_queue q n who
    → HasTurned (turning old q held ears) (turning new p held ears) (step.Look n who d f) (mark.Refused n who d code.TooManyWaiting jobs ∷ [])
turned old new q p held ears n who d f jobs h settled is waiting left =
    subst (λ (z : Queue). HasTurned (turning old q held ears) (turning new z held ears) (step.Look n who d f) (mark.Refused n who d code.TooManyWaiting jobs ∷ [])) (sym left)
    (look_turned old new q held ears n who d f jobs h.can (record {
      refused = is.refused;
      waiting = waiting;
      lost = h.settled.lost;
      fits = h.fits;
      marked = is.marked;
      course = is.course;
      settled = settled;
    }))

with_spare : (old : Recorded) (q : Queue) (held : List HeldEvent) (ears : Option LentEars) (n : ℕ) (who : Who) (d : Call) (f : First) (spare : ℕ) → CanLookSo old q held ears n who d f → CanLookSo (with_room old spare) q held ears n who d f
with_spare old q held ears n who d f spare h =
    record { can = h.can; known = h.known; settled = record { lost = h.settled.lost; waits = h.settled.waits }; room = h.room; fits = h.fits }

pub looks_are : LooksAreTurns
unfolding standing_in
looks_are old new q p held ears n who d f (looked.Done r) h settled (inl x) =
    subst (λ (z : Queue). Looks n who d f (turning old q held ears) (turning new z held ears) (looked.Done r)) (sym x.1.2)
    (look_done (with_room old x.1.0) new q held ears n who d f (boot_first f (live_boot (force_of old).state)) x.1.1.0 r (entering old q held ears n who d f x.1.0 h x.0) settled x.1.1.1)
looks_are old new q p held ears n who d f (looked.Away a) h settled (inl x) =
    let boot = boot_first f (live_boot (force_of old).state) in
    subst (λ (z : Queue). Looks n who d f (turning old q held ears) (turning new z held ears) (looked.Away a)) (sym x.1.2) (
      admit_of n who d boot ∷ [],
      look_away (with_room old x.1.0) new q held ears n who d f boot x.1.1.0 a (entering old q held ears n who d f x.1.0 h x.0) settled x.1.1.1,
      (refl, asked_in (with_room old x.1.0) new q (left_queue q n who) held ears n who d boot _ a settled x.1.1.1),
    )
looks_are old new q p held ears n who d f looked.NoMemory h settled (inl x) = ([], idle old new q p held ears n who d f h x.1.0 (inl x.1.1), refl)
looks_are old new q p held ears n who d f (looked.Excluded j b k) h settled (inl x) = absurd x.1
looks_are old new q p held ears n who d f (looked.WaitersFull w) h settled (inl x) = absurd x.1
looks_are old new q p held ears n who d f (looked.Done r) h settled (inr x) = absurd x.1
looks_are old new q p held ears n who d f (looked.Away a) h settled (inr x) = absurd x.1
looks_are old new q p held ears n who d f looked.NoMemory h settled (inr x) = ([], idle old new q p held ears n who d f h x.1.0 (inl x.1.1), refl)
looks_are old new q p held ears n who d f (looked.Excluded j b k) h settled (inr x) = (
  [],
  idle old new q p held ears n who d f h x.1.0 (inr (x.0, x.1.1)),
  (
    refl,
    record {
      active_is = x.1.2;
      op_is = x.1.3;
      excluded =
          subst (λ (y : Option (Job × Who)). Excludes y j.op d who) (sym x.1.2)
          (subst (λ (y : Option HeldOperation). Excludes (job_held (force_of old).job) y d who) (sym x.1.3) x.0);
      boot_is = x.1.4;
      looks_are = x.1.5;
    },
  ),
)
looks_are old new q p held ears n who d f (looked.WaitersFull w) h settled (inr x) = (
  mark.Refused n who d code.TooManyWaiting x.1.0 ∷ [],
  turned (with_room old x.1.1) new q p held ears n who d f x.1.0 (with_spare old q held ears n who d f x.1.1 h) settled x.1.2 x.1.3 x.1.4,
  ((refl, refl, refl, refl), x.1.5),
)
