-- The end of an operation.
use Rattle.std.proofs.Common.{◌≡◌, ℕ, ◌+◌, [], ◌∷◌, inl, inr, false, Option, None, Some, refl, sym, ap, ◌∙◌, subst, arith}
use Rattle.domain_spec.specs.Types.{Call, Who}
use Rattle.domain_spec.specs.Types.call
use Rattle.domain_spec.specs.Types.job
use Rattle.domain_spec.specs.declared.core_step.CoreStep.TheVariants as step
use Rattle.domain_spec.specs.declared.mark.Mark.{Mark}
use Rattle.domain_spec.specs.declared.mark.Mark.TheVariants as mark
use Rattle.domain_spec.specs.declared.open.OpenJob.{OpenJob}
use Rattle.domain_spec.specs.declared.open.OpenOperation.{OpenOperation}
use Rattle.domain_spec.specs.declared.standing.Standing.{Standing}
use Rattle.domain_spec.specs.declared.step.Outcome.{Outcome}
use Rattle.domain_spec.specs.declared.step.Outcome.TheVariants as outcome
use Rattle.domain_spec.specs.Call.{job_of}
use Rattle.domain_spec.specs.CanTake.{IsOperationOf}
use Rattle.domain_spec.specs.Fold.{after}
use Rattle.domain_spec.specs.Lawful.{IsEnded, NoneNested}
use Rattle.domain_spec.specs.Legal.{IsLawful}
use Rattle.domain_spec.specs.Open.{is_rest}
use Rattle.core_log.specs.Below.core_plan.Along.{Asked}
use Rattle.core_log.specs.Below.core_chapter.Closing.{reply_in, reply_of}
use Rattle.core_log.specs.Below.core_flight.Away.{IsPhaseWaiting, WaitsWith}
use Rattle.core_log.specs.Below.core_flight.Ledger.{standing_in}
use Rattle.core_log.specs.Record.{HasMarked, Recorded, force_of}
use Rattle.core_log.proofs.Joining.{force_after}
use Rattle.core_steps.specs.Rooms.{HasEnd, ends_needed, marks_needed}
use Rattle.core_steps.specs.Turning.{cell_of}
use Rattle.core_steps.proofs.LookedAt.{no_loss}
use Rattle.core_log.proofs.Below.core_flight.Operated.{end_is_left}
use Rattle.core_steps.specs.OperationEnding.{CanEnd, IsOver}
use Rattle.core_steps.specs.OperationLaws.{EndsAreTurns}
use Rattle.core_steps.proofs.Taken.{stays}

-- an operation that is over may end

pub not_nested : (d : Call) → job_of d ≡ job.Nested → ⊥
not_nested call.Suspend is = cc
not_nested other is = cc

over_is : (o : Outcome) → IsOver o → o ≡ outcome.Over (reply_of o)
over_is (outcome.Over r) over = refl
over_is (outcome.On p) over = absurd over
over_is (outcome.Rest r) over = absurd over

over_awake : (o : Outcome) → IsOver o → is_rest o ≡ false
over_awake (outcome.Over r) over = refl
over_awake (outcome.On p) over = absurd over
over_awake (outcome.Rest r) over = absurd over

never_due : (o : Outcome) (p : _) → IsOver o → o ≡ outcome.On p → ⊥
never_due o p over e = subst (λ (x : Outcome). IsOver x) e over

none_waits : (s : Standing) (o : Option OpenOperation) (j : OpenJob) (a : Asked) (n : ℕ) (who : Who) → CanEnd o n who → IsPhaseWaiting s.state o j a → ⊥
none_waits s None j a n who can h = absurd can
none_waits s (Some o) j a n who can h = never_due o.outcome h.phase can.2 h.due

none_nested : (s : Standing) (j : Option OpenJob) (a : Option Asked) (n : ℕ) (who : Who) → CanEnd s.operation n who → WaitsWith s j a → NoneNested j
none_nested s None a n who can h = tt
none_nested s (Some j) None n who can h = absurd h
none_nested s (Some j) (Some a) n who can (inl away) = λ e. not_nested j.call (sym away.own ∙ e)
none_nested s (Some j) (Some a) n who can (inr h) = absurd (none_waits s s.operation j a n who can h)

ended : (s : Standing) (o : Option OpenOperation) (n : ℕ) (who : Who) → CanEnd o n who → NoneNested s.job → IsEnded s o n who (reply_in o)
ended s None n who can none = absurd can
ended s (Some o) n who can none = record { numbered = can.0; caller = can.1; over = over_is o.outcome can.2; no_nested = none }

pub end_lawful : (s : Standing) (a : Option Asked) (n : ℕ) (who : Who) → s.lost ≡ None → WaitsWith s s.job a → CanEnd s.operation n who → IsLawful s (mark.End n who (reply_in s.operation))
end_lawful s a n who lost waits can = record {
  in_order = ended s s.operation n who can (none_nested s s.job a n who can waits);
  loss = no_loss s (mark.End n who (reply_in s.operation)) lost;
}

pub end_is_open : (q : Option OpenOperation) (n : ℕ) (who : Who) → CanEnd q n who → IsOperationOf q n who
end_is_open None n who can = absurd can
end_is_open (Some o) n who can = (can.0, can.1, over_awake o.outcome can.2)

-- its end is one step of the cell

pub ends_are : EndsAreTurns
unfolding standing_in
ends_are old new q held ears n who told h settled ends =
    let m : Mark ℕ = mark.End n who (reply_in (force_of old).operation) in
    let there : force_of new ≡ after (force_of old) m = force_after old new (m ∷ []) ends.marked in (
      m ∷ [],
      stays (step.EndOp n who) old new q q held ears (m ∷ []) tt tt h.can
          (end_is_left (cell_of old q held ears) n who (reply_in (force_of old).operation) [] ends.marked.legal.0 h.settled.lost)
          ends.marked refl (ap (λ (s : Standing). s.job) there) ends.course h.fits refl settled,
      (refl, ends.told_so),
    )

-- the room for its mark is taken by its end alone

ends_one : (q : Option OpenOperation) (n : ℕ) (who : Who) → CanEnd q n who → ends_needed q ≡ 1
ends_one None n who can = absurd can
ends_one (Some o) n who can = refl

pub end_leaves : (old new : Recorded) (n : ℕ) (who : Who) (rooms : ℕ) → CanEnd (force_of old).operation n who → HasMarked old new (mark.End n who (reply_in (force_of old).operation) ∷ []) → new.course ≡ old.course
    → new.spare + 1 ≡ old.spare → HasEnd old rooms → HasEnd new rooms
end_leaves old new n who rooms can marked course spare has =
    let one = ends_one (force_of old).operation n who can in
    let none : ends_needed (force_of new).operation ≡ 0 =
    ap (λ (s : Standing). ends_needed s.operation) (force_after old new (mark.End n who (reply_in (force_of old).operation) ∷ []) marked) in
    let same : marks_needed new.course ≡ marks_needed old.course = ap marks_needed course in
    omega (arith, one, none, same, spare, has)
