-- A call that begins an operation, or takes one up, may be let in, or is excluded.
use Rattle.std.proofs.Common.{◌≡◌, ℕ, true, is_some, Option, None, Some, refl, sym}
use Rattle.domain_spec.specs.Types.{Call, Job, OpKind, State, Who}
use Rattle.domain_spec.specs.Types.call
use Rattle.domain_spec.specs.Types.job
use Rattle.domain_spec.specs.declared.mark.HeldOperation.{HeldOperation}
use Rattle.domain_spec.specs.declared.mark.Mark.TheVariants as mark
use Rattle.domain_spec.specs.declared.open.OpenJob.{OpenJob}
use Rattle.domain_spec.specs.declared.open.OpenOperation.{OpenOperation}
use Rattle.domain_spec.specs.declared.standing.Standing.{Standing}
use Rattle.domain_spec.specs.Call.{begins, job_of, takes_up}
use Rattle.domain_spec.specs.CanTake.{HasNoneOpen, IsNotOperationOf}
use Rattle.domain_spec.specs.JobTable.{MayBegin, MayTakeUp}
use Rattle.domain_spec.specs.Legal.{IsLawful}
use Rattle.domain_spec.specs.Open.{BeginsAlone, Excludes, ExcludedAs, IsCarried, IsOwnJob, MayAdmit, job_held, operation_held}
use Rattle.domain_spec.specs.Reading.{live_boot}
use Rattle.core_steps.proofs.LookedAt.{no_loss}
use Rattle.core_steps.proofs.Ended.{not_nested}

-- its own job

own_by : (o : Option OpenOperation) (n : ℕ) (wanted : Job) (d : Call) → wanted ≡ job_of d → IsNotOperationOf o n → BeginsAlone (begins d) o → IsOwnJob o n wanted d
own_by None n job.Nested d is free alone = absurd (not_nested d (sym is))
own_by None n other d is free alone = is
own_by (Some o) n job.Nested d is free alone = absurd (not_nested d (sym is))
own_by (Some o) n other d is free alone = (is, free, alone)

-- a call that begins an operation

carried_by_begin : (s : State) (d : Call) → is_some (begins d) ≡ true → IsCarried s d (live_boot s)
carried_by_begin s call.Destroy is = cc
carried_by_begin s other is = refl

begin_alone : (k : Option OpKind) (j : Option OpenJob) (o : Option OpenOperation) → MayBegin (job_held j) (operation_held o) → BeginsAlone k o
begin_alone None j o may = tt
begin_alone (Some k) None None may = refl
begin_alone (Some k) None (Some o) may = absurd may
begin_alone (Some k) (Some j) None may = absurd may
begin_alone (Some k) (Some j) (Some o) may = absurd may

begin_may : (j : Option OpenJob) (o : Option OpenOperation) (taking : Option OpKind) (wanted : Job) (who : Who) → (wanted ≡ job.Nested → ⊥) → MayBegin (job_held j) (operation_held o)
    → MayAdmit (job_held j) (operation_held o) taking wanted who
begin_may None None (Some k) job.MigrationOp who own may = tt
begin_may None None taking job.Nested who own may = absurd (own refl)
begin_may None None taking other who own may = tt
begin_may None (Some o) taking wanted who own may = absurd may
begin_may (Some j) None taking wanted who own may = absurd may
begin_may (Some j) (Some o) taking wanted who own may = absurd may

pub begin_lawful : (s : Standing) (n : ℕ) (who : Who) (d : Call) → s.lost ≡ None → is_some (begins d) ≡ true → HasNoneOpen s n → MayBegin (job_held s.job) (operation_held s.operation)
    → IsLawful s (mark.Admit n who (job_of d) d (live_boot s.state))
begin_lawful s n who d lost is none may = record {
  in_order = record {
    may = begin_may s.job s.operation (takes_up d) (job_of d) who (not_nested d) may;
    own = own_by s.operation n (job_of d) d refl none.no_operation (begin_alone (begins d) s.job s.operation may);
    carried = carried_by_begin s.state d is;
  };
  loss = no_loss s (mark.Admit n who (job_of d) d (live_boot s.state)) lost;
}

excluded_by : (active : Option (Job × Who)) (op : Option HeldOperation) (k : Option OpKind) (d : Call) (who : Who) → is_some k ≡ true → (MayBegin active op → ⊥) → ExcludedAs active op k d who
excluded_by active op None d who is not = cc
excluded_by active op (Some k) d who is not = not

pub begin_excluded : (active : Option (Job × Who)) (op : Option HeldOperation) (d : Call) (who : Who) → is_some (begins d) ≡ true → (MayBegin active op → ⊥) → Excludes active op d who
begin_excluded active op d who is not = excluded_by active op (begins d) d who is not

-- a call that takes one up

carried_by_taking : (s : State) (d : Call) → is_some (takes_up d) ≡ true → IsCarried s d (live_boot s)
carried_by_taking s call.Destroy is = cc
carried_by_taking s other is = refl

taking_alone : (d : Call) (o : Option OpenOperation) → is_some (takes_up d) ≡ true → BeginsAlone (begins d) o
taking_alone (call.Confirm verdict) o is = tt
taking_alone (call.Finish go) o is = tt
taking_alone other o is = cc

pub take_up_may : (active : Option (Job × Who)) (op : Option HeldOperation) (d : Call) (who : Who) → is_some (takes_up d) ≡ true → MayTakeUp active op → MayAdmit active op (takes_up d) (job_of d) who
take_up_may active op (call.Confirm verdict) who is may = may
take_up_may active op (call.Finish go) who is may = may
take_up_may active op other who is may = cc

pub take_up_lawful : (s : Standing) (n : ℕ) (who : Who) (d : Call) → s.lost ≡ None → is_some (takes_up d) ≡ true → HasNoneOpen s n → MayTakeUp (job_held s.job) (operation_held s.operation)
    → IsLawful s (mark.Admit n who (job_of d) d (live_boot s.state))
take_up_lawful s n who d lost is none may = record {
  in_order = record {
    may = take_up_may (job_held s.job) (operation_held s.operation) d who is may;
    own = own_by s.operation n (job_of d) d refl none.no_operation (taking_alone d s.operation is);
    carried = carried_by_taking s.state d is;
  };
  loss = no_loss s (mark.Admit n who (job_of d) d (live_boot s.state)) lost;
}

pub take_up_excluded : (active : Option (Job × Who)) (op : Option HeldOperation) (d : Call) (who : Who) → is_some (takes_up d) ≡ true → (MayTakeUp active op → ⊥) → Excludes active op d who
take_up_excluded active op (call.Confirm verdict) who is not = not
take_up_excluded active op (call.Finish go) who is not = not
take_up_excluded active op other who is not = cc
