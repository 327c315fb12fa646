-- Why each call is closed under its own number.
use Rattle.std.proofs.Common.{◌≡◌, ℕ, List, [], ◌∷◌, Bool, true, false, if◌then◌else◌, Option, None, Some, refl}
use Rattle.domain_spec.specs.Types.{Answer, Ask, Call, Job, OpKind, Phase, Reply, State, Transition, Who}
use Rattle.domain_spec.specs.Types.job
use Rattle.domain_spec.specs.declared.mark.HeldOperation.{HeldOperation}
use Rattle.domain_spec.specs.declared.mark.Mark.{Mark}
use Rattle.domain_spec.specs.declared.mark.Mark.TheVariants as mark
use Rattle.domain_spec.specs.declared.open.OpenJob.{OpenJob}
use Rattle.domain_spec.specs.declared.open.OpenOperation.{OpenOperation}
use Rattle.domain_spec.specs.declared.standing.Standing.{Standing}
use Rattle.domain_spec.specs.declared.step.Outcome.{Outcome}
use Rattle.domain_spec.specs.Call.{takes_up}
use Rattle.domain_spec.specs.Fold.{after, carries, job_at_exit}
use Rattle.domain_spec.specs.HistoryLaws.{ClosedUnderItsNumber, IsClosedUnder}
use Rattle.domain_spec.specs.Lawful.{IsDone, IsPhased, IsStarted, IsTakenUp}
use Rattle.domain_spec.specs.Legal.{IsLegal}
use Rattle.domain_spec.specs.Open.{MayAdmit, job_held}

-- a job of this number is open
abbrev pub Holds : ℕ → Option OpenJob → Type 0
Holds n None = ⊥
Holds n (Some j) = j.number ≡ n

pub none_may : (n : ℕ) (j : Option OpenJob) (op : Option HeldOperation) (taking : Option OpKind) (wanted : Job) (who : Who) → Holds n j → MayAdmit (job_held j) op taking wanted who → ⊥
none_may n None op taking wanted who holds may = holds
none_may n (Some j) op (Some k) job.MigrationOp who holds may = may
none_may n (Some j) op taking wanted who holds may = may

done_number : (s : Standing) (k : ℕ) (j : Option OpenJob) (n : ℕ) (who : Who) (c : Call) (boot : Option ℕ) (asks : List Ask) (answers : List Answer) (r : Reply) (events : List Transition)
    → Holds k j → IsDone s j n who c boot asks answers r events → n ≡ k
done_number s k None n who c boot asks answers r events holds h = absurd holds
done_number s k (Some j) n who c boot asks answers r events holds h = cc (h.0.numbered, holds)

started_number : (s : Standing) (k : ℕ) (j : Option OpenJob) (n : ℕ) (who : Who) (c : Call) (boot : Option ℕ) → Holds k j → IsStarted s j n who c boot → n ≡ k
started_number s k None n who c boot holds h = absurd holds
started_number s k (Some j) n who c boot holds h = cc (h.call.numbered, holds)

taken_number : (s : Standing) (k : ℕ) (j : Option OpenJob) (n : ℕ) (who : Who) (c : Call) → Holds k j → IsTakenUp s j n who c → n ≡ k
taken_number s k None n who c holds h = absurd holds
taken_number s k (Some j) n who c holds h = cc (h.call.numbered, holds)

phase_number : (s : Standing) (k : ℕ) (j : Option OpenJob) (o : Option OpenOperation) (n : ℕ) (who : Who) (p : Phase) (asks : List Ask) (answers : List Answer) (next : Outcome) (events : List Transition)
    → Holds k j → IsPhased s j o n who p asks answers next events → n ≡ k
phase_number s k None o n who p asks answers next events holds h = absurd holds
phase_number s k (Some j) None n who p asks answers next events holds h = absurd h
phase_number s k (Some j) (Some o) n who p asks answers next events holds h = cc (h.nested.job_number, holds)

either_holds : (b : Bool) (k : ℕ) (x y : OpenJob) → x.number ≡ k → y.number ≡ k → Holds k (Some (if b then x else y))
either_holds true k x y hx hy = hx
either_holds false k x y hx hy = hy

exit_holds : (k : ℕ) (s : State) (boot : ℕ) (j : Option OpenJob) → Holds k j → Holds k (job_at_exit s boot j)
exit_holds k s boot None holds = holds
exit_holds k s boot (Some j) holds = either_holds (carries j.boot boot) k (record j { before = Some s }) j holds holds

closes_own : (k : ℕ) (s : Standing) (marks : List (Mark ℕ)) → Holds k s.job → IsLegal s marks → IsClosedUnder k marks
closes_own k s [] holds legal = tt
closes_own k s (mark.Admit n who wanted c boot ∷ marks) holds legal = none_may k s.job _ (takes_up c) wanted who holds legal.0.in_order.may
closes_own k s (mark.Done n who c boot asks answers r events ∷ marks) holds legal = done_number s k s.job n who c boot asks answers r events holds legal.0.in_order
closes_own k s (mark.Start n who c boot ∷ marks) holds legal = started_number s k s.job n who c boot holds legal.0.in_order
closes_own k s (mark.TakeUp n who c ∷ marks) holds legal = taken_number s k s.job n who c holds legal.0.in_order
closes_own k s (mark.Phase n who p asks answers next events ∷ marks) holds legal = phase_number s k s.job s.operation n who p asks answers next events holds legal.0.in_order
closes_own k s (mark.Exit boot why events ∷ marks) holds legal =
    closes_own k (after s (mark.Exit boot why events)) marks (exit_holds k s.state boot s.job holds) legal.1
closes_own k s (m ∷ marks) holds legal = closes_own k (after s m) marks holds legal.1

pub closed_own : ClosedUnderItsNumber
closed_own s number who wanted c boot marks legal = closes_own number (after s (mark.Admit number who wanted c boot)) marks refl legal.1
