-- Why at most one normal job and one operation are open in a legal history.
use Rattle.std.proofs.Common.{◌≡◌, ℕ, ◌+◌, List, [], ◌∷◌, Bool, true, false, not, ◌&&◌, cond, Option, None, Some, refl, ap, arith, count_by}
use Rattle.std.proofs.lemmas.List.Sums.{sum_by-cons}
use Rattle.domain_spec.specs.Types.{Answer, Ask, Call, Job, OpKind, Phase, Reply, State, Transition, Who}
use Rattle.domain_spec.specs.Types.job
use Rattle.domain_spec.specs.declared.mark.HeldOperation.{HeldOperation}
use Rattle.domain_spec.specs.declared.mark.Mark.{Mark}
use Rattle.domain_spec.specs.declared.mark.Mark.TheVariants as mark
use Rattle.domain_spec.specs.declared.open.OpenJob.{OpenJob}
use Rattle.domain_spec.specs.declared.open.OpenOperation.{OpenOperation}
use Rattle.domain_spec.specs.declared.standing.Standing.{Standing}
use Rattle.domain_spec.specs.declared.step.Outcome.{Outcome}
use Rattle.domain_spec.specs.Fold.{after, after_phase, after_take_up, at_base, job_at_exit, standing}
use Rattle.domain_spec.specs.Call.{takes_up}
use Rattle.domain_spec.specs.Lawful.{IsDone, IsEnded, IsPhased, IsStarted, IsTakenUp}
use Rattle.domain_spec.specs.Laws.{OneJobAtATime, OneOperationAtATime, begins_operation, closes, ends_operation, lets_in, one_if_open}
use Rattle.domain_spec.specs.Legal.{IsLawful, IsLegal}
use Rattle.domain_spec.specs.Open.{MayAdmit, job_held, operation_held}
use Rattle.domain_spec.specs.Sequential.{meets_ended}
use Rattle.domain_spec.specs.TakeUp.{rests_for}

abbrev pub one_if : Bool → ℕ
one_if b = cond b 1 0

none_held : (j : Option OpenJob) (op : Option HeldOperation) (taking : Option OpKind) (wanted : Job) (who : Who) → MayAdmit (job_held j) op taking wanted who → one_if_open j ≡ 0
none_held None op taking wanted who may = refl
none_held (Some j) op (Some k) job.MigrationOp who may = absurd may
none_held (Some j) op taking wanted who may = absurd may

one_done : (s : Standing) (j : Option OpenJob) (n : ℕ) (who : Who) (c : Call) (boot : Option ℕ) (asks : List Ask) (answers : List Answer) (r : Reply) (events : List Transition)
    → IsDone s j n who c boot asks answers r events → one_if_open j ≡ 1
one_done s None n who c boot asks answers r events h = absurd h
one_done s (Some j) n who c boot asks answers r events h = refl

one_started : (s : Standing) (j : Option OpenJob) (n : ℕ) (who : Who) (c : Call) (boot : Option ℕ) → IsStarted s j n who c boot → one_if_open j ≡ 1
one_started s None n who c boot h = absurd h
one_started s (Some j) n who c boot h = refl

one_taken : (s : Standing) (j : Option OpenJob) (n : ℕ) (who : Who) (c : Call) → IsTakenUp s j n who c → one_if_open j ≡ 1
one_taken s None n who c h = absurd h
one_taken s (Some j) n who c h = refl

none_rests : (wanted : Option OpKind) → rests_for wanted None ≡ true → ⊥
none_rests None e = cc
none_rests (Some k) e = cc

second_of : (a b : Bool) → (a && b) ≡ true → b ≡ true
second_of true b e = e
second_of false b e = cc

rests_where : (s : Standing) (j : Option OpenJob) (n : ℕ) (who : Who) (c : Call) → IsTakenUp s j n who c → rests_for (takes_up c) (operation_held s.operation) ≡ true
rests_where s None n who c h = absurd h
rests_where s (Some j) n who c h = second_of (not (meets_ended s.state c j.boot)) (rests_for (takes_up c) (operation_held s.operation)) h.takes

-- a call that takes an operation up is closed, and the operation stays
taken_closes : (s : Standing) (o : Option OpenOperation) (n : ℕ) (who : Who) (c : Call) → rests_for (takes_up c) (operation_held o) ≡ true → one_if_open (after_take_up s o n who c).job ≡ 0
taken_closes s None n who c e = absurd (none_rests (takes_up c) e)
taken_closes s (Some o) n who c e = refl

taken_keeps : (s : Standing) (o : Option OpenOperation) (n : ℕ) (who : Who) (c : Call) → s.operation ≡ o → one_if_open (after_take_up s o n who c).operation ≡ one_if_open o
taken_keeps s None n who c e = ap one_if_open e
taken_keeps s (Some o) n who c e = refl

at_exit : (s : State) (boot : ℕ) (j : Option OpenJob) → one_if_open (job_at_exit s boot j) ≡ one_if_open j
at_exit s boot None = refl
at_exit s boot (Some j) = refl

-- a phase closes its nested job
phase_closes : (s : Standing) (j : Option OpenJob) (o : Option OpenOperation) (n : ℕ) (who : Who) (p : Phase) (asks : List Ask) (answers : List Answer) (next : Outcome) (events : List Transition)
    → IsPhased s j o n who p asks answers next events → one_if_open j ≡ 1 + one_if_open (after_phase s o answers next).job
phase_closes s None None n who p asks answers next events h = absurd h
phase_closes s None (Some o) n who p asks answers next events h = absurd h
phase_closes s (Some j) None n who p asks answers next events h = absurd h
phase_closes s (Some j) (Some o) n who p asks answers next events h = refl

job_step : (s : Standing) (m : Mark ℕ) → IsLawful s m → one_if_open s.job + one_if (lets_in m) ≡ one_if (closes m) + one_if_open (after s m).job
job_step s (mark.Admit n who wanted c boot) h = ap (λ (k : ℕ). k + 1) (none_held s.job _ (takes_up c) wanted who h.in_order.may)
job_step s (mark.Done n who c boot asks answers r events) h = ap (λ (k : ℕ). k + 0) (one_done s s.job n who c boot asks answers r events h.in_order)
job_step s (mark.Refused n who c why looked) h = omega arith
job_step s (mark.Start n who c boot) h = ap (λ (k : ℕ). k + 0) (one_started s s.job n who c boot h.in_order)
job_step s (mark.TakeUp n who c) h =
    let one = one_taken s s.job n who c h.in_order in
    let none = taken_closes s s.operation n who c (rests_where s s.job n who c h.in_order) in
    omega arith
job_step s (mark.Phase n who p asks answers next events) h =
    let e = phase_closes s s.job s.operation n who p asks answers next events h.in_order in omega arith
job_step s (mark.End n who r) h = omega arith
job_step s (mark.Exit boot why events) h = let e = at_exit s.state boot s.job in omega arith
job_step s (mark.Event boot e events) h = omega arith
job_step s (mark.Watch n client) h = omega arith
job_step s (mark.Unwatch n client) h = omega arith
job_step s (mark.Cut client total taken) h = omega arith

jobs : (s : Standing) (marks : List (Mark ℕ)) → IsLegal s marks → one_if_open s.job + count_by lets_in marks ≡ count_by closes marks + one_if_open (standing s marks).job
jobs s [] legal = omega arith
jobs s (m ∷ marks) legal =
    let now = job_step s m legal.0 in
    let then = jobs (after s m) marks legal.1 in
    let more : count_by lets_in (m ∷ marks) ≡ one_if (lets_in m) + count_by lets_in marks = sum_by-cons (λ x. one_if (lets_in x)) m marks in
    let closed : count_by closes (m ∷ marks) ≡ one_if (closes m) + count_by closes marks = sum_by-cons (λ x. one_if (closes x)) m marks in
    omega arith

pub one_job : OneJobAtATime
one_job b marks legal = let h = jobs (at_base b) marks legal in omega arith

phase_keeps : (s : Standing) (o : Option OpenOperation) (answers : List Answer) (next : Outcome) → s.operation ≡ o → one_if_open (after_phase s o answers next).operation ≡ one_if_open o
phase_keeps s None answers next e = ap one_if_open e
phase_keeps s (Some o) answers next e = refl

one_ended : (s : Standing) (o : Option OpenOperation) (n : ℕ) (who : Who) (r : Reply) → IsEnded s o n who r → one_if_open o ≡ 1
one_ended s None n who r h = absurd h
one_ended s (Some o) n who r h = refl

none_open : (s : Standing) (j : Option OpenJob) (n : ℕ) (who : Who) (c : Call) (boot : Option ℕ) → IsStarted s j n who c boot → one_if_open s.operation ≡ 0
none_open s None n who c boot h = absurd h
none_open s (Some j) n who c boot h = ap one_if_open h.alone

operation_step : (s : Standing) (m : Mark ℕ) → IsLawful s m → one_if_open s.operation + one_if (begins_operation m) ≡ one_if (ends_operation m) + one_if_open (after s m).operation
operation_step s (mark.Admit n who wanted c boot) h = omega arith
operation_step s (mark.Done n who c boot asks answers r events) h = omega arith
operation_step s (mark.Refused n who c why looked) h = omega arith
operation_step s (mark.Start n who c boot) h = ap (λ (k : ℕ). k + 1) (none_open s s.job n who c boot h.in_order)
operation_step s (mark.TakeUp n who c) h = let e = taken_keeps s s.operation n who c refl in omega arith
operation_step s (mark.Phase n who p asks answers next events) h =
    let e = phase_keeps s s.operation answers next refl in omega arith
operation_step s (mark.End n who r) h = ap (λ (k : ℕ). k + 0) (one_ended s s.operation n who r h.in_order)
operation_step s (mark.Exit boot why events) h = omega arith
operation_step s (mark.Event boot e events) h = omega arith
operation_step s (mark.Watch n client) h = omega arith
operation_step s (mark.Unwatch n client) h = omega arith
operation_step s (mark.Cut client total taken) h = omega arith

operations : (s : Standing) (marks : List (Mark ℕ)) → IsLegal s marks → one_if_open s.operation + count_by begins_operation marks ≡ count_by ends_operation marks + one_if_open (standing s marks).operation
operations s [] legal = omega arith
operations s (m ∷ marks) legal =
    let now = operation_step s m legal.0 in
    let then = operations (after s m) marks legal.1 in
    let more : count_by begins_operation (m ∷ marks) ≡ one_if (begins_operation m) + count_by begins_operation marks = sum_by-cons (λ x. one_if (begins_operation x)) m marks in
    let over : count_by ends_operation (m ∷ marks) ≡ one_if (ends_operation m) + count_by ends_operation marks = sum_by-cons (λ x. one_if (ends_operation x)) m marks in
    omega arith

pub one_operation : OneOperationAtATime
one_operation b marks legal = operations (at_base b) marks legal
