-- What an open call asks last, as its share has it.
use Rattle.std.proofs.Common.{◌≡◌, ◌⊎◌, inl, inr, ℕ, ◌==◌, List, [], ◌∷◌, ◌++◌, take, Bool, true, false, Option, None, Some, if◌then◌else◌, refl, sym, ap, ◌∙◌, subst, arith}
use Rattle.std.proofs.lemmas.Bool.Decides.{nat_tests}
use Rattle.domain_spec.specs.Types.{Answer, Ask, Call, Job, State}
use Rattle.domain_spec.specs.Types.call
use Rattle.domain_spec.specs.declared.open.OpenJob.{OpenJob}
use Rattle.domain_spec.specs.declared.open.OpenOperation.{OpenOperation}
use Rattle.domain_spec.specs.declared.standing.Standing.{Standing}
use Rattle.domain_spec.specs.Asks.{asks_left, asks_made}
use Rattle.domain_spec.specs.Call.{job_of}
use Rattle.domain_spec.specs.Cell.{HeldEvent, LentEars, Queue, as_let_in, asks_so_far, call_asks, call_of, phase_asks, planned_at, share_of}
use Rattle.domain_spec.specs.Phase.{phase_asked, phase_still_asked, plan_in}
use Rattle.domain_spec.specs.Reading.{carries_ended}
use Rattle.domain_spec.specs.Sequential.{asked, still_asked}
use Rattle.core_rules.specs.declared.next.Next.TheVariants as next
use Rattle.core_rules.specs.Next.{next_of}
use Rattle.core_log.specs.Below.core_plan.Along.{Asked}
use Rattle.core_log.specs.Below.core_plan.Starving.{next_in}
use Rattle.core_log.specs.Below.core_plan.Away.{IsAway}
use Rattle.core_log.proofs.Below.core_plan.Planning.{asked_planned, still_planned}
use Rattle.core_log.specs.Below.core_plan.PhaseAway.{IsPhaseAway}
use Rattle.core_log.proofs.Below.core_plan.Keeping.{is_there}
use Rattle.core_log.specs.Below.core_flight.Away.{IsPhaseWaiting, WaitsWith}
use Rattle.core_log.specs.Below.core_flight.Ledger.{standing_in}
use Rattle.core_log.specs.Record.{Recorded, force_of}
use Rattle.core_steps.specs.Turning.{AsksLast, answers_of, cell_of}

first_left : (asks : List Ask) (x : Ask) → next_of asks ≡ next.Ask x → take 1 asks ≡ x ∷ []
first_left [] x e = cc
first_left (y ∷ asks) x e = let same : y ≡ x = cc in ap (λ (z : Ask). z ∷ []) same

own_asks : (s : Standing) (d : Call) (j : OpenJob) (answers : List Answer) → asks_so_far s (job_of d) j answers ≡ call_asks (planned_at s.state j) j answers
own_asks s call.Suspend j answers = refl
own_asks s other j answers = refl

asks_are : (s : Standing) (j : OpenJob) (a : Asked) → IsAway s.state s.operation j a → asks_so_far s j.job j a.answers ≡ asks_made a.plan a.answers ++ take 1 (asks_left a.plan a.answers)
asks_are s j a away =
    let at : State = planned_at s.state j in
    let made_so : asked at j.call j.boot a.answers ≡ asks_made a.plan a.answers = sym (ap (λ (p : _). asks_made p a.answers) away.plan ∙ asked_planned at j.call j.boot a.answers) in
    let left_so : still_asked at j.call j.boot a.answers ≡ asks_left a.plan a.answers = sym (ap (λ (p : _). asks_left p a.answers) away.plan ∙ still_planned at j.call j.boot a.answers) in
    ap (λ (w : Job). asks_so_far s w j a.answers) away.own
    ∙ own_asks s j.call j a.answers
    ∙ ap (λ (xs : List Ask). xs ++ take 1 (still_asked at j.call j.boot a.answers)) made_so
    ∙ ap (λ (xs : List Ask). asks_made a.plan a.answers ++ take 1 xs) left_so

asked_live : (ended : Bool) (asks : List Ask) → ended ≡ false → (if ended then [] else asks) ≡ asks
asked_live true asks e = cc
asked_live false asks e = refl

-- the same of a phase
phase_asks_are : (s : Standing) (j : OpenJob) (o : OpenOperation) (a : Asked) → s.operation ≡ Some o → IsPhaseAway s.state o j a
    → asks_so_far s j.job j a.answers ≡ asks_made a.plan a.answers ++ take 1 (asks_left a.plan a.answers)
phase_asks_are s j o a op away =
    let at : State = planned_at s.state j in
    let live : carries_ended at o.boot ≡ false = is_there at o.boot away.boot away.was_live away.operated in
    let made_so : phase_asked at o a.answers ≡ asks_made a.plan a.answers =
    asked_live (carries_ended at o.boot) (asks_made (plan_in at o.call a.answers) a.answers) live ∙ sym (ap (λ (p : _). asks_made p a.answers) away.plan) in
    let left_so : phase_still_asked at o a.answers ≡ asks_left a.plan a.answers =
    asked_live (carries_ended at o.boot) (asks_left (plan_in at o.call a.answers) a.answers) live ∙ sym (ap (λ (p : _). asks_left p a.answers) away.plan) in
    ap (λ (w : Job). asks_so_far s w j a.answers) away.nested.nested
    ∙ ap (λ (q : Option OpenOperation). phase_asks at q a.answers) op
    ∙ ap (λ (xs : List Ask). xs ++ take 1 (phase_still_asked at o a.answers)) made_so
    ∙ ap (λ (xs : List Ask). asks_made a.plan a.answers ++ take 1 xs) left_so

waiting_asks : (s : Standing) (j : OpenJob) (o : Option OpenOperation) (a : Asked) → s.operation ≡ o → IsPhaseWaiting s.state o j a
    → asks_so_far s j.job j a.answers ≡ asks_made a.plan a.answers ++ take 1 (asks_left a.plan a.answers)
waiting_asks s j None a op h = absurd h
waiting_asks s j (Some o) a op h = phase_asks_are s j o a op h

-- what was asked so far is said by the course alone
pub asks_along : (s : Standing) (j : OpenJob) (a : Asked) → IsAway s.state s.operation j a ⊎ IsPhaseWaiting s.state s.operation j a
    → asks_so_far s j.job j a.answers ≡ asks_made a.plan a.answers ++ take 1 (asks_left a.plan a.answers)
asks_along s j a (inl h) = asks_are s j a h
asks_along s j a (inr h) = waiting_asks s j s.operation a refl h

any_asks : (s : Standing) (j : OpenJob) (a : Asked) (x : Ask) → IsAway s.state s.operation j a ⊎ IsPhaseWaiting s.state s.operation j a → next_in a ≡ next.Ask x
    → asks_so_far s j.job j a.answers ≡ asks_made a.plan a.answers ++ x ∷ []
any_asks s j a x h asks = asks_along s j a h ∙ ap (λ (xs : List Ask). asks_made a.plan a.answers ++ xs) (first_left (asks_left a.plan a.answers) x asks)

same_number : (b : Bool) (m n : ℕ) → m ≡ n → (m == n) ≡ b → b ≡ true
same_number true m n e f = refl
same_number false m n e f = grind (arith, nat_tests, e, f)

asks_by : (s : Standing) (j : Option OpenJob) (k : OpenJob) (o : Option Asked) (a : Asked) (x : Ask) (n : ℕ) → j ≡ Some k → k.number ≡ n → o ≡ Some a → WaitsWith s j o → next_in a ≡ next.Ask x
    → AsksLast (call_of s j (answers_of o) n) x
asks_by s None k o a x n is numbered away waits asks = cc
asks_by s (Some j) k None a x n is numbered away waits asks = absurd waits
asks_by s (Some j) k (Some b) a x n is numbered away waits asks =
    let same : j ≡ k = cc in
    let course : b ≡ a = cc in
    let same_one : (j.number == n) ≡ true = same_number (j.number == n) j.number n (ap (λ (y : OpenJob). y.number) same ∙ numbered) refl in
    subst (λ (t : Bool). AsksLast (if t then Some (record { job = as_let_in j; asks = asks_so_far s j.job j b.answers; answers = b.answers }) else None) x) (sym same_one)
    (asks_made b.plan b.answers, any_asks s j b x waits (ap next_in course ∙ asks))

pub asks_last : (r : Recorded) (q : Queue) (held : List HeldEvent) (ears : Option LentEars) (k : OpenJob) (a : Asked) (x : Ask) (n : ℕ) → (force_of r).job ≡ Some k → k.number ≡ n → r.course ≡ Some a
    → WaitsWith (force_of r) (force_of r).job r.course → next_in a ≡ next.Ask x → AsksLast (share_of (cell_of r q held ears) n).call x
unfolding standing_in
asks_last r q held ears k a x n is numbered away waits asks = asks_by (force_of r) (force_of r).job k r.course a x n is numbered away waits asks
