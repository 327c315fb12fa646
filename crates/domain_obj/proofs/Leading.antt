-- What a phase led its operation to is there once its turn is over, and so its caller is told.
use Rattle.std.proofs.Common.{◌≡◌, ℕ, ◌++◌, List, [], ◌∷◌, Bool, true, false, Option, None, Some, if◌then◌else◌, refl, sym, ap, subst}
use Rattle.history_spec.specs.Pass.{AreOf, bears, own}
use Rattle.domain_spec.specs.Types.{Answer, Ask, Phase, Reply, Transition, Who}
use Rattle.domain_spec.specs.declared.core_step.CoreStep.{CoreStep}
use Rattle.domain_spec.specs.declared.mark.Mark.{Mark}
use Rattle.domain_spec.specs.declared.mark.Mark.TheVariants as mark
use Rattle.domain_spec.specs.declared.open.OpenJob.{OpenJob}
use Rattle.domain_spec.specs.declared.open.OpenOperation.{OpenOperation}
use Rattle.domain_spec.specs.declared.standing.Standing.{Standing}
use Rattle.domain_spec.specs.declared.step.Outcome.{Outcome}
use Rattle.domain_spec.specs.declared.step.Outcome.TheVariants as outcome
use Rattle.domain_spec.specs.Cell.{Cell, standing_of}
use Rattle.domain_spec.specs.Fold.{after, after_phase, standing}
use Rattle.domain_spec.specs.Lawful.{IsPhased}
use Rattle.domain_spec.specs.Turns.{GoOn, MayLeave}
use Rattle.domain_core.specs.OfTurns.{step_to}
use Rattle.domain_core.specs.OfTurns.{IsToldAtEnd}
use Rattle.domain_core.specs.OfTurns.{Step}
use Rattle.domain_core.specs.OfTurns.{HasLedTo}
use Rattle.domain_core.specs.Leading.{IsTold, Leads}
use Rattle.domain_core.specs.declared.next.Next.{Next}
use Rattle.domain_core.specs.declared.next.Next.TheVariants as next
use Rattle.domain_core.specs.OfTurns.{rested_in, rested_of}
use Rattle.domain_core.proofs.OfShares.{IsFree, free_on}
use Rattle.domain_core.proofs.OfShares.{own_here}
use Rattle.domain_core.proofs.OfShares.{on_base}
use Rattle.domain_core.specs.OfShares.{whose}

-- the operation after the marks of a turn

-- this operation is open, and its last phase led to this
abbrev pub IsLedTo : Outcome → Option OpenOperation → Type 0
IsLedTo o None = ⊥
IsLedTo o (Some q) = q.outcome ≡ o

phase_leads : (s : Standing) (j : Option OpenJob) (q : Option OpenOperation) (number : ℕ) (who : Who) (p : Phase) (asks : List Ask) (answers : List Answer) (o : Outcome) (events : List Transition)
    → IsPhased s j q number who p asks answers o events → IsLedTo o (after_phase s q answers o).operation
phase_leads s None q number who p asks answers o events h = absurd h
phase_leads s (Some j) None number who p asks answers o events h = absurd h
phase_leads s (Some j) (Some q) number who p asks answers o events h = refl

phase_ends : (s : Standing) (j : Option OpenJob) (q : Option OpenOperation) (number : ℕ) (who : Who) (p : Phase) (asks : List Ask) (answers : List Answer) (o : Outcome) (events : List Transition)
    → IsPhased s j q number who p asks answers o events → (after_phase s q answers o).job ≡ None
phase_ends s None q number who p asks answers o events h = absurd h
phase_ends s (Some j) None number who p asks answers o events h = absurd h
phase_ends s (Some j) (Some q) number who p asks answers o events h = refl

led_on : (c : Cell) (t : CoreStep ℕ) (n : ℕ) (o : Outcome) (s : Standing) (marks : List (Mark ℕ)) → GoOn c t s marks → HasLedTo n o marks → IsLedTo o (standing s marks).operation
led_on c t n o s [] h led = absurd led
led_on c t n o s (mark.Phase number who p asks answers to events ∷ marks) h led =
    let now : Standing = after s (mark.Phase number who p asks answers to events) in
    let free : IsFree now (standing now marks) = free_on c t now marks (phase_ends s s.job s.operation number who p asks answers to events h.0.2) h.2 in
    subst (λ (q : Option OpenOperation). IsLedTo o q) (sym free.operation)
    (subst (λ (x : Outcome). IsLedTo x now.operation) led.1 (phase_leads s s.job s.operation number who p asks answers to events h.0.2))
led_on c t n o s (m ∷ marks) h led = led_on c t n o (after s m) marks h.2 led

left_on : (c : Cell) (t : CoreStep ℕ) (n : ℕ) (o : Outcome) (left : List (Mark ℕ)) → MayLeave c t left → HasLedTo n o left → IsLedTo o (standing (standing_of c) left).operation
left_on c t n o [] h led = absurd led
left_on c t n o (mark.Phase number who p asks answers to events ∷ left) h led = led_on c t n o (standing_of c) (mark.Phase number who p asks answers to events ∷ left) h led
left_on c t n o (m ∷ left) h led = led_on c t n o (after (standing_of c) m) left h.2 led

-- what comes along in the turn after the Phase leaves the operation as it is
pub led_stands : (c d : Cell) (t : CoreStep ℕ) (n : ℕ) (o : Outcome) (left : List (Mark ℕ)) → MayLeave c t left → HasLedTo n o left → d.base ≡ c.base → d.marks ≡ c.marks ++ left → IsLedTo o (standing_of d).operation
led_stands c d t n o left may led base marks =
    subst (λ (s : Standing). IsLedTo o s.operation) (sym (on_base c d left base marks)) (left_on c t n o left may led)

-- the Phase of a number is its own mark

behind : (n : ℕ) (o : Outcome) (b : Bool) (m : Mark ℕ) (ms : List (Mark ℕ)) → (HasLedTo n o (m ∷ ms) → HasLedTo n o ms) → HasLedTo n o (if b then m ∷ ms else ms) → HasLedTo n o ms
behind n o true m ms skip h = skip h
behind n o false m ms skip h = h

before : (n : ℕ) (o : Outcome) (b : Bool) (m : Mark ℕ) (ms : List (Mark ℕ)) → (HasLedTo n o ms → HasLedTo n o (m ∷ ms)) → HasLedTo n o ms → HasLedTo n o (if b then m ∷ ms else ms)
before n o true m ms skip h = skip h
before n o false m ms skip h = h

pub own_led : (n : ℕ) (o : Outcome) (left : List (Mark ℕ)) → AreOf whose n left → HasLedTo n o (own whose n left) → HasLedTo n o left
own_led n o [] of h = absurd h
own_led n o (mark.Phase number who p asks answers to events ∷ left) of h =
    subst (λ (ms : List (Mark ℕ)). HasLedTo n o ms) (own_here n (mark.Phase number who p asks answers to events) left (ap (λ (k : ℕ). Some k) of.0)) h
own_led n o (m ∷ left) of h = own_led n o left of.1 (behind n o (bears n (whose m)) m (own whose n left) (λ x. x) h)

pub led_own : (n : ℕ) (o : Outcome) (left : List (Mark ℕ)) → HasLedTo n o left → HasLedTo n o (own whose n left)
led_own n o [] h = absurd h
led_own n o (mark.Phase number who p asks answers to events ∷ left) h =
    subst (λ (ms : List (Mark ℕ)). HasLedTo n o ms) (sym (own_here n (mark.Phase number who p asks answers to events) left (ap (λ (k : ℕ). Some k) h.0))) h
led_own n o (m ∷ left) h = before n o (bears n (whose m)) m (own whose n left) (λ x. x) (led_own n o left h)

-- its caller is told so

rested : (o : Outcome) (q : Option OpenOperation) → IsLedTo o q → rested_in q ≡ rested_of o
rested o None h = absurd h
rested o (Some x) h = ap rested_of h

told_so : (o : Outcome) (q : Option OpenOperation) (said : Next) → rested_in q ≡ rested_of o → Leads q (step_to o) said → IsTold o said
told_so (outcome.On p) q next.On e h = tt
told_so (outcome.On p) q next.Over e h = absurd h
told_so (outcome.On p) q (next.Rest r) e h = absurd h
told_so (outcome.Over r) q next.On e h = absurd h
told_so (outcome.Over r) q next.Over e h = tt
told_so (outcome.Over r) q (next.Rest s) e h = absurd h
told_so (outcome.Rest r) q next.On e h = absurd h
told_so (outcome.Rest r) q next.Over e h = absurd h
told_so (outcome.Rest r) q (next.Rest said) e h = subst (λ (x : Reply). IsToldAtEnd x said) e h

pub led_told : (o : Outcome) (q : Option OpenOperation) (st : Step) (said : Next) → IsLedTo o q → st ≡ step_to o → Leads q st said → IsTold o said
led_told o q st said led is h = told_so o q said (rested o q led) (subst (λ (x : Step). Leads q x said) is h)
