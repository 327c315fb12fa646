-- What a call comes to that is let in, or that was away and is answered.
use Rattle.std.proofs.Common.{◌≡◌, ℕ, zero, suc, List, [], ◌∷◌, ◌++◌, Bool, true, false, not, ◌&&◌, is_none, Option, None, Some, length, refl, sym, ap, ◌∙◌, subst, if◌then◌else◌}
use Rattle.std.specs.List.{list_any}
use Rattle.domain_spec.specs.Types.{Answer, Ask, Call, Domain, Live, State, Who}
use Rattle.domain_spec.specs.Types.answer
use Rattle.domain_spec.specs.Types.ask
use Rattle.domain_spec.specs.Types.call
use Rattle.domain_spec.specs.Types.phase
use Rattle.domain_spec.specs.Types.state
use Rattle.domain_spec.specs.declared.open.OpenJob.{OpenJob}
use Rattle.domain_spec.specs.declared.open.OpenOperation.{OpenOperation}
use Rattle.domain_spec.specs.declared.planned.PlannedAsk.{PlannedAsk}
use Rattle.domain_spec.specs.declared.standing.Standing.{Standing}
use Rattle.domain_spec.specs.declared.step.Outcome.{Outcome}
use Rattle.domain_spec.specs.declared.step.Outcome.TheVariants as outcome
use Rattle.domain_spec.specs.Asks.{asks_left, asks_made, is_ended_answer}
use Rattle.domain_spec.specs.Call.{begins, guest_plan, held_plan, is_on_stored, job_of, plan_of, takes_up}
use Rattle.domain_spec.specs.Cell.{planned_at}
use Rattle.domain_spec.specs.Lawful.{AreUnsent, IsDoneAs, IsUnsentUntilMade, UnsentBefore}
use Rattle.domain_spec.specs.Open.{IsCarried}
use Rattle.domain_spec.specs.Reading.{boot_in, carries_ended, is_live, live_boot, live_of}
use Rattle.domain_spec.specs.Sequential.{makes_asks, meets_ended}
use Rattle.domain_spec.specs.Tests.{refusal_of}
use Rattle.domain_spec.proofs.EndsOnce.{live_is}
use Rattle.core_rules.specs.declared.next.Next.{Next}
use Rattle.core_rules.specs.declared.next.Next.TheVariants as next
use Rattle.core_rules.specs.Next.{is_ask, next_of}
use Rattle.core_plan.specs.Along.{Asked, answered}
use Rattle.core_plan.specs.Starving.{AreAsks, next_in, starved}
use Rattle.core_plan.proofs.Courses.{made_more}
use Rattle.core_mark_laws.specs.Tidy.{planned}
use Rattle.core_plan.specs.Away.{IsAway, IsOfKind, IsOnGuest, IsUnsent}
use Rattle.core_plan.specs.AwayLaws.{made}
use Rattle.core_plan.specs.Going.{FirstIsAway, FirstIsDone, IsAnsweredLive, IsDoneBy, IsDoneThen, IsLetIn, StaysAway, first_course, let_in}
use Rattle.core_plan.proofs.Finishing.{any_more, done_at_once, done_live, made_one_more, next_ask, unsent_none}
use Rattle.core_plan.proofs.Planning.{still_planned}

-- a call that was let in, and what it asked and was answered so far
record IsCalled (s : State) (o : Option OpenOperation) (j : OpenJob) (a : Asked) : Type 0 where
  own : j.job ≡ job_of j.call
  begins_none : begins j.call ≡ None
  takes_none : takes_up j.call ≡ None
  kind : IsOfKind (is_on_stored j.call) s j
  plan : a.plan ≡ planned (planned_at s j) j.call j.boot
  now : meets_ended s j.call j.boot ≡ false → a.plan ≡ planned s j.call j.boot
  made_all : length (asks_made a.plan a.answers) ≡ length a.answers
  unsent : IsUnsent o j a
  none_ended : list_any is_ended_answer a.answers ≡ false

called : (s : State) (o : Option OpenOperation) (j : OpenJob) (a : Asked) → IsAway s o j a → IsCalled s o j a
called s o j a h = record {
  own = h.own;
  begins_none = h.begins_none;
  takes_none = h.takes_none;
  kind = h.kind;
  plan = h.plan;
  now = h.now;
  made_all = h.asked;
  unsent = h.unsent;
  none_ended = h.none_ended;
}

away : (s : State) (o : Option OpenOperation) (j : OpenJob) (a : Asked) → IsCalled s o j a → is_ask (next_in a) ≡ true → IsAway s o j a
away s o j a h waits = record {
  own = h.own;
  begins_none = h.begins_none;
  takes_none = h.takes_none;
  kind = h.kind;
  plan = h.plan;
  now = h.now;
  waits = waits;
  asked = h.made_all;
  unsent = h.unsent;
  none_ended = h.none_ended;
}

-- one more answer
called_more : (s : State) (o : Option OpenOperation) (j : OpenJob) (a : Asked) (x : Answer) → IsAway s o j a → is_ended_answer x ≡ false → IsUnsent o j (answered a x) → IsCalled s o j (answered a x)
called_more s o j a x h last unsent = record {
  own = h.own;
  begins_none = h.begins_none;
  takes_none = h.takes_none;
  kind = h.kind;
  plan = h.plan;
  now = h.now;
  made_all = made_one_more s o j a x h;
  unsent = unsent;
  none_ended = any_more a.answers x h.none_ended last;
}

-- an ask for which there is no memory is not sent

unsent_first : (a : Ask) → AreUnsent (a ∷ []) (answer.NoMemory ∷ [])
unsent_first (ask.Command c) = (tt, tt)
unsent_first other = tt

unsent_more : (asks : List Ask) (answers : List Answer) (a : Ask) → length asks ≡ length answers → AreUnsent asks answers → AreUnsent (asks ++ a ∷ []) (answers ++ answer.NoMemory ∷ [])
unsent_more [] [] a e h = unsent_first a
unsent_more [] (x ∷ answers) a e h = cc
unsent_more (y ∷ asks) [] a e h = cc
unsent_more (ask.Command c ∷ asks) (x ∷ answers) a e h = (h.0, unsent_more asks answers a (cc) h.1)
unsent_more (other ∷ asks) (x ∷ answers) a e h = unsent_more asks answers a (cc) h

before_more : (made boot : Option ℕ) (o : Outcome) (asks : List Ask) (answers : List Answer) (a : Ask) → length asks ≡ length answers → UnsentBefore made boot o asks answers
    → UnsentBefore made boot o (asks ++ a ∷ []) (answers ++ answer.NoMemory ∷ [])
before_more None boot o asks answers a e h = tt
before_more (Some made) None o asks answers a e h = tt
before_more (Some made) (Some boot) (outcome.On phase.Make) asks answers a e h = λ same. unsent_more asks answers a e (h same)
before_more (Some made) (Some boot) other asks answers a e h = tt

until_more : (o : Option OpenOperation) (boot : Option ℕ) (asks : List Ask) (answers : List Answer) (a : Ask) → length asks ≡ length answers → IsUnsentUntilMade o boot asks answers
    → IsUnsentUntilMade o boot (asks ++ a ∷ []) (answers ++ answer.NoMemory ∷ [])
until_more None boot asks answers a e h = tt
until_more (Some o) boot asks answers a e h = before_more o.boot boot o.outcome asks answers a e h

starve_one : (s : State) (o : Option OpenOperation) (j : OpenJob) (a : Asked) → IsCalled s o j a → is_ask (next_in a) ≡ true → IsCalled s o j (answered a answer.NoMemory)
starve_one s o j a h waits =
    let x : (a0 : Ask) × (next_in a ≡ next.Ask a0) = next_ask (next_in a) waits in
    called_more s o j a answer.NoMemory (away s o j a h waits) refl
    (subst (λ (asks : List Ask). IsUnsentUntilMade o j.boot asks (a.answers ++ answer.NoMemory ∷ [])) (sym (made_more a.plan a.answers answer.NoMemory x.0 x.1))
    (until_more o j.boot (asks_made a.plan a.answers) a.answers x.0 h.made_all h.unsent))

starve : (count : ℕ) (s : State) (o : Option OpenOperation) (j : OpenJob) (a : Asked) → IsCalled s o j a → AreAsks count a → IsCalled s o j (starved count a)
starve zero s o j a h asks = h
starve (suc n) s o j a h asks = starve n s o j (answered a answer.NoMemory) (starve_one s o j a h asks.0) asks.1

-- nothing is left to be asked
over : (s : Standing) (j : OpenJob) (a : Asked) → IsCalled s.state s.operation j a → meets_ended s.state j.call j.boot ≡ false → next_in a ≡ next.Finish → IsDoneBy s j.before j.call j.boot a
over s j a h live through = done_live s j.before j.call j.boot a.plan a.answers live h.begins_none h.takes_none (h.now live) through h.made_all h.none_ended h.unsent

pub stays_away : StaysAway
stays_away s o j a x count h asks waits =
    away s o j (starved count (answered a x)) (starve count s o j (answered a x) (called_more s o j a x h.away h.not_ended h.unsent) asks) waits

pub is_done_then : IsDoneThen
is_done_then s j a x count h asks through =
    over s j (starved count (answered a x)) (starve count s.state s.operation j (answered a x) (called_more s.state s.operation j a x h.away h.not_ended h.unsent) asks) h.live through

-- a call on a guest that asks something carries the boot that is live

both : (b c : Bool) → (b && c) ≡ true → (b ≡ true) × (c ≡ true)
both true c e = (refl, e)
both false c e = cc

makes : (b : Bool) (plan : List PlannedAsk) → is_ask (next_of (asks_left (if b then plan else []) [])) ≡ true → (b ≡ true) × (is_ask (next_of (asks_left plan [])) ≡ true)
makes true plan e = (refl, e)
makes false plan e = cc

guest_live : (l : Option Live) (c : Call) → is_ask (next_of (asks_left (guest_plan l c) [])) ≡ true → (x : Live) × (l ≡ Some x)
guest_live None c e = cc
guest_live (Some l) c e = (l, refl)

held_live : (d : Domain) (c : Call) → is_on_stored c ≡ false → is_ask (next_of (asks_left (held_plan d c) [])) ≡ true → (x : Live) × (d.live ≡ Some x)
held_live d (call.Define def) stored e = cc
held_live d call.Undefine stored e = cc
held_live d (call.SetAutostart on) stored e = cc
held_live d c stored e = guest_live d.live c e

plan_live : (s : State) (c : Call) → is_on_stored c ≡ false → is_ask (next_of (asks_left (plan_of s c) [])) ≡ true → (x : Live) × (live_of s ≡ Some x)
plan_live (state.Held d) c stored e = held_live d c stored e
plan_live (state.Vacant boots) (call.Define def) stored e = cc
plan_live (state.Vacant boots) other stored e = cc

not_false : (b : Bool) → not b ≡ false → b ≡ true
not_false true e = refl
not_false false e = cc

not_true : (b : Bool) → not b ≡ true → b ≡ false
not_true true e = cc
not_true false e = refl

destroy_refused : (s : State) (x : Live) → live_of s ≡ Some x → is_none (refusal_of s None call.Destroy) ≡ true → ⊥
destroy_refused (state.Held d) x is e = cc
destroy_refused (state.Vacant boots) x is e = cc

destroy_boot : (s : State) (x : Live) (boot : Option ℕ) → live_of s ≡ Some x → carries_ended s boot ≡ false → is_none (refusal_of s boot call.Destroy) ≡ true
    → (b : ℕ) × (boot ≡ Some b) × (live_boot s ≡ Some b)
destroy_boot s x None is live none = absurd (destroy_refused s x is none)
destroy_boot s x (Some b) is live none = (b, refl, live_is (live_of s) b (not_false (is_live s b) live))

guest_boot : (s : State) (c : Call) (x : Live) (boot : Option ℕ) → is_on_stored c ≡ false → live_of s ≡ Some x → carries_ended s boot ≡ false → is_none (refusal_of s boot c) ≡ true → IsCarried s c boot
    → (b : ℕ) × (boot ≡ Some b) × (live_boot s ≡ Some b)
guest_boot s call.Destroy x boot stored is live none carried = destroy_boot s x boot is live none
guest_boot s c x boot stored is live none carried =
    let at : live_boot s ≡ Some x.boot = ap boot_in is in
    (x.boot, carried ∙ at, at)

ended_by : (stored ended : Bool) → stored ≡ false → not (not stored && ended) ≡ true → ended ≡ false
ended_by true ended e f = cc
ended_by false ended e f = not_true ended f

asks_boot : (s : State) (c : Call) (boot : Option ℕ) → is_on_stored c ≡ false → IsCarried s c boot → is_ask (next_of (asks_left (planned s c boot) [])) ≡ true
    → (b : ℕ) × (boot ≡ Some b) × (live_boot s ≡ Some b)
asks_boot s c boot stored carried e =
    let h : (makes_asks s c boot ≡ true) × (is_ask (next_of (asks_left (plan_of s c) [])) ≡ true) = makes (makes_asks s c boot) (plan_of s c) e in
    let m : (not (meets_ended s c boot) ≡ true) × (is_none (refusal_of s boot c) ≡ true) = both (not (meets_ended s c boot)) (is_none (refusal_of s boot c)) h.0 in
    let x : (l : Live) × (live_of s ≡ Some l) = plan_live s c stored h.1 in
    guest_boot s c x.0 boot stored x.1 (ended_by (is_on_stored c) (carries_ended s boot) stored m.0) m.1 carried

first_kind : (stored : Bool) (s : State) (n : ℕ) (who : Who) (c : Call) (boot : Option ℕ) → is_on_stored c ≡ stored → IsCarried s c boot → is_ask (next_in (first_course s c boot)) ≡ true
    → IsOfKind stored s (let_in n who c boot)
first_kind true s n who c boot is carried waits = tt
first_kind false s n who c boot is carried waits =
    let b : (b : ℕ) × (boot ≡ Some b) × (live_boot s ≡ Some b) = asks_boot s c boot is carried waits in
    record { boot = b.0; carried = b.1; was_live = b.2; ended = tt }

first_called : (s : State) (o : Option OpenOperation) (n : ℕ) (who : Who) (c : Call) (boot : Option ℕ) → IsLetIn s c boot → is_ask (next_in (first_course s c boot)) ≡ true
    → IsCalled s o (let_in n who c boot) (first_course s c boot)
first_called s o n who c boot h waits = record {
  own = refl;
  begins_none = h.begins_none;
  takes_none = h.takes_none;
  kind = first_kind (is_on_stored c) s n who c boot refl h.carried waits;
  plan = refl;
  now = λ live. refl;
  made_all = refl;
  unsent = unsent_none o boot;
  none_ended = refl;
}

pub first_is_away : FirstIsAway
first_is_away s o n who c boot zero h asks waits = away s o (let_in n who c boot) (first_course s c boot) (first_called s o n who c boot h waits) waits
first_is_away s o n who c boot (suc count) h asks waits =
    away s o (let_in n who c boot) (starved (suc count) (first_course s c boot))
    (starve (suc count) s o (let_in n who c boot) (first_course s c boot) (first_called s o n who c boot h asks.0) asks) waits

-- a call that asks something doesn't carry a boot that has ended
asks_live : (s : State) (c : Call) (boot : Option ℕ) → is_ask (next_in (first_course s c boot)) ≡ true → meets_ended s c boot ≡ false
asks_live s c boot e =
    let h : (makes_asks s c boot ≡ true) × (is_ask (next_of (asks_left (plan_of s c) [])) ≡ true) = makes (makes_asks s c boot) (plan_of s c) e in
    not_true (meets_ended s c boot) (both (not (meets_ended s c boot)) (is_none (refusal_of s boot c)) h.0).0

pub first_is_done : FirstIsDone
first_is_done s c boot zero h asks through =
    done_at_once s c boot h.begins_none h.takes_none (ap next_of (sym (still_planned s.state c boot [])) ∙ through)
first_is_done s c boot (suc count) h asks through =
    over s (let_in 0 (record { session = 0; lane = 0; count = 0 }) c boot) (starved (suc count) (first_course s.state c boot))
    (starve (suc count) s.state s.operation (let_in 0 (record { session = 0; lane = 0; count = 0 }) c boot) (first_course s.state c boot)
    (first_called s.state s.operation 0 (record { session = 0; lane = 0; count = 0 }) c boot h asks.0) asks) (asks_live s.state c boot asks.0) through
