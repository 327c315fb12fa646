-- What the ask that is waited for may be answered, so may the call be.
use Rattle.std.proofs.Common.{◌≡◌, ◌⊎◌, inl, inr, ℕ, ◌<◌, List, [], ◌∷◌, ◌++◌, length, take, Bool, true, false, Option, None, Some, if◌then◌else◌, refl, sym, ap, ◌∙◌, subst, arith}
use Rattle.domain_spec.specs.Types.{Answer, Ask, Call, DomainDef, Job, State}
use Rattle.domain_spec.specs.Types.ask
use Rattle.domain_spec.specs.Types.call
use Rattle.domain_spec.specs.Types.job
use Rattle.domain_spec.specs.Types.phase
use Rattle.domain_spec.specs.Types.state
use Rattle.domain_spec.specs.declared.open.OpenJob.{OpenJob}
use Rattle.domain_spec.specs.declared.open.OpenOperation.{OpenOperation}
use Rattle.domain_spec.specs.declared.planned.PlannedAsk.{PlannedAsk}
use Rattle.domain_spec.specs.declared.standing.Standing.{Standing}
use Rattle.domain_spec.specs.declared.step.Outcome.{Outcome}
use Rattle.domain_spec.specs.declared.step.Outcome.TheVariants as outcome
use Rattle.domain_spec.specs.Asks.{asks_left, asks_made, is_ended_answer}
use Rattle.domain_spec.specs.Call.{is_on_stored, plan_of, put_plan}
use Rattle.domain_spec.specs.Cell.{Cell, HeldEvent, LentEars, Queue, asks_so_far, planned_at, standing_of}
use Rattle.domain_spec.specs.Lawful.{AreUnsent, IsUnsentUntilMade, UnsentBefore}
use Rattle.domain_spec.specs.Lawful.{IsUnsent as IsNone}
use Rattle.domain_spec.specs.Sequential.{makes_asks}
use Rattle.core_rules.specs.declared.next.Next.TheVariants as next
use Rattle.core_rules.specs.Next.{is_ask, next_of}
use Rattle.core_steps.specs.OfAsks.{Asked, answered}
use Rattle.core_steps.specs.OfAsks.{next_in}
use Rattle.core_steps.proofs.OfAsks.{has_room, made_more}
use Rattle.core_steps.specs.OfAsks.{IsAway, IsUnsent}
use Rattle.core_steps.proofs.OfAsks.{next_ask}
use Rattle.core_steps.specs.OfLedger.{IsPhaseWaiting, WaitsWith}
use Rattle.core_steps.specs.Below.core_flight.Ledger.{standing_in}
use Rattle.core_steps.specs.OfRecord.{Recorded, force_of}
use Rattle.core_steps.specs.Answering.{MayBeAnswered, MayBeAnsweredAs}
use Rattle.core_steps.specs.Turning.{answers_of, cell_of}
use Rattle.core_steps.specs.declared.refusing.Refusable.{Refusable}
use Rattle.core_steps.proofs.Asking.{asks_along}
use Rattle.core_step_laws.specs.Made.{AsksThis, is_make, makes}
use Rattle.domain_core.specs.Answering.{MayAnswer, MayGoBack}
use Rattle.domain_core.specs.Core.{Core, core_of}

-- until the guest is made a command is answered as one that is not sent

abbrev IsNotSent : Ask → Answer → Type 0
IsNotSent (ask.Command c) x = IsNone x
IsNotSent other x = Unit {0}

safe_by : (unmade : Bool) (y : Ask) (x : Answer) → MayAnswer unmade y x → unmade ≡ true → IsNotSent y x
safe_by false y x may e = cc
safe_by true (ask.Command c) x may e = may
safe_by true other x may e = tt

unsent_more : (asks : List Ask) (answers : List Answer) (y : Ask) (x : Answer) → length asks ≡ length answers → AreUnsent asks answers → IsNotSent y x → AreUnsent (asks ++ y ∷ []) (answers ++ x ∷ [])
unsent_more [] [] (ask.Command c) x e h safe = (safe, tt)
unsent_more [] [] other x e h safe = tt
unsent_more [] (a ∷ answers) y x e h safe = cc
unsent_more (b ∷ asks) [] y x e h safe = cc
unsent_more (ask.Command c ∷ asks) (a ∷ answers) y x e h safe = (h.0, unsent_more asks answers y x (cc) h.1 safe)
unsent_more (other ∷ asks) (a ∷ answers) y x e h safe = unsent_more asks answers y x (cc) h safe

before_more : (made boot : Option ℕ) (o : Outcome) (asks : List Ask) (answers : List Answer) (y : Ask) (x : Answer) → length asks ≡ length answers → UnsentBefore made boot o asks answers → (is_make o ≡ true → IsNotSent y x)
    → UnsentBefore made boot o (asks ++ y ∷ []) (answers ++ x ∷ [])
before_more None boot o asks answers y x e h safe = tt
before_more (Some made) None o asks answers y x e h safe = tt
before_more (Some made) (Some boot) (outcome.On phase.Make) asks answers y x e h safe = λ same. unsent_more asks answers y x e (h same) (safe refl)
before_more (Some made) (Some boot) other asks answers y x e h safe = tt

until_more : (o : Option OpenOperation) (boot : Option ℕ) (asks : List Ask) (answers : List Answer) (y : Ask) (x : Answer) → length asks ≡ length answers → IsUnsentUntilMade o boot asks answers → (makes o ≡ true → IsNotSent y x)
    → IsUnsentUntilMade o boot (asks ++ y ∷ []) (answers ++ x ∷ [])
until_more None boot asks answers y x e h safe = tt
until_more (Some o) boot asks answers y x e h safe = before_more o.boot boot o.outcome asks answers y x e h safe

-- a call on the stored definition asks one thing at most, and sends no command

abbrev IsNoCommand : Ask → Type 0
IsNoCommand (ask.Command c) = ⊥
IsNoCommand other = Unit {0}

abbrev IsOfStored : List PlannedAsk → Type 0
IsOfStored [] = Unit {0}
IsOfStored (p ∷ []) = (p.undo ≡ []) × IsNoCommand p.ask
IsOfStored (p ∷ q ∷ plan) = ⊥

put_stored : (stored : Option DomainDef) (autostart : Bool) → IsOfStored (put_plan stored autostart)
put_stored None autostart = tt
put_stored (Some def) autostart = (refl, tt)

plan_stored : (s : State) (c : Call) → is_on_stored c ≡ true → IsOfStored (plan_of s c)
plan_stored (state.Held d) (call.Define def) e = (refl, tt)
plan_stored (state.Held d) call.Undefine e = (refl, tt)
plan_stored (state.Held d) (call.SetAutostart on) e = put_stored d.stored on
plan_stored (state.Held d) other e = cc
plan_stored (state.Vacant boots) (call.Define def) e = (refl, tt)
plan_stored (state.Vacant boots) other e = tt

planned_if : (b : Bool) (s : State) (c : Call) → is_on_stored c ≡ true → IsOfStored (if b then plan_of s c else [])
planned_if true s c e = plan_stored s c e
planned_if false s c e = tt

not_below : (n : ℕ) → n < 0 → ⊥
not_below n lt = omega (arith, lt)

asks_one : (plan : List PlannedAsk) (answers : List Answer) (y : Ask) → IsOfStored plan → next_of (asks_left plan answers) ≡ next.Ask y → IsNoCommand y
asks_one [] answers y is e = absurd (not_below (length answers) (has_room [] answers (ap is_ask e)))
asks_one (p ∷ []) [] y is e = let same : p.ask ≡ y = cc in subst (λ (z : Ask). IsNoCommand z) same is.1
asks_one (p ∷ []) (a ∷ answers) y is e =
    let room = has_room (p ∷ []) (a ∷ answers) (ap is_ask e) in
    let none : length p.undo ≡ 0 = ap (λ (asks : List Ask). length asks) is.0 in
    absurd (not_below (length answers) (omega (arith, room, none)))
asks_one (p ∷ q ∷ plan) answers y is e = absurd is

none_ended : (unmade : Bool) (y : Ask) (x : Answer) → IsNoCommand y → MayAnswer unmade y x → is_ended_answer x ≡ false
none_ended unmade (ask.Command c) x other may = absurd other
none_ended true (ask.Make def boot) x other may = may
none_ended false (ask.Make def boot) x other may = may
none_ended true y x other may = may.0
none_ended false y x other may = may.0

not_both : (b : Bool) → b ≡ true → b ≡ false → ⊥
not_both true e f = cc
not_both false e f = cc

off_stored : (stored : Bool) (s : Standing) (j : OpenJob) (a : Asked) (y : Ask) (x : Answer) → is_on_stored j.call ≡ stored → IsAway s.state s.operation j a → next_in a ≡ next.Ask y → MayAnswer (makes s.operation) y x
    → is_ended_answer x ≡ true → stored ≡ false
off_stored false s j a y x is away asks may ended = refl
off_stored true s j a y x is away asks may ended =
    let at : State = planned_at s.state j in
    let plan = subst (λ (p : List PlannedAsk). IsOfStored p) (sym away.plan) (planned_if (makes_asks at j.call j.boot) at j.call is) in
    absurd (not_both (is_ended_answer x) ended (none_ended (makes s.operation) y x (asks_one a.plan a.answers y plan asks) may))

may_away : (s : Standing) (j : OpenJob) (a : Asked) (y : Ask) (x : Answer) → IsAway s.state s.operation j a → next_in a ≡ next.Ask y → MayAnswer (makes s.operation) y x
    → IsUnsent s.operation j (answered a x) × (is_ended_answer x ≡ true → is_on_stored j.call ≡ false)
may_away s j a y x away asks may = (
  subst (λ (made : List Ask). IsUnsentUntilMade s.operation j.boot made (a.answers ++ x ∷ [])) (sym (made_more a.plan a.answers x y asks))
      (until_more s.operation j.boot (asks_made a.plan a.answers) a.answers y x away.asked away.unsent (λ e. safe_by (makes s.operation) y x may e)),
  λ ended. off_stored (is_on_stored j.call) s j a y x refl away asks may ended,
)

-- a phase may be answered anything

is_nested : (s : State) (o : Option OpenOperation) (j : OpenJob) (a : Asked) → IsPhaseWaiting s o j a → j.job ≡ job.Nested
is_nested s None j a h = absurd h
is_nested s (Some o) j a h = h.nested.nested

may_as : (wanted : Job) (s : Standing) (j : OpenJob) (a : Asked) (y : Ask) (x : Answer) → j.job ≡ wanted → IsAway s.state s.operation j a ⊎ IsPhaseWaiting s.state s.operation j a → next_in a ≡ next.Ask y
    → MayAnswer (makes s.operation) y x → MayBeAnsweredAs wanted s j a x
may_as job.Nested s j a y x is h asks may = tt
may_as other s j a y x is (inl away) asks may = may_away s j a y x away asks may
may_as other s j a y x is (inr waiting) asks may = let nested = is_nested s.state s.operation j a waiting in cc

-- what was asked last is what is next

phase_waits : (s : State) (o : Option OpenOperation) (j : OpenJob) (a : Asked) → IsPhaseWaiting s o j a → is_ask (next_in a) ≡ true
phase_waits s None j a h = absurd h
phase_waits s (Some o) j a h = h.waits

waits_so : (s : Standing) (j : OpenJob) (a : Asked) → IsAway s.state s.operation j a ⊎ IsPhaseWaiting s.state s.operation j a → is_ask (next_in a) ≡ true
waits_so s j a (inl h) = h.waits
waits_so s j a (inr h) = phase_waits s.state s.operation j a h

first_of : (asks : List Ask) (y : Ask) → next_of asks ≡ next.Ask y → take 1 asks ≡ y ∷ []
first_of [] y e = cc
first_of (z ∷ asks) y e = let same : z ≡ y = cc in ap (λ (w : Ask). w ∷ []) same

same_last : (xs ys : List Ask) (x y : Ask) → xs ++ x ∷ [] ≡ ys ++ y ∷ [] → x ≡ y
same_last [] [] x y e = cc
same_last [] (b ∷ []) x y e = cc
same_last [] (b ∷ c ∷ ys) x y e = cc
same_last (a ∷ []) [] x y e = cc
same_last (a ∷ c ∷ xs) [] x y e = cc
same_last (a ∷ xs) (b ∷ ys) x y e = let rest : xs ++ x ∷ [] ≡ ys ++ y ∷ [] = cc in same_last xs ys x y rest

asks_next : (s : Standing) (j : OpenJob) (a : Asked) (before : List Ask) (y : Ask) → IsAway s.state s.operation j a ⊎ IsPhaseWaiting s.state s.operation j a → asks_so_far s j.job j a.answers ≡ before ++ y ∷ [] → next_in a ≡ next.Ask y
asks_next s j a before y h is =
    let z = next_ask (next_in a) (waits_so s j a h) in
    let so_far : asks_so_far s j.job j a.answers ≡ asks_made a.plan a.answers ++ z.0 ∷ [] =
    asks_along s j a h ∙ ap (λ (xs : List Ask). asks_made a.plan a.answers ++ xs) (first_of (asks_left a.plan a.answers) z.0 z.1) in
    z.1 ∙ ap (λ (w : Ask). next.Ask w) (same_last (asks_made a.plan a.answers) before z.0 y (sym so_far ∙ is))

may_in : (c : Cell) (j : Option OpenJob) (o : Option Asked) (y : Ask) (x : Answer) → c.answers ≡ answers_of o → WaitsWith (standing_of c) j o → AsksThis c j y → MayAnswer (makes (standing_of c).operation) y x
    → MayBeAnswered (standing_of c) j o x
may_in c None None y x same waits asks may = absurd asks
may_in c None (Some a) y x same waits asks may = absurd waits
may_in c (Some j) None y x same waits asks may = absurd waits
may_in c (Some j) (Some a) y x same waits asks may =
    let so_far = ap (λ (answers : List Answer). asks_so_far (standing_of c) j.job j answers) (sym same) ∙ asks.1 in
    may_as j.job (standing_of c) j a y x refl waits (asks_next (standing_of c) j a asks.0 y waits so_far) may

-- so it is with the open call of a domain
pub may_back : (v : Core) (r : Recorded) (q : Queue) (held : List HeldEvent) (ears : Option LentEars) (z : Option Refusable) (x : Answer) → core_of r q held ears z ≡ v → WaitsWith (force_of r) (force_of r).job r.course
    → MayGoBack v.turning.cell x → MayBeAnswered (force_of r) (force_of r).job r.course x
unfolding standing_in
may_back v r q held ears z x is waits may =
    let own = subst (λ (c : Core). MayGoBack c.turning.cell x) (sym is) may in
    may_in (cell_of r q held ears) (force_of r).job r.course own.0 x refl waits own.1 own.2
