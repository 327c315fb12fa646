-- What the turn of an answer leaves of its own.
use Rattle.std.proofs.Common.{◌≡◌, ◌⊎◌, inl, inr, ℕ, ◌==◌, ◌+◌, List, [], ◌∷◌, ◌++◌, length, replicate, Bool, Option, None, Some, if◌then◌else◌, refl, sym, ap, ◌∙◌, subst, eq-eqb}
use Rattle.history_spec.specs.Pass.{own}
use Rattle.domain_spec.specs.Types.{Answer, Ask, Call, Phase, Reply, Transition, Who}
use Rattle.domain_spec.specs.Types.answer
use Rattle.domain_spec.specs.Types.job
use Rattle.domain_spec.specs.declared.core_step.CoreStep.{CoreStep}
use Rattle.domain_spec.specs.declared.core_step.CoreStep.TheVariants as step
use Rattle.domain_spec.specs.declared.mark.Mark.{Mark}
use Rattle.domain_spec.specs.declared.mark.Mark.TheVariants as mark
use Rattle.domain_spec.specs.declared.open.OpenJob.{OpenJob}
use Rattle.domain_spec.specs.declared.open.OpenOperation.{OpenOperation}
use Rattle.domain_spec.specs.declared.standing.Standing.{Standing}
use Rattle.domain_spec.specs.declared.step.Outcome.{Outcome}
use Rattle.domain_spec.specs.declared.step.Outcome.TheVariants as outcome
use Rattle.domain_spec.specs.CanTake.{IsNotJobOf, WaitsForAnswer}
use Rattle.domain_spec.specs.Cell.{Cell, OpenCall, as_let_in, asks_so_far, call_of, operation_of, planned_at, share_of, standing_of}
use Rattle.domain_spec.specs.Fold.{standing}
use Rattle.domain_spec.specs.Lawful.{IsDone, IsPhaseMade, IsPhased, IsStarved}
use Rattle.domain_spec.specs.Open.{is_rest}
use Rattle.domain_spec.specs.Steps.{AnswersBy}
use Rattle.domain_spec.specs.Turns.{AnswersAfter, BeginsBy, GoOn, GoesOnBy, IsTurn, Leads, MayLeave}
use Rattle.core_steps.specs.OfLedger.{step_to}
use Rattle.core_steps.specs.OfLedger.{Back}
use Rattle.core_steps.specs.OfLedger.back_variants as back
use Rattle.core_steps.specs.OfLedger.{Step}
use Rattle.core_steps.specs.Answering.{GoesBack}
use Rattle.core_steps.specs.Phased.{HasLedTo, led_to}
use Rattle.core_steps.specs.Turning.{AsksLast, HasDone, Takes, Turning}
use Rattle.core_step_laws.specs.Shares.{IsStepOf}
use Rattle.core_step_laws.proofs.Jobs.{on_base}
use Rattle.core_step_laws.specs.MarkedAnswered.{AnswersLeave, BackLeaves, IsAwayStill, IsDoneNow, IsPhasedNow}
use Rattle.core_step_laws.specs.Steady.{IsSteady}
use Rattle.core_step_laws.specs.Told.{told, told_then}
use Rattle.core_step_laws.proofs.Asked.{IsAnswered, IsAsked, answered_by, asks_still, asked_first, asked_keeps, call_asked, open_call, phase_made, phase_starved, told_grown}
use Rattle.core_step_laws.proofs.Entering.{open_its, same_done}
use Rattle.core_step_laws.proofs.MarkedPhases.{its_share}
use Rattle.core_step_laws.proofs.Plans.{asks_are, asks_by, asks_grow}
use Rattle.core_step_laws.proofs.Walking.{IsDoneIn, IsPhasedIn, IsStillIn, Keeps, done_in, phased_in, still_in}

-- such a turn lets no call in

goes_back : (c : Cell) (n : ℕ) (x : Answer) (m : Mark ℕ) → BeginsBy c (step.Back n x) (standing_of c) m → GoesOnBy c (step.Back n x) (standing_of c) m
goes_back c n x (mark.Admit number who wanted d boot) h = absurd h
goes_back c n x (mark.Refused number who d why held) h = absurd h.0
goes_back c n x m h = h

goes : (c : Cell) (n : ℕ) (x : Answer) (left : List (Mark ℕ)) → MayLeave c (step.Back n x) left → GoOn c (step.Back n x) (standing_of c) left
goes c n x [] h = h
goes c n x (m ∷ left) h = (goes_back c n x m h.0, h.1, h.2)

-- the call is done

done_told : (c : Cell) (n : ℕ) (j : OpenJob) (s : Standing) (k : Option OpenJob) (x : Answer) (more : ℕ) (y : Ask) (before : List Ask) (who : Who) (d : Call) (boot : Option ℕ) (asks : List Ask) (answers : List Answer) (r : Reply) (events : List Transition)
    (h : IsAsked c j s) → k ≡ Some h.now → length (asks_so_far (standing_of c) j.job j c.answers) ≡ length c.answers + 1 → answers ≡ c.answers ++ x ∷ replicate more answer.NoMemory
    → asks_so_far (standing_of c) j.job j c.answers ≡ before ++ y ∷ [] → IsDone s k n who d boot asks answers r events
    → (who ≡ j.who) × (d ≡ j.call) × (boot ≡ j.boot) × (told asks answers ≡ told_then (open_call c j) y x)
done_told c n j s None x more y before who d boot asks answers r events h is waits by last done = absurd done
done_told c n j s (Some k) x more y before who d boot asks answers r events h is waits by last done =
    let here : k ≡ h.now = cc in
    let own : IsDone s (Some h.now) n who d boot asks answers r events = subst (λ (z : OpenJob). IsDone s (Some z) n who d boot asks answers r events) here done in
    let ys : List Answer = replicate more answer.NoMemory in
    let so : IsDone s (Some h.now) n who h.now.call h.now.boot asks answers r events =
    subst (λ (z : Option ℕ). IsDone s (Some h.now) n who h.now.call z asks answers r events) own.0.same_boot
    (subst (λ (z : Call). IsDone s (Some h.now) n who z boot asks answers r events) own.0.same_call own) in
    let grown = call_asked c j s h x ys who n asks answers r events (record { waits = waits; by = by }) so in (
      own.0.caller ∙ ap (λ (z : OpenJob). z.who) h.same,
      own.0.same_call ∙ ap (λ (z : OpenJob). z.call) h.same,
      own.0.same_boot ∙ ap (λ (z : OpenJob). z.boot) h.same,
      told_grown (asks_so_far (standing_of c) j.job j c.answers) before grown.0 asks y c.answers answers x more last waits grown.1 by,
    )

back_done : (c : Cell) (n : ℕ) (x : Answer) (r : Reply) (left : List (Mark ℕ)) (o : OpenCall) (a : IsAnswered c n o) (y : Ask) (before : List Ask) → IsTurn c (step.Back n x) left → IsSteady (standing_of c) → HasDone n r left
    → asks_so_far (standing_of c) a.job.job a.job c.answers ≡ before ++ y ∷ [] → IsDoneNow n (open_call c a.job) y x r left
back_done c n x r left o a y before turn begins done last =
    let t : CoreStep ℕ = step.Back n x in
    let j : OpenJob = a.job in
    let d : IsDoneIn c t n refl (IsAsked c j) r left = done_in c t n refl (IsAsked c j) (asked_keeps c t n refl j) r (standing_of c) left (asked_first c j a.is begins) (goes c n x left turn.left) done in
    let of = done_told c n j d.at d.at.job x d.by.0 y before d.who d.call d.boot d.asks d.answers r d.events d.holds d.holds.is a.waits d.by.1 last d.done in
    record {
      asks = d.asks;
      answers = d.answers;
      events = d.events;
      own_are = d.own_are ∙ ap (λ (m : Mark ℕ). m ∷ []) (same_done n d.who j.who d.call j.call d.boot j.boot d.asks d.answers r d.events of.0 of.1 of.2);
      told_is = of.3;
    }

-- it is away still

-- and the operation is as it was
record IsBeside (c : Cell) (j : OpenJob) (s : Standing) : Type 0 where
  asked : IsAsked c j s
  operation : s.operation ≡ (standing_of c).operation

beside_keeps : (c : Cell) (t : CoreStep ℕ) (n : ℕ) (its : IsStepOf n t) (j : OpenJob) → Keeps c t n its (IsBeside c j)
beside_keeps c t n its j = let k : Keeps c t n its (IsAsked c j) = asked_keeps c t n its j in record {
  exit = λ s boot why events by h. record { asked = k.exit s boot why events by h.asked; operation = h.operation };
  event = λ s boot g events none h. record { asked = k.event s boot g events none h.asked; operation = h.operation };
  cut = λ s client total taken h. record { asked = k.cut s client total taken h.asked; operation = h.operation };
}

its_number : (n k : ℕ) (y : OpenCall) → k ≡ n → (if k == n then Some y else None) ≡ Some y
its_number n k y e = ap (λ (b : Bool). if b then Some y else None) (eq-eqb k n e)

back_away : (c d : Cell) (n : ℕ) (x : Answer) (z : Ask) (left : List (Mark ℕ)) (o : OpenCall) (a : IsAnswered c n o) (y : Ask) (before : List Ask) → IsTurn c (step.Back n x) left → Leads c (step.Back n x) left d → IsSteady (standing_of c)
    → AsksLast (share_of d n).call z → asks_so_far (standing_of c) a.job.job a.job c.answers ≡ before ++ y ∷ [] → IsAwayStill n (open_call c a.job) y x (share_of c n) (share_of d n) z left
back_away c d n x z left o a y before turn leads begins asks last =
    let t : CoreStep ℕ = step.Back n x in
    let j : OpenJob = a.job in
    let is : standing_of d ≡ standing (standing_of c) left = on_base c d left leads.base leads.marks in
    let there : IsNotJobOf (standing (standing_of c) left).job n → ⊥ = λ unlike. open_its d n z asks (subst (λ (s : Standing). IsNotJobOf s.job n) (sym is) unlike) in
    let still : IsStillIn c t n refl (IsBeside c j) (standing_of c) left = still_in c t n refl (IsBeside c j) (beside_keeps c t n refl j) (standing_of c) left (record { asked = asked_first c j a.is begins; operation = refl }) (goes c n x left turn.left) there in
    let s : Standing = standing (standing_of c) left in
    let h : IsAsked c j s = still.holds.asked in
    let k : OpenJob = h.now in
    let its : (standing_of d).job ≡ Some k = ap (λ (u : Standing). u.job) is ∙ h.is in
    let by : AnswersBy c t d.answers = subst (λ (u : Option OpenJob). AnswersAfter c t left u d.answers) its leads.answers in
    let ys : List Answer = replicate by.0 answer.NoMemory in
    let open_now : OpenCall = record { job = as_let_in k; asks = asks_so_far s k.job k d.answers; answers = d.answers } in
    let number : k.number ≡ n = ap (λ (u : OpenJob). u.number) h.same ∙ sym a.numbered in
    let call : (share_of d n).call ≡ Some open_now =
    ap (λ (u : Standing). call_of u u.job d.answers n) is ∙ ap (λ (u : Option OpenJob). call_of s u d.answers n) h.is ∙ its_number n k.number open_now number in
    let first : asks_so_far (standing_of c) j.job j c.answers ≡ asks_by (planned_at (standing_of c).state j) (standing_of c).operation j.job (as_let_in j) c.answers = asks_are (standing_of c) j.job j c.answers in
    let grown = asks_grow (planned_at (standing_of c).state j) (standing_of c).operation j.job (as_let_in j) c.answers x ys (sym (ap length first) ∙ a.waits) in
    let long : length open_now.asks ≡ length d.answers + 1 =
    ap (λ (u : Standing). length (asks_so_far u k.job k d.answers)) (sym is) ∙ subst (λ (u : Option OpenJob). WaitsForAnswer d u) its leads.away in
    let more : open_now.asks ≡ asks_so_far (standing_of c) j.job j c.answers ++ grown.0 =
    asks_still c j s h d.answers long
    ∙ ap (λ (us : List Answer). asks_by (planned_at (standing_of c).state j) (standing_of c).operation j.job (as_let_in j) us) by.1
    ∙ grown.1
    ∙ ap (λ (us : List Ask). us ++ grown.0) (sym first) in
    let next : AsksLast (Some open_now) z = subst (λ (u : Option OpenCall). AsksLast u z) call asks in
    record {
      own_are = still.own_are;
      away = open_now;
      is_open = call;
      job_is = h.same;
      told_is = told_grown (asks_so_far (standing_of c) j.job j c.answers) before grown.0 open_now.asks y c.answers d.answers x by.0 last a.waits more by.1;
      before = next.0;
      asks_last = next.1;
      operation_is = ap (λ (u : Standing). operation_of u.operation n) is ∙ ap (λ (q : Option OpenOperation). operation_of q n) still.holds.operation;
    }

-- the phase is done

phase_told : (c : Cell) (j : OpenJob) (s : Standing) (o : OpenOperation) (x : Answer) (more : ℕ) (y : Ask) (before : List Ask) (asks : List Ask) (answers : List Answer) (h : IsAsked c j s) → s.operation ≡ Some o
    → length (asks_so_far (standing_of c) j.job j c.answers) ≡ length c.answers + 1 → answers ≡ c.answers ++ x ∷ replicate more answer.NoMemory → asks_so_far (standing_of c) j.job j c.answers ≡ before ++ y ∷ []
    → h.now.job ≡ job.Nested → IsPhaseMade s.state h.now.before o asks answers ⊎ IsStarved asks answers → told asks answers ≡ told_then (open_call c j) y x
phase_told c j s o x more y before asks answers h is waits by last nested (inl made) =
    let ys : List Answer = replicate more answer.NoMemory in
    let grown = phase_made c j s h o x ys asks answers (record { waits = waits; by = by }) is nested made in
    told_grown (asks_so_far (standing_of c) j.job j c.answers) before grown.0 asks y c.answers answers x more last waits grown.1 by
phase_told c j s o x more y before asks answers h is waits by last nested (inr starved) =
    phase_starved (asks_so_far (standing_of c) j.job j c.answers) asks y c.answers answers x (replicate more answer.NoMemory) by starved

-- what is known of a phase that is done
pub record IsPhaseKnown (c : Cell) (n : ℕ) (j : OpenJob) (who : Who) (p : Phase) (y : Ask) (x : Answer) (asks : List Ask) (answers : List Answer) : Type 0 where
  pub operation : OpenOperation
  pub is : (standing_of c).operation ≡ Some operation
  pub numbered : n ≡ operation.number
  pub caller : who ≡ j.who
  pub its_caller : j.who ≡ operation.who
  pub due : operation.outcome ≡ outcome.On p
  pub told_is : told asks answers ≡ told_then (open_call c j) y x

phase_known : (c : Cell) (n : ℕ) (j : OpenJob) (s : Standing) (k : Option OpenJob) (q : Option OpenOperation) (x : Answer) (more : ℕ) (y : Ask) (before : List Ask) (who : Who) (p : Phase) (asks : List Ask) (answers : List Answer) (next : Outcome) (events : List Transition)
    (h : IsAsked c j s) → k ≡ Some h.now → s.operation ≡ q → length (asks_so_far (standing_of c) j.job j c.answers) ≡ length c.answers + 1 → answers ≡ c.answers ++ x ∷ replicate more answer.NoMemory
    → asks_so_far (standing_of c) j.job j c.answers ≡ before ++ y ∷ [] → IsPhased s k q n who p asks answers next events → IsPhaseKnown c n j who p y x asks answers
phase_known c n j s None q x more y before who p asks answers next events h is op waits by last phased = absurd phased
phase_known c n j s (Some k) None x more y before who p asks answers next events h is op waits by last phased = absurd phased
phase_known c n j s (Some k) (Some o) x more y before who p asks answers next events h is op waits by last phased =
    let here : k ≡ h.now = cc in
    let so : IsPhased s (Some h.now) (Some o) n who p asks answers next events = subst (λ (z : OpenJob). IsPhased s (Some z) (Some o) n who p asks answers next events) here phased in
    let own : j.who ≡ o.who = sym (ap (λ (z : OpenJob). z.who) h.same) ∙ so.nested.job_caller in
    record {
      operation = o;
      is = sym (h.operation so.nested.nested) ∙ op;
      numbered = so.nested.numbered;
      caller = so.nested.caller ∙ sym own;
      its_caller = own;
      due = so.due;
      told_is = phase_told c j s o x more y before asks answers h op waits by last so.nested.nested so.made;
    }

back_phased : (c v : Cell) (n : ℕ) (x : Answer) (st : Step) (next : Outcome) (left : List (Mark ℕ)) (o : OpenCall) (a : IsAnswered c n o) (y : Ask) (before : List Ask) → IsTurn c (step.Back n x) left → IsSteady (standing_of c)
    → HasLedTo n next left → st ≡ step_to next → (share_of v n).operation ≡ led_to next (share_of c n).operation → asks_so_far (standing_of c) a.job.job a.job c.answers ≡ before ++ y ∷ [] → IsPhasedNow n (open_call c a.job) y x (share_of c n) (share_of v n) st left
back_phased c v n x st next left o a y before turn begins led leads on last =
    let t : CoreStep ℕ = step.Back n x in
    let j : OpenJob = a.job in
    let d : IsPhasedIn c t n refl (IsAsked c j) next left = phased_in c t n refl (IsAsked c j) (asked_keeps c t n refl j) next (standing_of c) left (asked_first c j a.is begins) (goes c n x left turn.left) led in
    let k : IsPhaseKnown c n j d.who d.phase y x d.asks d.answers =
    phase_known c n j d.at d.at.job d.at.operation x d.by.0 y before d.who d.phase d.asks d.answers next d.events d.holds d.holds.is refl a.waits d.by.1 last d.phased in
    let its : (share_of c n).operation ≡ Some k.operation = ap (λ (q : Option OpenOperation). operation_of q n) k.is ∙ its_share k.operation n k.numbered (ap is_rest k.due) in
    record {
      operation = k.operation;
      is_open = its;
      its_caller = k.its_caller;
      phase = d.phase;
      due = k.due;
      asks = d.asks;
      answers = d.answers;
      next = next;
      events = d.events;
      own_are = d.own_are ∙ ap (λ (w : Who). mark.Phase n w d.phase d.asks d.answers next d.events ∷ []) k.caller;
      told_is = k.told_is;
      leads = leads;
      operation_is = on ∙ ap (λ (q : Option OpenOperation). led_to next q) its;
    }

-- each of them

leaves : (old new : Turning) (n : ℕ) (x : Answer) (result : Back) (o : OpenCall) (a : IsAnswered old.cell n o) (before : List Ask) (y : Ask) → GoesBack n x old new result → IsSteady (standing_of old.cell)
    → asks_so_far (standing_of old.cell) a.job.job a.job old.cell.answers ≡ before ++ y ∷ [] → Takes old new (step.Back n x) (BackLeaves n (open_call old.cell a.job) y x (share_of old.cell n) (share_of new.cell n) result)
leaves old new n x (back.Done r) o a before y h begins last = (h.0, h.1, back_done old.cell n x r h.0 o a y before h.1.turn begins h.2 last)
leaves old new n x (back.Away z) o a before y h begins last = (h.0, h.1, back_away old.cell new.cell n x z h.0 o a y before h.1.turn h.1.leads begins h.2.1 last)
leaves old new n x (back.Phased st) o a before y h begins last = (h.0, h.1, back_phased old.cell new.cell n x st h.2.0 h.0 o a y before h.1.turn begins h.2.1 h.2.2 h.2.3 last)

-- a turn of an answer can be taken
can_answer : (old new : Turning) (n : ℕ) (x : Answer) (result : Back) → GoesBack n x old new result → (left : List (Mark ℕ)) × IsTurn old.cell (step.Back n x) left
can_answer old new n x (back.Done r) h = (h.0, h.1.turn)
can_answer old new n x (back.Away z) h = (h.0, h.1.turn)
can_answer old new n x (back.Phased st) h = (h.0, h.1.turn)

pub answers_leave : AnswersLeave
answers_leave old new n x result o before y h begins is last =
    let a : IsAnswered old.cell n o = answered_by old.cell n (standing_of old.cell).job o refl (can_answer old new n x result h).1.can is in
    subst (λ (z : OpenCall). Takes old new (step.Back n x) (BackLeaves n z y x (share_of old.cell n) (share_of new.cell n) result)) (sym a.open_is)
    (leaves old new n x result o a before y h begins (ap (λ (z : OpenCall). z.asks) (sym a.open_is) ∙ last))
