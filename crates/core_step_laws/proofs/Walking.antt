-- How the open call of a number fares in a turn: nothing is left of the number's own until its call is closed, and
-- nothing after that.
use Rattle.std.proofs.Common.{◌≡◌, ℕ, List, [], ◌∷◌, Bool, true, false, not, ◌&&◌, Option, None, Some, if◌then◌else◌, refl, sym, ap, ◌∙◌, subst}
use Rattle.history_spec.specs.Pass.{own}
use Rattle.domain_spec.specs.Types.{Answer, Ask, Call, EndReason, GuestEvent, OpKind, Phase, Reply, State, Transition, Who}
use Rattle.domain_spec.specs.declared.core_step.CoreStep.{CoreStep}
use Rattle.domain_spec.specs.declared.mark.Mark.{Mark}
use Rattle.domain_spec.specs.declared.mark.Mark.TheVariants as mark
use Rattle.domain_spec.specs.declared.open.OpenJob.{OpenJob}
use Rattle.domain_spec.specs.declared.open.OpenOperation.{OpenOperation}
use Rattle.domain_spec.specs.declared.standing.Standing.{Standing}
use Rattle.domain_spec.specs.declared.step.Outcome.{Outcome}
use Rattle.domain_spec.specs.Call.{takes_up}
use Rattle.domain_spec.specs.CanTake.{IsNotJobOf}
use Rattle.domain_spec.specs.Cell.{Cell, as_let_in}
use Rattle.domain_spec.specs.Fold.{after, after_phase, after_take_up, carries, job_at_exit, standing}
use Rattle.domain_spec.specs.Lawful.{IsDone, IsPhased, IsStarted, IsTakenUp}
use Rattle.domain_spec.specs.Open.{operation_held}
use Rattle.domain_spec.specs.Sequential.{meets_ended}
use Rattle.domain_spec.specs.Steps.{AnswersBy, IsExitOf}
use Rattle.domain_spec.specs.TakeUp.{rests_for}
use Rattle.domain_spec.specs.Turns.{GoOn, GoesOnBy}
use Rattle.core_steps.specs.Phased.{HasLedTo}
use Rattle.core_steps.specs.Turning.{HasDone}
use Rattle.core_step_laws.specs.Shares.{IsStepOf, whose}
use Rattle.core_step_laws.proofs.Marks.{own_is}
use Rattle.core_step_laws.proofs.Owning.{done_owned, led_owned, own_here, own_nobody}

-- a number that has no call open gets no mark after the first

-- the mark belongs to nobody, and this number has no call open after it
pub record IsNot (n : ℕ) (m : Mark ℕ) (j : Option OpenJob) : Type 0 where
  pub nobody : whose m ≡ None
  pub not_its : IsNotJobOf j n

done_not : (s : Standing) (j : Option OpenJob) (n number : ℕ) (who : Who) (d : Call) (boot : Option ℕ) (asks : List Ask) (answers : List Answer) (r : Reply) (events : List Transition)
    → number ≡ n → IsNotJobOf j n → IsDone s j number who d boot asks answers r events → ⊥
done_not s None n number who d boot asks answers r events e unlike h = h
done_not s (Some j) n number who d boot asks answers r events e unlike h = unlike (sym e ∙ h.0.numbered)

phase_not : (s : Standing) (j : Option OpenJob) (o : Option OpenOperation) (n number : ℕ) (who : Who) (p : Phase) (asks : List Ask) (answers : List Answer) (next : Outcome) (events : List Transition)
    → number ≡ n → IsNotJobOf j n → IsPhased s j o number who p asks answers next events → ⊥
phase_not s None o n number who p asks answers next events e unlike h = h
phase_not s (Some j) None n number who p asks answers next events e unlike h = h
phase_not s (Some j) (Some o) n number who p asks answers next events e unlike h = unlike (sym e ∙ h.nested.job_number)

start_not : (s : Standing) (j : Option OpenJob) (n number : ℕ) (who : Who) (d : Call) (boot : Option ℕ) → number ≡ n → IsNotJobOf j n → IsStarted s j number who d boot → ⊥
start_not s None n number who d boot e unlike h = h
start_not s (Some j) n number who d boot e unlike h = unlike (sym e ∙ h.call.numbered)

take_up_not : (s : Standing) (j : Option OpenJob) (n number : ℕ) (who : Who) (d : Call) → number ≡ n → IsNotJobOf j n → IsTakenUp s j number who d → ⊥
take_up_not s None n number who d e unlike h = h
take_up_not s (Some j) n number who d e unlike h = unlike (sym e ∙ h.call.numbered)

exit_if : (n : ℕ) (at : State) (j : OpenJob) (b : Bool) → IsNotJobOf (Some j) n → IsNotJobOf (Some (if b then record j { before = Some at } else j)) n
exit_if n at j true h = h
exit_if n at j false h = h

exit_not : (n : ℕ) (at : State) (boot : ℕ) (j : Option OpenJob) → IsNotJobOf j n → IsNotJobOf (job_at_exit at boot j) n
exit_not n at boot None h = tt
exit_not n at boot (Some j) h = exit_if n at j (carries j.boot boot) h

pub goes_not : (c : Cell) (t : CoreStep ℕ) (n : ℕ) (s : Standing) (m : Mark ℕ) → IsStepOf n t → IsNotJobOf s.job n → GoesOnBy c t s m → IsNot n m (after s m).job
goes_not c t n s (mark.Done number who d boot asks answers r events) its unlike h =
    absurd (done_not s s.job n number who d boot asks answers r events (own_is t n number its h.0) unlike h.2)
goes_not c t n s (mark.Phase number who p asks answers next events) its unlike h =
    absurd (phase_not s s.job s.operation n number who p asks answers next events (own_is t n number its h.0) unlike h.2)
goes_not c t n s (mark.Start number who d boot) its unlike h = absurd (start_not s s.job n number who d boot (own_is t n number its h.0) unlike h.1)
goes_not c t n s (mark.TakeUp number who d) its unlike h = absurd (take_up_not s s.job n number who d (own_is t n number its h.0) unlike h.1)
goes_not c t n s (mark.Exit boot why events) its unlike h = record { nobody = refl; not_its = exit_not n s.state boot s.job unlike }
goes_not c t n s (mark.Event boot g events) its unlike h = record { nobody = refl; not_its = unlike }
goes_not c t n s (mark.Cut client total taken) its unlike h = record { nobody = refl; not_its = unlike }
goes_not c t n s other its unlike h = absurd h

pub none_of : (c : Cell) (t : CoreStep ℕ) (n : ℕ) (s : Standing) (ms : List (Mark ℕ)) → IsStepOf n t → IsNotJobOf s.job n → GoOn c t s ms → own whose n ms ≡ []
none_of c t n s [] its unlike h = refl
none_of c t n s (m ∷ ms) its unlike h =
    let not : IsNot n m (after s m).job = goes_not c t n s m its unlike h.0 in
    own_nobody n m ms not.nobody ∙ none_of c t n (after s m) ms its not.not_its h.2

pub still_not : (c : Cell) (t : CoreStep ℕ) (n : ℕ) (s : Standing) (ms : List (Mark ℕ)) → IsStepOf n t → IsNotJobOf s.job n → GoOn c t s ms → IsNotJobOf (standing s ms).job n
still_not c t n s [] its unlike h = unlike
still_not c t n s (m ∷ ms) its unlike h = still_not c t n (after s m) ms its (goes_not c t n s m its unlike h.0).not_its h.2

-- a mark that closes the call

phase_closes : (s : Standing) (j : Option OpenJob) (o : Option OpenOperation) (number : ℕ) (who : Who) (p : Phase) (asks : List Ask) (answers : List Answer) (next : Outcome) (events : List Transition)
    → s.operation ≡ o → IsPhased s j o number who p asks answers next events → (after_phase s o answers next).job ≡ None
phase_closes s None o number who p asks answers next events is h = absurd h
phase_closes s (Some j) None number who p asks answers next events is h = absurd h
phase_closes s (Some j) (Some o) number who p asks answers next events is h = refl

second_of : (a b : Bool) → (a && b) ≡ true → b ≡ true
second_of true b e = e
second_of false b e = cc

none_rests : (k : Option OpKind) → rests_for k None ≡ true → ⊥
none_rests None e = cc
none_rests (Some k) e = cc

taken_closes : (s : Standing) (j : Option OpenJob) (o : Option OpenOperation) (number : ℕ) (who : Who) (d : Call) → s.operation ≡ o → IsTakenUp s j number who d → (after_take_up s o number who d).job ≡ None
taken_closes s None o number who d is h = absurd h
taken_closes s (Some j) None number who d is h =
    let rests : rests_for (takes_up d) (operation_held s.operation) ≡ true = second_of (not (meets_ended s.state d j.boot)) _ h.takes in
    absurd (none_rests (takes_up d) (sym (ap (λ (q : Option OpenOperation). rests_for (takes_up d) (operation_held q)) is) ∙ rests))
taken_closes s (Some j) (Some o) number who d is h = refl

pub taken_some : (s : Standing) (j : Option OpenJob) (o : Option OpenOperation) (number : ℕ) (who : Who) (d : Call) → s.operation ≡ o → IsTakenUp s j number who d → (x : OpenOperation) × (o ≡ Some x)
taken_some s None o number who d is h = absurd h
taken_some s (Some j) None number who d is h =
    let rests : rests_for (takes_up d) (operation_held s.operation) ≡ true = second_of (not (meets_ended s.state d j.boot)) _ h.takes in
    absurd (none_rests (takes_up d) (sym (ap (λ (q : Option OpenOperation). rests_for (takes_up d) (operation_held q)) is) ∙ rests))
taken_some s (Some j) (Some o) number who d is h = (o, refl)

-- a number whose call is the open one; until that is closed something holds, whatever comes along
module _ (c : Cell) (t : CoreStep ℕ) (n : ℕ) (its : IsStepOf n t) (I : Standing → Type 0) where
  -- so it is after each mark that closes nothing
  pub record Keeps : Type 0 where
    pub exit : (s : Standing) (boot : ℕ) (why : EndReason) (events : List Transition) → IsExitOf s t boot why events → I s → I (after s (mark.Exit boot why events))
    pub event : (s : Standing) (boot : ℕ) (g : GuestEvent) (events : List Transition) → s.job ≡ None → I s → I (after s (mark.Event boot g events))
    pub cut : (s : Standing) (client total taken : ℕ) → I s → I (after s (mark.Cut client total taken))

  -- the call was done, and that is the number's only mark
  pub record IsDoneIn (r : Reply) (ms : List (Mark ℕ)) : Type 0 where
    pub at : Standing
    pub holds : I at
    pub who : Who
    pub call : Call
    pub boot : Option ℕ
    pub asks : List Ask
    pub answers : List Answer
    pub events : List Transition
    pub by : AnswersBy c t answers
    pub done : IsDone at at.job n who call boot asks answers r events
    pub own_are : own whose n ms ≡ mark.Done n who call boot asks answers r events ∷ []

  -- a phase was done, and that is the number's only mark
  pub record IsPhasedIn (next : Outcome) (ms : List (Mark ℕ)) : Type 0 where
    pub at : Standing
    pub holds : I at
    pub who : Who
    pub phase : Phase
    pub asks : List Ask
    pub answers : List Answer
    pub events : List Transition
    pub by : AnswersBy c t answers
    pub phased : IsPhased at at.job at.operation n who phase asks answers next events
    pub own_are : own whose n ms ≡ mark.Phase n who phase asks answers next events ∷ []

  -- nothing was closed, and the number has no mark
  pub record IsStillIn (s : Standing) (ms : List (Mark ℕ)) : Type 0 where
    pub holds : I (standing s ms)
    pub own_are : own whose n ms ≡ []

  nothing_done : (r : Reply) (s : Standing) (ms : List (Mark ℕ)) → s.job ≡ None → GoOn c t s ms → HasDone n r ms → ⊥
  nothing_done r s ms none go h = done_owned n r ms h (none_of c t n s ms its (subst (λ (j : Option OpenJob). IsNotJobOf j n) (sym none) tt) go)

  nothing_led : (o : Outcome) (s : Standing) (ms : List (Mark ℕ)) → s.job ≡ None → GoOn c t s ms → HasLedTo n o ms → ⊥
  nothing_led o s ms none go h = led_owned n o ms h (none_of c t n s ms its (subst (λ (j : Option OpenJob). IsNotJobOf j n) (sym none) tt) go)

  nothing_open : (s : Standing) (ms : List (Mark ℕ)) → s.job ≡ None → GoOn c t s ms → (IsNotJobOf (standing s ms).job n → ⊥) → ⊥
  nothing_open s ms none go there = there (still_not c t n s ms its (subst (λ (j : Option OpenJob). IsNotJobOf j n) (sym none) tt) go)

  -- the call is done

  done_here : (r : Reply) (s : Standing) (ms : List (Mark ℕ)) (number : ℕ) (who : Who) (d : Call) (boot : Option ℕ) (asks : List Ask) (answers : List Answer) (reply : Reply) (events : List Transition)
      → number ≡ n → reply ≡ r → I s → AnswersBy c t answers → IsDone s s.job number who d boot asks answers reply events → GoOn c t (after s (mark.Done number who d boot asks answers reply events)) ms
      → IsDoneIn r (mark.Done number who d boot asks answers reply events ∷ ms)
  done_here r s ms number who d boot asks answers reply events e f holds by done go = record {
    at = s;
    holds = holds;
    who = who;
    call = d;
    boot = boot;
    asks = asks;
    answers = answers;
    events = events;
    by = by;
    done =
        subst (λ (x : Reply). IsDone s s.job n who d boot asks answers x events) f
        (subst (λ (k : ℕ). IsDone s s.job k who d boot asks answers reply events) e done);
    own_are =
        own_here n (mark.Done number who d boot asks answers reply events) ms (ap (λ (k : ℕ). Some k) e)
        ∙ ap (λ (xs : List (Mark ℕ)). mark.Done number who d boot asks answers reply events ∷ xs) (none_of c t n (after s (mark.Done number who d boot asks answers reply events)) ms its tt go)
        ∙ ap (λ (k : ℕ). mark.Done k who d boot asks answers reply events ∷ []) e
        ∙ ap (λ (x : Reply). mark.Done n who d boot asks answers x events ∷ []) f;
  }

  done_behind : (r : Reply) (m : Mark ℕ) (ms : List (Mark ℕ)) → whose m ≡ None → IsDoneIn r ms → IsDoneIn r (m ∷ ms)
  done_behind r m ms e h = record {
    at = h.at;
    holds = h.holds;
    who = h.who;
    call = h.call;
    boot = h.boot;
    asks = h.asks;
    answers = h.answers;
    events = h.events;
    by = h.by;
    done = h.done;
    own_are = own_nobody n m ms e ∙ h.own_are;
  }

  pub done_in : Keeps → (r : Reply) (s : Standing) (ms : List (Mark ℕ)) → I s → GoOn c t s ms → HasDone n r ms → IsDoneIn r ms
  done_in keeps r s [] holds go h = absurd h
  done_in keeps r s (mark.Done number who d boot asks answers reply events ∷ ms) holds go h =
      done_here r s ms number who d boot asks answers reply events h.0 h.1 holds go.0.1 go.0.2 go.2
  done_in keeps r s (mark.Phase number who p asks answers next events ∷ ms) holds go h =
      absurd (nothing_done r (after s (mark.Phase number who p asks answers next events)) ms (phase_closes s s.job s.operation number who p asks answers next events refl go.0.2) go.2 h)
  done_in keeps r s (mark.Start number who d boot ∷ ms) holds go h = absurd (nothing_done r (after s (mark.Start number who d boot)) ms refl go.2 h)
  done_in keeps r s (mark.TakeUp number who d ∷ ms) holds go h =
      absurd (nothing_done r (after s (mark.TakeUp number who d)) ms (taken_closes s s.job s.operation number who d refl go.0.1) go.2 h)
  done_in keeps r s (mark.Exit boot why events ∷ ms) holds go h =
      done_behind r (mark.Exit boot why events) ms refl (done_in keeps r (after s (mark.Exit boot why events)) ms (keeps.exit s boot why events go.0 holds) go.2 h)
  done_in keeps r s (mark.Event boot g events ∷ ms) holds go h =
      done_behind r (mark.Event boot g events) ms refl (done_in keeps r (after s (mark.Event boot g events)) ms (keeps.event s boot g events go.0.2 holds) go.2 h)
  done_in keeps r s (mark.Cut client total taken ∷ ms) holds go h =
      done_behind r (mark.Cut client total taken) ms refl (done_in keeps r (after s (mark.Cut client total taken)) ms (keeps.cut s client total taken holds) go.2 h)
  done_in keeps r s (m ∷ ms) holds go h = absurd go.0

  -- a phase is done

  phased_here : (o : Outcome) (s : Standing) (ms : List (Mark ℕ)) (number : ℕ) (who : Who) (p : Phase) (asks : List Ask) (answers : List Answer) (next : Outcome) (events : List Transition)
      → number ≡ n → next ≡ o → I s → AnswersBy c t answers → IsPhased s s.job s.operation number who p asks answers next events → GoOn c t (after s (mark.Phase number who p asks answers next events)) ms
      → IsPhasedIn o (mark.Phase number who p asks answers next events ∷ ms)
  phased_here o s ms number who p asks answers next events e f holds by phased go = record {
    at = s;
    holds = holds;
    who = who;
    phase = p;
    asks = asks;
    answers = answers;
    events = events;
    by = by;
    phased =
        subst (λ (x : Outcome). IsPhased s s.job s.operation n who p asks answers x events) f
        (subst (λ (k : ℕ). IsPhased s s.job s.operation k who p asks answers next events) e phased);
    own_are =
        own_here n (mark.Phase number who p asks answers next events) ms (ap (λ (k : ℕ). Some k) e)
        ∙ ap (λ (xs : List (Mark ℕ)). mark.Phase number who p asks answers next events ∷ xs)
        (none_of c t n (after s (mark.Phase number who p asks answers next events)) ms its
        (subst (λ (j : Option OpenJob). IsNotJobOf j n) (sym (phase_closes s s.job s.operation number who p asks answers next events refl phased)) tt) go)
        ∙ ap (λ (k : ℕ). mark.Phase k who p asks answers next events ∷ []) e
        ∙ ap (λ (x : Outcome). mark.Phase n who p asks answers x events ∷ []) f;
  }

  phased_behind : (o : Outcome) (m : Mark ℕ) (ms : List (Mark ℕ)) → whose m ≡ None → IsPhasedIn o ms → IsPhasedIn o (m ∷ ms)
  phased_behind o m ms e h = record {
    at = h.at;
    holds = h.holds;
    who = h.who;
    phase = h.phase;
    asks = h.asks;
    answers = h.answers;
    events = h.events;
    by = h.by;
    phased = h.phased;
    own_are = own_nobody n m ms e ∙ h.own_are;
  }

  pub phased_in : Keeps → (o : Outcome) (s : Standing) (ms : List (Mark ℕ)) → I s → GoOn c t s ms → HasLedTo n o ms → IsPhasedIn o ms
  phased_in keeps o s [] holds go h = absurd h
  phased_in keeps o s (mark.Phase number who p asks answers next events ∷ ms) holds go h =
      phased_here o s ms number who p asks answers next events h.0 h.1 holds go.0.1 go.0.2 go.2
  phased_in keeps o s (mark.Done number who d boot asks answers reply events ∷ ms) holds go h =
      absurd (nothing_led o (after s (mark.Done number who d boot asks answers reply events)) ms refl go.2 h)
  phased_in keeps o s (mark.Start number who d boot ∷ ms) holds go h = absurd (nothing_led o (after s (mark.Start number who d boot)) ms refl go.2 h)
  phased_in keeps o s (mark.TakeUp number who d ∷ ms) holds go h =
      absurd (nothing_led o (after s (mark.TakeUp number who d)) ms (taken_closes s s.job s.operation number who d refl go.0.1) go.2 h)
  phased_in keeps o s (mark.Exit boot why events ∷ ms) holds go h =
      phased_behind o (mark.Exit boot why events) ms refl (phased_in keeps o (after s (mark.Exit boot why events)) ms (keeps.exit s boot why events go.0 holds) go.2 h)
  phased_in keeps o s (mark.Event boot g events ∷ ms) holds go h =
      phased_behind o (mark.Event boot g events) ms refl (phased_in keeps o (after s (mark.Event boot g events)) ms (keeps.event s boot g events go.0.2 holds) go.2 h)
  phased_in keeps o s (mark.Cut client total taken ∷ ms) holds go h =
      phased_behind o (mark.Cut client total taken) ms refl (phased_in keeps o (after s (mark.Cut client total taken)) ms (keeps.cut s client total taken holds) go.2 h)
  phased_in keeps o s (m ∷ ms) holds go h = absurd go.0

  -- the call is open still

  still_behind : (s : Standing) (m : Mark ℕ) (ms : List (Mark ℕ)) → whose m ≡ None → IsStillIn (after s m) ms → IsStillIn s (m ∷ ms)
  still_behind s m ms e h = record { holds = h.holds; own_are = own_nobody n m ms e ∙ h.own_are }

  pub still_in : Keeps → (s : Standing) (ms : List (Mark ℕ)) → I s → GoOn c t s ms → (IsNotJobOf (standing s ms).job n → ⊥) → IsStillIn s ms
  still_in keeps s [] holds go there = record { holds = holds; own_are = refl }
  still_in keeps s (mark.Done number who d boot asks answers reply events ∷ ms) holds go there =
      absurd (nothing_open (after s (mark.Done number who d boot asks answers reply events)) ms refl go.2 there)
  still_in keeps s (mark.Phase number who p asks answers next events ∷ ms) holds go there =
      absurd (nothing_open (after s (mark.Phase number who p asks answers next events)) ms (phase_closes s s.job s.operation number who p asks answers next events refl go.0.2) go.2 there)
  still_in keeps s (mark.Start number who d boot ∷ ms) holds go there = absurd (nothing_open (after s (mark.Start number who d boot)) ms refl go.2 there)
  still_in keeps s (mark.TakeUp number who d ∷ ms) holds go there =
      absurd (nothing_open (after s (mark.TakeUp number who d)) ms (taken_closes s s.job s.operation number who d refl go.0.1) go.2 there)
  still_in keeps s (mark.Exit boot why events ∷ ms) holds go there =
      still_behind s (mark.Exit boot why events) ms refl (still_in keeps (after s (mark.Exit boot why events)) ms (keeps.exit s boot why events go.0 holds) go.2 there)
  still_in keeps s (mark.Event boot g events ∷ ms) holds go there =
      still_behind s (mark.Event boot g events) ms refl (still_in keeps (after s (mark.Event boot g events)) ms (keeps.event s boot g events go.0.2 holds) go.2 there)
  still_in keeps s (mark.Cut client total taken ∷ ms) holds go there =
      still_behind s (mark.Cut client total taken) ms refl (still_in keeps (after s (mark.Cut client total taken)) ms (keeps.cut s client total taken holds) go.2 there)
  still_in keeps s (m ∷ ms) holds go there = absurd go.0

-- a call that is open as it was let in

pub record IsOpenAs (j : OpenJob) (s : Standing) : Type 0 where
  pub job : OpenJob
  pub is : s.job ≡ Some job
  pub same : as_let_in job ≡ as_let_in j

open_if : (at : State) (j k : OpenJob) (b : Bool) → as_let_in k ≡ as_let_in j → as_let_in (if b then record k { before = Some at } else k) ≡ as_let_in j
open_if at j k true e = e
open_if at j k false e = e

pub open_keeps : (c : Cell) (t : CoreStep ℕ) (n : ℕ) (its : IsStepOf n t) (j : OpenJob) → Keeps c t n its (IsOpenAs j)
open_keeps c t n its j = record {
  exit = λ s boot why events by h. record {
    job = if carries h.job.boot boot then record h.job { before = Some s.state } else h.job;
    is = ap (λ (x : Option OpenJob). job_at_exit s.state boot x) h.is;
    same = open_if s.state j h.job (carries h.job.boot boot) h.same;
  };
  event = λ s boot g events none h. record { job = h.job; is = h.is; same = h.same };
  cut = λ s client total taken h. record { job = h.job; is = h.is; same = h.same };
}

-- beside this operation

pub record IsWithOperation (q : Option OpenOperation) (j : OpenJob) (s : Standing) : Type 0 where
  pub open_as : IsOpenAs j s
  pub operation : s.operation ≡ q

pub with_keeps : (c : Cell) (t : CoreStep ℕ) (n : ℕ) (its : IsStepOf n t) (q : Option OpenOperation) (j : OpenJob) → Keeps c t n its (IsWithOperation q j)
with_keeps c t n its q j = let k : Keeps c t n its (IsOpenAs j) = open_keeps c t n its j in record {
  exit = λ s boot why events by h. record { open_as = k.exit s boot why events by h.open_as; operation = h.operation };
  event = λ s boot g events none h. record { open_as = k.event s boot g events none h.open_as; operation = h.operation };
  cut = λ s client total taken h. record { open_as = k.cut s client total taken h.open_as; operation = h.operation };
}
