-- What a call has asked that is open under another number stays.
use Rattle.std.proofs.Common.{◌≡◌, inl, ℕ, ◌+◌, List, [], ◌∷◌, length, Bool, true, false, Option, None, Some, if◌then◌else◌, unwrap_or, refl, sym, ap, ◌∙◌, subst}
use Rattle.domain_spec.specs.Types.{Answer, Call, Domain, Job, Live, Reply, State, Who}
use Rattle.domain_spec.specs.Types.call
use Rattle.domain_spec.specs.Types.job
use Rattle.domain_spec.specs.Types.state
use Rattle.domain_spec.specs.declared.core_step.CoreStep.{CoreStep}
use Rattle.domain_spec.specs.declared.core_step.CoreStep.TheVariants as step
use Rattle.domain_spec.specs.declared.mark.Mark.{Mark}
use Rattle.domain_spec.specs.declared.mark.Mark.TheVariants as mark
use Rattle.domain_spec.specs.declared.open.OpenJob.{OpenJob}
use Rattle.domain_spec.specs.declared.open.OpenOperation.{OpenOperation}
use Rattle.domain_spec.specs.declared.planned.PlannedAsk.{PlannedAsk}
use Rattle.domain_spec.specs.declared.standing.Standing.{Standing}
use Rattle.domain_spec.specs.Call.{guest_plan, held_plan}
use Rattle.domain_spec.specs.CanTake.{CanTake, IsAway, IsNotJobOf, WaitsForAnswer}
use Rattle.domain_spec.specs.Cell.{Cell, asks_so_far, planned_at, standing_of}
use Rattle.domain_spec.specs.Fold.{after, standing}
use Rattle.domain_spec.specs.Lawful.{IsEnded, NoneNested}
use Rattle.domain_spec.specs.Phase.{without_operation}
use Rattle.domain_spec.specs.Sequential.{makes_asks}
use Rattle.domain_spec.specs.Turns.{AnswersAfter, BeginsBy, GoOn, GoesOnBy, MayLeave}
use Rattle.core_steps.specs.OfAsks.{IsTidy, planned}
use Rattle.core_steps.proofs.OfAsks.{every_mark}
use Rattle.core_step_laws.specs.Shares.{IsStepOf, whose}
use Rattle.core_step_laws.proofs.Jobs.{lets_in_free, on_base}
use Rattle.core_step_laws.specs.Steady.{IsSinceIn, IsSteady, OthersAskOn}
use Rattle.core_step_laws.proofs.Asked.{IsAsked, IsPlanOf, asked_first, asks_still, cut_asked, exit_asked, none_open, same_plan}
use Rattle.core_step_laws.proofs.Plans.{asks_are}
use Rattle.core_step_laws.proofs.Since.{since_after}
use Rattle.core_step_laws.proofs.Walking.{goes_not}

-- the end of an operation changes no plan

none_if : (b : Bool) (plan : List PlannedAsk) → plan ≡ [] → (if b then plan else []) ≡ []
none_if true plan e = e
none_if false plan e = refl

bare_plan : (d : Domain) (c : Call) (boot : Option ℕ) → held_plan d c ≡ [] → planned (state.Held d) c boot ≡ []
bare_plan d c boot e = none_if (makes_asks (state.Held d) c boot) (held_plan d c) e

no_abort : (live : Option Live) → guest_plan live call.Abort ≡ []
no_abort None = refl
no_abort (Some l) = refl

no_limit : (live : Option Live) (rest : ℕ) → guest_plan live (call.Limit rest) ≡ []
no_limit None rest = refl
no_limit (Some l) rest = refl

no_confirm : (live : Option Live) (verdict : Bool) → guest_plan live (call.Confirm verdict) ≡ []
no_confirm None verdict = refl
no_confirm (Some l) verdict = refl

no_finish : (live : Option Live) (go : Bool) → guest_plan live (call.Finish go) ≡ []
no_finish None go = refl
no_finish (Some l) go = refl

without_plan : (d : Domain) (c : Call) (boot : Option ℕ) → planned (state.Held (record d { op = None })) c boot ≡ planned (state.Held d) c boot
without_plan d call.Abort boot = bare_plan (record d { op = None }) call.Abort boot (no_abort d.live) ∙ sym (bare_plan d call.Abort boot (no_abort d.live))
without_plan d (call.Limit rest) boot = bare_plan (record d { op = None }) (call.Limit rest) boot (no_limit d.live rest) ∙ sym (bare_plan d (call.Limit rest) boot (no_limit d.live rest))
without_plan d (call.Confirm verdict) boot = bare_plan (record d { op = None }) (call.Confirm verdict) boot (no_confirm d.live verdict) ∙ sym (bare_plan d (call.Confirm verdict) boot (no_confirm d.live verdict))
without_plan d (call.Finish go) boot = bare_plan (record d { op = None }) (call.Finish go) boot (no_finish d.live go) ∙ sym (bare_plan d (call.Finish go) boot (no_finish d.live go))
without_plan d other boot = refl

end_plan : (s : State) (c : Call) (boot : Option ℕ) → planned (without_operation s) c boot ≡ planned s c boot
end_plan (state.Vacant boots) c boot = refl
end_plan (state.Held d) c boot = without_plan d c boot

end_at : (s at : State) (w : Job) (j : OpenJob) (before : Option State) → (w ≡ job.Nested → ⊥) → unwrap_or before s ≡ at → IsPlanOf (unwrap_or before (without_operation s)) at w j.call j.boot
end_at s at w j None unlike e =
    let same : planned (without_operation s) j.call j.boot ≡ planned at j.call j.boot = end_plan s j.call j.boot ∙ ap (λ (x : State). planned x j.call j.boot) e in
    record { call = inl same; stored = λ on. same; phase = λ nested. absurd (unlike nested) }
end_at s at w j (Some b) unlike e = subst (λ (x : State). IsPlanOf b x w j.call j.boot) e (same_plan b w j.call j.boot)

no_nested : (s : Standing) (q : Option OpenOperation) (j : OpenJob) (number : ℕ) (who : Who) (r : Reply) → s.job ≡ Some j → IsEnded s q number who r → j.job ≡ job.Nested → ⊥
no_nested s None j number who r is h = absurd h
no_nested s (Some o) j number who r is h = subst (λ (k : Option OpenJob). NoneNested k) is h.no_nested

end_asked : (c : Cell) (j : OpenJob) (number : ℕ) (who : Who) (r : Reply) → (standing_of c).job ≡ Some j → IsSteady (standing_of c) → IsEnded (standing_of c) (standing_of c).operation number who r → IsAsked c j (after (standing_of c) (mark.End number who r))
end_asked c j number who r is begins ended =
    let s : Standing = standing_of c in
    let next : Standing = after s (mark.End number who r) in
    let unlike : j.job ≡ job.Nested → ⊥ = no_nested s s.operation j number who r is ended in
    record {
      now = j;
      is = is;
      same = refl;
      operation = λ nested. absurd (unlike nested);
      plan = end_at s.state (planned_at s.state j) j.job j j.before unlike refl;
      since = subst (λ (x : Option OpenJob). IsSinceIn next.state x) is (since_after s (mark.End number who r) begins.tidy begins.since);
      tidy = every_mark s (mark.End number who r) begins.tidy;
    }

-- mark by mark

not_its : (c : Cell) (j : OpenJob) (n : ℕ) (s : Standing) → (j.number ≡ n → ⊥) → IsAsked c j s → IsNotJobOf s.job n
not_its c j n s unlike h = subst (λ (k : Option OpenJob). IsNotJobOf k n) (sym h.is) (λ e. unlike (sym (ap (λ (z : OpenJob). z.number) h.same) ∙ sym e))

not_closed : (c : Cell) (t : CoreStep ℕ) (n : ℕ) (j : OpenJob) (s : Standing) (m : Mark ℕ) → IsStepOf n t → (j.number ≡ n → ⊥) → GoesOnBy c t s m → IsAsked c j s → whose m ≡ None
not_closed c t n j s m its unlike goes h = (goes_not c t n s m its (not_its c j n s unlike h) goes).nobody

goes_other : (c : Cell) (t : CoreStep ℕ) (n : ℕ) (j : OpenJob) (s : Standing) (m : Mark ℕ) → IsStepOf n t → (j.number ≡ n → ⊥) → GoesOnBy c t s m → IsAsked c j s → IsAsked c j (after s m)
goes_other c t n j s (mark.Done number who d boot asks answers r events) its unlike goes h =
    let none : whose (mark.Done number who d boot asks answers r events) ≡ None = not_closed c t n j s (mark.Done number who d boot asks answers r events) its unlike goes h in cc
goes_other c t n j s (mark.Phase number who p asks answers next events) its unlike goes h =
    let none : whose (mark.Phase number who p asks answers next events) ≡ None = not_closed c t n j s (mark.Phase number who p asks answers next events) its unlike goes h in cc
goes_other c t n j s (mark.Start number who d boot) its unlike goes h = let none : whose (mark.Start number who d boot) ≡ None = not_closed c t n j s (mark.Start number who d boot) its unlike goes h in cc
goes_other c t n j s (mark.TakeUp number who d) its unlike goes h = let none : whose (mark.TakeUp number who d) ≡ None = not_closed c t n j s (mark.TakeUp number who d) its unlike goes h in cc
goes_other c t n j s (mark.Exit boot why events) its unlike goes h = exit_asked c j s boot why events h
goes_other c t n j s (mark.Event boot g events) its unlike goes h = absurd (none_open h.now s.job h.is goes.2)
goes_other c t n j s (mark.Cut client total taken) its unlike goes h = cut_asked c j s client total taken h
goes_other c t n j s other its unlike goes h = absurd goes

on_other : (c : Cell) (t : CoreStep ℕ) (n : ℕ) (j : OpenJob) (s : Standing) (marks : List (Mark ℕ)) → IsStepOf n t → (j.number ≡ n → ⊥) → GoOn c t s marks → IsAsked c j s → IsAsked c j (standing s marks)
on_other c t n j s [] its unlike go h = h
on_other c t n j s (m ∷ marks) its unlike go h = on_other c t n j (after s m) marks its unlike go.2 (goes_other c t n j s m its unlike go.0 h)

-- a mark that leaves the state, the open call and the operation
stays_asked : (c : Cell) (j : OpenJob) (next : Standing) → next.state ≡ (standing_of c).state → next.job ≡ (standing_of c).job → next.operation ≡ (standing_of c).operation → (standing_of c).job ≡ Some j → IsSteady (standing_of c) → IsAsked c j next
stays_asked c j next st jo op is begins = record {
  now = j;
  is = jo ∙ is;
  same = refl;
  operation = λ nested. op;
  plan = subst (λ (x : State). IsPlanOf (planned_at x j) (planned_at (standing_of c).state j) j.job j.call j.boot) (sym st) (same_plan (planned_at (standing_of c).state j) j.job j.call j.boot);
  since = subst (λ (x : State). IsSinceIn x (Some j)) (sym st) (subst (λ (x : Option OpenJob). IsSinceIn (standing_of c).state x) is begins.since);
  tidy = subst (λ (x : State). IsTidy x) (sym st) begins.tidy;
}

begins_other : (c : Cell) (t : CoreStep ℕ) (n : ℕ) (j : OpenJob) (m : Mark ℕ) → IsStepOf n t → (j.number ≡ n → ⊥) → (standing_of c).job ≡ Some j → IsSteady (standing_of c) → BeginsBy c t (standing_of c) m → IsAsked c j (after (standing_of c) m)
begins_other c t n j (mark.Admit number who wanted d boot) its unlike is tidy begins = absurd (none_open j (standing_of c).job is (lets_in_free c t number who wanted d boot begins))
begins_other c t n j (mark.Refused number who d why held) its unlike is tidy begins = stays_asked c j (after (standing_of c) (mark.Refused number who d why held)) refl refl refl is tidy
begins_other c (step.EndOp k w) n j (mark.End number who r) its unlike is tidy begins = end_asked c j number who r is tidy begins.2
begins_other c t n j (mark.End number who r) its unlike is tidy begins = absurd begins
begins_other c t n j (mark.Watch number client) its unlike is tidy begins = stays_asked c j (after (standing_of c) (mark.Watch number client)) refl refl refl is tidy
begins_other c t n j (mark.Unwatch number client) its unlike is tidy begins = stays_asked c j (after (standing_of c) (mark.Unwatch number client)) refl refl refl is tidy
begins_other c t n j m its unlike is tidy begins = goes_other c t n j (standing_of c) m its unlike begins (asked_first c j is tidy)

left_other : (c : Cell) (t : CoreStep ℕ) (n : ℕ) (j : OpenJob) (left : List (Mark ℕ)) → IsStepOf n t → (j.number ≡ n → ⊥) → (standing_of c).job ≡ Some j → IsSteady (standing_of c) → MayLeave c t left → IsAsked c j (standing (standing_of c) left)
left_other c t n j [] its unlike is tidy may = asked_first c j is tidy
left_other c t n j (m ∷ left) its unlike is tidy may = on_other c t n j (after (standing_of c) m) left its unlike may.2 (begins_other c t n j m its unlike is tidy may.0)

-- no answer comes

not_back : (c : Cell) (j : OpenJob) (q : Option OpenJob) (n k : ℕ) → q ≡ Some j → k ≡ n → (j.number ≡ n → ⊥) → IsAway c q k → ⊥
not_back c j None n k is e unlike away = away
not_back c j (Some x) n k is e unlike away = let here : x ≡ j = cc in unlike (ap (λ (z : OpenJob). z.number) (sym here) ∙ sym away.0 ∙ e)

answers_stay : (c : Cell) (t : CoreStep ℕ) (n : ℕ) (j k : OpenJob) (left : List (Mark ℕ)) (answers : List Answer) → IsStepOf n t → (j.number ≡ n → ⊥) → (standing_of c).job ≡ Some j → CanTake c t → MayLeave c t left
    → AnswersAfter c t left (Some k) answers → answers ≡ c.answers
answers_stay c (step.Back x a) n j k left answers its unlike is can may h = absurd (not_back c j (standing_of c).job n x is its unlike can)
answers_stay c t n j k (mark.Admit number who wanted d boot ∷ left) answers its unlike is can may h = absurd (none_open j (standing_of c).job is (lets_in_free c t number who wanted d boot may.0))
answers_stay c t n j k left answers its unlike is can may h = h

pub others_ask_on : OthersAskOn
others_ask_on c d (step.Rotate number who) n left its turn leads tidy j k was now same unlike = absurd (none_open j (standing_of c).job was turn.can.1)
others_ask_on c d t n left its turn leads tidy j k was now same unlike =
    let s : Standing = standing (standing_of c) left in
    let h : IsAsked c j s = left_other c t n j left its unlike was tidy turn.left in
    let is : standing_of d ≡ s = on_base c d left leads.base leads.marks in
    let its_job : (standing_of d).job ≡ Some h.now = ap (λ (x : Standing). x.job) is ∙ h.is in
    let here : k ≡ h.now = cc in
    let answers : d.answers ≡ c.answers = answers_stay c t n j k left d.answers its unlike was turn.can turn.left (subst (λ (x : Option OpenJob). AnswersAfter c t left x d.answers) now leads.answers) in
    let at : asks_so_far (standing_of d) k.job k d.answers ≡ asks_so_far s h.now.job h.now c.answers =
    ap (λ (xs : List Answer). asks_so_far (standing_of d) k.job k xs) answers
    ∙ ap (λ (x : OpenJob). asks_so_far (standing_of d) x.job x c.answers) here
    ∙ ap (λ (x : Standing). asks_so_far x h.now.job h.now c.answers) is in
    let waits : length (asks_so_far (standing_of d) k.job k d.answers) ≡ length d.answers + 1 = subst (λ (x : Option OpenJob). WaitsForAnswer d x) now leads.away in (
      answers,
      at
          ∙ asks_still c j s h c.answers (ap length (sym at) ∙ waits ∙ ap (λ (xs : List Answer). length xs + 1) answers)
          ∙ sym (asks_are (standing_of c) j.job j c.answers),
    )
