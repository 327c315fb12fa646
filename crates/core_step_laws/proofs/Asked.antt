-- How an open call fares in a turn: what it asked was planned where it was planned before, or nothing is asked there.
use Rattle.std.proofs.Common.{◌≡◌, ◌⊎◌, inl, inr, ℕ, ◌==◌, ◌+◌, List, [], ◌∷◌, ◌++◌, length, replicate, Bool, true, false, Option, None, Some, if◌then◌else◌, unwrap_or, refl, sym, ap, ◌∙◌, subst, arith}
use Rattle.std.proofs.lemmas.List.{length-append}
use Rattle.domain_spec.specs.Types.{Answer, Ask, Call, Domain, EndReason, Job, Live, Reply, State, Transition, Who}
use Rattle.domain_spec.specs.Types.answer
use Rattle.domain_spec.specs.Types.call
use Rattle.domain_spec.specs.Types.job
use Rattle.domain_spec.specs.Types.state
use Rattle.domain_spec.specs.declared.core_step.CoreStep.{CoreStep}
use Rattle.domain_spec.specs.declared.mark.Mark.TheVariants as mark
use Rattle.domain_spec.specs.declared.open.OpenJob.{OpenJob}
use Rattle.domain_spec.specs.declared.open.OpenOperation.{OpenOperation}
use Rattle.domain_spec.specs.declared.planned.PlannedAsk.{PlannedAsk}
use Rattle.domain_spec.specs.declared.standing.Standing.{Standing}
use Rattle.domain_spec.specs.Asks.{asks_made}
use Rattle.domain_spec.specs.Call.{guest_plan, held_plan, is_on_stored, job_of, plan_of}
use Rattle.domain_spec.specs.CanTake.{IsAway}
use Rattle.domain_spec.specs.Cell.{Cell, OpenCall, as_let_in, asks_so_far, call_asks, call_of, phase_asks, planned_at, standing_of}
use Rattle.domain_spec.specs.Exit.{exit_state}
use Rattle.domain_spec.specs.Fold.{after, carries, job_at_exit}
use Rattle.domain_spec.specs.Lawful.{IsDone, IsPhaseMade, IsStarved, WerePlanned, planned_in}
use Rattle.domain_spec.specs.Phase.{phase_asked, plan_in}
use Rattle.domain_spec.specs.Reading.{boot_in, carries_ended, live_boot}
use Rattle.domain_spec.specs.Sequential.{asked, makes_asks, meets_ended}
use Rattle.domain_spec.proofs.ExitProofs.{live_boot-exit}
use Rattle.core_steps.proofs.OfAsks.{asked_planned}
use Rattle.core_steps.specs.OfAsks.{IsTidy, planned}
use Rattle.core_steps.proofs.OfAsks.{stored_plans}
use Rattle.core_steps.proofs.OfAsks.{every_mark}
use Rattle.core_step_laws.specs.Shares.{IsStepOf}
use Rattle.core_step_laws.specs.Steady.{IsSinceAt, IsSinceIn, IsSteady}
use Rattle.core_step_laws.specs.Told.{told}
use Rattle.core_step_laws.proofs.Plans.{asks_are, asks_by, call_is, call_more, made_none, no_answers, no_phase, no_plan, nothing_asked, phase_more, so_far, told_more}
use Rattle.core_step_laws.proofs.Since.{since_after}
use Rattle.core_step_laws.proofs.Walking.{Keeps}

-- the open call that is answered

abbrev pub open_call : Cell → OpenJob → OpenCall
open_call c j = record { job = as_let_in j; asks = asks_so_far (standing_of c) j.job j c.answers; answers = c.answers }

pub record IsAnswered (c : Cell) (n : ℕ) (o : OpenCall) : Type 0 where
  pub job : OpenJob
  pub is : (standing_of c).job ≡ Some job
  pub numbered : n ≡ job.number
  pub waits : length (asks_so_far (standing_of c) job.job job c.answers) ≡ length c.answers + 1
  pub open_is : o ≡ open_call c job

same_open : (b : Bool) (x y : OpenCall) → (if b then Some x else None) ≡ Some y → y ≡ x
same_open true x y e = cc
same_open false x y e = cc

pub answered_by : (c : Cell) (n : ℕ) (j : Option OpenJob) (o : OpenCall) → (standing_of c).job ≡ j → IsAway c j n → call_of (standing_of c) j c.answers n ≡ Some o → IsAnswered c n o
answered_by c n None o is away e = absurd away
answered_by c n (Some j) o is away e = record { job = j; is = is; numbered = away.0; waits = away.1; open_is = same_open (j.number == n) (open_call c j) o e }

-- in this state the plan is the one that was made in that, or empty

pub record IsPlanOf (z at : State) (w : Job) (d : Call) (boot : Option ℕ) : Type 0 where
  pub call : (planned z d boot ≡ planned at d boot) ⊎ (planned z d boot ≡ [])
  pub stored : is_on_stored d ≡ true → planned z d boot ≡ planned at d boot
  pub phase : w ≡ job.Nested → (z ≡ at) ⊎ (live_boot z ≡ None)

pub same_plan : (z : State) (w : Job) (d : Call) (boot : Option ℕ) → IsPlanOf z z w d boot
same_plan z w d boot = record { call = inl refl; stored = λ on. refl; phase = λ nested. inl refl }

none_if : (b : Bool) (plan : List PlannedAsk) → plan ≡ [] → (if b then plan else []) ≡ []
none_if true plan e = e
none_if false plan e = refl

no_guest : (live : Option Live) (d : Call) → boot_in live ≡ None → guest_plan live d ≡ []
no_guest None d e = refl
no_guest (Some l) d e = cc

idle_held : (v : Domain) (d : Call) → boot_in v.live ≡ None → is_on_stored d ≡ false → held_plan v d ≡ []
idle_held v (call.Define def) e off = cc
idle_held v call.Undefine e off = cc
idle_held v (call.SetAutostart on) e off = cc
idle_held v other e off = no_guest v.live other e

idle_plan : (z : State) (d : Call) → live_boot z ≡ None → is_on_stored d ≡ false → plan_of z d ≡ []
idle_plan (state.Held v) d e off = idle_held v d e off
idle_plan (state.Vacant boots) (call.Define def) e off = cc
idle_plan (state.Vacant boots) other e off = refl

-- without a guest, a call on the stored definition plans the same, and any other nothing
idle_by : (stored : Bool) (z at : State) (d : Call) (boot : Option ℕ) → is_on_stored d ≡ stored → live_boot z ≡ None → (is_on_stored d ≡ true → planned z d boot ≡ planned at d boot)
    → (planned z d boot ≡ planned at d boot) ⊎ (planned z d boot ≡ [])
idle_by true z at d boot e gone same = inl (same e)
idle_by false z at d boot e gone same = inr (none_if (makes_asks z d boot) (plan_of z d) (idle_plan z d gone e))

idle : (z at : State) (w : Job) (d : Call) (boot : Option ℕ) → live_boot z ≡ None → (is_on_stored d ≡ true → planned z d boot ≡ planned at d boot) → IsPlanOf z at w d boot
idle z at w d boot gone same = record { call = idle_by (is_on_stored d) z at d boot refl gone same; stored = same; phase = λ nested. inr gone }

-- in the present state too
now_plan : (s at : State) (w : Job) (j : OpenJob) (before : Option State) → IsSinceAt s j before → IsPlanOf (unwrap_or before s) at w j.call j.boot → IsPlanOf s at w j.call j.boot
now_plan s at w j None since h = h
now_plan s at w j (Some b) since h = idle s at w j.call j.boot since.gone (λ on. since.stored on ∙ h.stored on)

-- until it is closed

pub record IsAsked (c : Cell) (j : OpenJob) (s : Standing) : Type 0 where
  pub now : OpenJob
  pub is : s.job ≡ Some now
  pub same : as_let_in now ≡ as_let_in j
  pub operation : now.job ≡ job.Nested → s.operation ≡ (standing_of c).operation
  pub plan : IsPlanOf (planned_at s.state now) (planned_at (standing_of c).state j) now.job now.call now.boot
  pub since : IsSinceAt s.state now now.before
  pub tidy : IsTidy s.state

pub asked_first : (c : Cell) (j : OpenJob) → (standing_of c).job ≡ Some j → IsSteady (standing_of c) → IsAsked c j (standing_of c)
asked_first c j is begins = record {
  now = j;
  is = is;
  same = refl;
  operation = λ nested. refl;
  plan = same_plan (planned_at (standing_of c).state j) j.job j.call j.boot;
  since = subst (λ (x : Option OpenJob). IsSinceIn (standing_of c).state x) is begins.since;
  tidy = begins.tidy;
}

exit_plan : (s at : State) (w : Job) (j : OpenJob) (why : EndReason) (before : Option State) → IsTidy s → IsSinceAt s j before → IsPlanOf (unwrap_or before s) at w j.call j.boot
    → IsPlanOf (unwrap_or before (exit_state s why)) at w j.call j.boot
exit_plan s at w j why None tidy since h = idle (exit_state s why) at w j.call j.boot (live_boot-exit s why) (λ on. stored_plans s j.call j.boot why tidy on ∙ h.stored on)
exit_plan s at w j why (Some b) tidy since h = h

exit_by : (c : Cell) (j : OpenJob) (s : Standing) (boot : ℕ) (why : EndReason) (events : List Transition) (b : Bool) (h : IsAsked c j s) → carries h.now.boot boot ≡ b → IsAsked c j (after s (mark.Exit boot why events))
exit_by c j s boot why events true h e =
    let k : OpenJob = record h.now { before = Some s.state } in
    let next : Standing = after s (mark.Exit boot why events) in
    let is : next.job ≡ Some k = ap (λ (y : Option OpenJob). job_at_exit s.state boot y) h.is ∙ ap (λ (x : Bool). Some (if x then k else h.now)) e in
    let since : IsSinceIn s.state s.job = subst (λ (y : Option OpenJob). IsSinceIn s.state y) (sym h.is) h.since in
    record {
      now = k;
      is = is;
      same = h.same;
      operation = h.operation;
      plan = now_plan s.state (planned_at (standing_of c).state j) h.now.job h.now h.now.before h.since h.plan;
      since = subst (λ (y : Option OpenJob). IsSinceIn next.state y) is (since_after s (mark.Exit boot why events) h.tidy since);
      tidy = every_mark s (mark.Exit boot why events) h.tidy;
    }
exit_by c j s boot why events false h e =
    let k : OpenJob = record h.now { before = Some s.state } in
    let next : Standing = after s (mark.Exit boot why events) in
    let is : next.job ≡ Some h.now = ap (λ (y : Option OpenJob). job_at_exit s.state boot y) h.is ∙ ap (λ (x : Bool). Some (if x then k else h.now)) e in
    let since : IsSinceIn s.state s.job = subst (λ (y : Option OpenJob). IsSinceIn s.state y) (sym h.is) h.since in
    record {
      now = h.now;
      is = is;
      same = h.same;
      operation = h.operation;
      plan = exit_plan s.state (planned_at (standing_of c).state j) h.now.job h.now why h.now.before h.tidy h.since h.plan;
      since = subst (λ (y : Option OpenJob). IsSinceIn next.state y) is (since_after s (mark.Exit boot why events) h.tidy since);
      tidy = every_mark s (mark.Exit boot why events) h.tidy;
    }

pub exit_asked : (c : Cell) (j : OpenJob) (s : Standing) (boot : ℕ) (why : EndReason) (events : List Transition) → IsAsked c j s → IsAsked c j (after s (mark.Exit boot why events))
exit_asked c j s boot why events h = exit_by c j s boot why events (carries h.now.boot boot) h refl

pub none_open : (j : OpenJob) (k : Option OpenJob) → k ≡ Some j → k ≡ None → ⊥
none_open j k is none = cc

pub cut_asked : (c : Cell) (j : OpenJob) (s : Standing) (client total taken : ℕ) → IsAsked c j s → IsAsked c j (after s (mark.Cut client total taken))
cut_asked c j s client total taken h = record { now = h.now; is = h.is; same = h.same; operation = h.operation; plan = h.plan; since = h.since; tidy = h.tidy }

pub asked_keeps : (c : Cell) (t : CoreStep ℕ) (n : ℕ) (its : IsStepOf n t) (j : OpenJob) → Keeps c t n its (IsAsked c j)
asked_keeps c t n its j = record {
  exit = λ s boot why events by h. exit_asked c j s boot why events h;
  event = λ s boot g events none h. absurd (none_open h.now s.job h.is none);
  cut = λ s client total taken h. cut_asked c j s client total taken h;
}

-- what was told

pub told_grown : (first before rest asks : List Ask) (y : Ask) (xs answers : List Answer) (x : Answer) (more : ℕ) → first ≡ before ++ y ∷ [] → length first ≡ length xs + 1
    → asks ≡ first ++ rest → answers ≡ xs ++ x ∷ replicate more answer.NoMemory → told asks answers ≡ told first xs ++ told (y ∷ []) (x ∷ [])
told_grown first before rest asks y xs answers x more is long grown by =
    let count : length (before ++ y ∷ []) ≡ length before + 1 = length-append before (y ∷ []) in
    let whole : length (before ++ y ∷ []) ≡ length xs + 1 = ap length (sym is) ∙ long in
    let same : length before ≡ length xs = omega (arith, count, whole) in
    ap (λ (zs : List Answer). told asks zs) by
    ∙ ap (λ (zs : List Ask). told zs (xs ++ x ∷ replicate more answer.NoMemory)) (grown ∙ ap (λ (zs : List Ask). zs ++ rest) is)
    ∙ told_more before y rest xs x more same
    ∙ ap (λ (zs : List Ask). told zs xs ++ told (y ∷ []) (x ∷ [])) (sym is)

some_answer : (xs answers : List Answer) (x : Answer) (ys : List Answer) → answers ≡ xs ++ x ∷ ys → answers ≡ [] → ⊥
some_answer [] answers x ys e none = cc
some_answer (a ∷ xs) answers x ys e none = cc

none_long : (asks : List Ask) (answers : List Answer) → length asks ≡ length answers → asks ≡ [] → answers ≡ []
none_long asks [] e none = refl
none_long asks (a ∷ answers) e none = let zero : length asks ≡ 0 = ap length none in absurd (omega (arith, e, zero))

-- a call that is done

call_made : (z at : State) (w : Job) (d : Call) (boot : Option ℕ) (asks : List Ask) (answers : List Answer) → IsPlanOf z at w d boot → (planned z d boot ≡ planned at d boot) ⊎ (planned z d boot ≡ [])
    → asks ≡ asked z d boot answers → length asks ≡ length answers → (answers ≡ [] → ⊥) → asks ≡ asks_made (planned at d boot) answers
call_made z at w d boot asks answers h (inl same) made long some = made ∙ sym (asked_planned z d boot answers) ∙ ap (λ (plan : List PlannedAsk). asks_made plan answers) same
call_made z at w d boot asks answers h (inr none) made long some =
    absurd (some (none_long asks answers long (made ∙ sym (asked_planned z d boot answers) ∙ ap (λ (plan : List PlannedAsk). asks_made plan answers) none ∙ made_none answers)))

done_made : (s at : State) (w : Job) (j : OpenJob) (before : Option State) (m : Bool) (asks : List Ask) (answers : List Answer) → IsSinceAt s j before → IsPlanOf (unwrap_or before s) at w j.call j.boot
    → WerePlanned (planned_in m s before) (λ z. asked z j.call j.boot answers) asks answers → (answers ≡ [] → ⊥) → asks ≡ asks_made (planned at j.call j.boot) answers
done_made s at w j None true asks answers since h made some = absurd (some made.1)
done_made s at w j (Some b) true asks answers since h made some = call_made b at w j.call j.boot asks answers h h.call made.0 made.1 some
done_made s at w j before false asks answers since h made some =
    let here : IsPlanOf s at w j.call j.boot = now_plan s at w j before since h in
    call_made s at w j.call j.boot asks answers here here.call made.0 made.1 some

own_asks : (s : State) (q : Option OpenOperation) (d : Call) (j : OpenJob) (answers : List Answer) → asks_by s q (job_of d) j answers ≡ call_asks s j answers
own_asks s q call.Suspend j answers = refl
own_asks s q call.Destroy j answers = refl
own_asks s q call.MemoryStats j answers = refl
own_asks s q (call.Kick k) j answers = refl
own_asks s q call.Abort j answers = refl
own_asks s q (call.Limit rest) j answers = refl
own_asks s q (call.Confirm verdict) j answers = refl
own_asks s q (call.Finish go) j answers = refl
own_asks s q other j answers = refl

-- what is known of the answers
pub record AreAnswers (c : Cell) (j : OpenJob) (x : Answer) (ys answers : List Answer) : Type 0 where
  pub waits : length (asks_so_far (standing_of c) j.job j c.answers) ≡ length c.answers + 1
  pub by : answers ≡ c.answers ++ x ∷ ys

pub call_asked : (c : Cell) (j : OpenJob) (s : Standing) (h : IsAsked c j s) (x : Answer) (ys : List Answer) (who : Who) (number : ℕ) (asks : List Ask) (answers : List Answer) (r : Reply) (events : List Transition) → AreAnswers c j x ys answers
    → IsDone s (Some h.now) number who h.now.call h.now.boot asks answers r events → (rest : List Ask) × (asks ≡ asks_so_far (standing_of c) j.job j c.answers ++ rest)
call_asked c j s h x ys who number asks answers r events a done =
    let k : OpenJob = h.now in
    let at : State = planned_at (standing_of c).state j in
    let q : Option OpenOperation = (standing_of c).operation in
    let made : asks ≡ asks_made (planned at k.call k.boot) answers =
    done_made s.state at k.job k k.before (meets_ended s.state k.call k.boot) asks answers h.since h.plan done.1.planned (some_answer c.answers answers x ys a.by) in
    let job_is : j.job ≡ job_of k.call = sym (ap (λ (z : OpenJob). z.job) h.same) ∙ done.0.own_job in
    let first : asks_so_far (standing_of c) j.job j c.answers ≡ call_asks at j c.answers =
    asks_are (standing_of c) j.job j c.answers ∙ ap (λ (w : Job). asks_by at q w (as_let_in j) c.answers) job_is ∙ own_asks at q k.call (as_let_in j) c.answers in
    let grown = call_more at j c.answers x ys (sym (ap length first) ∙ a.waits) in (
      grown.0,
      made
          ∙ ap (λ (z : OpenJob). asks_made (planned at z.call z.boot) answers) h.same
          ∙ ap (λ (zs : List Answer). asks_made (planned at j.call j.boot) zs) a.by
          ∙ grown.1
          ∙ ap (λ (zs : List Ask). zs ++ grown.0) (sym first),
    )

-- a phase that is done

phase_none : (ended : Bool) (plan : List PlannedAsk) (answers : List Answer) → plan ≡ [] → (if ended then [] else asks_made plan answers) ≡ []
phase_none true plan answers e = refl
phase_none false plan answers e = ap (λ (p : List PlannedAsk). asks_made p answers) e ∙ made_none answers

phase_at : (z at : State) (o : OpenOperation) (asks : List Ask) (answers : List Answer) → (z ≡ at) ⊎ (live_boot z ≡ None) → asks ≡ phase_asked z o answers → length asks ≡ length answers → (answers ≡ [] → ⊥) → asks ≡ phase_asked at o answers
phase_at z at o asks answers (inl same) made long some = made ∙ ap (λ (v : State). phase_asked v o answers) same
phase_at z at o asks answers (inr gone) made long some =
    absurd (some (none_long asks answers long (made ∙ phase_none (carries_ended z o.boot) (plan_in z o.call answers) answers (no_plan z o.call answers gone))))

phase_by : (s at : State) (j : OpenJob) (o : OpenOperation) (before : Option State) (m : Bool) (asks : List Ask) (answers : List Answer) → IsSinceAt s j before → IsPlanOf (unwrap_or before s) at j.job j.call j.boot → j.job ≡ job.Nested
    → WerePlanned (planned_in m s before) (λ z. phase_asked z o answers) asks answers → (answers ≡ [] → ⊥) → asks ≡ phase_asked at o answers
phase_by s at j o None true asks answers since h nested made some = absurd (some made.1)
phase_by s at j o (Some b) true asks answers since h nested made some = phase_at b at o asks answers (h.phase nested) made.0 made.1 some
phase_by s at j o before false asks answers since h nested made some =
    let here : IsPlanOf s at j.job j.call j.boot = now_plan s at j.job j before since h in
    phase_at s at o asks answers (here.phase nested) made.0 made.1 some

nested_asks : (c : Cell) (j k : OpenJob) (o : OpenOperation) → as_let_in k ≡ as_let_in j → k.job ≡ job.Nested → (standing_of c).operation ≡ Some o
    → asks_so_far (standing_of c) j.job j c.answers ≡ phase_asks (planned_at (standing_of c).state j) (Some o) c.answers
nested_asks c j k o same nested is =
    let job_is : j.job ≡ job.Nested = sym (ap (λ (z : OpenJob). z.job) same) ∙ nested in
    ap (λ (w : Job). asks_so_far (standing_of c) w j c.answers) job_is
    ∙ ap (λ (q : Option OpenOperation). phase_asks (planned_at (standing_of c).state j) q c.answers) is

pub phase_made : (c : Cell) (j : OpenJob) (s : Standing) (h : IsAsked c j s) (o : OpenOperation) (x : Answer) (ys : List Answer) (asks : List Ask) (answers : List Answer) → AreAnswers c j x ys answers → s.operation ≡ Some o → h.now.job ≡ job.Nested
    → IsPhaseMade s.state h.now.before o asks answers → (rest : List Ask) × (asks ≡ asks_so_far (standing_of c) j.job j c.answers ++ rest)
phase_made c j s h o x ys asks answers a is nested made =
    let at : State = planned_at (standing_of c).state j in
    let first : asks_so_far (standing_of c) j.job j c.answers ≡ phase_asks at (Some o) c.answers = nested_asks c j h.now o h.same nested (sym (h.operation nested) ∙ is) in
    let by : asks ≡ phase_asked at o answers =
    phase_by s.state at h.now o h.now.before (carries_ended s.state o.boot) asks answers h.since h.plan nested made.planned (some_answer c.answers answers x ys a.by) in
    let grown = phase_more at o c.answers x ys (sym (ap length first) ∙ a.waits) in (
      grown.0,
      by
          ∙ ap (λ (zs : List Answer). phase_asked at o zs) a.by
          ∙ grown.1
          ∙ ap (λ (zs : List Ask). zs ++ grown.0) (sym first),
    )

starved_first : (xs : List Answer) (x : Answer) (ys : List Answer) → xs ++ x ∷ ys ≡ answer.NoMemory ∷ [] → (xs ≡ []) × (x ≡ answer.NoMemory)
starved_first [] x ys e = let same : x ≡ answer.NoMemory = cc in (refl, same)
starved_first (a ∷ []) x ys e = cc
starved_first (a ∷ b ∷ xs) x ys e = cc

pub phase_starved : (first asks : List Ask) (y : Ask) (xs answers : List Answer) (x : Answer) (ys : List Answer) → answers ≡ xs ++ x ∷ ys → IsStarved asks answers → told asks answers ≡ told first xs ++ told (y ∷ []) (x ∷ [])
phase_starved first asks y xs answers x ys by starved =
    let is = starved_first xs x ys (sym by ∙ starved.1) in
    ap (λ (zs : List Ask). told zs answers) starved.0
    ∙ sym (
    ap (λ (zs : List Answer). told first zs ++ told (y ∷ []) (x ∷ [])) is.0
    ∙ ap (λ (zs : List (Ask × Answer)). zs ++ told (y ∷ []) (x ∷ [])) (no_answers first)
    ∙ ap (λ (z : Answer). told (y ∷ []) (z ∷ [])) is.1
    )

-- a call that waits still

phase_waits : (z at : State) (q : Option OpenOperation) (xs : List Answer) → (z ≡ at) ⊎ (live_boot z ≡ None) → length (phase_asks z q xs) ≡ length xs + 1 → phase_asks z q xs ≡ phase_asks at q xs
phase_waits z at q xs (inl same) e = ap (λ (v : State). phase_asks v q xs) same
phase_waits z at None xs (inr gone) e = refl
phase_waits z at (Some o) xs (inr gone) e = absurd (no_phase z o xs gone e)

call_waits : (z at : State) (j : OpenJob) (xs : List Answer) → (planned z j.call j.boot ≡ planned at j.call j.boot) ⊎ (planned z j.call j.boot ≡ []) → length (call_asks z j xs) ≡ length xs + 1 → call_asks z j xs ≡ call_asks at j xs
call_waits z at j xs (inl same) e = call_is z j xs ∙ ap (λ (plan : List PlannedAsk). so_far plan xs) same ∙ sym (call_is at j xs)
call_waits z at j xs (inr none) e = absurd (nothing_asked xs (sym (ap (λ (plan : List PlannedAsk). length (so_far plan xs)) none) ∙ sym (ap length (call_is z j xs)) ∙ e))

still_by : (z at : State) (q : Option OpenOperation) (w : Job) (j : OpenJob) (xs : List Answer) → IsPlanOf z at w j.call j.boot → length (asks_by z q w j xs) ≡ length xs + 1 → asks_by z q w j xs ≡ asks_by at q w j xs
still_by z at q job.Nested j xs h e = phase_waits z at q xs (h.phase refl) e
still_by z at q other j xs h e = call_waits z at j xs h.call e

same_operation : (at : State) (q p : Option OpenOperation) (w : Job) (j : OpenJob) (xs : List Answer) → (w ≡ job.Nested → q ≡ p) → asks_by at q w j xs ≡ asks_by at p w j xs
same_operation at q p job.Nested j xs same = ap (λ (o : Option OpenOperation). phase_asks at o xs) (same refl)
same_operation at q p other j xs same = refl

-- what it has asked by these answers is what it would have asked before
pub asks_still : (c : Cell) (j : OpenJob) (s : Standing) (h : IsAsked c j s) (xs : List Answer) → length (asks_so_far s h.now.job h.now xs) ≡ length xs + 1
    → asks_so_far s h.now.job h.now xs ≡ asks_by (planned_at (standing_of c).state j) (standing_of c).operation j.job (as_let_in j) xs
asks_still c j s h xs e =
    let k : OpenJob = h.now in
    let at : State = planned_at (standing_of c).state j in
    let first : asks_so_far s k.job k xs ≡ asks_by (planned_at s.state k) s.operation k.job (as_let_in k) xs = asks_are s k.job k xs in
    first
    ∙ still_by (planned_at s.state k) at s.operation k.job (as_let_in k) xs h.plan (sym (ap length first) ∙ e)
    ∙ same_operation at s.operation (standing_of c).operation k.job (as_let_in k) xs h.operation
    ∙ ap (λ (z : OpenJob). asks_by at (standing_of c).operation z.job z xs) h.same
