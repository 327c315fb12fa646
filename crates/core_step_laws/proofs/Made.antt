-- A boot is made by the answer to its Make alone, and is then not made again.
use Rattle.std.proofs.Common.{◌≡◌, ◌⊎◌, inl, inr, ℕ, List, [], ◌∷◌, Bool, true, false, not, ◌&&◌, Option, None, Some, refl, sym, ap, ◌∙◌}
use Rattle.domain_spec.specs.Types.{Answer, Ask, Call, OpKind, Phase, Reply, State, Transition, Who}
use Rattle.domain_spec.specs.declared.core_step.CoreStep.{CoreStep}
use Rattle.domain_spec.specs.declared.core_step.CoreStep.TheVariants as step
use Rattle.domain_spec.specs.declared.mark.Mark.{Mark}
use Rattle.domain_spec.specs.declared.mark.Mark.TheVariants as mark
use Rattle.domain_spec.specs.declared.open.OpenJob.{OpenJob}
use Rattle.domain_spec.specs.declared.open.OpenOperation.{OpenOperation}
use Rattle.domain_spec.specs.declared.standing.Standing.{Standing}
use Rattle.domain_spec.specs.declared.step.Outcome.{Outcome}
use Rattle.domain_spec.specs.declared.step.Outcome.TheVariants as outcome
use Rattle.domain_spec.specs.Begin.{begin_state, due_phase}
use Rattle.domain_spec.specs.Call.{takes_up}
use Rattle.domain_spec.specs.Cell.{Cell, standing_of}
use Rattle.domain_spec.specs.Exit.{event_state}
use Rattle.domain_spec.specs.Fold.{after, after_phase, after_take_up, standing}
use Rattle.domain_spec.specs.Lawful.{IsEnded, IsPhased, IsStarted, IsTakenUp}
use Rattle.domain_spec.specs.Legal.{MarksLoss}
use Rattle.domain_spec.specs.Open.{is_rest, operation_held}
use Rattle.domain_spec.specs.Phase.{phase_of}
use Rattle.domain_spec.specs.Reading.{live_boot}
use Rattle.domain_spec.specs.Sequential.{meets_ended, seq}
use Rattle.domain_spec.specs.Steps.{AnswersBy}
use Rattle.domain_spec.specs.TakeUp.{rests_for}
use Rattle.domain_spec.specs.Turns.{BeginsBy, GoOn, GoesOnBy, MayLeave}
use Rattle.domain_spec.proofs.ExitProofs.{Stays, live_boot-event, live_boot-exit, live_boot-seq}
use Rattle.domain_spec.proofs.PhaseExits.{live_boot-phase, live_boot-taken_up, live_boot-without}
use Rattle.core_step_laws.proofs.Jobs.{on_base}
use Rattle.core_step_laws.proofs.Operations.{operations_stay}
use Rattle.core_step_laws.specs.Made.{Agrees, AgreesIn, HasToMake, IsMakeAnswered, MadeByItsMake, MadeStaysMade, is_make, made_boot, made_in, makes}
use Rattle.core_step_laws.proofs.Agreeing.{at_next, begins_agrees, goes_agrees}
use Rattle.core_step_laws.proofs.Beginning.{KeepsOrMakes, begin_makes}
use Rattle.core_step_laws.proofs.Making.{HasMade, by_its_make}
use Rattle.core_step_laws.proofs.Settled.{IsFresh, IsSettledIn, fresh_after, fresh_cell, settled_after, settled_begins, settled_first}

-- this boot was made, or is made by what is answered in this turn
abbrev WasMade : Cell → CoreStep ℕ → Option OpenOperation → State → ℕ → Type 0
WasMade c t o s boot = (made_in (makes o) (live_boot s) ≡ Some boot) ⊎ IsMakeAnswered c t boot

parts : (b : Bool) (x : Option ℕ) (boot : ℕ) → made_in b x ≡ Some boot → (b ≡ false) × (x ≡ Some boot)
parts true x boot e = cc
parts false x boot e = (refl, e)

stays_made : (o : Option OpenOperation) (s next : State) (boot : ℕ) → Stays (live_boot s) next → made_in (makes o) (live_boot next) ≡ Some boot → made_in (makes o) (live_boot s) ≡ Some boot
stays_made o s next boot (inl same) e = ap (λ (x : Option ℕ). made_in (makes o) x) (sym same) ∙ e
stays_made o s next boot (inr none) e = let some : live_boot next ≡ Some boot = (parts (makes o) (live_boot next) boot e).1 in cc

-- a guest without an operation, or one that is made, is there
there : (o : Option OpenOperation) (s : State) (boot : ℕ) → makes o ≡ false → live_boot s ≡ Some boot → made_in (makes o) (live_boot s) ≡ Some boot
there o s boot made lives = ap (λ (b : Bool). made_in b (live_boot s)) made ∙ lives

-- an operation that begins

begun_made : (s next : State) (o : Option OpenOperation) (boot : ℕ) → o ≡ None → KeepsOrMakes s next → made_in (is_make (outcome.On (due_phase next))) (live_boot next) ≡ Some boot → made_in (makes o) (live_boot s) ≡ Some boot
begun_made s next o boot alone (inl same) e = there o s boot (ap makes alone) (sym same ∙ (parts (is_make (outcome.On (due_phase next))) (live_boot next) boot e).1)
begun_made s next o boot alone (inr make) e =
    let made : is_make (outcome.On (due_phase next)) ≡ false = (parts (is_make (outcome.On (due_phase next))) (live_boot next) boot e).0 in
    let not_made : is_make (outcome.On (due_phase next)) ≡ true = ap (λ (p : Phase). is_make (outcome.On p)) make in
    cc

started_made : (s : Standing) (j : Option OpenJob) (number : ℕ) (who : Who) (d : Call) (carried : Option ℕ) (boot : ℕ) → IsStarted s j number who d carried
    → made_boot (after s (mark.Start number who d carried)) ≡ Some boot → made_boot s ≡ Some boot
started_made s None number who d carried boot h e = absurd h
started_made s (Some j) number who d carried boot h e = begun_made s.state (begin_state s.state who d) s.operation boot h.alone (begin_makes s.state who d) e

-- one that is taken up

second_of : (a b : Bool) → (a && b) ≡ true → b ≡ true
second_of true b e = e
second_of false b e = cc

first_of : (a b : Bool) → (a && b) ≡ true → a ≡ true
first_of true b e = refl
first_of false b e = cc

rests_then : (k : Option OpKind) (o : OpenOperation) → rests_for k (operation_held (Some o)) ≡ true → is_rest o.outcome ≡ true
rests_then None o e = cc
rests_then (Some k) o e = first_of (is_rest o.outcome) _ e

rest_made : (q : Outcome) → is_rest q ≡ true → is_make q ≡ false
rest_made (outcome.Rest r) e = refl
rest_made (outcome.Over r) e = refl
rest_made (outcome.On p) e = cc

rests_at : (s : Standing) (j : Option OpenJob) (o : OpenOperation) (number : ℕ) (who : Who) (d : Call) → s.operation ≡ Some o → IsTakenUp s j number who d → is_rest o.outcome ≡ true
rests_at s None o number who d is h = absurd h
rests_at s (Some j) o number who d is h =
    let rests : rests_for (takes_up d) (operation_held s.operation) ≡ true = second_of (not (meets_ended s.state d j.boot)) _ h.takes in
    rests_then (takes_up d) o (sym (ap (λ (q : Option OpenOperation). rests_for (takes_up d) (operation_held q)) is) ∙ rests)

taken_made : (s : Standing) (o : Option OpenOperation) (number : ℕ) (who : Who) (d : Call) (boot : ℕ) → s.operation ≡ o → IsTakenUp s s.job number who d
    → made_in (makes (after_take_up s o number who d).operation) (live_boot (after_take_up s o number who d).state) ≡ Some boot → made_in (makes o) (live_boot s.state) ≡ Some boot
taken_made s None number who d boot is h e = (parts (makes s.operation) (live_boot s.state) boot e).1
taken_made s (Some o) number who d boot is h e =
    let next : Standing = after_take_up s (Some o) number who d in
    there (Some o) s.state boot (rest_made o.outcome (rests_at s s.job o number who d is h))
    (sym (live_boot-taken_up s.state who d) ∙ (parts (makes next.operation) (live_boot next.state) boot e).1)

-- a phase

making_by : (c : Cell) (t : CoreStep ℕ) (s : Standing) (j : OpenJob) (o : OpenOperation) (asks : List Ask) (answers : List Answer) (boot : ℕ)
    → live_boot s.state ≡ Some boot → HasToMake o.boot s.state → HasMade c t s j o s.state asks answers boot → WasMade c t (Some o) s.state boot
making_by c t s j o asks answers boot lives (inl none) h = cc
making_by c t s j o asks answers boot lives (inr own) h = inr (by_its_make c t s j o s.state asks answers boot lives (sym own.0 ∙ lives) own.1 h)

phase_by : (c : Cell) (t : CoreStep ℕ) (s : Standing) (j : OpenJob) (o : OpenOperation) (number : ℕ) (who : Who) (p : Phase) (asks : List Ask) (answers : List Answer) (next : Outcome) (events : List Transition) (boot : ℕ) (b : Bool)
    → s.job ≡ Some j → s.operation ≡ Some o → IsPhased s (Some j) (Some o) number who p asks answers next events → AnswersBy c t answers
    → IsFresh s.state (Some j) → IsSettledIn c t s → AgreesIn s.state (Some o)
    → live_boot (phase_of s.state o answers).state ≡ Some boot → live_boot s.state ≡ Some boot → (after_phase s (Some o) answers next).lost ≡ None → is_make o.outcome ≡ b → WasMade c t (Some o) s.state boot
phase_by c t s j o number who p asks answers next events boot false call operation h by fresh settled agrees now lives lost e = inl (there (Some o) s.state boot e lives)
phase_by c t s j o number who p asks answers next events boot true call operation h by fresh settled agrees now lives lost e =
    making_by c t s j o asks answers boot lives (agrees e) (record {
      is = refl;
      call = call;
      operation = operation;
      nested = h.nested.nested;
      fresh = fresh;
      settled = settled;
      made = h.made;
      by = by;
      leaves = record { ended_first = h.ended_first; live = now; lost = lost };
    })

phase_stays : (c : Cell) (t : CoreStep ℕ) (s : Standing) (j : OpenJob) (o : OpenOperation) (number : ℕ) (who : Who) (p : Phase) (asks : List Ask) (answers : List Answer) (next : Outcome) (events : List Transition) (boot : ℕ)
    → s.job ≡ Some j → s.operation ≡ Some o → IsPhased s (Some j) (Some o) number who p asks answers next events → AnswersBy c t answers
    → IsFresh s.state (Some j) → IsSettledIn c t s → AgreesIn s.state (Some o)
    → Stays (live_boot s.state) (phase_of s.state o answers).state → live_boot (phase_of s.state o answers).state ≡ Some boot → (after_phase s (Some o) answers next).lost ≡ None → WasMade c t (Some o) s.state boot
phase_stays c t s j o number who p asks answers next events boot call operation h by fresh settled agrees (inl same) now lost =
    phase_by c t s j o number who p asks answers next events boot (is_make o.outcome) call operation h by fresh settled agrees now (sym same ∙ now) lost refl
phase_stays c t s j o number who p asks answers next events boot call operation h by fresh settled agrees (inr none) now lost = cc

phase_made : (c : Cell) (t : CoreStep ℕ) (s : Standing) (j : Option OpenJob) (o : Option OpenOperation) (number : ℕ) (who : Who) (p : Phase) (asks : List Ask) (answers : List Answer) (next : Outcome) (events : List Transition) (boot : ℕ)
    → s.job ≡ j → s.operation ≡ o → IsPhased s j o number who p asks answers next events → AnswersBy c t answers
    → IsFresh s.state j → IsSettledIn c t s → AgreesIn s.state o
    → made_boot (after_phase s o answers next) ≡ Some boot → (after_phase s o answers next).lost ≡ None → WasMade c t o s.state boot
phase_made c t s None o number who p asks answers next events boot call operation h by fresh settled agrees e lost = absurd h
phase_made c t s (Some j) None number who p asks answers next events boot call operation h by fresh settled agrees e lost = absurd h
phase_made c t s (Some j) (Some o) number who p asks answers next events boot call operation h by fresh settled agrees e lost =
    phase_stays c t s j o number who p asks answers next events boot call operation h by fresh settled agrees (live_boot-phase s.state o answers)
    (parts (is_make next) (live_boot (phase_of s.state o answers).state) boot e).1 lost

-- mark by mark

goes_made : (c : Cell) (t : CoreStep ℕ) (s : Standing) (m : Mark ℕ) (boot : ℕ) → GoesOnBy c t s m → IsFresh s.state s.job → IsSettledIn c t s → Agrees s
    → made_boot (after s m) ≡ Some boot → (after s m).lost ≡ None → (made_boot s ≡ Some boot) ⊎ IsMakeAnswered c t boot
goes_made c t s (mark.Done number who d carried asks answers r events) boot goes fresh settled agrees e lost =
    inl (stays_made s.operation s.state (seq s.state d carried answers).state boot (live_boot-seq s.state d carried answers) e)
goes_made c t s (mark.Phase number who p asks answers next events) boot goes fresh settled agrees e lost =
    phase_made c t s s.job s.operation number who p asks answers next events boot refl refl goes.2 goes.1 fresh settled agrees e lost
goes_made c t s (mark.Start number who d carried) boot goes fresh settled agrees e lost = inl (started_made s s.job number who d carried boot goes.1 e)
goes_made c t s (mark.TakeUp number who d) boot goes fresh settled agrees e lost = inl (taken_made s s.operation number who d boot refl goes.1 e)
goes_made c t s (mark.Exit ended why events) boot goes fresh settled agrees e lost = let none : live_boot (after s (mark.Exit ended why events)).state ≡ None = live_boot-exit s.state why in
    let some : live_boot (after s (mark.Exit ended why events)).state ≡ Some boot = (parts (makes s.operation) _ boot e).1 in cc
goes_made c t s (mark.Event of g events) boot goes fresh settled agrees e lost = inl (stays_made s.operation s.state (event_state s.state g) boot (live_boot-event s.state g) e)
goes_made c t s (mark.Cut client total taken) boot goes fresh settled agrees e lost = inl e
goes_made c t s other boot goes fresh settled agrees e lost = absurd goes

end_made : (s : Standing) (o : Option OpenOperation) (number : ℕ) (who : Who) (r : Reply) (boot : ℕ) → IsEnded s o number who r → made_boot (after s (mark.End number who r)) ≡ Some boot → made_in (makes o) (live_boot s.state) ≡ Some boot
end_made s None number who r boot h e = absurd h
end_made s (Some o) number who r boot h e = there (Some o) s.state boot (ap is_make h.over) (sym (live_boot-without s.state) ∙ e)

begins_made : (c : Cell) (t : CoreStep ℕ) (m : Mark ℕ) (boot : ℕ) → BeginsBy c t (standing_of c) m → IsFresh (standing_of c).state (standing_of c).job → IsSettledIn c t (standing_of c) → Agrees (standing_of c)
    → made_boot (after (standing_of c) m) ≡ Some boot → (after (standing_of c) m).lost ≡ None → (made_boot (standing_of c) ≡ Some boot) ⊎ IsMakeAnswered c t boot
begins_made c t (mark.Admit number w wanted d carried) boot begins fresh settled agrees e lost = inl e
begins_made c t (mark.Refused number w d why held) boot begins fresh settled agrees e lost = inl e
begins_made c (step.EndOp n who) (mark.End number w r) boot begins fresh settled agrees e lost = inl (end_made (standing_of c) (standing_of c).operation number w r boot begins.2 e)
begins_made c t (mark.End number w r) boot begins fresh settled agrees e lost = absurd begins
begins_made c t (mark.Watch number client) boot begins fresh settled agrees e lost = inl e
begins_made c t (mark.Unwatch number client) boot begins fresh settled agrees e lost = inl e
begins_made c t m boot begins fresh settled agrees e lost = goes_made c t (standing_of c) m boot begins fresh settled agrees e lost

-- where a loss was to be marked, the mark is that boot's end, and none is live after it
no_loss : (lost : Option ℕ) (s : Standing) (m : Mark ℕ) (boot : ℕ) → MarksLoss lost m → made_boot (after s m) ≡ Some boot → lost ≡ None
no_loss None s m boot h e = refl
no_loss (Some gone) s (mark.Exit ended why events) boot h e = let none : live_boot (after s (mark.Exit ended why events)).state ≡ None = live_boot-exit s.state why in
    let some : live_boot (after s (mark.Exit ended why events)).state ≡ Some boot = (parts (makes s.operation) _ boot e).1 in cc
no_loss (Some gone) s other boot h e = absurd h

-- the marks after the first

abbrev IsThere : Cell → CoreStep ℕ → Standing → ℕ → Type 0
IsThere c t s boot = ((made_boot s ≡ Some boot) × (s.lost ≡ None)) ⊎ IsMakeAnswered c t boot

was_there : (c : Cell) (t : CoreStep ℕ) (s : Standing) (boot : ℕ) → s.lost ≡ None → (made_boot s ≡ Some boot) ⊎ IsMakeAnswered c t boot → IsThere c t s boot
was_there c t s boot lost (inl made) = inl (made, lost)
was_there c t s boot lost (inr by) = inr by

on_back : (c : Cell) (t : CoreStep ℕ) (s : Standing) (m : Mark ℕ) (boot : ℕ) → GoesOnBy c t s m → MarksLoss s.lost m → IsFresh s.state s.job → IsSettledIn c t s → Agrees s → IsThere c t (after s m) boot → IsThere c t s boot
on_back c t s m boot goes loss fresh settled agrees (inl h) = was_there c t s boot (no_loss s.lost s m boot loss h.0) (goes_made c t s m boot goes fresh settled agrees h.0 h.1)
on_back c t s m boot goes loss fresh settled agrees (inr by) = inr by

on_made : (c : Cell) (t : CoreStep ℕ) (s : Standing) (marks : List (Mark ℕ)) (boot : ℕ) → GoOn c t s marks → IsFresh s.state s.job → IsSettledIn c t s → Agrees s → made_boot (standing s marks) ≡ Some boot → IsThere c t s boot
on_made c t s [] boot go fresh settled agrees e = inl (e, go)
on_made c t s (m ∷ marks) boot go fresh settled agrees e =
    on_back c t s m boot go.0 go.1 fresh settled agrees
    (on_made c t (after s m) marks boot go.2 (fresh_after s m fresh) (settled_after c t s m go.0 settled) (goes_agrees c t s m go.0 agrees) e)

first_back : (c : Cell) (t : CoreStep ℕ) (m : Mark ℕ) (boot : ℕ) → BeginsBy c t (standing_of c) m → Agrees (standing_of c) → IsThere c t (after (standing_of c) m) boot → (made_boot (standing_of c) ≡ Some boot) ⊎ IsMakeAnswered c t boot
first_back c t m boot begins agrees (inl h) = begins_made c t m boot begins (fresh_cell c) (settled_first c t) agrees h.0 h.1
first_back c t m boot begins agrees (inr by) = inr by

left_made : (c : Cell) (t : CoreStep ℕ) (marks : List (Mark ℕ)) (boot : ℕ) → MayLeave c t marks → Agrees (standing_of c) → made_boot (standing (standing_of c) marks) ≡ Some boot → (made_boot (standing_of c) ≡ Some boot) ⊎ IsMakeAnswered c t boot
left_made c t [] boot left agrees e = inl e
left_made c t (m ∷ marks) boot left agrees e =
    first_back c t m boot left.0 agrees
    (on_made c t (after (standing_of c) m) marks boot left.2 (fresh_after (standing_of c) m (fresh_cell c)) (settled_begins c t m left.0) (begins_agrees c t m left.0 agrees) e)

-- from one cell to the next

pub made_by_its_make : MadeByItsMake
made_by_its_make c d (step.Rotate number who) left boot turn leads agrees e = inl (sym (ap made_boot (at_next c d leads.base leads.marks)) ∙ e)
made_by_its_make c d other left boot turn leads agrees e = left_made c other left boot turn.left agrees (sym (ap made_boot (on_base c d left leads.base leads.marks)) ∙ e)

stays_so : (was now : Option OpenOperation) → (now ≡ was) ⊎ (now ≡ None) → makes was ≡ false → makes now ≡ false
stays_so was now (inl same) e = ap makes same ∙ e
stays_so was now (inr none) e = ap makes none

pub made_stays_made : MadeStaysMade
made_stays_made c d t left j k turn leads was still e = stays_so (standing_of c).operation (standing_of d).operation (operations_stay c d t left j k turn leads was still) e
