-- Where the history has still to make a guest, so has the domain, after each mark and each turn.
use Rattle.std.proofs.Common.{◌≡◌, inl, inr, ℕ, List, [], ◌∷◌, true, false, Option, None, Some, refl, sym, ap, ◌∙◌, subst}
use Rattle.domain_spec.specs.Types.{Answer, Ask, Call, Phase, State, Transition, Who}
use Rattle.domain_spec.specs.Types.phase
use Rattle.domain_spec.specs.declared.core_step.CoreStep.{CoreStep}
use Rattle.domain_spec.specs.declared.core_step.CoreStep.TheVariants as step
use Rattle.domain_spec.specs.declared.mark.Mark.{Mark}
use Rattle.domain_spec.specs.declared.mark.Mark.TheVariants as mark
use Rattle.domain_spec.specs.declared.open.OpenJob.{OpenJob}
use Rattle.domain_spec.specs.declared.open.OpenOperation.{OpenOperation}
use Rattle.domain_spec.specs.declared.standing.Standing.{Standing}
use Rattle.domain_spec.specs.declared.step.Outcome.{Outcome}
use Rattle.domain_spec.specs.declared.step.Outcome.TheVariants as outcome
use Rattle.domain_spec.specs.Begin.{begin_state, due_phase}
use Rattle.domain_spec.specs.Call.{phase_taken_up}
use Rattle.domain_spec.specs.Cell.{Cell, standing_of}
use Rattle.domain_spec.specs.Chapter.{first_base, next_base}
use Rattle.domain_spec.specs.Exit.{event_state, exit_state}
use Rattle.domain_spec.specs.Fold.{after, after_phase, after_take_up, at_base, standing}
use Rattle.domain_spec.specs.Lawful.{IsPhased}
use Rattle.domain_spec.specs.Phase.{phase_of}
use Rattle.domain_spec.specs.Reading.{live_boot}
use Rattle.domain_spec.specs.Sequential.{seq}
use Rattle.domain_spec.specs.Turns.{BeginsBy, GoOn, GoesOnBy, MayLeave}
use Rattle.domain_spec.proofs.ExitProofs.{Stays, live_boot-event, live_boot-exit, live_boot-seq}
use Rattle.core_step_laws.proofs.Jobs.{on_base}
use Rattle.core_step_laws.specs.Made.{Agrees, AgreesIn, HasToMake, MarksAgree, OpenedAgrees, PhasesAgree, is_make}
use Rattle.core_step_laws.proofs.BootCalls.{IsDue, event_due, seq_due}
use Rattle.core_step_laws.proofs.Outcomes.{phase_leads_on, taken_up_on}

-- a state in which the same guest is still to be made, or none is live
to_make : (boot : Option ℕ) (s next : State) → HasToMake boot s → Stays (live_boot s) next → IsDue (due_phase s) next → HasToMake boot next
to_make boot s next h (inr none) due = inl none
to_make boot s next h (inl same) (inl none) = inl none
to_make boot s next (inl none) (inl same) (inr due) = inl (same ∙ none)
to_make boot s next (inr h) (inl same) (inr due) = inr (same ∙ h.0, due ∙ h.1)

kept : (o : Option OpenOperation) (s next : State) → AgreesIn s o → Stays (live_boot s) next → IsDue (due_phase s) next → AgreesIn next o
kept None s next h stays due = tt
kept (Some o) s next h stays due = λ is. to_make o.boot s next (h is) stays due

gone : (o : Option OpenOperation) (next : State) → live_boot next ≡ None → AgreesIn next o
gone None next none = tt
gone (Some o) next none = λ is. inl none

never : (s : State) (o : OpenOperation) → is_make o.outcome ≡ false → AgreesIn s (Some o)
never s o e = λ is. cc

starts : (boot : Option ℕ) (s : State) (p : Phase) → live_boot s ≡ boot → due_phase s ≡ p → is_make (outcome.On p) ≡ true → HasToMake boot s
starts boot s phase.Make same due is = inr (same, due)
starts boot s other same due is = cc

phased : (s : Standing) (j : Option OpenJob) (o : Option OpenOperation) (number : ℕ) (who : Who) (p : Phase) (asks : List Ask) (answers : List Answer) (next : Outcome) (events : List Transition)
    → IsPhased s j o number who p asks answers next events → AgreesIn (after_phase s o answers next).state (after_phase s o answers next).operation
phased s None o number who p asks answers next events h = absurd h
phased s (Some j) None number who p asks answers next events h = absurd h
phased s (Some j) (Some o) number who p asks answers next events h =
    never (phase_of s.state o answers).state (record o { outcome = next }) (ap is_make h.outcome_is ∙ phase_leads_on s.state o answers)

taken : (s : Standing) (o : Option OpenOperation) (number : ℕ) (who : Who) (c : Call) → s.operation ≡ o → Agrees s → AgreesIn (after_take_up s o number who c).state (after_take_up s o number who c).operation
taken s None number who c is h = h
taken s (Some o) number who c is h = λ e. let f : is_make (outcome.On (phase_taken_up c)) ≡ false = taken_up_on c in cc

-- mark by mark; of a phase it has to be lawful what it leads to
abbrev pub IsPhaseRight : Standing → Mark ℕ → Type 0
IsPhaseRight s (mark.Phase number who p asks answers next events) = IsPhased s s.job s.operation number who p asks answers next events
IsPhaseRight s other = Unit {0}

pub mark_agrees : (s : Standing) (m : Mark ℕ) → IsPhaseRight s m → Agrees s → Agrees (after s m)
mark_agrees s (mark.Done number who c boot asks answers r events) right h =
    kept s.operation s.state (seq s.state c boot answers).state h (live_boot-seq s.state c boot answers) (seq_due s.state c boot answers)
mark_agrees s (mark.Start number who c boot) right h = λ is. let next : State = begin_state s.state who c in starts (live_boot next) next (due_phase next) refl refl is
mark_agrees s (mark.TakeUp number who c) right h = taken s s.operation number who c refl h
mark_agrees s (mark.Phase number who p asks answers next events) right h = phased s s.job s.operation number who p asks answers next events right
mark_agrees s (mark.End number who r) right h = tt
mark_agrees s (mark.Exit boot why events) right h = gone s.operation (exit_state s.state why) (live_boot-exit s.state why)
mark_agrees s (mark.Event boot e events) right h = kept s.operation s.state (event_state s.state e) h (live_boot-event s.state e) (event_due s.state e)
mark_agrees s other right h = h

pub marks_agree : MarksAgree
marks_agree s (mark.Phase number who p asks answers next events) lawful h = mark_agrees s (mark.Phase number who p asks answers next events) lawful.in_order h
marks_agree s m lawful h = mark_agrees s m tt h

-- turn by turn

pub goes_agrees : (c : Cell) (t : CoreStep ℕ) (s : Standing) (m : Mark ℕ) → GoesOnBy c t s m → Agrees s → Agrees (after s m)
goes_agrees c t s (mark.Phase number who p asks answers next events) goes h = mark_agrees s (mark.Phase number who p asks answers next events) goes.2 h
goes_agrees c t s m goes h = mark_agrees s m tt h

pub begins_agrees : (c : Cell) (t : CoreStep ℕ) (m : Mark ℕ) → BeginsBy c t (standing_of c) m → Agrees (standing_of c) → Agrees (after (standing_of c) m)
begins_agrees c t (mark.Phase number who p asks answers next events) begins h = goes_agrees c t (standing_of c) (mark.Phase number who p asks answers next events) begins h
begins_agrees c t m begins h = mark_agrees (standing_of c) m tt h

on_agrees : (c : Cell) (t : CoreStep ℕ) (s : Standing) (marks : List (Mark ℕ)) → GoOn c t s marks → Agrees s → Agrees (standing s marks)
on_agrees c t s [] go h = h
on_agrees c t s (m ∷ marks) go h = on_agrees c t (after s m) marks go.2 (goes_agrees c t s m go.0 h)

left_agrees : (c : Cell) (t : CoreStep ℕ) (marks : List (Mark ℕ)) → MayLeave c t marks → Agrees (standing_of c) → Agrees (standing (standing_of c) marks)
left_agrees c t [] left h = h
left_agrees c t (m ∷ marks) left h = on_agrees c t (after (standing_of c) m) marks left.2 (begins_agrees c t m left.0 h)

-- a chapter that begins has the state and the operation that were there
pub at_next : (c d : Cell) → d.base ≡ next_base (standing_of c) c.registrations → d.marks ≡ [] → standing_of d ≡ at_base (next_base (standing_of c) c.registrations)
at_next c d base marks = ap (λ (b : _). standing (at_base b) d.marks) base ∙ ap (λ (ms : List (Mark ℕ)). standing (at_base (next_base (standing_of c) c.registrations)) ms) marks

pub phases_agree : PhasesAgree
phases_agree c d (step.Rotate number who) left turn leads h = subst (λ (s : Standing). Agrees s) (sym (at_next c d leads.base leads.marks)) h
phases_agree c d other left turn leads h =
    subst (λ (s : Standing). Agrees s) (sym (on_base c d left leads.base leads.marks)) (left_agrees c other left turn.left h)

pub opened_agrees : OpenedAgrees
opened_agrees c stored autostart opened =
    let is : standing_of c ≡ at_base (first_base stored autostart) =
    ap (λ (b : _). standing (at_base b) c.marks) opened.base ∙ ap (λ (ms : List (Mark ℕ)). standing (at_base (first_base stored autostart)) ms) opened.marks in
    subst (λ (s : Standing). Agrees s) (sym is) tt
