-- What a phase has asked was planned in the state now, and is what the cell's open call has asked.
use Rattle.std.proofs.Common.{◌≡◌, ◌⊎◌, inl, inr, ℕ, List, [], ◌∷◌, Option, None, Some, refl, ◌∙◌}
use Rattle.domain_spec.specs.Types.{Answer, Ask, Call, Phase, State, Transition, Who}
use Rattle.domain_spec.specs.declared.core_step.CoreStep.{CoreStep}
use Rattle.domain_spec.specs.declared.core_step.CoreStep.TheVariants as step
use Rattle.domain_spec.specs.declared.mark.Mark.{Mark}
use Rattle.domain_spec.specs.declared.mark.Mark.TheVariants as mark
use Rattle.domain_spec.specs.declared.open.OpenJob.{OpenJob}
use Rattle.domain_spec.specs.declared.open.OpenOperation.{OpenOperation}
use Rattle.domain_spec.specs.declared.standing.Standing.{Standing}
use Rattle.domain_spec.specs.declared.step.Outcome.{Outcome}
use Rattle.domain_spec.specs.Cell.{Cell, standing_of}
use Rattle.domain_spec.specs.Exit.{event_state, exit_state}
use Rattle.domain_spec.specs.Fold.{after, after_phase, after_take_up, at_base, job_at_exit, standing}
use Rattle.domain_spec.specs.Lawful.{IsPhased}
use Rattle.domain_spec.specs.Phase.{without_operation}
use Rattle.domain_spec.specs.Reading.{live_boot}
use Rattle.domain_spec.specs.Turns.{BeginsBy, GoesOnBy}
use Rattle.domain_spec.proofs.ExitProofs.{Stays, live_boot-event, live_boot-exit}
use Rattle.domain_spec.proofs.PhaseExits.{live_boot-without}

-- no guest is live, or the boot of the open call has not ended since it was let in

abbrev pub IsFresh : State → Option OpenJob → Type 0
IsFresh s None = Unit {0}
IsFresh s (Some j) = (j.before ≡ None) ⊎ (live_boot s ≡ None)

fresh_stays : (j : Option OpenJob) (s next : State) → IsFresh s j → Stays (live_boot s) next → IsFresh next j
fresh_stays None s next h stays = tt
fresh_stays (Some j) s next (inl none) stays = inl none
fresh_stays (Some j) s next (inr none) (inl same) = inr (same ∙ none)
fresh_stays (Some j) s next (inr none) (inr gone) = inr gone

fresh_gone : (j : Option OpenJob) (s : State) → live_boot s ≡ None → IsFresh s j
fresh_gone None s none = tt
fresh_gone (Some j) s none = inr none

fresh_phase : (s : Standing) (o : Option OpenOperation) (answers : List Answer) (next : Outcome) → IsFresh s.state s.job → IsFresh (after_phase s o answers next).state (after_phase s o answers next).job
fresh_phase s None answers next h = h
fresh_phase s (Some o) answers next h = tt

fresh_taken : (s : Standing) (o : Option OpenOperation) (number : ℕ) (who : Who) (c : Call) → IsFresh s.state s.job → IsFresh (after_take_up s o number who c).state (after_take_up s o number who c).job
fresh_taken s None number who c h = h
fresh_taken s (Some o) number who c h = tt

pub fresh_after : (s : Standing) (m : Mark ℕ) → IsFresh s.state s.job → IsFresh (after s m).state (after s m).job
fresh_after s (mark.Admit number who wanted c boot) h = inl refl
fresh_after s (mark.Done number who c boot asks answers r events) h = tt
fresh_after s (mark.Start number who c boot) h = tt
fresh_after s (mark.TakeUp number who c) h = fresh_taken s s.operation number who c h
fresh_after s (mark.Phase number who p asks answers next events) h = fresh_phase s s.operation answers next h
fresh_after s (mark.End number who r) h = fresh_stays s.job s.state (without_operation s.state) h (inl (live_boot-without s.state))
fresh_after s (mark.Exit boot why events) h = fresh_gone (job_at_exit s.state boot s.job) (exit_state s.state why) (live_boot-exit s.state why)
fresh_after s (mark.Event boot e events) h = fresh_stays s.job s.state (event_state s.state e) h (live_boot-event s.state e)
fresh_after s other h = h

fresh_on : (s : Standing) (marks : List (Mark ℕ)) → IsFresh s.state s.job → IsFresh (standing s marks).state (standing s marks).job
fresh_on s [] h = h
fresh_on s (m ∷ marks) h = fresh_on (after s m) marks (fresh_after s m h)

pub fresh_cell : (c : Cell) → IsFresh (standing_of c).state (standing_of c).job
fresh_cell c = fresh_on (at_base c.base) c.marks tt

-- no call is open, or no guest is live, or all is as it was where the turn began

pub record IsAsItWas (was : Standing) (s : State) (j : Option OpenJob) (o : Option OpenOperation) : Type 0 where
  pub state : was.state ≡ s
  pub job : was.job ≡ j
  pub operation : was.operation ≡ o

abbrev pub IsSettled : Standing → State → Option OpenJob → Option OpenOperation → Type 0
IsSettled was s j o = (j ≡ None) ⊎ ((live_boot s ≡ None) ⊎ IsAsItWas was s j o)

-- so it is in a turn in which an ask is answered
abbrev pub IsSettledIn : Cell → CoreStep ℕ → Standing → Type 0
IsSettledIn c (step.Back n a) s = IsSettled (standing_of c) s.state s.job s.operation
IsSettledIn c other s = Unit {0}

settled_phase : (was s : Standing) (j : Option OpenJob) (o : Option OpenOperation) (number : ℕ) (who : Who) (p : Phase) (asks : List Ask) (answers : List Answer) (next : Outcome) (events : List Transition)
    → IsPhased s j o number who p asks answers next events → IsSettled was (after_phase s o answers next).state (after_phase s o answers next).job (after_phase s o answers next).operation
settled_phase was s None o number who p asks answers next events h = absurd h
settled_phase was s (Some j) None number who p asks answers next events h = absurd h
settled_phase was s (Some j) (Some o) number who p asks answers next events h = inl refl

settled_taken : (was s : Standing) (o : Option OpenOperation) (number : ℕ) (who : Who) (c : Call) → s.operation ≡ o → IsSettled was s.state s.job s.operation
    → IsSettled was (after_take_up s o number who c).state (after_take_up s o number who c).job (after_take_up s o number who c).operation
settled_taken was s None number who c is h = h
settled_taken was s (Some o) number who c is h = inl refl

goes_settled : (c : Cell) (t : CoreStep ℕ) (was s : Standing) (m : Mark ℕ) → GoesOnBy c t s m → IsSettled was s.state s.job s.operation → IsSettled was (after s m).state (after s m).job (after s m).operation
goes_settled c t was s (mark.Done number who d boot asks answers r events) goes h = inl refl
goes_settled c t was s (mark.Phase number who p asks answers next events) goes h = settled_phase was s s.job s.operation number who p asks answers next events goes.2
goes_settled c t was s (mark.Start number who d boot) goes h = inl refl
goes_settled c t was s (mark.TakeUp number who d) goes h = settled_taken was s s.operation number who d refl h
goes_settled c t was s (mark.Exit boot why events) goes h = inr (inl (live_boot-exit s.state why))
goes_settled c t was s (mark.Event boot e events) goes h = inl goes.2
goes_settled c t was s (mark.Cut client total taken) goes h = h
goes_settled c t was s other goes h = absurd goes

pub settled_after : (c : Cell) (t : CoreStep ℕ) (s : Standing) (m : Mark ℕ) → GoesOnBy c t s m → IsSettledIn c t s → IsSettledIn c t (after s m)
settled_after c (step.Back n a) s m goes h = goes_settled c (step.Back n a) (standing_of c) s m goes h
settled_after c other s m goes h = tt

pub settled_first : (c : Cell) (t : CoreStep ℕ) → IsSettledIn c t (standing_of c)
settled_first c (step.Back n a) = inr (inr (record { state = refl; job = refl; operation = refl }))
settled_first c other = tt

pub settled_begins : (c : Cell) (t : CoreStep ℕ) (m : Mark ℕ) → BeginsBy c t (standing_of c) m → IsSettledIn c t (after (standing_of c) m)
settled_begins c (step.Back n a) (mark.Admit number who wanted d boot) begins = absurd begins
settled_begins c (step.Back n a) (mark.Refused number who d why held) begins = absurd begins.0
settled_begins c (step.Back n a) m begins = settled_after c (step.Back n a) (standing_of c) m begins (settled_first c (step.Back n a))
settled_begins c other m begins = tt
