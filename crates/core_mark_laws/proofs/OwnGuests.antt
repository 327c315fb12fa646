-- No mark starts another guest beside an open operation.
use Rattle.std.proofs.Common.{◌≡◌, ℕ, ◌⊎◌, inl, inr, List, Option, None, Some, refl, ◌∙◌, subst}
use Rattle.domain_spec.specs.Types.{Answer, Call, State, Who}
use Rattle.domain_spec.specs.declared.mark.Mark.{Mark}
use Rattle.domain_spec.specs.declared.mark.Mark.TheVariants as mark
use Rattle.domain_spec.specs.declared.open.OpenOperation.{OpenOperation}
use Rattle.domain_spec.specs.declared.standing.Standing.{Standing}
use Rattle.domain_spec.specs.declared.step.Outcome.{Outcome}
use Rattle.domain_spec.specs.Begin.{taken_up_state}
use Rattle.domain_spec.specs.Exit.{event_state, exit_state}
use Rattle.domain_spec.specs.Fold.{after_phase, after_take_up}
use Rattle.domain_spec.specs.Phase.{phase_of, without_operation}
use Rattle.domain_spec.specs.Reading.{live_boot}
use Rattle.domain_spec.specs.Sequential.{seq}
use Rattle.domain_spec.proofs.ExitProofs.{Stays, live_boot-event, live_boot-exit, live_boot-seq}
use Rattle.domain_spec.proofs.PhaseExits.{live_boot-phase, live_boot-taken_up}
use Rattle.core_mark_laws.specs.Guests.{EveryMarkKeepsGuests, HasOwnGuest, RunsOnly}

-- a guest that stays or ends is the operation's still
stays_own : (boot : Option ℕ) (s next : State) → RunsOnly boot s → Stays (live_boot s) next → RunsOnly boot next
stays_own boot s next (inl e) (inl f) = inl (f ∙ e)
stays_own boot s next (inr e) (inl f) = inr (f ∙ e)
stays_own boot s next h (inr f) = inr f

kept : (o : Option OpenOperation) (s next : State) → HasOwnGuest s o → Stays (live_boot s) next → HasOwnGuest next o
kept None s next h stays = tt
kept (Some o) s next h stays = stays_own o.boot s next h stays

phase_kept : (o : Option OpenOperation) (s : Standing) (answers : List Answer) (next : Outcome) → s.operation ≡ o → HasOwnGuest s.state s.operation
    → HasOwnGuest (after_phase s o answers next).state (after_phase s o answers next).operation
phase_kept None s answers next is h = h
phase_kept (Some o) s answers next is h =
    stays_own o.boot s.state (phase_of s.state o answers).state (subst (λ (x : Option OpenOperation). HasOwnGuest s.state x) is h) (live_boot-phase s.state o answers)

taken_kept : (o : Option OpenOperation) (s : Standing) (number : ℕ) (who : Who) (c : Call) → s.operation ≡ o → HasOwnGuest s.state s.operation
    → HasOwnGuest (after_take_up s o number who c).state (after_take_up s o number who c).operation
taken_kept None s number who c is h = h
taken_kept (Some o) s number who c is h =
    stays_own o.boot s.state (taken_up_state s.state who c) (subst (λ (x : Option OpenOperation). HasOwnGuest s.state x) is h) (inl (live_boot-taken_up s.state who c))

pub mark_keeps_guests : EveryMarkKeepsGuests
mark_keeps_guests s (mark.Done number who c boot asks answers r events) h =
    kept s.operation s.state (seq s.state c boot answers).state h (live_boot-seq s.state c boot answers)
mark_keeps_guests s (mark.Start number who c boot) h = inl refl
mark_keeps_guests s (mark.TakeUp number who c) h = taken_kept s.operation s number who c refl h
mark_keeps_guests s (mark.Phase number who p asks answers o events) h = phase_kept s.operation s answers o refl h
mark_keeps_guests s (mark.End number who r) h = tt
mark_keeps_guests s (mark.Exit boot why events) h = kept s.operation s.state (exit_state s.state why) h (inr (live_boot-exit s.state why))
mark_keeps_guests s (mark.Event boot e events) h = kept s.operation s.state (event_state s.state e) h (live_boot-event s.state e)
mark_keeps_guests s other h = h
