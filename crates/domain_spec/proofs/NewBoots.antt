-- Why each boot that a history makes has a number that was never given out before.
use Rattle.std.proofs.Common.{◌≡◌, ℕ, ◌+◌, ◌⊎◌, inl, inr, List, [], ◌∷◌, ◌++◌, true, false, Option, None, Some, refl, arith, eq-eqb, ne_eqb}
use Rattle.domain_spec.specs.Types.{Answer, Call, Live, State, Who}
use Rattle.domain_spec.specs.declared.mark.Mark.{Mark}
use Rattle.domain_spec.specs.declared.mark.Mark.TheVariants as mark
use Rattle.domain_spec.specs.declared.open.OpenOperation.{OpenOperation}
use Rattle.domain_spec.specs.declared.standing.Standing.{Standing}
use Rattle.domain_spec.specs.declared.step.Outcome.{Outcome}
use Rattle.domain_spec.specs.Exit.{event_state}
use Rattle.domain_spec.specs.Fold.{after, after_phase, after_take_up}
use Rattle.domain_spec.specs.Laws.{BootsAreNew, RiseAbove, boots_made, made_in}
use Rattle.domain_spec.specs.Open.{IsKnownBoot}
use Rattle.domain_spec.specs.Phase.{phase_of}
use Rattle.domain_spec.specs.Reading.{boot_in, boots_of, is_boot_in, live_boot, live_of}
use Rattle.domain_spec.specs.Sequential.{seq}
use Rattle.domain_spec.proofs.BootsProofs.{boots_of-event, boots_of-exit, boots_of-seq, boots_of-taken_up}
use Rattle.domain_spec.proofs.EndsOnce.{mark_counted}
use Rattle.domain_spec.proofs.ExitProofs.{Stays, live_boot-event, live_boot-exit, live_boot-seq}
use Rattle.domain_spec.proofs.PhaseBoots.{after_phase_keeps, without_keeps}
use Rattle.domain_spec.proofs.PhaseExits.{Begins, live_boot-begin, live_boot-phase, live_boot-taken_up, live_boot-without}

-- a mark leaves the live boot, makes the next one, or leaves none; only the second raises the count
abbrev pub Moves : State → State → Type 0
Moves s next = Begins s next ⊎ ((live_boot next ≡ None) × (boots_of next ≡ boots_of s))

stays_moves : (s next : State) → Stays (live_boot s) next → boots_of next ≡ boots_of s → Moves s next
stays_moves s next (inl same) kept = inl (inl (same, kept))
stays_moves s next (inr none) kept = inr (none, kept)

phase_moves : (s : Standing) (o : Option OpenOperation) (answers : List Answer) (next : Outcome) → Moves s.state (after_phase s o answers next).state
phase_moves s None answers next = inl (inl (refl, refl))
phase_moves s (Some o) answers next = stays_moves s.state (phase_of s.state o answers).state (live_boot-phase s.state o answers) (after_phase_keeps s (Some o) answers next)

take_up_moves : (s : Standing) (o : Option OpenOperation) (n : ℕ) (who : Who) (c : Call) → Moves s.state (after_take_up s o n who c).state
take_up_moves s None n who c = inl (inl (refl, refl))
take_up_moves s (Some o) n who c = inl (inl (live_boot-taken_up s.state who c, boots_of-taken_up s.state who c))

mark_moves : (s : Standing) (m : Mark ℕ) → Moves s.state (after s m).state
mark_moves s (mark.Done n who c boot asks answers r events) = stays_moves s.state (seq s.state c boot answers).state (live_boot-seq s.state c boot answers) (boots_of-seq s.state c boot answers)
mark_moves s (mark.Start n who c boot) = inl (live_boot-begin s.state who c)
mark_moves s (mark.TakeUp n who c) = take_up_moves s s.operation n who c
mark_moves s (mark.Phase n who p asks answers next events) = phase_moves s s.operation answers next
mark_moves s (mark.End n who r) = inl (inl (live_boot-without s.state, without_keeps s.state))
mark_moves s (mark.Exit boot why events) = inr (live_boot-exit s.state why, boots_of-exit s.state why)
mark_moves s (mark.Event boot e events) = stays_moves s.state (event_state s.state e) (live_boot-event s.state e) (boots_of-event s.state e)
mark_moves s other = inl (inl (refl, refl))

-- a boot that was live is not made
none_made : (l : Option Live) → (made : Option ℕ → List ℕ) → made None ≡ [] → ((boot : ℕ) → is_boot_in l boot ≡ true → made (Some boot) ≡ []) → made (boot_in l) ≡ []
none_made None made none some = none
none_made (Some l) made none some = some l.boot (eq-eqb l.boot l.boot refl)

live_not_made : (s : State) → made_in s (live_boot s) ≡ []
live_not_made s = none_made (live_of s) (made_in s) refl (λ boot live. rw live refl)

above_live : (l : Option Live) (boots : ℕ) → IsKnownBoot boots (boot_in l) → is_boot_in l (boots + 1) ≡ false
above_live None boots known = refl
above_live (Some l) boots known = let given = known.1 in ne_eqb l.boot (boots + 1) (λ e. absurd (omega arith))

-- the boots of more marks rise above the number of those given out
rise_more : (s next : State) (more : List ℕ) → IsKnownBoot (boots_of s) (live_boot s) → Moves s next → RiseAbove (boots_of next) more → RiseAbove (boots_of s) (made_in s (live_boot next) ++ more)
rise_more s next more known (inl (inl same)) rises = rw (same.0, live_not_made s) (rw same.1 at rises)
rise_more s next more known (inl (inr new)) rises =
    rw (new.0, above_live (live_of s) (boots_of s) known) (omega arith, rw new.1 at rises)
rise_more s next more known (inr none) rises = rw none.0 (rw none.1 at rises)

pub boots_new : BootsAreNew
boots_new s [] counted = tt
boots_new s (m ∷ marks) counted =
    rise_more s.state (after s m).state (boots_made (after s m) marks) counted (mark_moves s m)
    (boots_new (after s m) marks (mark_counted s m counted))
