-- Why boots end in the order of their numbers.
use Rattle.std.proofs.Common.{◌≡◌, ℕ, ◌+◌, ◌<◌, ◌≤◌, inl, inr, List, [], ◌∷◌, true, Option, None, Some, ap, arith, subst}
use Rattle.std.proofs.lemmas.Bool.{eqb-true}
use Rattle.domain_spec.specs.Types.{Answer, Call, EndReason, Live, State, Who}
use Rattle.domain_spec.specs.declared.mark.Mark.{Mark}
use Rattle.domain_spec.specs.declared.mark.Mark.TheVariants as mark
use Rattle.domain_spec.specs.declared.open.OpenOperation.{OpenOperation}
use Rattle.domain_spec.specs.declared.standing.Standing.{Standing}
use Rattle.domain_spec.specs.declared.step.Outcome.{Outcome}
use Rattle.domain_spec.specs.Begin.{begin_state, taken_up_state}
use Rattle.domain_spec.specs.Exit.{event_state, exit_state}
use Rattle.domain_spec.specs.Fold.{after, after_phase, after_take_up, at_base}
use Rattle.domain_spec.specs.Laws.{EachEndsOnce, IsCounted, NumbersRise, RiseAbove, ended_boots}
use Rattle.domain_spec.specs.Legal.{IsLegal}
use Rattle.domain_spec.specs.Open.{IsKnownBoot}
use Rattle.domain_spec.specs.Phase.{phase_of, without_operation}
use Rattle.domain_spec.specs.Sequential.{seq}
use Rattle.domain_spec.specs.Reading.{boot_in, boots_of, is_boot_in, is_live, live_boot, live_of}
use Rattle.domain_spec.proofs.BootsProofs.{boots_of-event, boots_of-exit, boots_of-seq, boots_of-taken_up}
use Rattle.domain_spec.proofs.ExitProofs.{Stays, live_boot-event, live_boot-exit, live_boot-seq}
use Rattle.domain_spec.proofs.PhaseBoots.{after_phase_keeps, without_keeps}
use Rattle.domain_spec.proofs.PhaseExits.{Begins, live_boot-begin, live_boot-phase, live_boot-taken_up, live_boot-without}

-- the least number that a boot can have that ends from here on
abbrev pub next_end_of : Option ℕ → ℕ → ℕ
next_end_of None boots = boots + 1
next_end_of (Some boot) boots = boot

abbrev pub next_end : State → ℕ
next_end s = next_end_of (live_boot s) (boots_of s)

-- the live boot is counted, and boots end later than this number
pub record Later (low : ℕ) (s : State) : Type 0 where
  pub counted : IsKnownBoot (boots_of s) (live_boot s)
  pub above : low < next_end s

none_later : (low boots : ℕ) (boot : Option ℕ) → IsKnownBoot boots boot → low < next_end_of boot boots → low < boots + 1
none_later low boots None known h = h
none_later low boots (Some boot) known h = let given = known.1 in omega arith

-- it stays so where the live boot stays or ends
stays_later : (low : ℕ) (s next : State) → Later low s → Stays (live_boot s) next → boots_of next ≡ boots_of s → Later low next
stays_later low s next h (inl same) kept = record {
  counted = rw (kept, same) h.counted;
  above = rw (kept, same) h.above;
}
stays_later low s next h (inr none) kept = record {
  counted = rw none tt;
  above = rw (kept, none) (none_later low (boots_of s) (live_boot s) h.counted h.above);
}

begins_later : (low : ℕ) (s next : State) → Later low s → Begins s next → Later low next
begins_later low s next h (inl same) = record {
  counted = rw (same.1, same.0) h.counted;
  above = rw (same.1, same.0) h.above;
}
begins_later low s next h (inr new) = record {
  counted = rw (new.1, new.0) (omega arith, omega arith);
  above = rw new.0 (none_later low (boots_of s) (live_boot s) h.counted h.above);
}

phase_later : (low : ℕ) (s : Standing) (o : Option OpenOperation) (answers : List Answer) (next : Outcome) → Later low s.state → Later low (after_phase s o answers next).state
phase_later low s None answers next h = h
phase_later low s (Some o) answers next h = stays_later low s.state _ h (live_boot-phase s.state o answers) (after_phase_keeps s (Some o) answers next)

take_up_later : (low : ℕ) (s : Standing) (o : Option OpenOperation) (n : ℕ) (who : Who) (c : Call) → Later low s.state → Later low (after_take_up s o n who c).state
take_up_later low s None n who c h = h
take_up_later low s (Some o) n who c h = stays_later low s.state _ h (inl (live_boot-taken_up s.state who c)) (boots_of-taken_up s.state who c)

pub live_is : (l : Option Live) (boot : ℕ) → is_boot_in l boot ≡ true → boot_in l ≡ Some boot
live_is None boot h = absurd cc
live_is (Some l) boot h = ap (λ (n : ℕ). Some n) (eqb-true l.boot boot h)

-- where a boot has ended, later ones have greater numbers
exit_later : (s : State) (boot : ℕ) (why : EndReason) → IsKnownBoot (boots_of s) (live_boot s) → is_live s boot ≡ true → Later boot (exit_state s why)
exit_later s boot why known live =
    let given : IsKnownBoot (boots_of s) (Some boot) = subst (IsKnownBoot (boots_of s)) (live_is (live_of s) boot live) known in
    let bound : boot ≤ boots_of s = given.1 in
    record {
      counted = rw (live_boot-exit s why) tt;
      above = rw (boots_of-exit s why, live_boot-exit s why) (omega arith);
    }

exit_above : (s : State) (boot low : ℕ) → Later low s → is_live s boot ≡ true → low < boot
exit_above s boot low h live = rw (live_is (live_of s) boot live) at h.above

mark_later : (low : ℕ) (s : Standing) (m : Mark ℕ) → Later low s.state → Later low (after s m).state
mark_later low s (mark.Done n who c boot asks answers r events) h = stays_later low s.state _ h (live_boot-seq s.state c boot answers) (boots_of-seq s.state c boot answers)
mark_later low s (mark.Start n who c boot) h = begins_later low s.state _ h (live_boot-begin s.state who c)
mark_later low s (mark.TakeUp n who c) h = take_up_later low s s.operation n who c h
mark_later low s (mark.Phase n who p asks answers next events) h = phase_later low s s.operation answers next h
mark_later low s (mark.End n who r) h = stays_later low s.state _ h (inl (live_boot-without s.state)) (without_keeps s.state)
mark_later low s (mark.Exit boot why events) h = stays_later low s.state _ h (inr (live_boot-exit s.state why)) (boots_of-exit s.state why)
mark_later low s (mark.Event boot e events) h = stays_later low s.state _ h (live_boot-event s.state e) (boots_of-event s.state e)
mark_later low s other h = h

rise : (low : ℕ) (s : Standing) (marks : List (Mark ℕ)) → Later low s.state → IsLegal s marks → RiseAbove low (ended_boots marks)
rise low s [] later legal = tt
rise low s (mark.Exit boot why events ∷ marks) later legal = (
  exit_above s.state boot low later legal.0.in_order.0,
  rise boot (after s (mark.Exit boot why events)) marks (exit_later s.state boot why later.counted legal.0.in_order.0) legal.1,
)
rise low s (m ∷ marks) later legal = rise low (after s m) marks (mark_later low s m later) legal.1

-- the live boot stays counted
stays_counted : (s next : State) → IsKnownBoot (boots_of s) (live_boot s) → Stays (live_boot s) next → boots_of next ≡ boots_of s → IsKnownBoot (boots_of next) (live_boot next)
stays_counted s next h (inl same) kept = rw (kept, same) h
stays_counted s next h (inr none) kept = rw none tt

begins_counted : (s next : State) → IsKnownBoot (boots_of s) (live_boot s) → Begins s next → IsKnownBoot (boots_of next) (live_boot next)
begins_counted s next h (inl same) = rw (same.1, same.0) h
begins_counted s next h (inr new) = rw (new.1, new.0) (omega arith, omega arith)

phase_counted : (s : Standing) (o : Option OpenOperation) (answers : List Answer) (next : Outcome) → IsCounted s → IsCounted (after_phase s o answers next)
phase_counted s None answers next h = h
phase_counted s (Some o) answers next h = stays_counted s.state (phase_of s.state o answers).state h (live_boot-phase s.state o answers) (after_phase_keeps s (Some o) answers next)

take_up_counted : (s : Standing) (o : Option OpenOperation) (n : ℕ) (who : Who) (c : Call) → IsCounted s → IsCounted (after_take_up s o n who c)
take_up_counted s None n who c h = h
take_up_counted s (Some o) n who c h = stays_counted s.state (taken_up_state s.state who c) h (inl (live_boot-taken_up s.state who c)) (boots_of-taken_up s.state who c)

pub mark_counted : (s : Standing) (m : Mark ℕ) → IsCounted s → IsCounted (after s m)
mark_counted s (mark.Done n who c boot asks answers r events) h = stays_counted s.state (seq s.state c boot answers).state h (live_boot-seq s.state c boot answers) (boots_of-seq s.state c boot answers)
mark_counted s (mark.Start n who c boot) h = begins_counted s.state (begin_state s.state who c) h (live_boot-begin s.state who c)
mark_counted s (mark.TakeUp n who c) h = take_up_counted s s.operation n who c h
mark_counted s (mark.Phase n who p asks answers next events) h = phase_counted s s.operation answers next h
mark_counted s (mark.End n who r) h = stays_counted s.state (without_operation s.state) h (inl (live_boot-without s.state)) (without_keeps s.state)
mark_counted s (mark.Exit boot why events) h = stays_counted s.state (exit_state s.state why) h (inr (live_boot-exit s.state why)) (boots_of-exit s.state why)
mark_counted s (mark.Event boot e events) h = stays_counted s.state (event_state s.state e) h (live_boot-event s.state e) (boots_of-event s.state e)
mark_counted s other h = h

rising : (s : Standing) (marks : List (Mark ℕ)) → IsCounted s → IsLegal s marks → NumbersRise (ended_boots marks)
rising s [] counted legal = tt
rising s (mark.Exit boot why events ∷ marks) counted legal =
    rise boot (after s (mark.Exit boot why events)) marks (exit_later s.state boot why counted legal.0.in_order.0) legal.1
rising s (m ∷ marks) counted legal = rising (after s m) marks (mark_counted s m counted) legal.1

pub ends_once : EachEndsOnce
ends_once b marks counted legal = rising (at_base b) marks counted legal
