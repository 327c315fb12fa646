-- What is known of an open call whose boot has ended since it was let in.
use Rattle.std.proofs.Common.{◌≡◌, ℕ, List, Bool, true, false, Option, None, Some, if◌then◌else◌, refl, sym, ◌∙◌, subst}
use Rattle.domain_spec.specs.Types.{Answer, Call, Domain, EndReason, GuestEvent, Live, State, Who}
use Rattle.domain_spec.specs.Types.call
use Rattle.domain_spec.specs.Types.state
use Rattle.domain_spec.specs.declared.mark.Mark.{Mark}
use Rattle.domain_spec.specs.declared.mark.Mark.TheVariants as mark
use Rattle.domain_spec.specs.declared.open.OpenJob.{OpenJob}
use Rattle.domain_spec.specs.declared.open.OpenOperation.{OpenOperation}
use Rattle.domain_spec.specs.declared.standing.Standing.{Standing}
use Rattle.domain_spec.specs.declared.step.Outcome.{Outcome}
use Rattle.domain_spec.specs.Call.{is_on_stored}
use Rattle.domain_spec.specs.Exit.{event_held, event_state, exit_state}
use Rattle.domain_spec.specs.Fold.{after, after_phase, after_take_up, carries, job_at_exit}
use Rattle.domain_spec.specs.Phase.{without_operation}
use Rattle.domain_spec.specs.Reading.{boot_in, live_boot}
use Rattle.domain_spec.proofs.ExitProofs.{live_boot-exit}
use Rattle.domain_spec.proofs.PhaseExits.{live_boot-without}
use Rattle.core_steps.specs.OfAsks.{IsTidy, planned}
use Rattle.core_steps.proofs.OfAsks.{stored_plans}
use Rattle.core_step_laws.specs.Steady.{IsSince, IsSinceAt, IsSinceIn}

-- mark by mark

phase_since : (s : Standing) (o : Option OpenOperation) (answers : List Answer) (next : Outcome) → IsSinceIn s.state s.job
    → IsSinceIn (after_phase s o answers next).state (after_phase s o answers next).job
phase_since s None answers next h = h
phase_since s (Some o) answers next h = tt

taken_since : (s : Standing) (o : Option OpenOperation) (number : ℕ) (who : Who) (c : Call) → IsSinceIn s.state s.job
    → IsSinceIn (after_take_up s o number who c).state (after_take_up s o number who c).job
taken_since s None number who c h = h
taken_since s (Some o) number who c h = tt

end_plans : (s : State) (c : Call) (boot : Option ℕ) → is_on_stored c ≡ true → planned (without_operation s) c boot ≡ planned s c boot
end_plans (state.Vacant boots) c boot e = refl
end_plans (state.Held d) (call.Define def) boot e = refl
end_plans (state.Held d) call.Undefine boot e = refl
end_plans (state.Held d) (call.SetAutostart on) boot e = refl
end_plans (state.Held d) other boot e = cc

end_at : (s : State) (j : OpenJob) (before : Option State) → IsSinceAt s j before → IsSinceAt (without_operation s) j before
end_at s j None h = tt
end_at s j (Some b) h = record {
  gone = live_boot-without s ∙ h.gone;
  stored = λ e. end_plans s j.call j.boot e ∙ h.stored e;
}

end_since : (s : State) (j : Option OpenJob) → IsSinceIn s j → IsSinceIn (without_operation s) j
end_since s None h = tt
end_since s (Some j) h = end_at s j j.before h

exit_at : (s : State) (j : OpenJob) (why : EndReason) (before : Option State) → IsTidy s → IsSinceAt s j before → IsSinceAt (exit_state s why) j before
exit_at s j why None tidy h = tt
exit_at s j why (Some b) tidy h = record {
  gone = live_boot-exit s why;
  stored = λ e. stored_plans s j.call j.boot why tidy e ∙ h.stored e;
}

exit_if : (s : State) (j : OpenJob) (why : EndReason) (b : Bool) → IsTidy s → IsSinceAt s j j.before
    → IsSinceIn (exit_state s why) (Some (if b then record j { before = Some s } else j))
exit_if s j why true tidy h = record {
  gone = live_boot-exit s why;
  stored = λ on. stored_plans s j.call j.boot why tidy on;
}
exit_if s j why false tidy h = exit_at s j why j.before tidy h

exit_since : (s : State) (j : Option OpenJob) (boot : ℕ) (why : EndReason) → IsTidy s → IsSinceIn s j → IsSinceIn (exit_state s why) (job_at_exit s boot j)
exit_since s None boot why tidy h = tt
exit_since s (Some j) boot why tidy h = exit_if s j why (carries j.boot boot) tidy h

idle_by : (d : Domain) (live : Option Live) (g : GuestEvent) → boot_in live ≡ None → event_held d live g ≡ state.Held d
idle_by d None g e = refl
idle_by d (Some l) g e = cc

event_idle : (s : State) (g : GuestEvent) → live_boot s ≡ None → event_state s g ≡ s
event_idle (state.Vacant boots) g e = refl
event_idle (state.Held d) g e = idle_by d d.live g e

event_at : (s : State) (j : OpenJob) (g : GuestEvent) (before : Option State) → IsSinceAt s j before → IsSinceAt (event_state s g) j before
event_at s j g None h = tt
event_at s j g (Some b) h = subst (λ (x : State). IsSince x j b) (sym (event_idle s g h.gone)) h

event_since : (s : State) (j : Option OpenJob) (g : GuestEvent) → IsSinceIn s j → IsSinceIn (event_state s g) j
event_since s None g h = tt
event_since s (Some j) g h = event_at s j g j.before h

pub since_after : (s : Standing) (m : Mark ℕ) → IsTidy s.state → IsSinceIn s.state s.job → IsSinceIn (after s m).state (after s m).job
since_after s (mark.Admit number who wanted c boot) tidy h = tt
since_after s (mark.Done number who c boot asks answers r events) tidy h = tt
since_after s (mark.Start number who c boot) tidy h = tt
since_after s (mark.TakeUp number who c) tidy h = taken_since s s.operation number who c h
since_after s (mark.Phase number who p asks answers next events) tidy h = phase_since s s.operation answers next h
since_after s (mark.End number who r) tidy h = end_since s.state s.job h
since_after s (mark.Exit boot why events) tidy h = exit_since s.state s.job boot why tidy h
since_after s (mark.Event boot g events) tidy h = event_since s.state s.job g h
since_after s other tidy h = h
