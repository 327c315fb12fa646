-- What the last mark tells, and what contracts see of a call that is away.
use Rattle.std.proofs.Common.{◌≡◌, ℕ, inl, inr, suc, ◌-◌, List, [], ◌∷◌, length, slice_get, Option, None, Some, option_map, refl, ap, ◌∙◌, arith}
use Rattle.history_spec.specs.declared.stamp.Stamp.{Stamp}
use Rattle.domain_spec.specs.declared.mark.Mark.{Mark}
use Rattle.domain_spec.specs.declared.mark.Mark.TheVariants as mark
use Rattle.domain_spec.specs.declared.open.OpenJob.{OpenJob}
use Rattle.domain_spec.specs.declared.open.OpenOperation.{OpenOperation}
use Rattle.domain_spec.specs.declared.standing.Standing.{Standing}
use Rattle.domain_spec.specs.Fold.{transitions_of}
use Rattle.core_chapter.specs.Numbered.{all_numbered, numbered}
use Rattle.core_flight.specs.Away.{IsOut, IsPhaseOut, IsPhaseWaiting, WaitsWith, course_out}
use Rattle.core_flight.specs.Told.{told_last, told_of}
use Rattle.core_flight.specs.declared.out.Out.{Out}
use Rattle.core_flight.specs.declared.out.Out.TheVariants as gone
use Rattle.core_flight.specs.declared.phase_out.PhaseOut.{PhaseOut}

same_told : (m : Mark Stamp) → transitions_of m ≡ transitions_of (numbered m)
same_told (mark.Done by who c boot asks answers r events) = refl
same_told (mark.Phase by who p asks answers o events) = refl
same_told (mark.Exit boot why events) = refl
same_told (mark.Event boot e events) = refl
same_told other = refl

pub told_at : (ms : List (Mark Stamp)) → told_of (slice_get ms (length ms - 1)) ≡ told_last (all_numbered ms)
told_at [] = refl
told_at (m ∷ []) = same_told m
told_at (m ∷ k ∷ ms) =
    let e : length (m ∷ k ∷ ms) - 1 ≡ suc (length (k ∷ ms) - 1) = omega arith in
    ap (λ (n : ℕ). told_of (slice_get (m ∷ k ∷ ms) n)) e ∙ told_at (k ∷ ms)

phase_waits : (s : Standing) (o : Option OpenOperation) (j : OpenJob) (w : PhaseOut) → IsPhaseOut s o j w → IsPhaseWaiting s.state o j w.course
phase_waits s None j w h = h
phase_waits s (Some o) j w h = h.away

pub waits_with : (s : Standing) (j : Option OpenJob) (w : Option Out) → IsOut s j w → WaitsWith s j (option_map course_out w)
waits_with s None None h = tt
waits_with s None (Some w) h = absurd h
waits_with s (Some j) None h = absurd h
waits_with s (Some j) (Some (gone.Call w)) h = inl h.away
waits_with s (Some j) (Some (gone.Phase w)) h = inr (phase_waits s s.operation j w h)
