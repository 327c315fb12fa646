-- Why what was taken and what pends is what a registration is owed: so it is after each step.
use Rattle.std.proofs.Common.{◌≡◌, ℕ, ◌-◌, ◌≤◌, List, [], ◌∷◌, ◌++◌, Bool, true, false, Option, None, Some, is_some, refl, sym, ap, ◌∙◌, arith, length, take, drop, append_assoc, append-nil, length-append}
use Rattle.std.proofs.lemmas.List.{length-take, take-append-drop, take-append-le}
use Rattle.std.proofs.Math.Seq.{take-append_seam}
use Rattle.domain_spec.specs.Types.{Transition}
use Rattle.domain_spec.specs.declared.owed.Owed.{Owed}
use Rattle.event_queue.specs.declared.step.WatchStep.{WatchStep}
use Rattle.event_queue.specs.declared.step.WatchStep.TheVariants as step
use Rattle.event_queue.specs.Ring.{Ring, after_take, count_kept, is_full, new_ring, push_by}
use Rattle.event_queue.specs.Whole.{OwesTakenAndPending, after_step, came_in, handed_by, handed_out, owed_by, ring_after}

-- what it kept of these transitions
abbrev kept_of : Ring → Option ℕ → List Transition → List Transition
kept_of r None came = came
kept_of r (Some count) came = take (count_kept r) came

-- so far this was handed out, and these came
record Stands (handed came : List Transition) (r : Ring) : Type 0 where
  taken : length handed ≡ r.taken
  events : handed ++ r.pending ≡ kept_of r r.ended came

-- the transitions that a step brings
abbrev came_by : WatchStep → List Transition
came_by (step.Push t) = t ∷ []
came_by step.Take = []

within : (handed came : List Transition) (r : Ring) → length handed ≡ r.taken → handed ++ r.pending ≡ take (count_kept r) came → count_kept r ≤ length came
within handed came r taken events =
    omega (arith, taken, ap length events, length-append handed r.pending, length-take (count_kept r) came)

push_ended : (handed came : List Transition) (r : Ring) (t : Transition) (count : ℕ) → Stands handed came r → r.ended ≡ Some count → Stands handed (came ++ t ∷ []) (push_by r t (Some count))
push_ended handed came r t count h is =
    let events : handed ++ r.pending ≡ take (count_kept r) came = rw is at h.events in
    record {
      taken = h.taken;
      events = rw (is) (events ∙ sym (take-append-le (count_kept r) came (t ∷ []) (within handed came r h.taken events)));
    }

push_full : (handed came : List Transition) (r : Ring) (t : Transition) (full : Bool) → is_full r ≡ full → Stands handed came r → r.ended ≡ None → Stands handed (came ++ t ∷ []) (push_by r t None)
push_full handed came r t true is h none =
    let events : handed ++ r.pending ≡ came = rw none at h.events in
    let count : count_kept r ≡ length came = omega (arith, h.taken, ap length events, length-append handed r.pending) in
    let kept : take (count_kept r) (came ++ t ∷ []) ≡ came = rw (count) (take-append_seam came (t ∷ [])) in
    rw (is) (record { taken = h.taken; events = events ∙ sym kept })
push_full handed came r t false is h none =
    let events : handed ++ r.pending ≡ came = rw none at h.events in
    rw (is) (record { taken = h.taken; events = rw (none) (sym (append_assoc handed r.pending (t ∷ [])) ∙ ap (λ xs. xs ++ t ∷ []) events) })

push_stands : (handed came : List Transition) (r : Ring) (t : Transition) (ended : Option ℕ) → r.ended ≡ ended → Stands handed came r → Stands handed (came ++ t ∷ []) (push_by r t ended)
push_stands handed came r t None is h = push_full handed came r t (is_full r) refl h is
push_stands handed came r t (Some count) is h = push_ended handed came r t count h is

take_ended : (p : List Transition) (r : Ring) (came : List Transition) (ended : Option ℕ) → count_kept (after_take r) ≡ count_kept r → kept_of r ended came ≡ kept_of (after_take r) ended came
take_ended p r came None same = refl
take_ended p r came (Some count) same = ap (λ n. take n came) (sym same)

take_stands : (handed came : List Transition) (r : Ring) → Stands handed came r → Stands (handed ++ take 1 r.pending) came (after_take r)
take_stands handed came r h =
    let same : count_kept (after_take r) ≡ count_kept r = omega (arith, ap length (take-append-drop 1 r.pending), length-append (take 1 r.pending) (drop 1 r.pending), length-take 1 r.pending) in
    record {
      taken = omega (arith, h.taken, length-append handed (take 1 r.pending), length-take 1 r.pending);
      events = append_assoc handed (take 1 r.pending) (drop 1 r.pending) ∙ ap (λ xs. handed ++ xs) (take-append-drop 1 r.pending) ∙ h.events ∙ take_ended r.pending r came r.ended same;
    }

step_stands : (handed came : List Transition) (r : Ring) (s : WatchStep) → Stands handed came r → Stands (handed ++ handed_by r s) (came ++ came_by s) (after_step r s)
step_stands handed came r (step.Push t) h = rw (append-nil handed) (push_stands handed came r t r.ended refl h)
step_stands handed came r step.Take h = rw (append-nil came) (take_stands handed came r h)

-- and so it is after all steps
came_more : (s : WatchStep) (steps : List WatchStep) → came_in (s ∷ steps) ≡ came_by s ++ came_in steps
came_more (step.Push t) steps = refl
came_more step.Take steps = refl

all_stand : (handed came : List Transition) (r : Ring) (steps : List WatchStep) → Stands handed came r → Stands (handed ++ handed_out r steps) (came ++ came_in steps) (ring_after r steps)
all_stand handed came r [] h = rw (append-nil handed, append-nil came) h
all_stand handed came r (s ∷ steps) h =
    rw (came_more s steps, sym (append_assoc handed (handed_by r s) (handed_out (after_step r s) steps)), sym (append_assoc came (came_by s) (came_in steps)))
    (all_stand (handed ++ handed_by r s) (came ++ came_by s) (after_step r s) steps (step_stands handed came r s h))

owed_as : (r : Ring) (ended : Option ℕ) (came events : List Transition) → events ≡ kept_of r ended came → (let x : Owed = record { events = events; is_lost = is_some ended } in x) ≡ owed_by r ended came
owed_as r None came events is = ap (λ xs. (let x : Owed = record { events = xs; is_lost = false } in x)) is
owed_as r (Some count) came events is =
    let all : count_kept r ≡ count_kept r - 0 = omega arith in
    ap (λ xs. (let x : Owed = record { events = xs; is_lost = true } in x)) (is ∙ ap (λ n. take n came) all)

pub owes_taken_and_pending : OwesTakenAndPending
owes_taken_and_pending steps =
    let r = ring_after new_ring steps in
    let first : Stands [] [] new_ring = record { taken = refl; events = refl } in
    owed_as r r.ended (came_in steps) (handed_out new_ring steps ++ r.pending) (all_stand [] [] new_ring steps first).events
