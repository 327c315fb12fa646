-- What a registration hands out, against what it is owed.
use Rattle.std.specs.Prelude.{◌≡◌, ℕ, List, [], ◌∷◌, ◌++◌, take, is_some, Option, None, Some}
use Rattle.domain_spec.specs.Types.{Transition}
use Rattle.domain_spec.specs.declared.owed.Owed.{Owed}
use Rattle.domain_spec.specs.Owed.{owed_all, owed_cut}
use Rattle.event_queue.specs.declared.step.WatchStep.{WatchStep}
use Rattle.event_queue.specs.declared.step.WatchStep.TheVariants as step
use Rattle.event_queue.specs.Ring.{Ring, after_push, after_take, count_kept, new_ring}

-- the ring after one step
abbrev pub after_step : Ring → WatchStep → Ring
after_step r (step.Push t) = after_push r t
after_step r step.Take = after_take r

-- the ring after these steps
abbrev pub ring_after : Ring → List WatchStep → Ring
ring_after r [] = r
ring_after r (s ∷ steps) = ring_after (after_step r s) steps

-- what a step hands out
abbrev pub handed_by : Ring → WatchStep → List Transition
handed_by r (step.Push t) = []
handed_by r step.Take = take 1 r.pending

-- what was handed out by these steps
abbrev pub handed_out : Ring → List WatchStep → List Transition
handed_out r [] = []
handed_out r (s ∷ steps) = handed_by r s ++ handed_out (after_step r s) steps

-- all transitions that came
abbrev pub came_in : List WatchStep → List Transition
came_in [] = []
came_in (step.Push t ∷ steps) = t ∷ came_in steps
came_in (step.Take ∷ steps) = came_in steps

-- what a registration is owed to which these transitions came: all of them, or those that it kept
-- before its end and then its loss
abbrev pub owed_by : Ring → Option ℕ → List Transition → Owed
owed_by r None came = owed_all came
owed_by r (Some count) came = owed_cut came (count_kept r) 0

-- what was handed out and then what pends, and then a loss that is due
abbrev pub given : List Transition → Ring → Owed
given handed r = record { events = handed ++ r.pending; is_lost = is_some r.ended }

-- from its beginning on a registration gives what it is owed
abbrev pub OwesTakenAndPending : Type 0
OwesTakenAndPending =
    (steps : List WatchStep)
    → given (handed_out new_ring steps) (ring_after new_ring steps)
    ≡ owed_by (ring_after new_ring steps) (ring_after new_ring steps).ended (came_in steps)
