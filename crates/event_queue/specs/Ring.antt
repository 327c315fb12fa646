-- What a registration keeps: the transitions that pend, the oldest first.
use Rattle.std.specs.Prelude.{ℕ, ◌+◌, ◌-◌, ◌^◌, List, [], ◌∷◌, ◌++◌, drop, length, min, nat_le, nat_lt, take, Bool, true, false, ◌||◌, if◌then◌else◌, Option, None, Some}
use Rattle.domain_spec.specs.Types.{Transition}
use Rattle.event_queue.specs.declared.watch.Pushed.{Pushed}
use Rattle.event_queue.specs.declared.watch.Pushed.TheVariants as pushed

-- what pends, how many were taken, and how many pended as it ended
pub record Ring : Type 0 where
  pub pending : List Transition
  pub taken : ℕ
  pub ended : Option ℕ

-- nothing came yet
abbrev pub new_ring : Ring
new_ring = record { pending = []; taken = 0; ended = None }

-- how many it kept: those that pend, and those that were taken
abbrev pub count_kept : Ring → ℕ
count_kept r = r.taken + length r.pending

-- as many pend as may, or as many came as are counted
abbrev pub is_full : Ring → Bool
is_full r = nat_le 256 (length r.pending) || nat_le (2 ^ 62) (count_kept r)

-- one more pends, after the others; where there is no room for it, the registration ends
abbrev pub pushed_to : Ring → Transition → Ring
pushed_to r t = if is_full r then record r { ended = Some (length r.pending) } else record r { pending = r.pending ++ t ∷ [] }

-- the answer to one more, with how many pended as the registration ended
abbrev pub answer_by : Ring → Option ℕ → Pushed
answer_by r (Some count) = pushed.Lost count
answer_by r None = if is_full r then pushed.Lost (length r.pending) else pushed.Kept

-- a registration that has ended keeps no more
abbrev pub push_by : Ring → Transition → Option ℕ → Ring
push_by r t (Some count) = r
push_by r t None = pushed_to r t

-- how one more transition is answered
abbrev pub answer_to_push : Ring → Pushed
answer_to_push r = answer_by r r.ended

-- the ring after one more transition came
abbrev pub after_push : Ring → Transition → Ring
after_push r t = push_by r t r.ended

-- the ring after the oldest was taken, if one pended
abbrev pub after_take : Ring → Ring
after_take r = record r { pending = drop 1 r.pending; taken = r.taken + min 1 (length r.pending) }

-- the ring after these transitions, one after the other
abbrev pub pushed_all : Ring → List Transition → Ring
pushed_all r [] = r
pushed_all r (t ∷ ts) = pushed_all (after_push r t) ts

-- how many may pend in all, where so many were taken
abbrev pub most_pending : Ring → ℕ
most_pending r = min (r.taken + 256) (2 ^ 62) - r.taken

-- what a registration keeps of these that has not ended: all, or the first as many as may pend
abbrev pub filled_by : Ring → List Transition → Bool → Ring
filled_by r events true = record r { pending = take (most_pending r) events; ended = Some (most_pending r) }
filled_by r events false = record r { pending = events }

-- what a registration keeps of these; one that has ended keeps none
abbrev pub extended_by : Ring → List Transition → Option ℕ → Ring
extended_by r events (Some count) = r
extended_by r events None = filled_by r (r.pending ++ events) (nat_lt (most_pending r) (length r.pending + length events))

-- the ring after these transitions came
abbrev pub after_all : Ring → List Transition → Ring
after_all r events = extended_by r events r.ended

-- the ring after all that pended was taken
abbrev pub after_clear : Ring → Ring
after_clear r = record r { pending = []; taken = r.taken + length r.pending }
