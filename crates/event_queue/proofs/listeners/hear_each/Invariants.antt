use Rattle.std.proofs.Common.{◌≡◌, ◌+◌, ◌≤◌, map, length}
use Rattle.event_queue.specs.Each.{HeardTo}
use Rattle.event_queue.specs.Listening.{cut_mark}
use Rattle.event_queue.proofs.listeners.hear_each.Given as goal

abbrev pub invariant-loop-listener : goal.invariant-loop-listener
invariant-loop-listener l =
    HeardTo l.events l.initial.listener-items l.listener-items (map cut_mark l.initial.cuts.items) (map cut_mark l.cuts.items) l.listener-index
    × (l.cuts.cap ≡ l.initial.cuts.cap) × (l.cuts.len ≤ l.initial.cuts.len + l.listener-index)
