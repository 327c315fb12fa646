use Rattle.std.proofs.Common.{◌≡◌, ℕ, ◌<◌, true}
use Rattle.event_queue.specs.Listening.{has_client}
use Rattle.event_queue.proofs.listeners.Listeners.least_free.Given as goal

abbrev pub invariant-loop-client : goal.invariant-loop-client
invariant-loop-client l = (n : ℕ) → n < l.client → has_client l.self.listeners n ≡ true
