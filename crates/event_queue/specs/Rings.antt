-- A registration as its ring has it.
use Rattle.std.specs.Prelude.{ℕ, is_some, unwrap_or}
use Rattle.event_queue.specs.Ring.{Ring}
use Rattle.event_queue.specs.Listening.{Listening}

-- the registration of this pass and client with this ring
abbrev pub listening : ℕ → ℕ → Ring → Listening
listening number client r = record {
  kept = record { number = number; client = client; taken = r.taken; pending = r.pending; is_lost = is_some r.ended };
  lost = unwrap_or r.ended 0;
}
