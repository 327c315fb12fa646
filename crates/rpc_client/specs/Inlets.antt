-- The inlet of a client, as its steps leave it. No public clause cites this.
use Rattle.std.specs.Prelude.{◌≡◌, ◌≤◌, ◌^◌, ℕ, true, List, [], ◌∷◌, ◌++◌, Option, None, Some}
use Rattle.wire_spec.specs.Packets.{fault}
use Rattle.wire_spec.specs.declared.message.Packet.{Packet}
use Rattle.rpc_client.specs.Inflow.{Hears, Inflow, Passes}
use Rattle.rpc_client.specs.Messages.{is_reply}
use Rattle.rpc_client.specs.declared.inlet.Inlet.{Inlet}

abbrev pub seen : {S : Type 0} → Inlet S → Inflow S
seen i = record { source = i.source; ready = i.feed.ready; rest = i.feed.rest; taken = i.taken; events = i.events.items }

-- the fault that is remembered is that of the bytes, and not too many were taken
pub record Stands {S : Type 0} (i : Inlet S) : Type 0 where
  pub bad_is : i.bad ≡ fault i.feed.rest
  pub within : i.taken ≤ 2 ^ 62

module _ {S : Type 0} (left : S → Option (List ℕ)) (faults : S → ℕ) where
  -- one packet was looked at: a reply, or none
  abbrev pub Learns : Inflow S → Inflow S → Option Packet → Type 0
  Learns old new None = (p : Packet) × Hears left faults old new (p ∷ [])
  Learns old new (Some reply) = Passes left faults old new (reply ∷ []) × (is_reply reply.header ≡ true) × (new.events ≡ old.events)
