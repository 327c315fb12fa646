-- Events are given in order.
use Rattle.std.proofs.Common.{◌≡◌, ◌≤◌, ℕ, true, List, [], ◌∷◌, Option, refl, sym, ◌∙◌}
use Rattle.virt_types.specs.Below.types_base.declared.memory.OrNoMemory.{OrNoMemory}
use Rattle.virt_types.specs.Below.types_base.declared.memory.OrNoMemory.TheVariants as or
use Rattle.wire_spec.specs.declared.message.Packet.{Packet}
use Rattle.rpc_client.specs.Inflow.{Gives, GivesNone, Hears, Inflow, Passes, StopsOrNoMemory}
use Rattle.rpc_client.specs.Messages.{is_reply}
use Rattle.rpc_client.specs.declared.fault.ClientFault.{ClientFault}
use Rattle.rpc_client.specs.declared.fault.ClientFault.TheVariants as fault
use Rattle.rpc_client.proofs.Hearing.{gets_after, stops_then}

module _ {S : Type 0} (left : S → Option (List ℕ)) (faults : S → ℕ) where
  -- the oldest of those that were kept
  pub gives_kept : (old flow : Inflow S) (rest packets : List Packet) (event : Packet) → Hears left faults old flow packets → flow.events ≡ event ∷ rest → Gives left faults old (record flow { events = rest }) event
  gives_kept old flow rest packets event hears is = record {
    packets = packets;
    passes = record { bytes = hears.passes.bytes; consumed = hears.passes.consumed; count = hears.passes.count; parts = hears.passes.parts; each = hears.passes.each };
    no_reply = hears.no_reply;
    events = sym hears.events ∙ is;
  }

  -- a reply came that no call waits for
  pub gives_stray : (last : ℕ) (old mid new : Inflow S) (packets : List Packet) (reply : Packet) → Hears left faults old mid packets → Passes left faults mid new (reply ∷ []) → is_reply reply.header ≡ true → new.events ≡ mid.events
      → GivesNone left faults last old new (or.Fault (fault.WrongSerial last reply.header.serial))
  gives_stray last old mid new packets reply hears passes is events = record {
    reply = reply;
    gets = gets_after left faults old mid new packets reply hears passes is events;
    sent_is = refl;
    got_is = refl;
  }

  none_given : (last : ℕ) (old new : Inflow S) (e : OrNoMemory ClientFault) → StopsOrNoMemory left faults old new e → GivesNone left faults last old new e
  none_given last old new (or.Fault (fault.WrongSerial sent got)) s = absurd s.over
  none_given last old new (or.Fault fault.Link) s = s
  none_given last old new (or.Fault (fault.BadPacket bad)) s = s
  none_given last old new (or.Fault fault.BadPayload) s = s
  none_given last old new (or.Fault fault.End) s = s
  none_given last old new (or.Fault fault.Spent) s = s
  none_given last old new or.NoMemory s = tt

  -- no packet came any more
  pub gives_none : (last : ℕ) (old mid new : Inflow S) (packets : List Packet) (e : OrNoMemory ClientFault) → Hears left faults old mid packets → faults old.source ≤ faults mid.source → StopsOrNoMemory left faults mid new e → GivesNone left faults last old new e
  gives_none last old mid new packets e hears later s = none_given last old new e (stops_then left faults old mid new packets e hears later s)
