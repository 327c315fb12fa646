-- Events are given as the notes that they spell.
use Rattle.std.proofs.Common.{◌≡◌, ℕ, List, Option, Result, Ok, Err, refl}
use Rattle.std.specs.Prelude.{IfErr}
use Rattle.virt_types.specs.Memory.{UnlessNoMemory}
use Rattle.virt_types.specs.Below.types_base.declared.memory.OrNoMemory.{OrNoMemory}
use Rattle.virt_types.specs.Below.types_base.declared.memory.OrNoMemory.TheVariants as or
use Rattle.virt_types.specs.declared.value.Note.{Note}
use Rattle.wire_spec.specs.declared.message.Packet.{Packet}
use Rattle.procedure_spec.specs.EventsReading.{note_of}
use Rattle.procedure_spec.specs.declared.fault.ArgFault.{ArgFault}
use Rattle.rpc_client.specs.Inflow.{Gives, GivesNone, Inflow}
use Rattle.rpc_client.specs.Notes.{HasNone, told}
use Rattle.rpc_client.specs.declared.fault.ClientFault.{ClientFault}
use Rattle.rpc_client.specs.declared.fault.ClientFault.TheVariants as fault

module _ {S : Type 0} (left : S → Option (List ℕ)) (faults : S → ℕ) where
  -- no event came, so no note was given
  pub none_noted : (last : ℕ) (old new : Inflow S) (e : OrNoMemory ClientFault) → GivesNone left faults last old new e → HasNone left faults last old new e
  none_noted last old new (or.Fault (fault.WrongSerial sent got)) s = s
  none_noted last old new (or.Fault fault.Link) s = s
  none_noted last old new (or.Fault (fault.BadPacket bad)) s = s
  none_noted last old new (or.Fault fault.BadPayload) s = absurd s.over
  none_noted last old new (or.Fault fault.End) s = s
  none_noted last old new (or.Fault fault.Spent) s = s
  none_noted last old new or.NoMemory s = tt

  foreign : (old new : Inflow S) (event : Packet) (read : Result Note ArgFault) (why : ClientFault) → Gives left faults old new event
      → note_of event.header event.payload ≡ read → told read ≡ Err why → (last : ℕ) → HasNone left faults last old new (or.Fault why)
  foreign old new event (Ok note) why gives is e last = absurd cc
  foreign old new event (Err f) fault.BadPayload gives is e last = record { event = event; gives = gives; why = f; fault_is = is }
  foreign old new event (Err f) fault.Link gives is e last = absurd cc
  foreign old new event (Err f) (fault.BadPacket bad) gives is e last = absurd cc
  foreign old new event (Err f) (fault.WrongSerial sent got) gives is e last = absurd cc
  foreign old new event (Err f) fault.End gives is e last = absurd cc
  foreign old new event (Err f) fault.Spent gives is e last = absurd cc

  -- the event spells no note
  pub event_foreign : (last : ℕ) (old new : Inflow S) (event : Packet) (r : Result Note (OrNoMemory ClientFault)) → Gives left faults old new event
      → UnlessNoMemory r (told (note_of event.header event.payload)) → IfErr r (HasNone left faults last old new)
  event_foreign last old new event (Ok note) gives is = tt
  event_foreign last old new event (Err or.NoMemory) gives is = tt
  event_foreign last old new event (Err (or.Fault why)) gives is = foreign old new event (note_of event.header event.payload) why gives refl is last
