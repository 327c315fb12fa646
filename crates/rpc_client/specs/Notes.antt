-- The notes that events spell, as a client gives them.
use Rattle.std.specs.Prelude.{◌≡◌, ℕ, List, Option, Result, Ok, Err}
use Rattle.virt_types.specs.Below.types_base.declared.memory.OrNoMemory.{OrNoMemory}
use Rattle.virt_types.specs.Below.types_base.declared.memory.OrNoMemory.TheVariants.{Fault, NoMemory}
use Rattle.virt_types.specs.declared.value.Note.{Note}
use Rattle.wire_spec.specs.declared.message.Packet.{Packet}
use Rattle.procedure_spec.specs.Events.{IsNote}
use Rattle.procedure_spec.specs.EventsReading.{note_of}
use Rattle.procedure_spec.specs.declared.fault.ArgFault.{ArgFault}
use Rattle.rpc_client.specs.Calling.{Connection}
use Rattle.rpc_client.specs.Inflow.{Gives, GivesNone, Inflow}
use Rattle.rpc_client.specs.declared.fault.ClientFault.{ClientFault}
use Rattle.rpc_client.specs.declared.fault.ClientFault.TheVariants.{BadPayload}

-- what was read of an event
abbrev pub told : Result Note ArgFault → Result Note ClientFault
told (Ok note) = Ok note
told (Err fault) = Err BadPayload

module _ {S : Type 0} (left : S → Option (List ℕ)) (faults : S → ℕ) where
  -- the oldest event that was not given yet spells this note
  pub record Spells (old new : Inflow S) (note : Note) : Type 0 where
    pub event : Packet
    pub gives : Gives left faults old new event
    pub is_note : IsNote event.header event.payload note

  -- the oldest event that was not given yet spells no note
  pub record IsForeign (old new : Inflow S) : Type 0 where
    pub event : Packet
    pub gives : Gives left faults old new event
    pub why : ArgFault
    pub fault_is : note_of event.header event.payload ≡ Err why

  -- why no note was given, where the last call had this number
  abbrev pub HasNone : ℕ → Inflow S → Inflow S → OrNoMemory ClientFault → Type 0
  HasNone last old new (Fault BadPayload) = IsForeign old new
  HasNone last old new why = GivesNone left faults last old new why

module _ {S K : Type 0} (left : S → Option (List ℕ)) (source_faults : S → ℕ) where
  -- the note of the oldest event was given, and nothing was sent
  pub record GivesNote (old new : Connection S K) (note : Note) : Type 0 where
    pub spells : Spells left source_faults old.inflow new.inflow note
    pub sink : new.sink ≡ old.sink
    pub serial : new.serial ≡ old.serial

  -- none was given, and nothing was sent
  pub record GivesNoNote (old new : Connection S K) (why : OrNoMemory ClientFault) : Type 0 where
    pub none : HasNone left source_faults old.serial old.inflow new.inflow why
    pub sink : new.sink ≡ old.sink
    pub serial : new.serial ≡ old.serial
