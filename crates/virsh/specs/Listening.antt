-- The events of a domain, as they come after its registration.
use Rattle.std.specs.Prelude.{◌≡◌, ◌⊎◌, ◌-◌, ◌<◌, ℕ, Bool, true, false, List, [], ◌∷◌, ◌&&◌, Option, None, Some, Result, Ok, Err}
use Rattle.std.specs.Io.KnownBytes.{Appends}
use Rattle.std.specs.Str.{bytes_eq}
use Rattle.virt_types.specs.Below.types_base.declared.memory.OrNoMemory.TheVariants as or
use Rattle.virt_types.specs.declared.reference.DomainRef.{DomainRef}
use Rattle.virt_types.specs.declared.value.Note.{Note}
use Rattle.virt_types.specs.declared.value.Note.TheVariants as note
use Rattle.virt_types.specs.declared.value.Value.{Value}
use Rattle.virt_types.specs.declared.value.Value.TheVariants as value
use Rattle.command_spec.specs.declared.command.Command.{Command}
use Rattle.command_spec.specs.declared.command.Command.TheVariants as command
use Rattle.command_spec.specs.declared.form.NumberVerb.TheVariants as number
use Rattle.rpc_client.specs.Calling.{Connection}
use Rattle.rpc_client.specs.Notes.{GivesNoNote, GivesNote}
use Rattle.command_spec.specs.Printed.{notes_text}
use Rattle.rpc_client.specs.declared.fault.ClientFault.{ClientFault}
use Rattle.virsh.specs.Printing.{IsCutOff, IsPut}
use Rattle.virsh.specs.declared.stop.Stop.{Stop}
use Rattle.virsh.specs.declared.stop.Stop.TheVariants as stop

-- whose events a command waits for, and how many of them
abbrev pub heard_of : Command → List Value → Option (DomainRef × ℕ)
heard_of (command.Number number.Event name n) (value.Domain d ∷ values) = Some (d, n)
heard_of asked values = None

-- an event of this domain
abbrev pub is_same : DomainRef → List ℕ → List ℕ → Bool
is_same d name uuid = bytes_eq d.name name && bytes_eq d.uuid uuid

abbrev pub is_of : DomainRef → Note → Bool
is_of d (note.Event name uuid t) = is_same d name uuid
is_of d (note.Lost name uuid) = is_same d name uuid

-- how many are still wanted after one of so many: none after `events lost`
abbrev pub wanted : ℕ → Note → ℕ
wanted count (note.Event name uuid t) = count - 1
wanted count (note.Lost name uuid) = 0

unfoldable pub still_wanted : ℕ → List Note → ℕ
still_wanted count [] = count
still_wanted count (n ∷ notes) = still_wanted (wanted count n) notes

module _ {S K : Type 0} (left : S → Option (List ℕ)) (source_faults : S → ℕ) where
  -- these came in order, each of the domain
  unfoldable pub Hears : DomainRef → Connection S K → List Note → Connection S K → Type 0
  Hears d old [] new = new ≡ old
  Hears d old (n ∷ notes) new = (then : Connection S K)
      × GivesNote left source_faults old then n × (is_of d n ≡ true) × Hears d then notes new

  -- no event came, or one of another domain
  abbrev pub IsUnheard : DomainRef → Connection S K → Connection S K → Type 0
  IsUnheard d old new = ((why : ClientFault) × GivesNoNote left source_faults old new (or.Fault why))
      ⊎ ((n : Note) × GivesNote left source_faults old new n × (is_of d n ≡ false))

  -- the next event came, of this domain
  abbrev pub GivesOf : DomainRef → Connection S K → Connection S K → Note → Type 0
  GivesOf d old new n = GivesNote left source_faults old new n × (is_of d n ≡ true)

  -- or none did
  abbrev pub IsNoNote : DomainRef → Connection S K → Connection S K → Stop → Type 0
  IsNoNote d old new (stop.Refused why) = ⊥
  IsNoNote d old new stop.Link = IsUnheard d old new
  IsNoNote d old new stop.NoMemory = Unit {0}

module _ {S K O : Type 0} (left : S → Option (List ℕ)) (source_faults : S → ℕ) (shown : O → Option (List ℕ)) (out_faults : O → ℕ) where
  -- so many events came, and their lines are printed
  pub record IsHeard (d : DomainRef) (count : ℕ) (old new : Connection S K) (out after : O) : Type 0 where
    pub notes : List Note
    pub heard : Hears left source_faults d old notes new
    pub enough : still_wanted count notes ≡ 0
    pub put : IsPut shown out_faults (notes_text notes) out after

  -- standard output failed in the line of an event
  pub record IsCutIn (d : DomainRef) (old new : Connection S K) (out after : O) : Type 0 where
    pub notes : List Note
    pub heard : Hears left source_faults d old notes new
    pub cut : IsCutOff shown out_faults (notes_text notes) out after

  -- the lines of some events are printed, and the next one does not come
  pub record IsLeft (d : DomainRef) (count : ℕ) (old new : Connection S K) (out after : O) : Type 0 where
    pub notes : List Note
    pub then : Connection S K
    pub heard : Hears left source_faults d old notes then
    pub wanted : 0 < still_wanted count notes
    pub unheard : IsUnheard left source_faults d then new
    pub put : IsPut shown out_faults (notes_text notes) out after

  abbrev pub HasListened : DomainRef → ℕ → Connection S K → Connection S K → O → O → Result (Unit {0}) Stop → Type 0
  HasListened d count old new out after (Ok done) = IsHeard d count old new out after
  HasListened d count old new out after (Err (stop.Refused why)) = ⊥
  HasListened d count old new out after (Err stop.Link) = IsCutIn d old new out after ⊎ IsLeft d count old new out after
  HasListened d count old new out after (Err stop.NoMemory) = (text : List ℕ) × Appends (shown out) (shown after) text
