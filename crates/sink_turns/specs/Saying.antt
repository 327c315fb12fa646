-- What contracts see of a sink that threads share, and what a message or a flush leaves in it.
use Rattle.std.specs.Prelude.{◌≡◌, ◌⊎◌, ◌<◌, ◌≤◌, ◌++◌, ◌&&◌, nat_le, ℕ, Bool, true, false, List, [], ◌∷◌, length, Option, Result, Ok, Err, if◌then◌else◌}
use Rattle.std.specs.Io.KnownBytes.{Appends}
use Rattle.outside_spec.specs.Faults.{Rose}
use Rattle.sink_turns.specs.declared.mark.Deed.{Deed}
use Rattle.sink_turns.specs.declared.mark.Deed.TheVariants.{Said, Put, Cut}
use Rattle.sink_turns.specs.declared.mark.Mark.{Mark}
use Rattle.sink_turns.specs.declared.mark.Start.{Start}
use Rattle.sink_turns.specs.declared.message.Message.{Message}
use Rattle.sink_turns.specs.declared.spoken.Unsaid.{Unsaid}
use Rattle.sink_turns.specs.declared.spoken.Unsaid.TheVariants.{SinkFault, NoMemory}
use Rattle.sink_turns.specs.declared.spoken.TheConstants.{MOST_WAITING}
use Rattle.sink_turns.specs.Marks.{marks_by}
use Rattle.sink_turns.specs.Text.{AreLawful, Text, nothing, text}

pub record Spoken : Type 0 where
  -- the sink before the first message
  pub start : Start
  pub marks : List Mark
  -- the bytes that it holds now, where it reports them, and how often it has failed
  pub held : Option (List ℕ)
  pub faults : ℕ

-- a sink to which nothing was said
abbrev pub opened : Option (List ℕ) → ℕ → Spoken
opened held faults = record { start = record { held = held; faults = faults }; marks = []; held = held; faults = faults }

-- what is so at each moment: nothing follows a fault, the sink took just what the marks say, and it failed only where its
-- count of faults rose
pub record IsSpoken (o : Spoken) : Type 0 where
  pub lawful : AreLawful nothing o.marks
  pub bytes : Appends o.start.held o.held (text o.marks).sent
  pub later : o.start.faults ≤ o.faults
  pub cause : (text o.marks).cut ≡ true → Rose o.start.faults o.faults

-- it holds also what waits and whether it failed
pub record Keeps (o : Spoken) (waits : List ℕ) (cut : Bool) : Type 0 where
  pub spoken : IsSpoken o
  pub cut_is : cut ≡ (text o.marks).cut
  pub waits_are : cut ≡ false → waits ≡ (text o.marks).waits
  pub within : length waits ≤ MOST_WAITING

-- these deeds were added, in the turn of the pass of this number
pub record Adds (by : ℕ) (deeds : List Deed) (old new : Spoken) : Type 0 where
  pub start : new.start ≡ old.start
  pub marks : new.marks ≡ old.marks ++ marks_by by deeds

-- a message waits where its sender has more to say and there is room
abbrev pub does_wait : Text → Message → Bool → Bool
does_wait t message more = more && nat_le (length (t.waits ++ message.bytes)) MOST_WAITING

-- nothing was put, since the sink had failed; or it failed once it took a front of these bytes
abbrev pub HasFailed : Text → List ℕ → List Deed → List Deed → Type 0
HasFailed t bytes front deeds = ((t.cut ≡ true) × (deeds ≡ [])) ⊎ ((count : ℕ) × (t.cut ≡ false) × (count < length bytes) × (deeds ≡ front ++ Cut count ∷ []))

-- what a message leaves: it waits, or it and all that waited was put; or the sink failed; or there was no memory
abbrev pub SaidSo : Text → Message → Bool → Result (Unit {0}) Unsaid → List Deed → Type 0
SaidSo t message more (Ok _) deeds = (t.cut ≡ false) × (deeds ≡ Said message ∷ (if does_wait t message more then [] else Put ∷ []))
SaidSo t message more (Err SinkFault) deeds = HasFailed t (t.waits ++ message.bytes) (Said message ∷ []) deeds
SaidSo t message more (Err NoMemory) deeds = deeds ≡ []

-- what a flush leaves: all that waited was put, or nothing waited; or the sink failed; or there was no memory
abbrev pub FlushedSo : Text → Result (Unit {0}) Unsaid → List Deed → Type 0
FlushedSo t (Ok _) deeds = (t.cut ≡ false) × (((t.waits ≡ []) × (deeds ≡ [])) ⊎ (deeds ≡ Put ∷ []))
FlushedSo t (Err SinkFault) deeds = HasFailed t t.waits [] deeds
FlushedSo t (Err NoMemory) deeds = deeds ≡ []

-- what putting a message leaves: no public clause cites this
abbrev pub PutSo : Text → Message → Result (Unit {0}) Unsaid → List Deed → Type 0
PutSo t message (Ok _) deeds = deeds ≡ Said message ∷ Put ∷ []
PutSo t message (Err SinkFault) deeds = (count : ℕ) × (count < length (t.waits ++ message.bytes)) × (deeds ≡ Said message ∷ Cut count ∷ [])
PutSo t message (Err NoMemory) deeds = deeds ≡ []

abbrev pub Puts : ℕ → Message → Result (Unit {0}) Unsaid → Spoken → Spoken → Type 0
Puts by message result old new = (deeds : List Deed) × Adds by deeds old new × PutSo (text old.marks) message result deeds

abbrev pub Says : ℕ → Message → Bool → Result (Unit {0}) Unsaid → Spoken → Spoken → Type 0
Says by message more result old new = (deeds : List Deed) × Adds by deeds old new × SaidSo (text old.marks) message more result deeds

abbrev pub Flushes : ℕ → Result (Unit {0}) Unsaid → Spoken → Spoken → Type 0
Flushes by result old new = (deeds : List Deed) × Adds by deeds old new × FlushedSo (text old.marks) result deeds
