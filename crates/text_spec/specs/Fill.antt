-- What is filled in where a definition lacks it: an identifier of version 4 (RFC 9562, section 5.4),
-- and addresses of this project's own range.
use Rattle.std.specs.Prelude.{◌≡◌, ℕ, zero, suc, ◌+◌, ◌*◌, ◌/◌, ◌%◌, ◌^◌, ◌<◌, List, [], ◌∷◌, ◌++◌, Bool, false, Option, Some, None, if◌then◌else◌}
use Rattle.std.specs.Int.{to_be_bytes, w128}
use Rattle.std.specs.List.{list_any}
use Rattle.std.specs.Option.{option_map_or}
use Rattle.std.specs.Str.{bytes_eq}
use Rattle.uuid.specs.declared.Variant.TheVariants.{RFC4122}
use Rattle.uuid.specs.declared.Version.TheVariants.{Random}
use Rattle.uuid.specs.Parts.{with_variant, with_version}
use Rattle.types_base.specs.declared.device_def.DeviceDef.{DeviceDef}
use Rattle.types_base.specs.declared.device_def.DeviceDef.TheVariants as device
use Rattle.types_base.specs.declared.device_def.Interface.{Interface}
use Rattle.types_base.specs.declared.domain_def.DomainDef.{DomainDef}
use Rattle.types_base.specs.declared.mac.Mac.{Mac}

-- ---- identifiers
-- the identifier of two words, the high byte first
unfoldable pub version_4 : ℕ → ℕ → List ℕ
version_4 high low = with_version (with_variant (to_be_bytes w128 (high * 2 ^ 64 + low)) RFC4122) Random

-- An absent identifier is made of the two words that were drawn for it. One that is there stays, and
-- no word is drawn.
abbrev pub IsUuidFilled : List ℕ → Option (List ℕ) → Option (List ℕ) → Type 0
IsUuidFilled words None new = (high : ℕ) × (low : ℕ) × (new ≡ Some (version_4 high low)) × (words ≡ high ∷ low ∷ [])
IsUuidFilled words (Some uuid) new = (new ≡ Some uuid) × (words ≡ [])

-- ---- addresses
-- how many addresses the range has
abbrev pub tails : ℕ
tails = 2 ^ 24

-- the address 52:54:00 with three further bytes
unfoldable pub local_mac : ℕ → Mac
local_mac tail =
    record { bytes = 0x52 ∷ 0x54 ∷ 0x00 ∷ tail / 2 ^ 16 ∷ tail / 2 ^ 8 % 2 ^ 8 ∷ tail % 2 ^ 8 ∷ [] }

unfoldable pub has_mac : Mac → Interface → Bool
has_mac mac i = option_map_or (λ own. bytes_eq own.bytes mac.bytes) i.mac false

-- one of these interfaces has this address
abbrev pub is_taken : List Interface → Mac → Bool
is_taken interfaces mac = list_any (has_mac mac) interfaces

-- the next one
abbrev pub next_tail : ℕ → ℕ
next_tail tail = (tail + 1) % tails

-- raised by one until no interface has it, in at most so many steps
unfoldable pub raised : ℕ → List Interface → ℕ → ℕ
raised zero interfaces tail = tail
raised (suc n) interfaces tail =
    if is_taken interfaces (local_mac tail) then raised n interfaces (next_tail tail) else tail

-- the address of a word among these interfaces
abbrev pub mac_among : List Interface → ℕ → Mac
mac_among interfaces word = local_mac (raised tails interfaces (word % tails))

abbrev pub with_own : Interface → Mac → Interface
with_own i mac = record i { mac = Some mac }

-- one of these interfaces, and what it is once it has an address, by the word that was drawn for it
abbrev pub IsMacFilled : List ℕ → List Interface → Interface → Option Mac → Interface → Type 0
IsMacFilled words interfaces old None new = (word : ℕ) × (new ≡ with_own old (mac_among interfaces word)) × (words ≡ word ∷ [])
IsMacFilled words interfaces old (Some mac) new = (new ≡ old) × (words ≡ [])

-- interfaces one after another, after those that are filled already
abbrev pub AreMacsFilled : List ℕ → List Interface → List Interface → List Interface → Type 0
AreMacsFilled words before [] [] = words ≡ []
AreMacsFilled words before [] (j ∷ new) = ⊥
AreMacsFilled words before (i ∷ old) [] = ⊥
AreMacsFilled words before (i ∷ old) (j ∷ new) =
    (first : List ℕ) × (others : List ℕ) × IsMacFilled first (before ++ i ∷ old) i i.mac j
    × AreMacsFilled others (before ++ j ∷ []) old new × (words ≡ first ++ others)

-- ---- definitions
-- a definition, and the same with all that it lacked, of these words in order: those for its
-- identifier, then those for its interfaces
pub record IsFilledBy (words : List ℕ) (old new : DomainDef) : Type 0 where
  pub for_uuid : List ℕ
  pub for_macs : List ℕ
  pub uuid : IsUuidFilled for_uuid old.uuid new.uuid
  pub macs : AreMacsFilled for_macs [] old.interfaces new.interfaces
  pub others : new ≡ record old { uuid = new.uuid; interfaces = new.interfaces }
  pub order : words ≡ for_uuid ++ for_macs

-- filled in, of whichever words
abbrev pub IsFilled : DomainDef → DomainDef → Type 0
IsFilled old new = (words : List ℕ) × IsFilledBy words old new

-- an interface on its own gets the address of a word as it is
abbrev pub IsAloneFilled : List ℕ → Interface → Option Mac → DeviceDef → Type 0
IsAloneFilled words old None new = (word : ℕ) × (new ≡ device.Interface (with_own old (local_mac (word % tails)))) × (words ≡ word ∷ [])
IsAloneFilled words old (Some mac) new = (new ≡ device.Interface old) × (words ≡ [])

-- a device, and the same with the address that it lacked, of these words
abbrev pub IsDeviceFilledBy : List ℕ → DeviceDef → DeviceDef → Type 0
IsDeviceFilledBy words (device.Disk d) new = (new ≡ device.Disk d) × (words ≡ [])
IsDeviceFilledBy words (device.Interface i) new = IsAloneFilled words i i.mac new

-- filled in, of whichever words
abbrev pub IsDeviceFilled : DeviceDef → DeviceDef → Type 0
IsDeviceFilled old new = (words : List ℕ) × IsDeviceFilledBy words old new
