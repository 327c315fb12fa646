-- What an index finds.
use Rattle.std.specs.Prelude.{◌≡◌, ℕ, ◌<◌, List, ◌∷◌, length, get_or, bytes_eq, nat_eq, Option}
use Rattle.std.specs.HashMap.{get}
use Rattle.std.specs.Int.{w64, from_be_bytes}
use Rattle.std.specs.Map.{update}
use Rattle.net_core.specs.declared.mac_index.MacIndex.{MacIndex}

-- the bytes of an interface are six
pub record IsMac (bytes : List ℕ) : Type 0 where
  pub six : length bytes ≡ 6
  pub small : (i : ℕ) → get_or bytes i 0 < 256

-- the number that an interface's bytes are, the first one counting most
abbrev pub number_of : List ℕ → ℕ
number_of bytes = from_be_bytes w64 (0 ∷ 0 ∷ bytes)

-- the address of the interface of these bytes
unfoldable pub address_at : MacIndex → List ℕ → Option ℕ
address_at index bytes = get nat_eq index.addresses (number_of bytes)

-- the interface of these bytes has this address now, or none; all others have what they had
abbrev pub Updates : List ℕ → Option ℕ → MacIndex → MacIndex → Type 0
Updates bytes address old new = (other : List ℕ) → IsMac other → address_at new other ≡ update bytes_eq (address_at old) bytes address other

abbrev pub Stays : MacIndex → MacIndex → Type 0
Stays old new = (other : List ℕ) → address_at new other ≡ address_at old other
