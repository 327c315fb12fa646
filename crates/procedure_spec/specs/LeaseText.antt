-- Addresses in leases, as texts: of an interface (IEEE 802, EUI-48), and of the network (RFC 791), as four decimal numbers.
use Rattle.std.specs.Prelude.{ℕ, ◌==◌, ◌&&◌, ◌^◌, nat_lt, List, map, bytes_eq, Option, None, Some, option_and_then, if◌then◌else◌}
use Rattle.std.specs.Int.{w32, from_be_bytes, to_be_bytes}
use Rattle.std.specs.List.{slice_split}
use Rattle.std.specs.Net.Text.{ipv4_text}
use Rattle.std.specs.Str.Parse.{digits_value}
use Rattle.virt_types.specs.Mac.{mac_text}
use Rattle.virt_types.specs.Below.types_base.declared.mac.Mac.{Mac}
use Rattle.text_spec.specs.MacText.{mac_of}

-- an address of the network as a text; its first number is the highest byte
abbrev pub address_text : ℕ → List ℕ
address_text address = ipv4_text (to_be_bytes w32 address)

-- the address whose bytes these texts are
abbrev pub address_of : List (List ℕ) → ℕ
address_of texts = from_be_bytes w32 (map (digits_value 10) texts)

-- what a text stands for, where it is spelled just as that is
abbrev pub when_written : ℕ → List ℕ → Option ℕ
when_written address text = if nat_lt address (2 ^ 32) && bytes_eq (address_text address) text then Some address else None

unfoldable pub address_written : List ℕ → Option ℕ
address_written text = when_written (address_of (slice_split (λ byte. byte == 46) text)) text

unfoldable pub mac_written : List ℕ → Option Mac
mac_written text = option_and_then (λ mac. if bytes_eq (mac_text mac) text then Some mac else None) (mac_of text)
