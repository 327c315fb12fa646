-- How an address is spelt (IEEE 802, EUI-48).
use Rattle.std.specs.Prelude.{ℕ, ◌/◌, ◌%◌, List, [], ◌∷◌, map}
use Rattle.std.specs.List.{join_with_byte}
use Rattle.std.specs.Char.{digit_char}
use Rattle.types_base.specs.declared.mac.Mac.{Mac}

-- a byte as two hexadecimal digits
abbrev pub byte_text : ℕ → List ℕ
byte_text byte = digit_char (byte / 16) ∷ digit_char (byte % 16) ∷ []

-- the letter between two bytes of an address
abbrev pub colon : ℕ
colon = 58

-- an address as pairs of small hexadecimal digits, with colons between them
unfoldable pub mac_text : Mac → List ℕ
mac_text mac = join_with_byte colon (map byte_text mac.bytes)
