-- MAC addresses as texts: six pairs of hexadecimal digits in either case, with colons between them
-- (IEEE 802, EUI-48).
use Rattle.std.specs.Prelude.{ℕ, ◌+◌, ◌-◌, ◌*◌, ◌∷◌, [], List, length, slice_index, Bool, ◌&&◌, ◌==◌, nat_le, Option, Some, None, option_and_then, option_map, if◌then◌else◌}
use Rattle.types_base.specs.declared.mac.Mac.{Mac}

-- the value of a hexadecimal digit
unfoldable pub hex_value : ℕ → Option ℕ
hex_value c =
    if nat_le 48 c && nat_le c 57 then Some (c - 48)
    else (if nat_le 97 c && nat_le c 102 then Some (c - 87)
    else (if nat_le 65 c && nat_le c 70 then Some (c - 55) else None))

-- the byte of the pair of digits at a place
unfoldable pub byte_at : List ℕ → ℕ → Option ℕ
byte_at text i =
    option_and_then (λ high. option_map (λ low. high * 16 + low) (hex_value (slice_index text (i + 1)))) (hex_value (slice_index text i))

abbrev pub is_colon_at : List ℕ → ℕ → Bool
is_colon_at text i = slice_index text i == 58

-- as long as an address is, with colons where it has them
unfoldable pub has_colons : List ℕ → Bool
has_colons text =
    (length text == 17) && (is_colon_at text 2 && (is_colon_at text 5 && (is_colon_at text 8 && (is_colon_at text 11 && is_colon_at text 14))))

abbrev pub mac_with : ℕ → ℕ → ℕ → ℕ → ℕ → ℕ → Mac
mac_with a b c d e f = record { bytes = a ∷ b ∷ c ∷ d ∷ e ∷ f ∷ [] }

abbrev pub six_bytes : List ℕ → Option Mac
six_bytes text =
    option_and_then (λ a. option_and_then (λ b. option_and_then (λ c. option_and_then (λ d. option_and_then (λ e.
    option_map (λ f. mac_with a b c d e f)
    (byte_at text 15)) (byte_at text 12)) (byte_at text 9)) (byte_at text 6)) (byte_at text 3)) (byte_at text 0)

-- the address that a text is
unfoldable pub mac_of : List ℕ → Option Mac
mac_of text = if has_colons text then six_bytes text else None
