-- Texts of hexadecimal digits, colons and hyphens, as of addresses and identifiers: each stands for
-- itself, so that their lengths say how much room they take.
use Rattle.std.proofs.Common.{◌≡◌, ℕ, zero, suc, ◌+◌, ◌*◌, ◌/◌, ◌%◌, ◌<◌, ◌≤◌, List, [], ◌∷◌, ◌++◌, length, Bool, true, false, refl, ◌∙◌, ap, arith}
use Rattle.std.specs.Prelude.{◌==◌, chars, map, encode_utf8_all, if◌then◌else◌}
use Rattle.std.specs.Char.{digit_char}
use Rattle.std.specs.List.{AllByRecursion, flat_map, join_with_byte}
use Rattle.std.proofs.lemmas.Bool.Decides.{nat_tests}
use Rattle.std.proofs.lemmas.Str.{chars-IsAscii, encode_ascii}
use Rattle.uuid.specs.Text.{by_index, hex_digit, nibble, hyphenated_text, lower, is_hyphen_place, digit_place}
use Rattle.uuid.proofs.TextLemmas.{by_index_length, nibble_small}
use Rattle.types_base.specs.declared.mac.Mac.{Mac}
use Rattle.types_base.specs.Mac.{byte_text, colon, mac_text}
use Rattle.text_spec.specs.Written.{in_text, in_value}
use Rattle.text_laws.specs.Given.{AreBytes, IsMac}
use Rattle.text_laws.proofs.Allowed.{both_all}
use Rattle.text_laws.proofs.Lengths.{room}
use Rattle.text_laws.proofs.Plain.{ArePlain, ascii}

pub record Bare (c : ℕ) : Type 0 where
  pub low : 45 ≤ c
  pub high : c < 127
  pub less : (c == 60) ≡ false
  pub greater : (c == 62) ≡ false

abbrev pub AreBare : List ℕ → Type 0
AreBare cs = AllByRecursion Bare cs

bare_plain : (cs : List ℕ) → AreBare cs → ArePlain cs
bare_plain [] all = tt
bare_plain (c ∷ cs) all = ((omega (arith, all.0.low), all.0.high), bare_plain cs all.1)

-- ---- the room that they take
bare_in_text : (c : ℕ) → Bare c → in_text c ≡ c ∷ []
unfolding in_text
bare_in_text c is =
    let ampersand : (c == 38) ≡ false = grind (arith, nat_tests, is.low) in
    rw (ampersand, is.less, is.greater)

bare_in_value : (c : ℕ) → Bare c → in_value c ≡ c ∷ []
unfolding in_value
bare_in_value c is =
    let quote : (c == 34) ≡ false = grind (arith, nat_tests, is.low) in
    let apostrophe : (c == 39) ≡ false = grind (arith, nat_tests, is.low) in
    rw (quote, apostrophe) (bare_in_text c is)

itself : (f : ℕ → List ℕ) → ((c : ℕ) → Bare c → f c ≡ c ∷ []) → (cs : List ℕ) → AreBare cs → flat_map f cs ≡ cs
itself f each [] all = refl
itself f each (c ∷ cs) all = ap (λ xs. xs ++ flat_map f cs) (each c all.0) ∙ ap (λ xs. c ∷ xs) (itself f each cs all.1)

bare_room : (cs : List ℕ) → AreBare cs → room cs ≡ length cs
bare_room [] all = refl
bare_room (c ∷ cs) all =
    ap (λ xs. length (xs ++ encode_utf8_all cs)) (encode_ascii c (omega (arith, all.0.high))) ∙ ap suc (bare_room cs all.1)

spelled_room : (f : ℕ → List ℕ) → ((c : ℕ) → Bare c → f c ≡ c ∷ []) → (cs : List ℕ) → AreBare cs → room (flat_map f (chars cs)) ≡ length cs
spelled_room f each cs all =
    ap (λ xs. room (flat_map f xs)) (chars-IsAscii cs (ascii cs (bare_plain cs all))) ∙ ap room (itself f each cs all) ∙ bare_room cs all

pub bare_text_room : (cs : List ℕ) → AreBare cs → room (flat_map in_text (chars cs)) ≡ length cs
bare_text_room cs all = spelled_room in_text bare_in_text cs all

pub bare_value_room : (cs : List ℕ) → AreBare cs → room (flat_map in_value (chars cs)) ≡ length cs
bare_value_room cs all = spelled_room in_value bare_in_value cs all

-- ---- addresses
hex_bare : (d : ℕ) → d < 16 → Bare (digit_char d)
hex_bare d h = record {
  low = grind (arith, nat_tests);
  high = grind (arith, nat_tests);
  less = grind (arith, nat_tests);
  greater = grind (arith, nat_tests);
}

byte_bare : (b : ℕ) → b < 256 → AreBare (byte_text b)
byte_bare b h =
    let high : b / 16 < 16 = omega arith in
    let low : b % 16 < 16 = omega arith in
    (hex_bare (b / 16) high, (hex_bare (b % 16) low, tt))

colon_bare : Bare colon
colon_bare = record { low = omega arith; high = omega arith; less = refl; greater = refl }

joined_bare : (bs : List ℕ) → AreBytes bs → AreBare (join_with_byte colon (map byte_text bs))
joined_bare [] all = tt
joined_bare (b ∷ []) all = byte_bare b all.0
joined_bare (b ∷ c ∷ bs) all =
    both_all Bare (byte_text b) (colon ∷ join_with_byte colon (map byte_text (c ∷ bs))) (byte_bare b all.0) (colon_bare, joined_bare (c ∷ bs) all.1)

pub mac_bare : (m : Mac) → IsMac m → AreBare (mac_text m)
unfolding mac_text
mac_bare m is = joined_bare m.bytes is.bytes

joined_length : (b : ℕ) (bs : List ℕ) → length (join_with_byte colon (map byte_text (b ∷ bs))) ≡ 2 + 3 * length bs
joined_length b [] = refl
joined_length b (c ∷ bs) = omega (arith, joined_length c bs)

long_of : (bs : List ℕ) → length bs ≡ 6 → length (join_with_byte colon (map byte_text bs)) ≡ 17
long_of [] e = absurd (omega (arith, e))
long_of (b ∷ bs) e = omega (arith, e, joined_length b bs)

pub mac_length : (m : Mac) → IsMac m → length (mac_text m) ≡ 17
unfolding mac_text
mac_length m is = long_of m.bytes is.six

-- ---- identifiers
digit_bare : (d : ℕ) → d < 16 → Bare (hex_digit lower d)
digit_bare d h = record {
  low = grind (arith, nat_tests);
  high = grind (arith, nat_tests);
  less = grind (arith, nat_tests);
  greater = grind (arith, nat_tests);
}

place_bare : (xs : List ℕ) (k : ℕ) (b : Bool) → Bare (if b then 45 else hex_digit lower (nibble xs (digit_place k)))
place_bare xs k true = record { low = omega arith; high = omega arith; less = refl; greater = refl }
place_bare xs k false = digit_bare (nibble xs (digit_place k)) (nibble_small xs (digit_place k))

pub indexed_all : (P : ℕ → Type 0) (n : ℕ) (f : ℕ → ℕ) → ((k : ℕ) → P (f k)) → AllByRecursion P (by_index n f)
unfolding by_index
indexed_all P zero f all = tt
indexed_all P (suc n) f all = both_all P (by_index n f) (f n ∷ []) (indexed_all P n f all) (all n, tt)

pub uuid_bare : (xs : List ℕ) → AreBare (hyphenated_text lower xs)
uuid_bare xs =
    indexed_all Bare 36 (λ k. if is_hyphen_place k then 45 else hex_digit lower (nibble xs (digit_place k))) (λ k. place_bare xs k (is_hyphen_place k))

pub uuid_length : (xs : List ℕ) → length (hyphenated_text lower xs) ≡ 36
uuid_length xs = by_index_length 36 _

-- ---- as texts
pub mac_plain : (m : Mac) → IsMac m → ArePlain (mac_text m)
mac_plain m is = bare_plain (mac_text m) (mac_bare m is)

pub uuid_plain : (xs : List ℕ) → ArePlain (hyphenated_text lower xs)
uuid_plain xs = bare_plain (hyphenated_text lower xs) (uuid_bare xs)
