-- Addresses that were printed are read.
use Rattle.std.proofs.Common.{◌≡◌, ℕ, ◌+◌, ◌*◌, ◌/◌, ◌%◌, ◌<◌, List, [], ◌∷◌, length, Some, refl, arith}
use Rattle.std.specs.Prelude.{slice_index}
use Rattle.std.specs.List.{AllByRecursion}
use Rattle.std.specs.Char.{digit_char}
use Rattle.std.proofs.lemmas.Bool.Decides.{nat_tests}
use Rattle.types_base.specs.declared.mac.Mac.{Mac}
use Rattle.text_spec.specs.MacText.{hex_value, byte_at, has_colons, mac_of, mac_with}
use Rattle.types_base.specs.Mac.{mac_text}
use Rattle.text_laws.specs.Given.{IsMac}

digit_back : (d : ℕ) → d < 16 → hex_value (digit_char d) ≡ Some d
unfolding hex_value
digit_back d small = grind (arith, nat_tests)

byte_back : (b : ℕ) → b < 256 → (b / 16) * 16 + b % 16 ≡ b
byte_back b small = omega arith

byte_of : (text : List ℕ) (i b : ℕ) → b < 256 → slice_index text i ≡ digit_char (b / 16) → slice_index text (i + 1) ≡ digit_char (b % 16)
    → byte_at text i ≡ Some b
unfolding byte_at
byte_of text i b small high low =
    let h : b / 16 < 16 = omega arith in
    let l : b % 16 < 16 = omega arith in
    rw (high, low, digit_back (b / 16) h, digit_back (b % 16) l, byte_back b small)

six_back : (a b c d e f : ℕ) → a < 256 → b < 256 → c < 256 → d < 256 → e < 256 → f < 256
    → mac_of (mac_text (mac_with a b c d e f)) ≡ Some (mac_with a b c d e f)
unfolding mac_of mac_text has_colons
six_back a b c d e f p q r s t u =
    let text = mac_text (mac_with a b c d e f) in
    rw (
      byte_of text 0 a p refl refl,
      byte_of text 3 b q refl refl,
      byte_of text 6 c r refl refl,
      byte_of text 9 d s refl refl,
      byte_of text 12 e t refl refl,
      byte_of text 15 f u refl refl,
    )

six_by : (bytes : List ℕ) → length bytes ≡ 6 → AllByRecursion (λ b. b < 256) bytes
    → mac_of (mac_text (record { bytes = bytes })) ≡ Some (record { bytes = bytes })
six_by (a ∷ b ∷ c ∷ d ∷ e ∷ f ∷ []) six all = six_back a b c d e f all.0 all.1.0 all.1.1.0 all.1.1.1.0 all.1.1.1.1.0 all.1.1.1.1.1.0
six_by [] six all = absurd (omega (arith, six))
six_by (a ∷ []) six all = absurd (omega (arith, six))
six_by (a ∷ b ∷ []) six all = absurd (omega (arith, six))
six_by (a ∷ b ∷ c ∷ []) six all = absurd (omega (arith, six))
six_by (a ∷ b ∷ c ∷ d ∷ []) six all = absurd (omega (arith, six))
six_by (a ∷ b ∷ c ∷ d ∷ e ∷ []) six all = absurd (omega (arith, six))
six_by (a ∷ b ∷ c ∷ d ∷ e ∷ f ∷ g ∷ more) six all = absurd (omega (arith, six))

pub mac_back : (mac : Mac) → IsMac mac → mac_of (mac_text mac) ≡ Some mac
mac_back mac is = six_by mac.bytes is.six is.bytes
