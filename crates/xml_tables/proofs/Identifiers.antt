-- An identifier that is parsed, or filled in, is one.
use Rattle.std.proofs.Common.{◌≡◌, ℕ, zero, suc, ◌+◌, ◌*◌, ◌%◌, ◌^◌, ◌<◌, List, [], ◌∷◌, length, set, get_or, take, drop, Bool, true, false, Option, Some, None, Ok, refl, sym, ◌∙◌, ap, subst, arith, length-set}
use Rattle.std.specs.Prelude.{◌&&◌, ◌==◌, slice_index, if◌then◌else◌}
use Rattle.std.specs.Int.{byte_at, bytes_high_first, to_be_bytes, w128}
use Rattle.std.specs.List.{list_all}
use Rattle.std.proofs.lemmas.Bool.Decides.{nat_tests}
use Rattle.uuid.specs.Text.{by_index, is_hex_digit, value_of, byte_of_digits, open_brace, close_brace, digits_of, has_hyphens, has_urn_prefix, parsed_simple, parsed_hyphenated, parsed_braced, parsed_urn, parsed, hyphenated_text, lower}
use Rattle.uuid.proofs.TextLemmas.{by_index_length}
use Rattle.text_spec.specs.declared.vocabulary.ElementName.TheVariants as element
use Rattle.text_spec.specs.Fill.{IsUuidFilled, version_4}
use Rattle.text_laws.specs.Given.{AreBytes, IsUuidOf}
use Rattle.text_laws.proofs.Bare.{bare_text_room, indexed_all, uuid_bare, uuid_length}
use Rattle.text_laws.proofs.Lengths.{AreNoLonger, as_long, filled_longer}
use Rattle.text_laws.proofs.Parts.{both_of}
use Rattle.xml_tables.specs.Values.{known_value, uuid_tree, uuid_value}

digit_small : (c : ℕ) → is_hex_digit c ≡ true → value_of c < 16
digit_small c e = grind (arith, nat_tests)

digits_small : (hex : List ℕ) → list_all is_hex_digit hex ≡ true → (k : ℕ) → value_of (slice_index hex k) < 16
digits_small [] e k = omega arith
digits_small (c ∷ hex) e zero = digit_small c (both_of (is_hex_digit c) (list_all is_hex_digit hex) e).0
digits_small (c ∷ hex) e (suc k) = digits_small hex (both_of (is_hex_digit c) (list_all is_hex_digit hex) e).1 k

byte_small : (high low : ℕ) → high < 16 → low < 16 → high * 16 + low < 256
byte_small high low p q = omega arith

simple_by : (hex : List ℕ) (b : Bool) → ((length hex == 32) && list_all is_hex_digit hex) ≡ b → IsUuidOf (if b then Some (by_index 16 (byte_of_digits hex)) else None)
simple_by hex true e =
    let small = digits_small hex (both_of (length hex == 32) (list_all is_hex_digit hex) e).1 in (
      by_index_length 16 (byte_of_digits hex),
      indexed_all (λ b. b < 256) 16 (byte_of_digits hex) (λ j. byte_small _ _ (small (2 * j)) (small (2 * j + 1))),
    )
simple_by hex false e = tt

simple_is : (hex : List ℕ) → IsUuidOf (parsed_simple hex)
simple_is hex = simple_by hex ((length hex == 32) && list_all is_hex_digit hex) refl

either_uuid : (b : Bool) (u v : Option (List ℕ)) → IsUuidOf u → IsUuidOf v → IsUuidOf (if b then u else v)
either_uuid true u v p q = p
either_uuid false u v p q = q

hyphenated_is : (s : List ℕ) → IsUuidOf (parsed_hyphenated s)
hyphenated_is s = either_uuid ((length s == 36) && has_hyphens s) (parsed_simple (digits_of s)) None (simple_is (digits_of s)) tt

braced_is : (s : List ℕ) → IsUuidOf (parsed_braced s)
braced_is s =
    either_uuid ((length s == 38) && (slice_index s 0 == open_brace) && (slice_index s 37 == close_brace)) (parsed_hyphenated (take 36 (drop 1 s))) None
    (hyphenated_is (take 36 (drop 1 s))) tt

urn_is : (s : List ℕ) → IsUuidOf (parsed_urn s)
urn_is s = either_uuid ((length s == 45) && has_urn_prefix s) (parsed_hyphenated (drop 9 s)) None (hyphenated_is (drop 9 s)) tt

pub parsed_is : (s : List ℕ) → IsUuidOf (parsed s)
parsed_is s =
    let urn = if length s == 45 then parsed_urn s else None in
    let braced = if length s == 38 then parsed_braced s else urn in
    let hyphenated = if length s == 36 then parsed_hyphenated s else braced in
    either_uuid (length s == 32) (parsed_simple s) hyphenated (simple_is s)
    (either_uuid (length s == 36) (parsed_hyphenated s) braced (hyphenated_is s)
    (either_uuid (length s == 38) (parsed_braced s) urn (braced_is s) (either_uuid (length s == 45) (parsed_urn s) None (urn_is s) tt)))

known_by : (o : Option (List ℕ)) (uuid : List ℕ) → IsUuidOf o → known_value o ≡ Ok uuid → IsUuidOf (Some uuid)
known_by None uuid is e = absurd cc
known_by (Some x) uuid is e = let same : x ≡ uuid = cc in subst (λ y. IsUuidOf (Some y)) same is

pub uuid_was : (text uuid : List ℕ) → uuid_value text ≡ Ok uuid → IsUuidOf (Some uuid)
uuid_was text uuid e = known_by (parsed text) uuid (parsed_is text) e

-- ---- one that was filled in
one_byte : (k n : ℕ) → byte_at k n < 256
one_byte zero n = omega arith
one_byte (suc k) n = omega arith

high_bytes : (k n : ℕ) → AreBytes (bytes_high_first k n)
high_bytes zero n = tt
high_bytes (suc k) n = (one_byte k n, high_bytes k n)

high_length : (k n : ℕ) → length (bytes_high_first k n) ≡ k
high_length zero n = refl
high_length (suc k) n = ap suc (high_length k n)

set_bytes : (xs : List ℕ) (i b : ℕ) → b < 256 → AreBytes xs → AreBytes (set xs i b)
set_bytes [] i b small all = tt
set_bytes (x ∷ xs) zero b small all = (small, all.1)
set_bytes (x ∷ xs) (suc i) b small all = (all.0, set_bytes xs i b small all.1)

marked : (xs : List ℕ) → length xs ≡ 16 → AreBytes xs → IsUuidOf (Some (set (set xs 8 (get_or xs 8 0 % 64 + 128)) 6 (get_or (set xs 8 (get_or xs 8 0 % 64 + 128)) 6 0 % 16 + 4 * 16)))
marked xs long all =
    let variant = get_or xs 8 0 % 64 + 128 in
    let ys = set xs 8 variant in
    let version = get_or ys 6 0 % 16 + 4 * 16 in
    (length-set ys 6 version ∙ (length-set xs 8 variant ∙ long), set_bytes ys 6 version (omega arith) (set_bytes xs 8 variant (omega arith) all))

version_is : (high low : ℕ) → IsUuidOf (Some (version_4 high low))
unfolding version_4
version_is high low =
    let bytes = to_be_bytes w128 (high * 2 ^ 64 + low) in
    marked bytes (high_length 16 (high * 2 ^ 64 + low)) (high_bytes 16 (high * 2 ^ 64 + low))

pub uuid_filled : (words : List ℕ) (u v : Option (List ℕ)) → IsUuidFilled words u v → IsUuidOf u → IsUuidOf v
uuid_filled words None None filled is = tt
uuid_filled words None (Some v) filled is = subst IsUuidOf (sym filled.2) (version_is filled.0 filled.1)
uuid_filled words (Some u) v filled is = subst IsUuidOf (sym filled.0) is

-- all identifiers take the same room
pub uuid_longer : (u v : List ℕ) → AreNoLonger (uuid_tree u ∷ []) (uuid_tree v ∷ [])
uuid_longer u v =
    filled_longer element.Uuid [] [] (hyphenated_text lower u) (hyphenated_text lower v) [] [] (omega arith)
    (omega (arith, bare_text_room (hyphenated_text lower u) (uuid_bare u), uuid_length u, bare_text_room (hyphenated_text lower v) (uuid_bare v), uuid_length v))
    (as_long [])
