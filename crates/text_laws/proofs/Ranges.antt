-- Numbers and identifiers that are read are within their ranges.
use Rattle.std.proofs.Common.{◌≡◌, ℕ, zero, suc, ◌+◌, ◌*◌, ◌^◌, ◌<◌, ◌≤◌, List, [], ◌∷◌, length, min, take, drop, Bool, true, false, Option, Some, None, Ok, Err, refl, arith}
use Rattle.std.specs.Prelude.{◌&&◌, ◌==◌, nat_le, slice_index, option_map, option_and_then, unwrap_or, if◌then◌else◌}
use Rattle.std.specs.List.{list_all}
use Rattle.std.specs.Result.{result_ok}
use Rattle.std.proofs.lemmas.Bool.Decides.{nat_tests}
use Rattle.uuid.specs.Text.{by_index, is_hex_digit, value_of, byte_of_digits, open_brace, close_brace, digits_of, has_hyphens, has_urn_prefix, parsed_simple, parsed_hyphenated, parsed_braced, parsed_urn, parsed}
use Rattle.uuid.proofs.TextLemmas.{by_index_length}
use Rattle.text_spec.specs.declared.row.Source.TheVariants as source
use Rattle.text_spec.specs.declared.row.Place.TheVariants as place
use Rattle.text_spec.specs.declared.size.SizeFault.{SizeFault}
use Rattle.text_spec.specs.declared.vocabulary.AttributeName.TheVariants as attribute
use Rattle.text_spec.specs.declared.vocabulary.ElementName.{ElementName}
use Rattle.text_spec.specs.declared.vocabulary.ElementName.TheVariants as element
use Rattle.text_spec.specs.DomainValue.{own_text, memory_in, memory_at, memory_of, current_memory_of, vcpus_of, current_vcpus_of}
use Rattle.text_spec.specs.GuestScript.{within, number_within}
use Rattle.text_spec.specs.Look.{element_at, value_at, attribute_of, text_of}
use Rattle.text_spec.specs.Tree.{Tree}
use Rattle.text_spec.specs.Units.{number_of, ranged, rounded_up, size_of, kibibytes_of}
use Rattle.text_laws.specs.Given.{IsUuidOf, IsWithin}
use Rattle.text_laws.specs.Texts.{Of}
use Rattle.text_laws.proofs.Bare.{indexed_all}
use Rattle.text_laws.proofs.Found.{or_of}
use Rattle.text_laws.proofs.Parts.{both_of}

-- what is read of whatever is there
pub then_any : {A B : Type 0} (Q : B → Type 0) (f : A → Option B) → ((x : A) → Of Q (f x)) → (o : Option A) → Of Q (option_and_then f o)
then_any Q f each None = tt
then_any Q f each (Some x) = each x

is_between : (least most n : ℕ) → (nat_le least n && nat_le n most) ≡ true → IsWithin least most n
is_between least most n e =
    let parts = both_of (nat_le least n) (nat_le n most) e in
    (grind (arith, nat_tests, parts.0), grind (arith, nat_tests, parts.1))

-- ---- memory
ranged_by : (least most n : ℕ) (fault : SizeFault) (b : Bool) → (nat_le least n && nat_le n most) ≡ b
    → Of (IsWithin least most) (result_ok {E = SizeFault} (if b then Ok n else Err fault))
ranged_by least most n fault true e = is_between least most n e
ranged_by least most n fault false e = tt

ranged_is : (least most : ℕ) (o : Option ℕ) → Of (IsWithin least most) (result_ok (ranged least most o))
ranged_is least most None = tt
ranged_is least most (Some n) = ranged_by least most n _ (nat_le least n && nat_le n most) refl

memory_in_is : (t : Tree) → Of (IsWithin 1 (2 ^ 40)) (memory_in t)
unfolding kibibytes_of
memory_in_is t = ranged_is 1 (2 ^ 40) (option_map rounded_up (size_of 1024 (text_of t) (attribute_of attribute.Unit t)))

memory_at_is : (n : ElementName) (t : Tree) → Of (IsWithin 1 (2 ^ 40)) (memory_at n t)
memory_at_is n t = then_any (IsWithin 1 (2 ^ 40)) memory_in memory_in_is (element_at (place.Child n) t)

pub memory_is : (t : Tree) → IsWithin 1 (2 ^ 40) (memory_of t)
unfolding memory_of
memory_is t = or_of (IsWithin 1 (2 ^ 40)) (memory_at element.Memory t) 1 (memory_at_is element.Memory t) (omega arith, omega arith)

least_is : (a b most : ℕ) → IsWithin 1 most a → 1 ≤ b → IsWithin 1 a (min a b)
least_is a b most p q = (omega (arith, p.0), omega arith)

pub current_memory_is : (t : Tree) → IsWithin 1 (memory_of t) (current_memory_of t)
unfolding current_memory_of
current_memory_is t =
    let own = memory_is t in
    least_is (memory_of t) (unwrap_or (memory_at element.CurrentMemory t) (memory_of t)) (2 ^ 40) own
    (or_of (IsWithin 1 (2 ^ 40)) (memory_at element.CurrentMemory t) (memory_of t) (memory_at_is element.CurrentMemory t) own).0

-- ---- processors
within_by : (least most n : ℕ) (b : Bool) → (nat_le least n && nat_le n most) ≡ b → Of (IsWithin least most) (if b then Some n else None)
within_by least most n true e = is_between least most n e
within_by least most n false e = tt

within_is : (least most n : ℕ) → Of (IsWithin least most) (within least most n)
within_is least most n = within_by least most n (nat_le least n && nat_le n most) refl

number_is : (least most : ℕ) (word : List ℕ) → Of (IsWithin least most) (number_within least most word)
unfolding number_within
number_is least most word = then_any (IsWithin least most) (within least most) (within_is least most) (number_of word)

pub vcpus_is : (t : Tree) → IsWithin 1 255 (vcpus_of t)
unfolding vcpus_of
vcpus_is t =
    or_of (IsWithin 1 255) _ 1 (then_any (IsWithin 1 255) (number_within 1 255) (number_is 1 255) (value_at (place.Child element.Vcpu) source.Text t))
    (omega arith, omega arith)

pub current_vcpus_is : (t : Tree) → IsWithin 1 (vcpus_of t) (current_vcpus_of t)
unfolding current_vcpus_of
current_vcpus_is t =
    let most = vcpus_of t in
    or_of (IsWithin 1 most) _ most
    (then_any (IsWithin 1 most) (number_within 1 most) (number_is 1 most) (value_at (place.Child element.Vcpu) (source.Attribute attribute.Current) t))
    ((vcpus_is t).0, omega arith)

-- ---- identifiers
digit_small : (c : ℕ) → is_hex_digit c ≡ true → value_of c < 16
digit_small c e = grind (arith, nat_tests)

digits_small : (hex : List ℕ) → list_all is_hex_digit hex ≡ true → (k : ℕ) → value_of (slice_index hex k) < 16
digits_small [] e k = omega arith
digits_small (c ∷ hex) e zero = digit_small c (both_of (is_hex_digit c) (list_all is_hex_digit hex) e).0
digits_small (c ∷ hex) e (suc k) = digits_small hex (both_of (is_hex_digit c) (list_all is_hex_digit hex) e).1 k

byte_small : (high low : ℕ) → high < 16 → low < 16 → high * 16 + low < 256
byte_small high low p q = omega arith

simple_by : (hex : List ℕ) (b : Bool) → ((length hex == 32) && list_all is_hex_digit hex) ≡ b → IsUuidOf (if b then Some (by_index 16 (byte_of_digits hex)) else None)
simple_by hex true e =
    let small = digits_small hex (both_of (length hex == 32) (list_all is_hex_digit hex) e).1 in (
      by_index_length 16 (byte_of_digits hex),
      indexed_all (λ b. b < 256) 16 (byte_of_digits hex) (λ j. byte_small _ _ (small (2 * j)) (small (2 * j + 1))),
    )
simple_by hex false e = tt

simple_is : (hex : List ℕ) → IsUuidOf (parsed_simple hex)
simple_is hex = simple_by hex ((length hex == 32) && list_all is_hex_digit hex) refl

either_uuid : (b : Bool) (u v : Option (List ℕ)) → IsUuidOf u → IsUuidOf v → IsUuidOf (if b then u else v)
either_uuid true u v p q = p
either_uuid false u v p q = q

hyphenated_is : (s : List ℕ) → IsUuidOf (parsed_hyphenated s)
hyphenated_is s = either_uuid ((length s == 36) && has_hyphens s) (parsed_simple (digits_of s)) None (simple_is (digits_of s)) tt

braced_is : (s : List ℕ) → IsUuidOf (parsed_braced s)
braced_is s =
    either_uuid ((length s == 38) && (slice_index s 0 == open_brace) && (slice_index s 37 == close_brace)) (parsed_hyphenated (take 36 (drop 1 s))) None
    (hyphenated_is (take 36 (drop 1 s))) tt

urn_is : (s : List ℕ) → IsUuidOf (parsed_urn s)
urn_is s = either_uuid ((length s == 45) && has_urn_prefix s) (parsed_hyphenated (drop 9 s)) None (hyphenated_is (drop 9 s)) tt

parsed_is : (s : List ℕ) → IsUuidOf (parsed s)
parsed_is s =
    let urn = if length s == 45 then parsed_urn s else None in
    let braced = if length s == 38 then parsed_braced s else urn in
    let hyphenated = if length s == 36 then parsed_hyphenated s else braced in
    either_uuid (length s == 32) (parsed_simple s) hyphenated (simple_is s)
    (either_uuid (length s == 36) (parsed_hyphenated s) braced (hyphenated_is s)
    (either_uuid (length s == 38) (parsed_braced s) urn (braced_is s) (either_uuid (length s == 45) (parsed_urn s) None (urn_is s) tt)))

uuid_then : (o : Option (List ℕ)) → IsUuidOf (option_and_then parsed o)
uuid_then None = tt
uuid_then (Some s) = parsed_is s

pub uuid_is : (t : Tree) → IsUuidOf (option_and_then parsed (own_text element.Uuid t))
uuid_is t = uuid_then (own_text element.Uuid t)
