-- Characters that a text or a name may hold are scalar values, and so can be written in UTF-8.
use Rattle.std.proofs.Common.{◌≡◌, ℕ, zero, suc, List, [], ◌∷◌, ◌++◌, Bool, true, false, refl, sym, inl, inr, arith, take}
use Rattle.std.specs.Prelude.{◌⊎◌, ◌&&◌, ◌||◌, nat_le, chars, IsUtf8, encode_utf8_all}
use Rattle.std.specs.List.{AllByRecursion, list_all}
use Rattle.std.proofs.Math.Utf8.{scalar, scalars}
use Rattle.std.proofs.lemmas.Bool.Decides.{nat_tests}
use Rattle.std.proofs.lemmas.Str.{chars-encodes}
use Rattle.text_spec.specs.Character.{is_in, is_char, is_name_start, is_name_char, name_start_ranges, name_further_ranges}
use Rattle.text_spec.specs.Writable.{AreChars, IsName, IsNamed}
use Rattle.text_laws.proofs.Parts.{both_of}

-- a range of scalar values alone
abbrev fits : ℕ × ℕ → Bool
fits r = nat_le r.1 55295 || (nat_le 57344 r.0 && nat_le r.1 1114111)

in_range : (low high c : ℕ) → (nat_le high 55295 || (nat_le 57344 low && nat_le high 1114111)) ≡ true
    → (nat_le low c && nat_le c high) ≡ true → scalar c ≡ true
in_range low high c f h = grind (arith, nat_tests)

either : (a b : Bool) → (a || b) ≡ true → (a ≡ true) ⊎ (b ≡ true)
either true b e = inl refl
either false b e = inr e

all_fit : (ranges : List (ℕ × ℕ)) (c : ℕ) → list_all fits ranges ≡ true → is_in ranges c ≡ true → scalar c ≡ true
all_fit [] c f h = absurd cc
all_fit (r ∷ rs) c f h =
    let parts = both_of (fits r) (list_all fits rs) f in
    elim (either (nat_le r.0 c && nat_le c r.1) (is_in rs c) h) [
      | inl here ↦ in_range r.0 r.1 c parts.0 here
      | inr later ↦ all_fit rs c parts.1 later
    ]

pub char_scalar : (c : ℕ) → is_char c ≡ true → scalar c ≡ true
unfolding is_char
char_scalar c is = all_fit ((0x20, 0xD7FF) ∷ (0x9, 0xA) ∷ (0xD, 0xD) ∷ (0xE000, 0xFFFD) ∷ (0x10000, 0x10FFFF) ∷ []) c refl is

name_scalar : (c : ℕ) → is_name_char c ≡ true → scalar c ≡ true
unfolding is_name_char is_name_start
name_scalar c is =
    elim (either (is_in name_start_ranges c) (is_in name_further_ranges c) is) [
      | inl start ↦ all_fit name_start_ranges c refl start
      | inr further ↦ all_fit name_further_ranges c refl further
    ]

joined : (a b : Bool) → a ≡ true → b ≡ true → (a && b) ≡ true
joined true b p q = q
joined false b p q = absurd cc

all_scalars : (p : ℕ → Bool) → ((c : ℕ) → p c ≡ true → scalar c ≡ true) → (cs : List ℕ) → AllByRecursion (λ c. p c ≡ true) cs → scalars cs ≡ true
all_scalars p h [] all = refl
all_scalars p h (c ∷ cs) all = joined (scalar c) (scalars cs) (h c all.0) (all_scalars p h cs all.1)

pub chars_scalars : (cs : List ℕ) → AreChars cs → scalars cs ≡ true
chars_scalars cs are = all_scalars is_char char_scalar cs are

pub name_scalars : (cs : List ℕ) → IsName cs → scalars cs ≡ true
name_scalars [] is = absurd is
name_scalars (c ∷ cs) is = all_scalars is_name_char name_scalar (c ∷ cs) is.1

pub utf8_of : (cs : List ℕ) → scalars cs ≡ true → IsUtf8 (encode_utf8_all cs)
utf8_of cs are = (cs, (are, refl))

-- a name as bytes
pub named : (cs : List ℕ) → IsName cs → IsNamed (encode_utf8_all cs)
named cs is =
    let are = name_scalars cs is in
    let e : cs ≡ chars (encode_utf8_all cs) = sym (chars-encodes cs are) in
    record { utf8 = utf8_of cs are; name_chars = rw (← e) is }

-- ---- parts of characters
pub take_all_of : {A : Type 0} (P : A → Type 0) (n : ℕ) (cs : List A) → AllByRecursion P cs → AllByRecursion P (take n cs)
take_all_of P zero cs all = tt
take_all_of P (suc n) [] all = tt
take_all_of P (suc n) (c ∷ cs) all = (all.0, take_all_of P n cs all.1)

pub both_all : {A : Type 0} (P : A → Type 0) (xs ys : List A) → AllByRecursion P xs → AllByRecursion P ys → AllByRecursion P (xs ++ ys)
both_all P [] ys p q = q
both_all P (x ∷ xs) ys p q = (p.0, both_all P xs ys p.1 q)

pub front_of_all : {A : Type 0} (P : A → Type 0) (xs ys : List A) → AllByRecursion P (xs ++ ys) → AllByRecursion P xs
front_of_all P [] ys all = tt
front_of_all P (x ∷ xs) ys all = (all.0, front_of_all P xs ys all.1)
