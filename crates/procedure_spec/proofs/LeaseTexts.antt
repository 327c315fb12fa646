-- Addresses are read from the texts that they are printed as, and from no others.
use Rattle.std.proofs.Common.{◌≡◌, ◌==◌, ℕ, zero, suc, ◌+◌, ◌/◌, ◌%◌, ◌<◌, ◌≤◌, ◌^◌, Bool, true, false, cond, eqb, ltb, List, [], ◌∷◌, ◌++◌, length, Option, None, Some, refl, sym, ap, subst, ◌∙◌, append_assoc, arith, lit<}
use Rattle.std.specs.Prelude.{◌&&◌, bytes_eq, codes, decimal, get_or, map, nat_lt, option_and_then, slice_index}
use Rattle.std.specs.Int.{w32, from_be_bytes, to_be_bytes}
use Rattle.std.specs.List.{All, slice_split}
use Rattle.std.specs.Net.Addr.{IsIpv4OfBits, ipv4_bits, ipv4_octets}
use Rattle.std.specs.Net.Grammar.{IsDotted, IsIpv4Text}
use Rattle.std.specs.Net.Text.{dotted_text, ipv4_text}
use Rattle.std.specs.declared.net.ipv4_addr.Ipv4Addr.{Ipv4Addr}
use Rattle.std.specs.Str.{IsAscii}
use Rattle.std.specs.Str.Parse.{digits_value}
use Rattle.std.proofs.lemmas.Bool.{lt-ltb, ltb-true}
use Rattle.std.proofs.lemmas.Fmt.{IsAscii-decimal, decimal_is_IsNumeral, length-decimal-le}
use Rattle.std.proofs.lemmas.Grind.{get_or_default_zero}
use Rattle.std.proofs.lemmas.List.{length-append}
use Rattle.std.proofs.lemmas.List.Splits.{slice_split_at, slice_split_none}
use Rattle.std.proofs.lemmas.Nat.{be_bytes_4, from_be_bytes-to_be_bytes_4}
use Rattle.std.proofs.lemmas.Slice.Eq.{bytes_eq-Decides}
use Rattle.std.proofs.lemmas.Str.{IsAscii-append, IsUtf8-from_ascii}
use Rattle.std.proofs.lemmas.Str.Ascii.{IsAscii-cons, IsAscii-nil}
use Rattle.std.proofs.lemmas.Str.Parse.{digit_at}
use Rattle.virt_types.specs.Mac.{mac_text}
use Rattle.virt_types.specs.Below.types_base.declared.mac.Mac.{Mac}
use Rattle.wire_spec.specs.Xdr.{IsString}
use Rattle.text_spec.specs.MacText.{mac_of}
use Rattle.text_laws.specs.Given.{AreBytes, IsMac}
use Rattle.text_laws.specs.Texts.{Of}
use Rattle.text_laws.proofs.Bare.{mac_length, mac_plain}
use Rattle.text_laws.proofs.Macs.{mac_back}
use Rattle.text_laws.proofs.Plain.{ascii}
use Rattle.text_laws.proofs.ReadMacs.{Read, mac_read}
use Rattle.procedure_spec.specs.LeaseText.{address_of, address_text, address_written, mac_written, when_written}
use Rattle.procedure_spec.specs.declared.words.TheConstants.{PACKET_BOUND}

-- ---- addresses of the network

-- what a test of two parts let through
guarded : {A : Type 0} (b c : Bool) (x y : A) → (let o : Option A = cond (b && c) (Some x) None in o ≡ Some y) → (b ≡ true) × (c ≡ true) × (x ≡ y)
guarded true true x y e = (refl, refl, cc)
guarded true false x y e = absurd cc
guarded false c x y e = absurd cc

bytes_same : (xs ys : List ℕ) → bytes_eq xs ys ≡ true → xs ≡ ys
bytes_same xs ys t = (bytes_eq-Decides xs ys).0 t

when_found : (a : ℕ) (text : List ℕ) (n : ℕ) → when_written a text ≡ Some n → (n < 2 ^ 32) × (address_text n ≡ text)
when_found a text n e =
    let g = guarded (nat_lt a (2 ^ 32)) (bytes_eq (address_text a) text) a n e in
    subst (λ (k : ℕ). (k < 2 ^ 32) × (address_text k ≡ text)) g.2 (ltb-true a (2 ^ 32) g.0, bytes_same (address_text a) text g.1)

pub address_found : (text : List ℕ) (n : ℕ) → address_written text ≡ Some n → (n < 2 ^ 32) × (address_text n ≡ text)
unfolding address_written
address_found text n e = when_found (address_of (slice_split (λ byte. byte == 46) text)) text n e

no_dot : (n : ℕ) → n < 256 → All (λ c. (c == 46) ≡ false) (decimal n)
no_dot n small i d lt =
    let digit = digit_at (decimal n) i (decimal_is_IsNumeral n (omega (arith, small))).0.1 lt in
    let moved = get_or_default_zero (decimal n) i d lt in
    grind (arith, digit, moved)

split_of : (a b c d : ℕ) → a < 256 → b < 256 → c < 256 → d < 256 → slice_split (λ byte. byte == 46) (dotted_text a b c d) ≡ decimal a ∷ decimal b ∷ decimal c ∷ decimal d ∷ []
split_of a b c d p q r s =
    let dots : dotted_text a b c d ≡ decimal a ++ (46 ∷ (decimal b ++ (46 ∷ (decimal c ++ (46 ∷ decimal d))))) = simp append_assoc in
    let one = slice_split_at (λ byte. byte == 46) (decimal a) 46 (decimal b ++ (46 ∷ (decimal c ++ (46 ∷ decimal d)))) (no_dot a p) refl in
    let two = slice_split_at (λ byte. byte == 46) (decimal b) 46 (decimal c ++ (46 ∷ decimal d)) (no_dot b q) refl in
    let three = slice_split_at (λ byte. byte == 46) (decimal c) 46 (decimal d) (no_dot c r) refl in
    let four = slice_split_none (λ byte. byte == 46) (decimal d) (no_dot d s) in
    rw (dots, one, two, three, four) refl

value_of : (n : ℕ) → n < 256 → digits_value 10 (decimal n) ≡ n
value_of n small = (decimal_is_IsNumeral n (omega (arith, small))).1

pub address_again : (n : ℕ) → n < 2 ^ 32 → address_written (address_text n) ≡ Some n
unfolding address_written
address_again n small =
    let o = to_be_bytes w32 n in
    let a : slice_index o 0 < 256 = omega arith in
    let b : slice_index o 1 < 256 = omega arith in
    let c : slice_index o 2 < 256 = omega arith in
    let d : slice_index o 3 < 256 = omega arith in
    let parts = split_of (slice_index o 0) (slice_index o 1) (slice_index o 2) (slice_index o 3) a b c d in
    let back : address_of (slice_split (λ byte. byte == 46) (address_text n)) ≡ n =
    rw (parts, value_of (slice_index o 0) a, value_of (slice_index o 1) b, value_of (slice_index o 2) c, value_of (slice_index o 3) d) (from_be_bytes-to_be_bytes_4 n small) in
    let below : nat_lt n (2 ^ 32) ≡ true = lt-ltb n (2 ^ 32) small in
    let same : bytes_eq (address_text n) (address_text n) ≡ true = (bytes_eq-Decides (address_text n) (address_text n)).1 refl in
    rw (back, below, same) refl

four_bytes : (a b c d : ℕ) → (a < 256) × (b < 256) × (c < 256) × (d < 256) → (i : ℕ) → get_or (a ∷ b ∷ c ∷ d ∷ []) i 0 < 256
four_bytes a b c d fit zero = fit.0
four_bytes a b c d fit (suc zero) = fit.1
four_bytes a b c d fit (suc (suc zero)) = fit.2
four_bytes a b c d fit (suc (suc (suc zero))) = fit.3
four_bytes a b c d fit (suc (suc (suc (suc i)))) = lit< tt

-- what std reads as an address is the address that the text is, and there is none where std reads none
some_address : (text : List ℕ) (o : List ℕ) (n : ℕ) → IsDotted text o → n ≡ from_be_bytes w32 o → Some n ≡ address_written text
some_address text o n is e =
    let octets = is.a ∷ is.b ∷ is.c ∷ is.d ∷ [] in
    let whole : n ≡ from_be_bytes w32 octets = e ∙ ap (λ (x : List ℕ). from_be_bytes w32 x) is.value in
    let back : to_be_bytes w32 n ≡ octets = ap (λ (k : ℕ). to_be_bytes w32 k) whole ∙ be_bytes_4 octets _ refl (four_bytes is.a is.b is.c is.d is.fit) refl in
    let text_is : address_text n ≡ text = ap (λ (x : List ℕ). ipv4_text x) back ∙ sym is.spelled in
    let small : n < 2 ^ 32 = omega (arith, whole, is.fit.0, is.fit.1, is.fit.2, is.fit.3) in
    subst (λ (t : List ℕ). Some n ≡ address_written t) text_is (sym (address_again n small))

pub address_parsed : (text : List ℕ) (a : Ipv4Addr) → IsIpv4Text text a → Some (ipv4_bits a) ≡ address_written text
unfolding ipv4_bits
address_parsed text a is = some_address text (ipv4_octets a) (from_be_bytes w32 (ipv4_octets a)) is refl

dotted : (n : ℕ) → IsDotted (address_text n) (to_be_bytes w32 n)
dotted n =
    let o = to_be_bytes w32 n in
    record { a = slice_index o 0; b = slice_index o 1; c = slice_index o 2; d = slice_index o 3; fit = (omega arith, omega arith, omega arith, omega arith); value = refl; spelled = refl }

no_address : (text : List ℕ) (found : Option ℕ) → address_written text ≡ found → ((a : Ipv4Addr) → IsIpv4Text text a → ⊥) → None ≡ found
no_address text None e absent = refl
no_address text (Some n) e absent =
    let f = address_found text n e in
    absurd (absent (record { octets = to_be_bytes w32 n }) (subst (λ (t : List ℕ). IsDotted t (to_be_bytes w32 n)) f.1 (dotted n)))

pub address_absent : (text : List ℕ) → ((a : Ipv4Addr) → IsIpv4Text text a → ⊥) → None ≡ address_written text
address_absent text absent = no_address text (address_written text) refl absent

dots_ascii : (xs ys : List ℕ) → IsAscii xs → IsAscii ys → IsAscii (xs ++ codes "." ++ ys)
dots_ascii xs ys one two = IsAscii-append (xs ++ codes ".") ys (IsAscii-append xs (codes ".") one (IsAscii-cons 46 [] (lit< tt) IsAscii-nil)) two

octet_ascii : (n : ℕ) → n < 256 → IsAscii (decimal n)
octet_ascii n small = IsAscii-decimal n (omega (arith, small))

octet_short : (n : ℕ) → n < 256 → length (decimal n) ≤ 3
octet_short n small = length-decimal-le 3 n (lit< tt) (omega (arith, small)) (omega (arith, small))

dotted_string : (a b c d : ℕ) → a < 256 → b < 256 → c < 256 → d < 256 → IsString PACKET_BOUND (dotted_text a b c d)
dotted_string a b c d p q r s =
    let two = dots_ascii (decimal a) (decimal b) (octet_ascii a p) (octet_ascii b q) in
    let three = dots_ascii (decimal a ++ codes "." ++ decimal b) (decimal c) two (octet_ascii c r) in
    let four = dots_ascii (decimal a ++ codes "." ++ decimal b ++ codes "." ++ decimal c) (decimal d) three (octet_ascii d s) in
    record {
      bounded = omega (
        arith,
        octet_short a p,
        octet_short b q,
        octet_short c r,
        octet_short d s,
        length-append (decimal a) (codes "."),
        length-append (decimal a ++ codes ".") (decimal b),
        length-append (decimal a ++ codes "." ++ decimal b) (codes "."),
        length-append (decimal a ++ codes "." ++ decimal b ++ codes ".") (decimal c),
        length-append (decimal a ++ codes "." ++ decimal b ++ codes "." ++ decimal c) (codes "."),
        length-append (decimal a ++ codes "." ++ decimal b ++ codes "." ++ decimal c ++ codes ".") (decimal d),
      );
      text = IsUtf8-from_ascii (dotted_text a b c d) four;
    }

pub address_string : (n : ℕ) → IsString PACKET_BOUND (address_text n)
address_string n =
    let o = to_be_bytes w32 n in
    dotted_string (slice_index o 0) (slice_index o 1) (slice_index o 2) (slice_index o 3) (omega arith) (omega arith) (omega arith) (omega arith)

-- ---- addresses of interfaces

same_by : (m : Mac) (text : List ℕ) (b : Bool) (n : Mac) → bytes_eq (mac_text m) text ≡ b → (let o : Option Mac = cond b (Some m) None in o ≡ Some n) → (m ≡ n) × (mac_text m ≡ text)
same_by m text true n t e = (cc, bytes_same (mac_text m) text t)
same_by m text false n t e = absurd cc

found_by : (text : List ℕ) (o : Option Mac) (n : Mac) → Of (Read text) o → option_and_then (λ mac. cond (bytes_eq (mac_text mac) text) (Some mac) None) o ≡ Some n → IsMac n × (mac_text n ≡ text)
found_by text None n read e = absurd cc
found_by text (Some m) n read e =
    let s = same_by m text (bytes_eq (mac_text m) text) n refl e in
    subst (λ (k : Mac). IsMac k × (mac_text k ≡ text)) s.0 (read.is_mac, s.1)

pub mac_found : (text : List ℕ) (m : Mac) → mac_written text ≡ Some m → IsMac m × (mac_text m ≡ text)
unfolding mac_written
mac_found text m e = found_by text (mac_of text) m (mac_read text) e

pub mac_again : (m : Mac) → IsMac m → mac_written (mac_text m) ≡ Some m
unfolding mac_written
mac_again m is =
    let same : bytes_eq (mac_text m) (mac_text m) ≡ true = (bytes_eq-Decides (mac_text m) (mac_text m)).1 refl in
    rw (mac_back m is, same) refl

pub mac_string : (m : Mac) → IsMac m → IsString PACKET_BOUND (mac_text m)
mac_string m is = record { bounded = omega (arith, mac_length m is); text = IsUtf8-from_ascii (mac_text m) (ascii (mac_text m) (mac_plain m is)) }

pub bytes_all : (bs : List ℕ) → ((i : ℕ) → get_or bs i 0 < 256) → AreBytes bs
bytes_all [] each = tt
bytes_all (b ∷ bs) each = (each 0, bytes_all bs (λ i. each (suc i)))

pub printed_address : (a : Ipv4Addr) (n : ℕ) → IsIpv4OfBits a n → ipv4_text (ipv4_octets a) ≡ address_text n
unfolding IsIpv4OfBits
printed_address a n is = ap (λ (o : List ℕ). ipv4_text o) is
