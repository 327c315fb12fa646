-- Addresses that are read, and the keys that they are distinguished by.
use Rattle.std.proofs.Common.{◌≡◌, ℕ, zero, suc, ◌+◌, ◌*◌, ◌-◌, ◌/◌, ◌%◌, ◌<◌, List, [], ◌∷◌, length, drop, Bool, true, false, Option, Some, None, refl, sym, ◌∙◌, ap, subst, arith}
use Rattle.std.specs.Prelude.{◌&&◌, ◌==◌, nat_le, slice_index, map, option_and_then, option_map, if◌then◌else◌}
use Rattle.std.specs.Char.{digit_char, to_ascii_lowercase}
use Rattle.std.specs.List.{join_with_byte}
use Rattle.std.proofs.lemmas.Bool.Decides.{nat_tests}
use Rattle.std.proofs.lemmas.List.{drop_more, drop_all}
use Rattle.types_base.specs.declared.mac.Mac.{Mac}
use Rattle.text_spec.specs.MacText.{hex_value, byte_at, is_colon_at, has_colons, mac_with, six_bytes, mac_of}
use Rattle.types_base.specs.Mac.{colon, byte_text, mac_text}
use Rattle.text_laws.specs.Given.{AreBytes, IsMac, mac_key}
use Rattle.text_laws.specs.Texts.{Of}
use Rattle.text_laws.proofs.Parts.{both_of}

-- ---- digits and bytes
-- a digit in either case, and the small one of its value
pub record Digit (c d : ℕ) : Type 0 where
  pub small : d < 16
  pub letter : to_ascii_lowercase c ≡ digit_char d

hex_by : (c : ℕ) (a b e : Bool) → (nat_le 48 c && nat_le c 57) ≡ a → (nat_le 97 c && nat_le c 102) ≡ b → (nat_le 65 c && nat_le c 70) ≡ e
    → Of (Digit c) (if a then Some (c - 48) else (if b then Some (c - 87) else (if e then Some (c - 55) else None)))
hex_by c true b e p q r =
    let parts = both_of (nat_le 48 c) (nat_le c 57) p in
    record { small = grind (arith, nat_tests, parts.0, parts.1); letter = grind (arith, nat_tests, parts.0, parts.1) }
hex_by c false true e p q r =
    let parts = both_of (nat_le 97 c) (nat_le c 102) q in
    record { small = grind (arith, nat_tests, parts.0, parts.1); letter = grind (arith, nat_tests, parts.0, parts.1) }
hex_by c false false true p q r =
    let parts = both_of (nat_le 65 c) (nat_le c 70) r in
    record { small = grind (arith, nat_tests, parts.0, parts.1); letter = grind (arith, nat_tests, parts.0, parts.1) }
hex_by c false false false p q r = tt

hex_is : (c : ℕ) → Of (Digit c) (hex_value c)
unfolding hex_value
hex_is c = hex_by c (nat_le 48 c && nat_le c 57) (nat_le 97 c && nat_le c 102) (nat_le 65 c && nat_le c 70) refl refl refl

-- two digits, and the byte that they are
pub record Byte (x y b : ℕ) : Type 0 where
  pub small : b < 256
  pub high : to_ascii_lowercase x ≡ digit_char (b / 16)
  pub low : to_ascii_lowercase y ≡ digit_char (b % 16)

byte_from : (x y h l : ℕ) → Digit x h → Digit y l → Byte x y (h * 16 + l)
byte_from x y h l p q =
    let high : (h * 16 + l) / 16 ≡ h = omega (arith, p.small, q.small) in
    let low : (h * 16 + l) % 16 ≡ l = omega (arith, p.small, q.small) in
    record {
      small = omega (arith, p.small, q.small);
      high = p.letter ∙ ap digit_char (sym high);
      low = q.letter ∙ ap digit_char (sym low);
    }

byte_by : (x y : ℕ) (o p : Option ℕ) → Of (Digit x) o → Of (Digit y) p
    → Of (Byte x y) (option_and_then (λ high. option_map (λ low. high * 16 + low) p) o)
byte_by x y None p is other = tt
byte_by x y (Some h) None is other = tt
byte_by x y (Some h) (Some l) is other = byte_from x y h l is other

byte_is : (text : List ℕ) (i : ℕ) → Of (Byte (slice_index text i) (slice_index text (i + 1))) (byte_at text i)
unfolding byte_at
byte_is text i =
    byte_by (slice_index text i) (slice_index text (i + 1)) (hex_value (slice_index text i)) (hex_value (slice_index text (i + 1)))
    (hex_is (slice_index text i)) (hex_is (slice_index text (i + 1)))

-- ---- an address
abbrev ByteAt : List ℕ → ℕ → ℕ → Type 0
ByteAt text i b = Byte (slice_index text i) (slice_index text (i + 1)) b

-- the text of an address, but for its colons
pub record Six (text : List ℕ) (m : Mac) : Type 0 where
  a : ℕ
  b : ℕ
  c : ℕ
  d : ℕ
  e : ℕ
  f : ℕ
  is : m ≡ mac_with a b c d e f
  first : ByteAt text 0 a
  second : ByteAt text 3 b
  third : ByteAt text 6 c
  fourth : ByteAt text 9 d
  fifth : ByteAt text 12 e
  sixth : ByteAt text 15 f

six_by : (text : List ℕ) (a b c d e f : Option ℕ) → Of (ByteAt text 0) a → Of (ByteAt text 3) b → Of (ByteAt text 6) c → Of (ByteAt text 9) d
    → Of (ByteAt text 12) e → Of (ByteAt text 15) f
    → Of (Six text)
    (option_and_then (λ a. option_and_then (λ b. option_and_then (λ c. option_and_then (λ d. option_and_then (λ e. option_map (λ f. mac_with a b c d e f) f) e) d) c) b) a)
six_by text None b c d e f p q r s t u = tt
six_by text (Some a) None c d e f p q r s t u = tt
six_by text (Some a) (Some b) None d e f p q r s t u = tt
six_by text (Some a) (Some b) (Some c) None e f p q r s t u = tt
six_by text (Some a) (Some b) (Some c) (Some d) None f p q r s t u = tt
six_by text (Some a) (Some b) (Some c) (Some d) (Some e) None p q r s t u = tt
six_by text (Some a) (Some b) (Some c) (Some d) (Some e) (Some f) p q r s t u = record {
  a = a;
  b = b;
  c = c;
  d = d;
  e = e;
  f = f;
  is = refl;
  first = p;
  second = q;
  third = r;
  fourth = s;
  fifth = t;
  sixth = u;
}

six_is : (text : List ℕ) → Of (Six text) (six_bytes text)
six_is text =
    six_by text (byte_at text 0) (byte_at text 3) (byte_at text 6) (byte_at text 9) (byte_at text 12) (byte_at text 15)
    (byte_is text 0) (byte_is text 3) (byte_is text 6) (byte_is text 9) (byte_is text 12) (byte_is text 15)

-- the bytes of a text one by one
listing : ℕ → ℕ → List ℕ → List ℕ
listing zero k text = []
listing (suc n) k text = slice_index text k ∷ listing n (k + 1) text

listed : (n k : ℕ) (text : List ℕ) → length text ≡ n + k → drop k text ≡ listing n k text
unfolding listing
listed zero k text e = drop_all k text (omega (arith, e))
listed (suc n) k text e =
    drop_more text k 0 (omega (arith, e)) ∙ ap (λ rest. slice_index text k ∷ rest) (listed n (k + 1) text (omega (arith, e)))

-- a small letter stays
kept_letter : (d : ℕ) → d < 16 → to_ascii_lowercase (digit_char d) ≡ digit_char d
kept_letter d small = grind (arith, nat_tests)

byte_key : (x y b : ℕ) (xs ys : List ℕ) → Byte x y b → xs ≡ ys
    → to_ascii_lowercase x ∷ to_ascii_lowercase y ∷ xs ≡ to_ascii_lowercase (digit_char (b / 16)) ∷ to_ascii_lowercase (digit_char (b % 16)) ∷ ys
byte_key x y b xs ys is rest =
    let h : b / 16 < 16 = omega (arith, is.small) in
    let l : b % 16 < 16 = omega arith in
    let high = is.high ∙ sym (kept_letter (b / 16) h) in
    let low = is.low ∙ sym (kept_letter (b % 16) l) in
    ap (λ c. c ∷ to_ascii_lowercase y ∷ xs) high ∙ (ap (λ c. to_ascii_lowercase (digit_char (b / 16)) ∷ c ∷ xs) low
    ∙ ap (λ more. to_ascii_lowercase (digit_char (b / 16)) ∷ to_ascii_lowercase (digit_char (b % 16)) ∷ more) rest)

is_colon : (c : ℕ) → (c == 58) ≡ true → c ≡ colon
is_colon c e = grind (arith, nat_tests)

colon_key : (c : ℕ) (xs ys : List ℕ) → (c == 58) ≡ true → xs ≡ ys → to_ascii_lowercase c ∷ xs ≡ to_ascii_lowercase colon ∷ ys
colon_key c xs ys e rest = ap (λ d. to_ascii_lowercase d ∷ xs) (is_colon c e) ∙ ap (λ more. to_ascii_lowercase colon ∷ more) rest

record Colons (text : List ℕ) : Type 0 where
  long : (length text == 17) ≡ true
  at_2 : is_colon_at text 2 ≡ true
  at_5 : is_colon_at text 5 ≡ true
  at_8 : is_colon_at text 8 ≡ true
  at_11 : is_colon_at text 11 ≡ true
  at_14 : is_colon_at text 14 ≡ true

colons_of : (text : List ℕ) → has_colons text ≡ true → Colons text
unfolding has_colons
colons_of text e =
    let p = both_of (length text == 17) _ e in
    let q = both_of (is_colon_at text 2) _ p.1 in
    let r = both_of (is_colon_at text 5) _ q.1 in
    let s = both_of (is_colon_at text 8) _ r.1 in
    let t = both_of (is_colon_at text 11) _ s.1 in
    record { long = p.0; at_2 = q.0; at_5 = r.0; at_8 = s.0; at_11 = t.0; at_14 = t.1 }

listing_key : (text : List ℕ) (m : Mac) (s : Six text m) → Colons text → map to_ascii_lowercase (listing 17 0 text) ≡ mac_key (mac_with s.a s.b s.c s.d s.e s.f)
unfolding listing mac_text
listing_key text m s at =
    let i = slice_index text in
    byte_key (i 0) (i 1) s.a _ _ s.first
    (colon_key (i 2) _ _ at.at_2
    (byte_key (i 3) (i 4) s.b _ _ s.second
    (colon_key (i 5) _ _ at.at_5
    (byte_key (i 6) (i 7) s.c _ _ s.third
    (colon_key (i 8) _ _ at.at_8
    (byte_key (i 9) (i 10) s.d _ _ s.fourth
    (colon_key (i 11) _ _ at.at_11
    (byte_key (i 12) (i 13) s.e _ _ s.fifth
    (colon_key (i 14) _ _ at.at_14
    (byte_key (i 15) (i 16) s.f [] [] s.sixth refl))))))))))

same_long : (n m : ℕ) → (n == m) ≡ true → n ≡ m
same_long n m e = grind (arith, nat_tests)

pub record Read (text : List ℕ) (m : Mac) : Type 0 where
  pub is_mac : IsMac m
  pub is_key : map to_ascii_lowercase text ≡ mac_key m

read_from : (text : List ℕ) (m : Mac) → Colons text → Six text m → Read text m
read_from text m at s =
    let one = mac_with s.a s.b s.c s.d s.e s.f in
    let long : length text ≡ 17 + 0 = same_long (length text) 17 at.long in
    let whole : text ≡ listing 17 0 text = listed 17 0 text long in
    let is : IsMac one = record {
      six = refl;
      bytes = (s.first.small, (s.second.small, (s.third.small, (s.fourth.small, (s.fifth.small, (s.sixth.small, tt))))));
    } in
    record {
      is_mac = subst IsMac (sym s.is) is;
      is_key = ap (map to_ascii_lowercase) whole ∙ (listing_key text m s at ∙ ap mac_key (sym s.is));
    }

read_all : (text : List ℕ) (o : Option Mac) → Colons text → Of (Six text) o → Of (Read text) o
read_all text None at is = tt
read_all text (Some m) at is = read_from text m at is

read_by : (text : List ℕ) (b : Bool) → has_colons text ≡ b → Of (Read text) (if b then six_bytes text else None)
read_by text true e = read_all text (six_bytes text) (colons_of text e) (six_is text)
read_by text false e = tt

pub mac_read : (text : List ℕ) → Of (Read text) (mac_of text)
unfolding mac_of
mac_read text = read_by text (has_colons text) refl

-- the key of an address is its text
letters_kept : (b : ℕ) (xs ys : List ℕ) → b < 256 → xs ≡ ys
    → to_ascii_lowercase (digit_char (b / 16)) ∷ to_ascii_lowercase (digit_char (b % 16)) ∷ xs ≡ digit_char (b / 16) ∷ digit_char (b % 16) ∷ ys
letters_kept b xs ys small rest =
    let h : b / 16 < 16 = omega (arith, small) in
    let l : b % 16 < 16 = omega arith in
    ap (λ c. c ∷ to_ascii_lowercase (digit_char (b % 16)) ∷ xs) (kept_letter (b / 16) h)
    ∙ (ap (λ c. digit_char (b / 16) ∷ c ∷ xs) (kept_letter (b % 16) l) ∙ ap (λ more. digit_char (b / 16) ∷ digit_char (b % 16) ∷ more) rest)

key_from : (bs : List ℕ) → AreBytes bs → map to_ascii_lowercase (join_with_byte colon (map byte_text bs)) ≡ join_with_byte colon (map byte_text bs)
key_from [] all = refl
key_from (b ∷ []) all = letters_kept b [] [] all.0 refl
key_from (b ∷ c ∷ bs) all =
    letters_kept b (to_ascii_lowercase colon ∷ map to_ascii_lowercase (join_with_byte colon (map byte_text (c ∷ bs)))) (colon ∷ join_with_byte colon (map byte_text (c ∷ bs))) all.0
    (ap (λ more. colon ∷ more) (key_from (c ∷ bs) all.1))

pub key_text : (m : Mac) → IsMac m → mac_key m ≡ mac_text m
unfolding mac_text
key_text m is = key_from m.bytes is.bytes
