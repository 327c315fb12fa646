-- What the words of an image's file say.
use Rattle.std.proofs.Common.{◌≡◌, ◌⊎◌, inl, inr, ⊎_elim, ◌<◌, ◌≤◌, ◌+◌, ◌^◌, ◌++◌, ◌||◌, ◌&&◌, not, nat_lt, nat_le, Bool, true, false, cond, eqb, List, [], ◌∷◌, ℕ, Option, None, Some, find, length, take, drop, refl, sym, ◌∙◌, ap, subst, arith, append_assoc, length-append}
use Rattle.std.specs.Int.{w32, from_be_bytes, to_be_bytes}
use Rattle.std.specs.Str.{is_utf8}
use Rattle.std.proofs.Math.Seq.{drop-append_seam, take-append_seam}
use Rattle.std.proofs.lemmas.Bool.{cases_Bool, cond-false, cond-true, eqb-false, eqb-true, le-leb, le-ltb, leb-true}
use Rattle.std.proofs.lemmas.Nat.{from_be_bytes-to_be_bytes_4}
use Rattle.std.proofs.lemmas.Str.{is_utf8-from_IsUtf8}
use Rattle.virt_types.specs.declared.ask.ImageKind.{ImageKind}
use Rattle.virt_types.specs.declared.ask.ImageKind.TheVariants as kind
use Rattle.virt_types.specs.Limits.{most_text_bytes}
use Rattle.virt_types.specs.Numbers.{image_number}
use Rattle.store_spec.specs.declared.image.Image.{Image}
use Rattle.store_spec.specs.declared.image.ImageField.{ImageField}
use Rattle.store_spec.specs.declared.image.ImageField.TheVariants as field
use Rattle.store_spec.specs.ImageFile.{IsImage, behind_text, fields, flag_number, is_right, is_text, magic, or_nothing, parts, passes, word, word_at, wrong_field}
use Rattle.image_store.proofs.Parts.{word_small}

word_long : (n : ℕ) → length (word n) ≡ 4
unfolding word
word_long n = refl

-- bytes after a front of this length
record Behind (bytes front rest : List ℕ) (place : ℕ) : Type 0 where
  is : bytes ≡ front ++ rest
  long : length front ≡ place

next : (bytes front rest : List ℕ) (place n : ℕ) → Behind bytes front (word n ++ rest) place → Behind bytes (front ++ word n) rest (place + 4)
next bytes front rest place n b = record {
  is = b.is ∙ sym (append_assoc front (word n) rest);
  long = omega (arith, length-append front (word n), word_long n, b.long);
}

-- a number that has a word is read there
read_at : (bytes front rest : List ℕ) (place n : ℕ) → Behind bytes front (word n ++ rest) place → n < 2 ^ 32 → word_at place bytes ≡ Some n
unfolding word_at
read_at bytes front rest place n b small =
    let whole : length bytes ≡ length front + (length (word n) + length rest) = ap length b.is ∙ length-append front (word n ++ rest) ∙ ap (λ (k : ℕ). length front + k) (length-append (word n) rest) in
    let enough : nat_lt (length bytes) (place + 4) ≡ false = le-ltb (length bytes) (place + 4) (omega (arith, whole, b.long, word_long n)) in
    let behind : drop place bytes ≡ word n ++ rest = (λ j. drop (sym b.long j) (b.is j)) ∙ drop-append_seam front (word n ++ rest) in
    let cut : take 4 (drop place bytes) ≡ word n = ap (λ (l : List ℕ). take 4 l) behind ∙ (λ j. take (sym (word_long n) j) (word n ++ rest)) ∙ take-append_seam (word n) rest in
    cond-false (nat_lt (length bytes) (place + 4)) None (Some (from_be_bytes w32 (take 4 (drop place bytes)))) enough
    ∙ ap (λ (l : List ℕ). Some (from_be_bytes w32 l)) (cut ∙ word_small n n refl (omega (arith, small)))
    ∙ ap (λ (k : ℕ). Some k) (from_be_bytes-to_be_bytes_4 n small)

-- seven words, and the rest
pub record HasWords (bytes : List ℕ) (a b c d e f g : ℕ) (rest : List ℕ) : Type 0 where
  pub first : word_at 0 bytes ≡ Some a
  pub second : word_at 4 bytes ≡ Some b
  pub third : word_at 8 bytes ≡ Some c
  pub fourth : word_at 12 bytes ≡ Some d
  pub fifth : word_at 16 bytes ≡ Some e
  pub sixth : word_at 20 bytes ≡ Some f
  pub seventh : word_at 24 bytes ≡ Some g
  pub behind : parts bytes ≡ rest

-- each number has a word
pub record HaveWords (a b c d e f g : ℕ) : Type 0 where
  pub a_small : a < 2 ^ 32
  pub b_small : b < 2 ^ 32
  pub c_small : c < 2 ^ 32
  pub d_small : d < 2 ^ 32
  pub e_small : e < 2 ^ 32
  pub f_small : f < 2 ^ 32
  pub g_small : g < 2 ^ 32

pub has_words : (bytes : List ℕ) (a b c d e f g : ℕ) (rest : List ℕ) → bytes ≡ word a ++ (word b ++ (word c ++ (word d ++ (word e ++ (word f ++ (word g ++ rest)))))) → HaveWords a b c d e f g → HasWords bytes a b c d e f g rest
has_words bytes a b c d e f g rest is s =
    let r6 = word g ++ rest in
    let r5 = word f ++ r6 in
    let r4 = word e ++ r5 in
    let r3 = word d ++ r4 in
    let r2 = word c ++ r3 in
    let r1 = word b ++ r2 in
    let b0 : Behind bytes [] (word a ++ r1) 0 = record { is = is; long = refl } in
    let b1 = next bytes [] r1 0 a b0 in
    let f1 = [] ++ word a in
    let b2 = next bytes f1 r2 4 b b1 in
    let f2 = f1 ++ word b in
    let b3 = next bytes f2 r3 8 c b2 in
    let f3 = f2 ++ word c in
    let b4 = next bytes f3 r4 12 d b3 in
    let f4 = f3 ++ word d in
    let b5 = next bytes f4 r5 16 e b4 in
    let f5 = f4 ++ word e in
    let b6 = next bytes f5 r6 20 f b5 in
    let f6 = f5 ++ word f in
    let b7 = next bytes f6 rest 24 g b6 in
    record {
      first = read_at bytes [] r1 0 a b0 s.a_small;
      second = read_at bytes f1 r2 4 b b1 s.b_small;
      third = read_at bytes f2 r3 8 c b2 s.c_small;
      fourth = read_at bytes f3 r4 12 d b3 s.d_small;
      fifth = read_at bytes f4 r5 16 e b4 s.e_small;
      sixth = read_at bytes f5 r6 20 f b5 s.f_small;
      seventh = read_at bytes f6 rest 24 g b6 s.g_small;
      behind = (λ j. drop (sym b7.long j) (b7.is j)) ∙ drop-append_seam (f6 ++ word g) rest;
    }

-- each field's test, by the words
module _ {bytes : List ℕ} {a b c d e f g : ℕ} {rest : List ℕ} (w : HasWords bytes a b c d e f g rest) where
  behind_is : behind_text bytes ≡ drop f rest
  behind_is = λ j. drop (or_nothing (w.sixth j)) (w.behind j)

  pub magic_is : is_right bytes field.Magic ≡ eqb a magic
  unfolding is_right
  magic_is = ap (passes (λ n. eqb n magic)) w.first

  pub version_is : is_right bytes field.Version ≡ eqb b 1
  unfolding is_right
  version_is = ap (passes (λ n. eqb n 1)) w.second

  pub kind_is : is_right bytes field.Kind ≡ (eqb c 1 || eqb c 2)
  unfolding is_right
  kind_is = ap (passes (λ n. eqb n 1 || eqb n 2)) w.third

  pub running_is : is_right bytes field.Running ≡ (eqb d 0 || eqb d 1)
  unfolding is_right
  running_is = ap (passes (λ n. eqb n 0 || eqb n 1)) w.fourth

  pub packed_is : is_right bytes field.Packed ≡ eqb e 0
  unfolding is_right
  packed_is = ap (passes (λ n. eqb n 0)) w.fifth

  pub text_is : is_right bytes field.Text ≡ is_text rest f
  unfolding is_right
  text_is = λ j. passes (is_text (w.behind j)) (w.sixth j)

  pub state_is : is_right bytes field.State ≡ nat_le g (length (drop f rest))
  unfolding is_right
  state_is = λ j. passes (λ n. nat_le n (length (behind_is j))) (w.seventh j)

  pub end_is : is_right bytes field.End ≡ eqb g (length (drop f rest))
  unfolding is_right
  end_is = λ j. eqb (or_nothing (w.seventh j)) (length (behind_is j))

-- none of these is found
abbrev pub AllFail : (ImageField → Bool) → List ImageField → Type 0
AllFail p [] = Unit {0}
AllFail p (x ∷ xs) = (p x ≡ false) × AllFail p xs

find_here : (p : ImageField → Bool) (front : List ImageField) (x : ImageField) (rest : List ImageField) → AllFail p front → p x ≡ true → find p (front ++ x ∷ rest) ≡ Some x
find_here p [] x rest none is = cond-true (p x) (Some x) (find p rest) is
find_here p (y ∷ front) x rest none is = cond-false (p y) (Some y) (find p (front ++ x ∷ rest)) none.0 ∙ find_here p front x rest none.1 is

find_nowhere : (p : ImageField → Bool) (xs : List ImageField) → AllFail p xs → find p xs ≡ None
find_nowhere p [] none = refl
find_nowhere p (x ∷ xs) none = cond-false (p x) (Some x) (find p xs) none.0 ∙ find_nowhere p xs none.1

-- the first wrong field, and none
pub named : (bytes : List ℕ) (front : List ImageField) (x : ImageField) (rest : List ImageField) → fields ≡ front ++ x ∷ rest → AllFail (λ f. not (is_right bytes f)) front → is_right bytes x ≡ false → wrong_field bytes ≡ Some x
unfolding wrong_field
named bytes front x rest all none wrong = ap (λ (l : List ImageField). find (λ f. not (is_right bytes f)) l) all ∙ find_here (λ f. not (is_right bytes f)) front x rest none (ap not wrong)

pub none_wrong : (bytes : List ℕ) → AllFail (λ f. not (is_right bytes f)) fields → wrong_field bytes ≡ None
unfolding wrong_field
none_wrong bytes none = find_nowhere (λ f. not (is_right bytes f)) fields none

-- tests of numbers
pub equal : (a b : ℕ) → a ≡ b → eqb a b ≡ true
equal a b same = by (eqb a b) refl
  where
    by : (x : Bool) → eqb a b ≡ x → x ≡ true
    by true is = refl
    by false is = absurd (eqb-false a b is same)

pub unequal : (a b : ℕ) → (a ≡ b → ⊥) → eqb a b ≡ false
unequal a b differ = by (eqb a b) refl
  where
    by : (x : Bool) → eqb a b ≡ x → x ≡ false
    by true is = absurd (differ (eqb-true a b is))
    by false is = refl

pub greater : (a b : ℕ) → b < a → nat_le a b ≡ false
greater a b more = by (nat_le a b) refl
  where
    by : (x : Bool) → nat_le a b ≡ x → x ≡ false
    by true is = let le = leb-true a b is in absurd (omega (arith, le, more))
    by false is = refl

pub neither : (a b : Bool) → a ≡ false → b ≡ false → (a || b) ≡ false
neither a b x y = ap (λ (z : Bool). z || b) x ∙ y

pub all_three : (a b c : Bool) → a ≡ true → b ≡ true → c ≡ true → (a && b && c) ≡ true
all_three a b c x y z = (λ j. x j && y j && z j)

pub second_fails : (a b c : Bool) → b ≡ false → (a && b && c) ≡ false
second_fails true b c is = ap (λ (x : Bool). x && c) is
second_fails false b c is = refl

pub right_kind : (k : ImageKind) → (eqb (image_number k) 1 || eqb (image_number k) 2) ≡ true
right_kind kind.Save = refl
right_kind kind.Dump = refl

pub right_flag : (r : Bool) → (eqb (flag_number r) 0 || eqb (flag_number r) 1) ≡ true
right_flag true = refl
right_flag false = refl

-- the text of an image, whatever comes after it
pub right_text : (i : Image) (tail : List ℕ) → IsImage i → is_text (i.text ++ tail) (length i.text) ≡ true
right_text i tail is = all_three (nat_le (length i.text) most_text_bytes) (nat_le (length i.text) (length (i.text ++ tail))) (is_utf8 (take (length i.text) (i.text ++ tail)))
    (le-leb (length i.text) most_text_bytes is.text)
    (le-leb (length i.text) (length (i.text ++ tail)) (omega (arith, length-append i.text tail)))
    (ap is_utf8 (take-append_seam i.text tail) ∙ is_utf8-from_IsUtf8 i.text is.utf8)
