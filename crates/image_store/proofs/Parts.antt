-- An image's file is taken apart and put together.
use Rattle.std.proofs.Common.{◌≡◌, ◌⊎◌, inl, inr, ⊎_elim, ◌<◌, ◌≤◌, ◌+◌, ◌-◌, ◌^◌, ◌++◌, ◌||◌, ◌&&◌, not, nat_lt, nat_le, Bool, true, false, cond, eqb, List, [], ◌∷◌, ℕ, Option, None, Some, IsUtf8, find, get_or, length, min, take, drop, refl, sym, ◌∙◌, ap, subst, arith, append_assoc, length-append, length-take, length-drop}
use Rattle.std.specs.Int.{w32, from_be_bytes, to_be_bytes}
use Rattle.std.specs.Str.{is_utf8}
use Rattle.std.proofs.Math.ListN.{drop_of_length-le, get_or-eq_default}
use Rattle.std.proofs.lemmas.Bool.{cases_Bool, cases_lt, eqb-true, ltb-false}
use Rattle.std.proofs.lemmas.Bool.Decides.{leb_tells}
use Rattle.std.proofs.lemmas.List.{drop-drop, get_or-drop, get_or-take, take-append-drop, take_all}
use Rattle.std.proofs.lemmas.Nat.{be_bytes_4, from_be_bytes-to_be_bytes_4}
use Rattle.std.proofs.lemmas.Str.{IsUtf8-from_is_utf8, is_utf8-from_IsUtf8}
use Rattle.virt_types.specs.declared.ask.ImageKind.{ImageKind}
use Rattle.virt_types.specs.declared.ask.ImageKind.TheVariants as kind
use Rattle.virt_types.specs.Limits.{most_text_bytes}
use Rattle.virt_types.specs.Numbers.{image_number}
use Rattle.store_spec.specs.declared.image.Image.{Image}
use Rattle.store_spec.specs.declared.image.ImageField.{ImageField}
use Rattle.store_spec.specs.declared.image.ImageField.TheVariants as field
use Rattle.store_spec.specs.ImageFile.{IsImage, IsImageFile, image_bytes, is_right, magic, passes, parts, seven_words, word, word_at, flag_number, wrong_field, behind_text, or_nothing, is_text}

-- each byte is one
abbrev pub AreBytes : List ℕ → Type 0
AreBytes bytes = (i : ℕ) → get_or bytes i 0 < 256

none_some : (n : ℕ) → None ≡ Some n → ⊥
none_some n is = cc

some_same : (m n : ℕ) → Some m ≡ Some n → m ≡ n
some_same m n is = cc

-- the word at a place is four bytes there
pub record HasWord (bytes : List ℕ) (place n : ℕ) : Type 0 where
  pub within : place + 4 ≤ length bytes
  pub spelled : take 4 (drop place bytes) ≡ to_be_bytes w32 n

small_take : (n : ℕ) (bytes : List ℕ) → AreBytes bytes → AreBytes (take n bytes)
small_take n bytes small i = ⊎_elim
    (λ (past : n ≤ i). let e : get_or (take n bytes) i 0 ≡ 0 = get_or-eq_default (take n bytes) 0 (omega (arith, past, length-take n bytes)) in omega (arith, e))
    (λ (within : i < n). rw (get_or-take n bytes i 0 within) (small i))
    (by_order n i)
  where
    by_order : (n i : ℕ) → (n ≤ i) ⊎ (i < n)
    by_order n i = ⊎_elim (λ (lt : i < n). inr lt) (λ (le : n ≤ i). inl le) (cases_lt i n)

small_drop : (p : ℕ) (bytes : List ℕ) → AreBytes bytes → AreBytes (drop p bytes)
small_drop p bytes small i = rw (get_or-drop p bytes i 0) (small (p + i))

long_enough : (l p : ℕ) → nat_lt l (p + 4) ≡ false → p + 4 ≤ l
long_enough l p is = ltb-false l (p + 4) is

by_length : (b : Bool) (bytes : List ℕ) (place n : ℕ) → AreBytes bytes → nat_lt (length bytes) (place + 4) ≡ b → cond b None (Some (from_be_bytes w32 (take 4 (drop place bytes)))) ≡ Some n → HasWord bytes place n
by_length true bytes place n small short got = absurd (none_some n got)
by_length false bytes place n small long got =
    let enough = long_enough (length bytes) place long in record {
      within = enough;
      spelled = sym (be_bytes_4 (take 4 (drop place bytes)) n (omega (arith, enough, length-take 4 (drop place bytes), length-drop place bytes)) (small_take 4 (drop place bytes) (small_drop place bytes small)) (sym (some_same (from_be_bytes w32 (take 4 (drop place bytes))) n got)));
    }

pub word_found : (bytes : List ℕ) (place n : ℕ) → AreBytes bytes → word_at place bytes ≡ Some n → HasWord bytes place n
unfolding word_at
word_found bytes place n small is = by_length (nat_lt (length bytes) (place + 4)) bytes place n small refl is

-- a test that an absent word would not pass
pub passed : (test : ℕ → Bool) (o : Option ℕ) → passes test o ≡ true → (n : ℕ) × (o ≡ Some n) × (test n ≡ true)
passed test None is = cc
passed test (Some n) is = (n, refl, is)

-- four bytes, and what comes after them
cut_word : (p : ℕ) (bytes w : List ℕ) → take 4 (drop p bytes) ≡ w → drop p bytes ≡ w ++ drop (p + 4) bytes
cut_word p bytes w is = sym (take-append-drop 4 (drop p bytes)) ∙ (λ i. is i ++ drop-drop 4 p bytes i)

-- the seven words, and what comes after them
pub seven_cut : (bytes a b c d e f g : List ℕ) → take 4 (drop 0 bytes) ≡ a → take 4 (drop 4 bytes) ≡ b → take 4 (drop 8 bytes) ≡ c → take 4 (drop 12 bytes) ≡ d → take 4 (drop 16 bytes) ≡ e → take 4 (drop 20 bytes) ≡ f → take 4 (drop 24 bytes) ≡ g
    → bytes ≡ a ++ (b ++ (c ++ (d ++ (e ++ (f ++ (g ++ drop 28 bytes))))))
seven_cut bytes a b c d e f g ia ib ic id ie if_ ig =
    cut_word 0 bytes a ia
    ∙ ap (λ (l : List ℕ). a ++ l) (cut_word 4 bytes b ib
    ∙ ap (λ (l : List ℕ). b ++ l) (cut_word 8 bytes c ic
    ∙ ap (λ (l : List ℕ). c ++ l) (cut_word 12 bytes d id
    ∙ ap (λ (l : List ℕ). d ++ l) (cut_word 16 bytes e ie
    ∙ ap (λ (l : List ℕ). e ++ l) (cut_word 20 bytes f if_
    ∙ ap (λ (l : List ℕ). f ++ l) (cut_word 24 bytes g ig))))))

-- the bytes of an image, from its first word on
pub image_cut : (i : Image) (a b c d e f g : List ℕ) → word magic ≡ a → word 1 ≡ b → word (image_number i.kind) ≡ c → word (flag_number i.running) ≡ d → word 0 ≡ e → word (length i.text) ≡ f → word (length i.saved) ≡ g
    → image_bytes i ≡ a ++ (b ++ (c ++ (d ++ (e ++ (f ++ (g ++ (i.text ++ i.saved)))))))
unfolding image_bytes
image_cut i a b c d e f g ia ib ic id ie if_ ig =
    (λ t. (((((((ia t ++ ib t) ++ ic t) ++ id t) ++ ie t) ++ if_ t) ++ ig t) ++ i.text) ++ i.saved)
    ∙ simp append_assoc

-- no field is wrong, so each is right
abbrev AllFail : (ImageField → Bool) → List ImageField → Type 0
AllFail p [] = Unit {0}
AllFail p (x ∷ xs) = (p x ≡ false) × AllFail p xs

found_none : (b : Bool) (x : ImageField) (rest : Option ImageField) → cond b (Some x) rest ≡ None → (b ≡ false) × (rest ≡ None)
found_none true x rest is = cc
found_none false x rest is = (refl, is)

all_fail : (p : ImageField → Bool) (xs : List ImageField) → find p xs ≡ None → AllFail p xs
all_fail p [] is = tt
all_fail p (x ∷ xs) is = let both = found_none (p x) x (find p xs) is in (both.0, all_fail p xs both.1)

not_false : (b : Bool) → not b ≡ false → b ≡ true
not_false true is = refl
not_false false is = cc

pub right : (bytes : List ℕ) → wrong_field bytes ≡ None → (f : ImageField) → is_right bytes f ≡ true
unfolding wrong_field
right bytes is f =
    let r = all_fail (λ x. not (is_right bytes x)) (field.Magic ∷ field.Version ∷ field.Kind ∷ field.Running ∷ field.Packed ∷ field.Text ∷ field.State ∷ field.End ∷ []) is in
    by f r
  where
    by : (f : ImageField) → AllFail (λ x. not (is_right bytes x)) (field.Magic ∷ field.Version ∷ field.Kind ∷ field.Running ∷ field.Packed ∷ field.Text ∷ field.State ∷ field.End ∷ []) → is_right bytes f ≡ true
    by field.Magic r = not_false (is_right bytes field.Magic) r.0
    by field.Version r = not_false (is_right bytes field.Version) r.1.0
    by field.Kind r = not_false (is_right bytes field.Kind) r.1.1.0
    by field.Running r = not_false (is_right bytes field.Running) r.1.1.1.0
    by field.Packed r = not_false (is_right bytes field.Packed) r.1.1.1.1.0
    by field.Text r = not_false (is_right bytes field.Text) r.1.1.1.1.1.0
    by field.State r = not_false (is_right bytes field.State) r.1.1.1.1.1.1.0
    by field.End r = not_false (is_right bytes field.End) r.1.1.1.1.1.1.1.0

-- what the words say, where no field is wrong
pub record Tells (bytes : List ℕ) (kind_is running_is text_is saved_is : ℕ) : Type 0 where
  pub magic_word : word_at 0 bytes ≡ Some magic
  pub version_word : word_at 4 bytes ≡ Some 1
  pub kind_word : word_at 8 bytes ≡ Some kind_is
  pub kind_range : (kind_is ≡ 1) ⊎ (kind_is ≡ 2)
  pub running_word : word_at 12 bytes ≡ Some running_is
  pub running_range : (running_is ≡ 0) ⊎ (running_is ≡ 1)
  pub packed_word : word_at 16 bytes ≡ Some 0
  pub text_word : word_at 20 bytes ≡ Some text_is
  pub text_fits : is_text (parts bytes) text_is ≡ true
  pub saved_word : word_at 24 bytes ≡ Some saved_is
  pub saved_fits : saved_is ≡ length (behind_text bytes)

either : (a b : Bool) → (a || b) ≡ true → (a ≡ true) ⊎ (b ≡ true)
either true b is = inl refl
either false b is = inr is

exactly : (o : Option ℕ) (n : ℕ) → passes (λ x. eqb x n) o ≡ true → o ≡ Some n
exactly None n is = cc
exactly (Some x) n is = ap (λ (y : ℕ). Some y) (eqb-true x n is)

one_of : (o : Option ℕ) (m n : ℕ) → passes (λ x. eqb x m || eqb x n) o ≡ true → (x : ℕ) × (o ≡ Some x) × ((x ≡ m) ⊎ (x ≡ n))
one_of None m n is = cc
one_of (Some x) m n is = (x, refl, ⊎_elim (λ a. inl (eqb-true x m a)) (λ b. inr (eqb-true x n b)) (either (eqb x m) (eqb x n) is))

pub tells : (bytes : List ℕ) → wrong_field bytes ≡ None → (k r t s : ℕ) × Tells bytes k r t s
unfolding is_right
tells bytes is =
    let k = one_of (word_at 8 bytes) 1 2 (right bytes is field.Kind) in
    let r = one_of (word_at 12 bytes) 0 1 (right bytes is field.Running) in
    let t = passed (is_text (parts bytes)) (word_at 20 bytes) (right bytes is field.Text) in
    let s = passed (λ n. nat_le n (length (behind_text bytes))) (word_at 24 bytes) (right bytes is field.State) in
    let end : or_nothing (word_at 24 bytes) ≡ length (behind_text bytes) = eqb-true (or_nothing (word_at 24 bytes)) (length (behind_text bytes)) (right bytes is field.End) in (
      k.0,
      r.0,
      t.0,
      s.0,
      record {
        magic_word = exactly (word_at 0 bytes) magic (right bytes is field.Magic);
        version_word = exactly (word_at 4 bytes) 1 (right bytes is field.Version);
        kind_word = k.1;
        kind_range = k.2;
        running_word = r.1;
        running_range = r.2;
        packed_word = exactly (word_at 16 bytes) 0 (right bytes is field.Packed);
        text_word = t.1;
        text_fits = t.2;
        saved_word = s.1;
        saved_fits = ap (λ (o : Option ℕ). or_nothing o) (sym s.1) ∙ end;
      },
    )

-- a number that has a word
pub word_small : (n m : ℕ) → n ≡ m → m ≤ 0xffffffff → word n ≡ to_be_bytes w32 m
unfolding word
word_small n m same small =
    let e : min n 0xffffffff ≡ m = omega (arith, same, small) in
    ap (λ (x : ℕ). to_be_bytes w32 x) e

both_true : (a b c : Bool) → (a && b && c) ≡ true → (a ≡ true) × (b ≡ true) × (c ≡ true)
both_true true true true is = (refl, refl, refl)
both_true true true false is = cc
both_true true false c is = cc
both_true false b c is = cc

le_of : (a b : ℕ) → nat_le a b ≡ true → a ≤ b
le_of a b is = ⊎_elim (λ yes. yes.1) (λ no. absurd (never (sym is ∙ no.0))) (leb_tells a b)
  where
    never : true ≡ false → ⊥
    never e = cc

-- the image that the bytes are
pub record IsOf (i : Image) (bytes : List ℕ) (k r t s : ℕ) : Type 0 where
  pub kind_is : image_number i.kind ≡ k
  pub running_is : flag_number i.running ≡ r
  pub text_is : i.text ≡ take t (parts bytes)
  pub saved_is : i.saved ≡ drop t (parts bytes)
  pub utf8 : IsUtf8 i.text
  pub short : s < 2 ^ 32

pub written : (bytes : List ℕ) (k r t s : ℕ) (i : Image) → AreBytes bytes → Tells bytes k r t s → IsOf i bytes k r t s → IsImageFile i bytes
written bytes k r t s i small w o =
    let fits = both_true (nat_le t most_text_bytes) (nat_le t (length (parts bytes))) (is_utf8 (take t (parts bytes))) w.text_fits in
    let most : t ≤ most_text_bytes = le_of t most_text_bytes fits.0 in
    let there : t ≤ length (parts bytes) = le_of t (length (parts bytes)) fits.1 in
    let text_long : length i.text ≡ t = ap (λ (l : List ℕ). length l) o.text_is ∙ omega (arith, there, length-take t (parts bytes)) in
    let behind : behind_text bytes ≡ drop t (parts bytes) = ap (λ (x : Option ℕ). drop (or_nothing x) (parts bytes)) w.text_word in
    let saved_long : length i.saved ≡ s = ap (λ (l : List ℕ). length l) (o.saved_is ∙ sym behind) ∙ sym w.saved_fits in
    let rest : drop 28 bytes ≡ i.text ++ i.saved = sym (take-append-drop t (parts bytes)) ∙ (λ j. sym o.text_is j ++ sym o.saved_is j) in
    record {
      spelling = seven_cut bytes (to_be_bytes w32 magic) (to_be_bytes w32 1) (to_be_bytes w32 k) (to_be_bytes w32 r) (to_be_bytes w32 0) (to_be_bytes w32 t) (to_be_bytes w32 s)
          (word_found bytes 0 magic small w.magic_word).spelled (word_found bytes 4 1 small w.version_word).spelled (word_found bytes 8 k small w.kind_word).spelled (word_found bytes 12 r small w.running_word).spelled
          (word_found bytes 16 0 small w.packed_word).spelled (word_found bytes 20 t small w.text_word).spelled (word_found bytes 24 s small w.saved_word).spelled
          ∙ ap (λ (l : List ℕ). to_be_bytes w32 magic ++ (to_be_bytes w32 1 ++ (to_be_bytes w32 k ++ (to_be_bytes w32 r ++ (to_be_bytes w32 0 ++ (to_be_bytes w32 t ++ (to_be_bytes w32 s ++ l))))))) rest
          ∙ sym (image_cut i (to_be_bytes w32 magic) (to_be_bytes w32 1) (to_be_bytes w32 k) (to_be_bytes w32 r) (to_be_bytes w32 0) (to_be_bytes w32 t) (to_be_bytes w32 s)
          (word_small magic magic refl (omega arith)) (word_small 1 1 refl (omega arith)) (word_small (image_number i.kind) k o.kind_is (omega (arith, range_of k w.kind_range))) (word_small (flag_number i.running) r o.running_is (omega (arith, flag_range r w.running_range)))
          (word_small 0 0 refl (omega arith)) (word_small (length i.text) t text_long (omega (arith, most))) (word_small (length i.saved) s saved_long (omega (arith, o.short))));
      image = record { text = omega (arith, text_long, most); utf8 = o.utf8; saved = omega (arith, saved_long, o.short) };
    }
  where
    range_of : (k : ℕ) → (k ≡ 1) ⊎ (k ≡ 2) → k ≤ 2
    range_of k (inl is) = omega (arith, is)
    range_of k (inr is) = omega (arith, is)

    flag_range : (r : ℕ) → (r ≡ 0) ⊎ (r ≡ 1) → r ≤ 1
    flag_range r (inl is) = omega (arith, is)
    flag_range r (inr is) = omega (arith, is)

-- no more than there are
pub drop_within : (n : ℕ) (bytes : List ℕ) → drop (min n (length bytes)) bytes ≡ drop n bytes
drop_within n bytes = ⊎_elim
    (λ (past : length bytes < n). let e : min n (length bytes) ≡ length bytes = omega (arith, past) in
    ap (λ (k : ℕ). drop k bytes) e ∙ drop_of_length-le bytes (omega arith) ∙ sym (drop_of_length-le bytes (omega (arith, past))))
    (λ (within : n ≤ length bytes). let e : min n (length bytes) ≡ n = omega (arith, within) in ap (λ (k : ℕ). drop k bytes) e)
    (cases_lt (length bytes) n)

pub take_within : (n : ℕ) (bytes : List ℕ) → take (min n (length bytes)) bytes ≡ take n bytes
take_within n bytes = ⊎_elim
    (λ (past : length bytes < n). let e : min n (length bytes) ≡ length bytes = omega (arith, past) in
    ap (λ (k : ℕ). take k bytes) e ∙ take_all (length bytes) bytes (omega arith) ∙ sym (take_all n bytes (omega (arith, past))))
    (λ (within : n ≤ length bytes). let e : min n (length bytes) ≡ n = omega (arith, within) in ap (λ (k : ℕ). take k bytes) e)
    (cases_lt (length bytes) n)

-- a text is one as a test says
pub utf8_true : (bytes : List ℕ) → IsUtf8 bytes → true ≡ is_utf8 bytes
utf8_true bytes is = sym (is_utf8-from_IsUtf8 bytes is)

pub utf8_false : (bytes : List ℕ) → (IsUtf8 bytes → ⊥) → false ≡ is_utf8 bytes
utf8_false bytes not = by (is_utf8 bytes) refl
  where
    by : (b : Bool) → is_utf8 bytes ≡ b → false ≡ b
    by true is = absurd (not (IsUtf8-from_is_utf8 bytes is))
    by false is = refl

-- the text of bytes in which no field is wrong
pub text_utf8 : (bytes : List ℕ) → wrong_field bytes ≡ None → IsUtf8 (take (or_nothing (word_at 20 bytes)) (parts bytes))
text_utf8 bytes is =
    let x = tells bytes is in
    let t = x.2 in
    let fits = both_true (nat_le t most_text_bytes) (nat_le t (length (parts bytes))) (is_utf8 (take t (parts bytes))) x.4.text_fits in
    subst (λ (o : Option ℕ). IsUtf8 (take (or_nothing o) (parts bytes))) (sym x.4.text_word) (IsUtf8-from_is_utf8 (take t (parts bytes)) fits.2)

pub image_of : (bytes : List ℕ) (i : Image) → AreBytes bytes → wrong_field bytes ≡ None
    → (word_at 8 bytes ≡ Some 1 → i.kind ≡ kind.Save) → (word_at 8 bytes ≡ Some 2 → i.kind ≡ kind.Dump)
    → i.running ≡ eqb (or_nothing (word_at 12 bytes)) 1
    → i.text ≡ take (or_nothing (word_at 20 bytes)) (parts bytes)
    → i.saved ≡ take (or_nothing (word_at 24 bytes)) (behind_text bytes)
    → or_nothing (word_at 24 bytes) < 2 ^ 32 → IsImageFile i bytes
image_of bytes i small is save dump running text saved short =
    let x = tells bytes is in
    let w = x.4 in
    let text_told : or_nothing (word_at 20 bytes) ≡ x.2 = ap (λ (o : Option ℕ). or_nothing o) w.text_word in
    let saved_told : or_nothing (word_at 24 bytes) ≡ x.3 = ap (λ (o : Option ℕ). or_nothing o) w.saved_word in
    let behind : behind_text bytes ≡ drop x.2 (parts bytes) = ap (λ (k : ℕ). drop k (parts bytes)) text_told in
    written bytes x.0 x.1 x.2 x.3 i small w (record {
      kind_is = by_kind x.0 w.kind_range (λ one. save (w.kind_word ∙ ap (λ (k : ℕ). Some k) one)) (λ two. dump (w.kind_word ∙ ap (λ (k : ℕ). Some k) two));
      running_is = by_flag x.1 w.running_range (running ∙ ap (λ (o : Option ℕ). eqb (or_nothing o) 1) w.running_word);
      text_is = text ∙ ap (λ (k : ℕ). take k (parts bytes)) text_told;
      saved_is = saved ∙ take_all (or_nothing (word_at 24 bytes)) (behind_text bytes) (omega (arith, w.saved_fits, saved_told)) ∙ behind;
      utf8 = subst IsUtf8 (sym text) (text_utf8 bytes is);
      short = omega (arith, short, saved_told);
    })
  where
    by_kind : (k : ℕ) → (k ≡ 1) ⊎ (k ≡ 2) → (k ≡ 1 → i.kind ≡ kind.Save) → (k ≡ 2 → i.kind ≡ kind.Dump) → image_number i.kind ≡ k
    by_kind k (inl one) a b = ap image_number (a one) ∙ sym one
    by_kind k (inr two) a b = ap image_number (b two) ∙ sym two

    by_flag : (r : ℕ) → (r ≡ 0) ⊎ (r ≡ 1) → i.running ≡ eqb r 1 → flag_number i.running ≡ r
    by_flag r (inl none) same = ap flag_number (same ∙ ap (λ (n : ℕ). eqb n 1) none) ∙ sym none
    by_flag r (inr one) same = ap flag_number (same ∙ ap (λ (n : ℕ). eqb n 1) one) ∙ sym one
