-- Laws of images' files: which field is wrong, and that a file holds one image.
use Rattle.std.proofs.Common.{◌≡◌, ◌⊎◌, inl, inr, ⊎_elim, ◌<◌, ◌≤◌, ◌+◌, ◌^◌, ◌++◌, ◌||◌, not, nat_le, Bool, true, false, eqb, List, [], ◌∷◌, ℕ, Option, None, Some, Result, Ok, Err, length, take, drop, refl, sym, ◌∙◌, ap, subst, arith, append_assoc, length-append}
use Rattle.std.specs.Str.{is_utf8}
use Rattle.std.proofs.Math.Seq.{drop-append_seam, take-append_seam}
use Rattle.std.proofs.lemmas.Bool.{le-leb}
use Rattle.virt_types.specs.declared.ask.ImageKind.{ImageKind}
use Rattle.virt_types.specs.declared.ask.ImageKind.TheVariants as kind
use Rattle.virt_types.specs.Below.types_base.declared.memory.OrNoMemory.{OrNoMemory}
use Rattle.virt_types.specs.Below.types_base.declared.memory.OrNoMemory.TheVariants as or
use Rattle.virt_types.specs.Limits.{most_text_bytes}
use Rattle.virt_types.specs.Numbers.{image_number}
use Rattle.store_spec.specs.declared.image.Image.{Image}
use Rattle.store_spec.specs.declared.image.ImageFault.{ImageFault}
use Rattle.store_spec.specs.declared.image.ImageFault.TheVariants as fault
use Rattle.store_spec.specs.declared.image.ImageField.{ImageField}
use Rattle.store_spec.specs.declared.image.ImageField.TheVariants as field
use Rattle.store_spec.specs.ImageFile.{IsImage, IsImageFile, flag_number, image_bytes, is_right, magic, parts, word, word_at, wrong_field}
use Rattle.image_store.specs.Laws.{FieldsAreNamed, HoldsOneImage, ImagesAreRight, ImagesReadBack, IsBack, NamesItsFields, SpellsItsImage, with_words}
use Rattle.image_store.specs.Storing.{IsReadIn}
use Rattle.image_store.proofs.Parts.{image_cut}
use Rattle.image_store.proofs.Words.{AllFail, HasWords, HaveWords, all_three, end_is, equal, greater, has_words, kind_is, magic_is, named, neither, none_wrong, packed_is, right_flag, right_kind, right_text, running_is, second_fails, state_is, text_is, unequal, version_is}

kind_small : (k : ImageKind) → image_number k < 2 ^ 32
kind_small kind.Save = omega arith
kind_small kind.Dump = omega arith

flag_small : (r : Bool) → flag_number r < 2 ^ 32
flag_small true = omega arith
flag_small false = omega arith

-- the words of an image's file, with more bytes at its end
words_more : (i : Image) (more : List ℕ) → IsImage i → HasWords (image_bytes i ++ more) magic 1 (image_number i.kind) (flag_number i.running) 0 (length i.text) (length i.saved) (i.text ++ (i.saved ++ more))
words_more i more is = has_words (image_bytes i ++ more) magic 1 (image_number i.kind) (flag_number i.running) 0 (length i.text) (length i.saved) (i.text ++ (i.saved ++ more))
    (ap (λ (l : List ℕ). l ++ more) (image_cut i (word magic) (word 1) (word (image_number i.kind)) (word (flag_number i.running)) (word 0) (word (length i.text)) (word (length i.saved)) refl refl refl refl refl refl refl) ∙ simp append_assoc)
    (record { a_small = omega arith; b_small = omega arith; c_small = kind_small i.kind; d_small = flag_small i.running; e_small = omega arith; f_small = omega (arith, is.text); g_small = is.saved })

words_of : (i : Image) → IsImage i → HasWords (image_bytes i) magic 1 (image_number i.kind) (flag_number i.running) 0 (length i.text) (length i.saved) (i.text ++ i.saved)
words_of i is = has_words (image_bytes i) magic 1 (image_number i.kind) (flag_number i.running) 0 (length i.text) (length i.saved) (i.text ++ i.saved)
    (image_cut i (word magic) (word 1) (word (image_number i.kind)) (word (flag_number i.running)) (word 0) (word (length i.text)) (word (length i.saved)) refl refl refl refl refl refl refl)
    (record { a_small = omega arith; b_small = omega arith; c_small = kind_small i.kind; d_small = flag_small i.running; e_small = omega arith; f_small = omega (arith, is.text); g_small = is.saved })

-- other words in their place
words_with : (a b c d e f g : ℕ) (i : Image) → HaveWords a b c d e f g → HasWords (with_words (a ∷ b ∷ c ∷ d ∷ e ∷ f ∷ g ∷ []) i) a b c d e f g (i.text ++ i.saved)
words_with a b c d e f g i s = has_words (with_words (a ∷ b ∷ c ∷ d ∷ e ∷ f ∷ g ∷ []) i) a b c d e f g (i.text ++ i.saved) (simp append_assoc) s

-- fields that are right, by the words
right : (bytes : List ℕ) (f : ImageField) (b : Bool) → is_right bytes f ≡ b → b ≡ true → not (is_right bytes f) ≡ false
right bytes f b is holds = ap not (is ∙ holds)

module _ (bytes : List ℕ) (b c d e f g : ℕ) (rest : List ℕ) (w : HasWords bytes magic b c d e f g rest) where
  front_one : AllFail (λ x. not (is_right bytes x)) (field.Magic ∷ [])
  front_one = (right bytes field.Magic (eqb magic magic) (magic_is w) (equal magic magic refl), tt)

module _ (bytes : List ℕ) (c d e f g : ℕ) (rest : List ℕ) (w : HasWords bytes magic 1 c d e f g rest) where
  front_two : AllFail (λ x. not (is_right bytes x)) (field.Magic ∷ field.Version ∷ [])
  front_two = ((front_one bytes 1 c d e f g rest w).0, (right bytes field.Version (eqb 1 1) (version_is w) refl, tt))

module _ (bytes : List ℕ) (k : ImageKind) (d e f g : ℕ) (rest : List ℕ) (w : HasWords bytes magic 1 (image_number k) d e f g rest) where
  front_three : AllFail (λ x. not (is_right bytes x)) (field.Magic ∷ field.Version ∷ field.Kind ∷ [])
  front_three = let x = front_two bytes (image_number k) d e f g rest w in
      (x.0, (x.1.0, (right bytes field.Kind (eqb (image_number k) 1 || eqb (image_number k) 2) (kind_is w) (right_kind k), tt)))

module _ (bytes : List ℕ) (k : ImageKind) (r : Bool) (e f g : ℕ) (rest : List ℕ) (w : HasWords bytes magic 1 (image_number k) (flag_number r) e f g rest) where
  front_four : AllFail (λ x. not (is_right bytes x)) (field.Magic ∷ field.Version ∷ field.Kind ∷ field.Running ∷ [])
  front_four = let x = front_three bytes k (flag_number r) e f g rest w in
      (x.0, (x.1.0, (x.1.1.0, (right bytes field.Running (eqb (flag_number r) 0 || eqb (flag_number r) 1) (running_is w) (right_flag r), tt))))

module _ (bytes : List ℕ) (k : ImageKind) (r : Bool) (f g : ℕ) (rest : List ℕ) (w : HasWords bytes magic 1 (image_number k) (flag_number r) 0 f g rest) where
  front_five : AllFail (λ x. not (is_right bytes x)) (field.Magic ∷ field.Version ∷ field.Kind ∷ field.Running ∷ field.Packed ∷ [])
  front_five = let x = front_four bytes k r 0 f g rest w in
      (x.0, (x.1.0, (x.1.1.0, (x.1.1.1.0, (right bytes field.Packed (eqb 0 0) (packed_is w) refl, tt)))))

-- up to the text, whatever comes after it
module _ (bytes : List ℕ) (i : Image) (g : ℕ) (tail : List ℕ) (is : IsImage i) (w : HasWords bytes magic 1 (image_number i.kind) (flag_number i.running) 0 (length i.text) g (i.text ++ tail)) where
  front_six : AllFail (λ x. not (is_right bytes x)) (field.Magic ∷ field.Version ∷ field.Kind ∷ field.Running ∷ field.Packed ∷ field.Text ∷ [])
  front_six = let x = front_five bytes i.kind i.running (length i.text) g (i.text ++ tail) w in
      (x.0, (x.1.0, (x.1.1.0, (x.1.1.1.0, (x.1.1.1.1.0, (ap not (text_is w ∙ right_text i tail is), tt))))))

  behind_long : length (drop (length i.text) (i.text ++ tail)) ≡ length tail
  behind_long = ap (λ (l : List ℕ). length l) (drop-append_seam i.text tail)

  front_seven : g ≤ length tail → AllFail (λ x. not (is_right bytes x)) (field.Magic ∷ field.Version ∷ field.Kind ∷ field.Running ∷ field.Packed ∷ field.Text ∷ field.State ∷ [])
  front_seven le = let x = front_six in
      (x.0, (x.1.0, (x.1.1.0, (x.1.1.1.0, (x.1.1.1.1.0, (x.1.1.1.1.1.0, (ap not (state_is w ∙ ap (nat_le g) behind_long ∙ le-leb g (length tail) le), tt)))))))

  no_state : length tail < g → is_right bytes field.State ≡ false
  no_state more = state_is w ∙ ap (nat_le g) behind_long ∙ greater g (length tail) more

  no_end : (g ≡ length tail → ⊥) → is_right bytes field.End ≡ false
  no_end differ = end_is w ∙ ap (eqb g) behind_long ∙ unequal g (length tail) differ

  its_end : g ≡ length tail → is_right bytes field.End ≡ true
  its_end same = end_is w ∙ ap (eqb g) behind_long ∙ equal g (length tail) same

pub images_are_right : ImagesAreRight
images_are_right i is =
    let w = words_of i is in
    let x = front_seven (image_bytes i) i (length i.saved) i.saved is w (omega arith) in
    none_wrong (image_bytes i) (x.0, (x.1.0, (x.1.1.0, (x.1.1.1.0, (x.1.1.1.1.0, (x.1.1.1.1.1.0, (x.1.1.1.1.1.1.0, (ap not (its_end (image_bytes i) i (length i.saved) i.saved is w refl), tt))))))))

pub fields_are_named : FieldsAreNamed
fields_are_named i n more is small = record {
  of_magic = λ differ. let w = words_with n 1 k r 0 t s i (record { a_small = small; b_small = omega arith; c_small = kind_small i.kind; d_small = flag_small i.running; e_small = omega arith; f_small = text_small; g_small = is.saved }) in
      named (with_words (n ∷ 1 ∷ k ∷ r ∷ 0 ∷ t ∷ s ∷ []) i) [] field.Magic (field.Version ∷ field.Kind ∷ field.Running ∷ field.Packed ∷ field.Text ∷ field.State ∷ field.End ∷ []) refl tt (magic_is w ∙ unequal n magic differ);
  of_version = λ differ. let w = words_with magic n k r 0 t s i (record { a_small = omega arith; b_small = small; c_small = kind_small i.kind; d_small = flag_small i.running; e_small = omega arith; f_small = text_small; g_small = is.saved }) in
      named (with_words (magic ∷ n ∷ k ∷ r ∷ 0 ∷ t ∷ s ∷ []) i) (field.Magic ∷ []) field.Version (field.Kind ∷ field.Running ∷ field.Packed ∷ field.Text ∷ field.State ∷ field.End ∷ []) refl
      (front_one (with_words (magic ∷ n ∷ k ∷ r ∷ 0 ∷ t ∷ s ∷ []) i) n k r 0 t s (i.text ++ i.saved) w) (version_is w ∙ unequal n 1 differ);
  of_kind = λ differ. let w = words_with magic 1 n r 0 t s i (record { a_small = omega arith; b_small = omega arith; c_small = small; d_small = flag_small i.running; e_small = omega arith; f_small = text_small; g_small = is.saved }) in
      named (with_words (magic ∷ 1 ∷ n ∷ r ∷ 0 ∷ t ∷ s ∷ []) i) (field.Magic ∷ field.Version ∷ []) field.Kind (field.Running ∷ field.Packed ∷ field.Text ∷ field.State ∷ field.End ∷ []) refl
      (front_two (with_words (magic ∷ 1 ∷ n ∷ r ∷ 0 ∷ t ∷ s ∷ []) i) n r 0 t s (i.text ++ i.saved) w)
      (kind_is w ∙ neither (eqb n 1) (eqb n 2) (unequal n 1 (λ e. differ (inl e))) (unequal n 2 (λ e. differ (inr e))));
  of_running = λ more_than. let w = words_with magic 1 k n 0 t s i (record { a_small = omega arith; b_small = omega arith; c_small = kind_small i.kind; d_small = small; e_small = omega arith; f_small = text_small; g_small = is.saved }) in
      named (with_words (magic ∷ 1 ∷ k ∷ n ∷ 0 ∷ t ∷ s ∷ []) i) (field.Magic ∷ field.Version ∷ field.Kind ∷ []) field.Running (field.Packed ∷ field.Text ∷ field.State ∷ field.End ∷ []) refl
      (front_three (with_words (magic ∷ 1 ∷ k ∷ n ∷ 0 ∷ t ∷ s ∷ []) i) i.kind n 0 t s (i.text ++ i.saved) w)
      (running_is w ∙ neither (eqb n 0) (eqb n 1) (unequal n 0 (λ e. omega (arith, e, more_than))) (unequal n 1 (λ e. omega (arith, e, more_than))));
  of_packed = λ more_than. let w = words_with magic 1 k r n t s i (record { a_small = omega arith; b_small = omega arith; c_small = kind_small i.kind; d_small = flag_small i.running; e_small = small; f_small = text_small; g_small = is.saved }) in
      named (with_words (magic ∷ 1 ∷ k ∷ r ∷ n ∷ t ∷ s ∷ []) i) (field.Magic ∷ field.Version ∷ field.Kind ∷ field.Running ∷ []) field.Packed (field.Text ∷ field.State ∷ field.End ∷ []) refl
      (front_four (with_words (magic ∷ 1 ∷ k ∷ r ∷ n ∷ t ∷ s ∷ []) i) i.kind i.running n t s (i.text ++ i.saved) w) (packed_is w ∙ unequal n 0 (λ e. omega (arith, e, more_than)));
  of_text = λ more_than. let w = words_with magic 1 k r 0 n s i (record { a_small = omega arith; b_small = omega arith; c_small = kind_small i.kind; d_small = flag_small i.running; e_small = omega arith; f_small = small; g_small = is.saved }) in
      named (with_words (magic ∷ 1 ∷ k ∷ r ∷ 0 ∷ n ∷ s ∷ []) i) (field.Magic ∷ field.Version ∷ field.Kind ∷ field.Running ∷ field.Packed ∷ []) field.Text (field.State ∷ field.End ∷ []) refl
      (front_five (with_words (magic ∷ 1 ∷ k ∷ r ∷ 0 ∷ n ∷ s ∷ []) i) i.kind i.running n s (i.text ++ i.saved) w)
      (text_is w ∙ second_fails (nat_le n most_text_bytes) (nat_le n (length (i.text ++ i.saved))) (is_utf8 (take n (i.text ++ i.saved))) (greater n (length (i.text ++ i.saved)) (omega (arith, length-append i.text i.saved, more_than))));
  of_state = λ more_than. let w = last n small in
      named (with_words (magic ∷ 1 ∷ k ∷ r ∷ 0 ∷ t ∷ n ∷ []) i) (field.Magic ∷ field.Version ∷ field.Kind ∷ field.Running ∷ field.Packed ∷ field.Text ∷ []) field.State (field.End ∷ []) refl
      (front_six (with_words (magic ∷ 1 ∷ k ∷ r ∷ 0 ∷ t ∷ n ∷ []) i) i n i.saved is w) (no_state (with_words (magic ∷ 1 ∷ k ∷ r ∷ 0 ∷ t ∷ n ∷ []) i) i n i.saved is w more_than);
  of_short = λ fewer. let w = last n small in
      named (with_words (magic ∷ 1 ∷ k ∷ r ∷ 0 ∷ t ∷ n ∷ []) i) (field.Magic ∷ field.Version ∷ field.Kind ∷ field.Running ∷ field.Packed ∷ field.Text ∷ field.State ∷ []) field.End [] refl
      (front_seven (with_words (magic ∷ 1 ∷ k ∷ r ∷ 0 ∷ t ∷ n ∷ []) i) i n i.saved is w (omega (arith, fewer))) (no_end (with_words (magic ∷ 1 ∷ k ∷ r ∷ 0 ∷ t ∷ n ∷ []) i) i n i.saved is w (λ e. omega (arith, e, fewer)));
  of_more = λ some. let w = words_more i more is in
      named (image_bytes i ++ more) (field.Magic ∷ field.Version ∷ field.Kind ∷ field.Running ∷ field.Packed ∷ field.Text ∷ field.State ∷ []) field.End [] refl
      (front_seven (image_bytes i ++ more) i s (i.saved ++ more) is w (omega (arith, length-append i.saved more)))
      (no_end (image_bytes i ++ more) i s (i.saved ++ more) is w (λ e. omega (arith, e, some, length-append i.saved more)));
}
  where
    k : ℕ
    k = image_number i.kind

    r : ℕ
    r = flag_number i.running

    t : ℕ
    t = length i.text

    s : ℕ
    s = length i.saved

    text_small : length i.text < 2 ^ 32
    text_small = omega (arith, is.text)

    last : (m : ℕ) → m < 2 ^ 32 → HasWords (with_words (magic ∷ 1 ∷ image_number i.kind ∷ flag_number i.running ∷ 0 ∷ length i.text ∷ m ∷ []) i) magic 1 (image_number i.kind) (flag_number i.running) 0 (length i.text) m (i.text ++ i.saved)
    last m fits = words_with magic 1 (image_number i.kind) (flag_number i.running) 0 (length i.text) m i (record { a_small = omega arith; b_small = omega arith; c_small = kind_small i.kind; d_small = flag_small i.running; e_small = omega arith; f_small = omega (arith, is.text); g_small = fits })

some_number : (a b : ℕ) → Some a ≡ Some b → a ≡ b
some_number a b is = cc

same_kind : (k l : ImageKind) → image_number k ≡ image_number l → k ≡ l
same_kind kind.Save kind.Save is = refl
same_kind kind.Save kind.Dump is = absurd (omega (arith, is))
same_kind kind.Dump kind.Save is = absurd (omega (arith, is))
same_kind kind.Dump kind.Dump is = refl

same_flag : (a b : Bool) → flag_number a ≡ flag_number b → a ≡ b
same_flag true true is = refl
same_flag true false is = absurd (omega (arith, is))
same_flag false true is = absurd (omega (arith, is))
same_flag false false is = refl

pub holds_one_image : HoldsOneImage
holds_one_image i j bytes a b =
    let same : image_bytes i ≡ image_bytes j = sym a.spelling ∙ b.spelling in
    let x = words_of i a.image in
    let y = words_of j b.image in
    let kinds = same_kind i.kind j.kind (some_number (image_number i.kind) (image_number j.kind) (sym x.third ∙ ap (word_at 8) same ∙ y.third)) in
    let flags = same_flag i.running j.running (some_number (flag_number i.running) (flag_number j.running) (sym x.fourth ∙ ap (word_at 12) same ∙ y.fourth)) in
    let long = some_number (length i.text) (length j.text) (sym x.sixth ∙ ap (word_at 20) same ∙ y.sixth) in
    let both : i.text ++ i.saved ≡ j.text ++ j.saved = sym x.behind ∙ ap parts same ∙ y.behind in
    let texts : i.text ≡ j.text = sym (take-append_seam i.text i.saved) ∙ (λ z. take (long z) (both z)) ∙ take-append_seam j.text j.saved in
    let states : i.saved ≡ j.saved = sym (drop-append_seam i.text i.saved) ∙ (λ z. drop (long z) (both z)) ∙ drop-append_seam j.text j.saved in
    λ z. record { kind = kinds z; running = flags z; text = texts z; saved = states z }

some_bytes : (a b : List ℕ) → Some a ≡ Some b → a ≡ b
some_bytes a b is = cc

none_some : (f : ImageField) → None ≡ Some f → ⊥
none_some f is = cc

some_none : (a : List ℕ) → Some a ≡ None → ⊥
some_none a is = cc

pub images_read_back : ImagesReadBack
images_read_back i (Ok j) is (bytes, same, file) = holds_one_image j i bytes file (record { spelling = sym (some_bytes (image_bytes i) bytes same); image = is })
images_read_back i (Err (or.Fault fault.Device)) is read = tt
images_read_back i (Err (or.Fault fault.NoImage)) is read = some_none (image_bytes i) read
images_read_back i (Err (or.Fault (fault.BadImage f))) is (bytes, same, wrong) = none_some f (sym (images_are_right i is) ∙ ap wrong_field (some_bytes (image_bytes i) bytes same) ∙ wrong)
images_read_back i (Err or.NoMemory) is read = tt

pub spells_its_image : SpellsItsImage
unfolding image_bytes word
spells_its_image = refl
