-- The file of a guest's image: seven words, the highest byte first, then the text and the state, and nothing after.
use Rattle.std.specs.Prelude.{◌≡◌, ◌==◌, ◌+◌, ◌-◌, ◌<◌, ◌≤◌, ◌^◌, ◌++◌, ◌&&◌, ◌||◌, not, Bool, false, List, [], ◌∷◌, ℕ, nat_lt, nat_le, min, Option, None, Some, IsUtf8, codes, length, take, drop, find, if◌then◌else◌}
use Rattle.std.specs.Int.{w32, to_be_bytes, from_be_bytes}
use Rattle.std.specs.Str.{is_utf8}
use Rattle.virt_types.specs.declared.ask.ImageKind.{ImageKind}
use Rattle.virt_types.specs.declared.ask.ImageKind.TheVariants as kind
use Rattle.virt_types.specs.Limits.{most_text_bytes}
use Rattle.virt_types.specs.Numbers.{image_number}
use Rattle.store_spec.specs.declared.image.Image.{Image}
use Rattle.store_spec.specs.declared.image.ImageField.{ImageField}
use Rattle.store_spec.specs.declared.image.ImageField.TheVariants as field

-- the word that says that a file is an image: the letters VDMI
abbrev pub magic : ℕ
magic = 0x56444d49

-- a number as a word; one that has none is the greatest word
unfoldable pub word : ℕ → List ℕ
word n = to_be_bytes w32 (min n 0xffffffff)

-- 1 for yes
abbrev pub flag_number : Bool → ℕ
flag_number b = if b then 1 else 0

-- the seven words: what it is, its version, its kind, whether the guest ran, that the state is not packed, both lengths
abbrev pub seven_words : Image → List ℕ
seven_words i = word magic ++ word 1 ++ word (image_number i.kind) ++ word (flag_number i.running) ++ word 0
    ++ word (length i.text) ++ word (length i.saved)

-- the bytes of the file
unfoldable pub image_bytes : Image → List ℕ
image_bytes i = seven_words i ++ i.text ++ i.saved

-- an image that a file may hold
pub record IsImage (i : Image) : Type 0 where
  pub text : length i.text ≤ most_text_bytes
  pub utf8 : IsUtf8 i.text
  pub saved : length i.saved < 2 ^ 32

-- these bytes are the file of this image
pub record IsImageFile (i : Image) (bytes : List ℕ) : Type 0 where
  pub spelling : bytes ≡ image_bytes i
  pub image : IsImage i

-- the word of this number, from 0, where it is there
unfoldable pub word_at : ℕ → List ℕ → Option ℕ
word_at place bytes = if nat_lt (length bytes) (place + 4) then None else Some (from_be_bytes w32 (take 4 (drop place bytes)))

-- a word that is there passes this test
abbrev pub passes : (ℕ → Bool) → Option ℕ → Bool
passes test None = false
passes test (Some n) = test n

-- a word as a length; nothing where it is absent
abbrev pub or_nothing : Option ℕ → ℕ
or_nothing None = 0
or_nothing (Some n) = n

-- what comes after the words, and after the text
abbrev pub parts : List ℕ → List ℕ
parts bytes = drop 28 bytes

abbrev pub behind_text : List ℕ → List ℕ
behind_text bytes = drop (or_nothing (word_at 20 bytes)) (parts bytes)

-- so many bytes are there, and they are a text
abbrev pub is_text : List ℕ → ℕ → Bool
is_text bytes n = nat_le n most_text_bytes && nat_le n (length bytes) && is_utf8 (take n bytes)

-- the field is as it is in an image's file
unfoldable pub is_right : List ℕ → ImageField → Bool
is_right bytes field.Magic = passes (λ n. n == magic) (word_at 0 bytes)
is_right bytes field.Version = passes (λ n. n == 1) (word_at 4 bytes)
is_right bytes field.Kind = passes (λ n. n == 1 || n == 2) (word_at 8 bytes)
is_right bytes field.Running = passes (λ n. n == 0 || n == 1) (word_at 12 bytes)
is_right bytes field.Packed = passes (λ n. n == 0) (word_at 16 bytes)
is_right bytes field.Text = passes (is_text (parts bytes)) (word_at 20 bytes)
is_right bytes field.State = passes (λ n. nat_le n (length (behind_text bytes))) (word_at 24 bytes)
is_right bytes field.End = or_nothing (word_at 24 bytes) == length (behind_text bytes)

-- the fields, in the order in which they are tested
abbrev pub fields : List ImageField
fields = field.Magic ∷ field.Version ∷ field.Kind ∷ field.Running ∷ field.Packed ∷ field.Text ∷ field.State ∷ field.End ∷ []

-- the first field that is wrong
unfoldable pub wrong_field : List ℕ → Option ImageField
wrong_field bytes = find (λ f. not (is_right bytes f)) fields
