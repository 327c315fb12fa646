-- Laws of images' files, in their subject's own words.
use Rattle.std.specs.Prelude.{◌≡◌, ◌⊎◌, ◌<◌, ◌+◌, ◌^◌, ◌++◌, true, List, [], ◌∷◌, ℕ, Option, None, Some, Result, Ok, Err, All, flat_map, length}
use Rattle.virt_types.specs.declared.ask.ImageKind.TheVariants as kind
use Rattle.virt_types.specs.Below.types_base.declared.memory.OrNoMemory.{OrNoMemory}
use Rattle.virt_types.specs.Below.types_base.declared.memory.OrNoMemory.TheVariants as or
use Rattle.virt_types.specs.Numbers.{image_number}
use Rattle.store_spec.specs.declared.image.Image.{Image}
use Rattle.store_spec.specs.declared.image.ImageFault.{ImageFault}
use Rattle.store_spec.specs.declared.image.ImageFault.TheVariants as fault
use Rattle.store_spec.specs.declared.image.ImageField.{ImageField}
use Rattle.store_spec.specs.declared.image.ImageField.TheVariants as field
use Rattle.store_spec.specs.declared.operation.Operation.{Operation}
use Rattle.store_spec.specs.declared.operation.Operation.TheVariants as op
use Rattle.store_spec.specs.Directory.{Directory, directory}
use Rattle.store_spec.specs.Disk.{MayLeave}
use Rattle.store_spec.specs.ImageFile.{IsImage, IsImageFile, flag_number, image_bytes, magic, word, wrong_field}
use Rattle.store_spec.specs.ImageSteps.{image_name, image_steps}
use Rattle.image_store.specs.Storing.{IsReadIn}

-- in the file of an image no field is wrong
abbrev pub ImagesAreRight : Type 0
ImagesAreRight = (i : Image) → IsImage i → wrong_field (image_bytes i) ≡ None

-- a file holds one image
abbrev pub HoldsOneImage : Type 0
HoldsOneImage = (i j : Image) (bytes : List ℕ) → IsImageFile i bytes → IsImageFile j bytes → i ≡ j

-- the file of a save of a guest that ran, with a text of three bytes and a state of two
abbrev pub SpellsItsImage : Type 0
SpellsItsImage = image_bytes (record { kind = kind.Save; running = true; text = 97 ∷ 98 ∷ 99 ∷ []; saved = 1 ∷ 255 ∷ [] })
    ≡ (0x56 ∷ 0x44 ∷ 0x4d ∷ 0x49 ∷ 0 ∷ 0 ∷ 0 ∷ 1 ∷ 0 ∷ 0 ∷ 0 ∷ 1 ∷ 0 ∷ 0 ∷ 0 ∷ 1 ∷ 0 ∷ 0 ∷ 0 ∷ 0 ∷ [])
    ++ (0 ∷ 0 ∷ 0 ∷ 3 ∷ 0 ∷ 0 ∷ 0 ∷ 2 ∷ 97 ∷ 98 ∷ 99 ∷ 1 ∷ 255 ∷ [])

-- the operation leaves the file of this name alone
abbrev pub IsApart : List ℕ → Operation → Type 0
IsApart name (op.Write other content) = name ≡ other → ⊥
IsApart name (op.Rename from to) = (name ≡ from → ⊥) × (name ≡ to → ⊥)
IsApart name (op.Remove other) = name ≡ other → ⊥
IsApart name other = Unit {0}

-- an image that was written is there, whatever was done before and is done to other files then, and after a crash too
pub record IsThere (os others : List Operation) (name : List ℕ) (i : Image) : Type 0 where
  pub read : directory (os ++ image_steps name i ++ others) (image_name i.kind name) ≡ Some (image_bytes i)
  pub left : (d : Directory) → MayLeave (os ++ image_steps name i ++ others) d → d (image_name i.kind name) ≡ Some (image_bytes i)

abbrev pub ImagesStay : Type 0
ImagesStay = (os others : List Operation) (name : List ℕ) (i : Image) → All (IsApart (image_name i.kind name)) others → IsThere os others name i

-- what is answered is this image, but for a fault of the store or running out of memory
abbrev pub IsBack : Image → Result Image (OrNoMemory ImageFault) → Type 0
IsBack i (Ok j) = j ≡ i
IsBack i (Err (or.Fault fault.Device)) = Unit {0}
IsBack i (Err (or.Fault other)) = ⊥
IsBack i (Err or.NoMemory) = Unit {0}

-- so it reads back
abbrev pub ImagesReadBack : Type 0
ImagesReadBack = (i : Image) (r : Result Image (OrNoMemory ImageFault)) → IsImage i → IsReadIn (Some (image_bytes i)) r → IsBack i r

-- the file of an image with these words in the place of its seven
abbrev pub with_words : List ℕ → Image → List ℕ
with_words words i = flat_map word words ++ i.text ++ i.saved

-- a file in which one word is wrong is wrong in that word's field, and one with more bytes at its end
pub record NamesItsFields (i : Image) (k r t s n : ℕ) (more : List ℕ) : Type 0 where
  pub of_magic : (n ≡ magic → ⊥) → wrong_field (with_words (n ∷ 1 ∷ k ∷ r ∷ 0 ∷ t ∷ s ∷ []) i) ≡ Some field.Magic
  pub of_version : (n ≡ 1 → ⊥) → wrong_field (with_words (magic ∷ n ∷ k ∷ r ∷ 0 ∷ t ∷ s ∷ []) i) ≡ Some field.Version
  pub of_kind : ((n ≡ 1) ⊎ (n ≡ 2) → ⊥) → wrong_field (with_words (magic ∷ 1 ∷ n ∷ r ∷ 0 ∷ t ∷ s ∷ []) i) ≡ Some field.Kind
  pub of_running : 1 < n → wrong_field (with_words (magic ∷ 1 ∷ k ∷ n ∷ 0 ∷ t ∷ s ∷ []) i) ≡ Some field.Running
  pub of_packed : 0 < n → wrong_field (with_words (magic ∷ 1 ∷ k ∷ r ∷ n ∷ t ∷ s ∷ []) i) ≡ Some field.Packed
  pub of_text : t + s < n → wrong_field (with_words (magic ∷ 1 ∷ k ∷ r ∷ 0 ∷ n ∷ s ∷ []) i) ≡ Some field.Text
  pub of_state : s < n → wrong_field (with_words (magic ∷ 1 ∷ k ∷ r ∷ 0 ∷ t ∷ n ∷ []) i) ≡ Some field.State
  pub of_short : n < s → wrong_field (with_words (magic ∷ 1 ∷ k ∷ r ∷ 0 ∷ t ∷ n ∷ []) i) ≡ Some field.End
  pub of_more : 0 < length more → wrong_field (image_bytes i ++ more) ≡ Some field.End

abbrev pub FieldsAreNamed : Type 0
FieldsAreNamed = (i : Image) (n : ℕ) (more : List ℕ) → IsImage i → n < 2 ^ 32
    → NamesItsFields i (image_number i.kind) (flag_number i.running) (length i.text) (length i.saved) n more
