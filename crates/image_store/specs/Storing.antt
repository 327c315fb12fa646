-- What writing and reading an image does with a store.
use Rattle.std.specs.Prelude.{◌≡◌, List, ℕ, Option, None, Some, Result, Ok, Err}
use Rattle.outside_spec.specs.Faults.{Rose}
use Rattle.virt_types.specs.declared.ask.ImageKind.TheVariants as kind
use Rattle.virt_types.specs.Below.types_base.declared.memory.Fault.{Fault}
use Rattle.virt_types.specs.Below.types_base.declared.memory.OrNoMemory.{OrNoMemory}
use Rattle.virt_types.specs.Below.types_base.declared.memory.OrNoMemory.TheVariants as or
use Rattle.files_disk.specs.Putting.{PutsFile}
use Rattle.files_disk.specs.Telling.{Told}
use Rattle.store_spec.specs.declared.image.Image.{Image}
use Rattle.store_spec.specs.declared.image.ImageFault.{ImageFault}
use Rattle.store_spec.specs.declared.image.ImageFault.TheVariants as fault
use Rattle.store_spec.specs.Directory.{directory}
use Rattle.store_spec.specs.ImageFile.{IsImageFile, image_bytes, wrong_field}
use Rattle.store_spec.specs.ImageSteps.{image_draft, image_name}

-- an image's file is put
abbrev pub WritesImage : List ℕ → Image → Told → Told → Result (Unit {0}) Fault → Type 0
WritesImage name i old new result = PutsFile (image_draft name) (image_name i.kind name) (image_bytes i) old new result

-- what is read of a file's bytes: its image, or the first field that is wrong
abbrev pub IsReadOf : List ℕ → Result Image (OrNoMemory ImageFault) → Type 0
IsReadOf bytes (Ok i) = IsImageFile i bytes
IsReadOf bytes (Err (or.Fault (fault.BadImage f))) = wrong_field bytes ≡ Some f
IsReadOf bytes (Err (or.Fault other)) = ⊥
IsReadOf bytes (Err or.NoMemory) = Unit {0}

-- what is read of a file, or of none
abbrev pub IsReadIn : Option (List ℕ) → Result Image (OrNoMemory ImageFault) → Type 0
IsReadIn content (Ok i) = (bytes : List ℕ) × (content ≡ Some bytes) × IsImageFile i bytes
IsReadIn content (Err (or.Fault fault.NoImage)) = content ≡ None
IsReadIn content (Err (or.Fault (fault.BadImage f))) = (bytes : List ℕ) × (content ≡ Some bytes) × (wrong_field bytes ≡ Some f)
IsReadIn content (Err (or.Fault fault.Device)) = Unit {0}
IsReadIn content (Err or.NoMemory) = Unit {0}

-- of a store that tells its operations, the file of the save
abbrev pub ReadsImage : Told → List ℕ → Result Image (OrNoMemory ImageFault) → Type 0
ReadsImage None name result = Unit {0}
ReadsImage (Some os) name result = IsReadIn (directory os (image_name kind.Save name)) result

-- a fault of the store was counted
abbrev pub HasDevice : ℕ → ℕ → Result Image (OrNoMemory ImageFault) → Type 0
HasDevice before now (Err (or.Fault fault.Device)) = Rose before now
HasDevice before now other = Unit {0}
