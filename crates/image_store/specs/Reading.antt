-- What is read of an image's file.
use Rattle.std.specs.Prelude.{◌≡◌, List, ℕ, Some, Result, Ok, Err}
use Rattle.store_spec.specs.declared.image.Image.{Image}
use Rattle.store_spec.specs.declared.image.ImageField.{ImageField}
use Rattle.store_spec.specs.ImageFile.{IsImageFile, wrong_field}

-- the image, or the first field that is wrong
abbrev pub IsReadAs : List ℕ → Result Image ImageField → Type 0
IsReadAs bytes (Ok i) = IsImageFile i bytes
IsReadAs bytes (Err f) = wrong_field bytes ≡ Some f
