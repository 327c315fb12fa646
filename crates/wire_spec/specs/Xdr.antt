-- The items of XDR and their one spelling (RFC 4506, section 4).
use Rattle.std.specs.Prelude.{ℕ, ℤ, ◌-◌, ◌%◌, ◌^◌, ◌<◌, ◌≤◌, Bool, FitsSigned, List, ◌++◌, length, replicate, Option, Some, None, if◌then◌else◌}
use Rattle.std.specs.Int.{w32, w64, to_be_bytes, cast_unsigned}
use Rattle.std.specs.Str.{IsUtf8}

-- 4.2 unsigned integer: four bytes, the highest first
unfoldable pub word : ℕ → List ℕ
word n = to_be_bytes w32 n

abbrev pub IsWord : ℕ → Type 0
IsWord n = n < 2 ^ 32

-- 4.1 integer: the same, as two's complement
abbrev pub integer : ℤ → List ℕ
integer z = word (cast_unsigned w32 z)

abbrev pub IsInteger : ℤ → Type 0
IsInteger z = FitsSigned w32 z

-- 4.5 unsigned hyper integer: eight bytes, the highest first
unfoldable pub double_word : ℕ → List ℕ
double_word n = to_be_bytes w64 n

abbrev pub IsDoubleWord : ℕ → Type 0
IsDoubleWord n = n < 2 ^ 64

-- 4.4 boolean: the word 1 or 0
abbrev pub truth : Bool → List ℕ
truth b = word (if b then 1 else 0)

-- each of the two has a spelling
abbrev pub IsTruth : Bool → Type 0
IsTruth b = Unit {0}

-- 3 block size: how many bytes are missing to a multiple of four
abbrev pub padding_length : ℕ → ℕ
padding_length n = (4 - n % 4) % 4

-- 3 block size: zeros, up to a multiple of four bytes
abbrev pub padding : ℕ → List ℕ
padding n = replicate (padding_length n) 0

-- 4.9 fixed-length opaque data: the bytes and their padding
abbrev pub fixed : List ℕ → List ℕ
fixed bytes = bytes ++ padding (length bytes)

-- 4.10 variable-length opaque data, and 4.11 string: the number of bytes, then these
abbrev pub opaque : List ℕ → List ℕ
opaque bytes = word (length bytes) ++ fixed bytes

-- 4.11 a string of at most so many bytes; that they are UTF-8 is this project's own rule
pub record IsString (most : ℕ) (bytes : List ℕ) : Type 0 where
  pub bounded : length bytes ≤ most
  pub text : IsUtf8 bytes

-- 4.19 optional data: the word 1 and the item, or the word 0
abbrev pub optional : {A : Type 0} → (A → List ℕ) → Option A → List ℕ
optional item None = word 0
optional item (Some value) = word 1 ++ item value
