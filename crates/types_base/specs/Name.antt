-- Names of domains, networks, pools, volumes and snapshots: this project's own rule, since a name is in files' names.
use Rattle.std.specs.Prelude.{◌≡◌, ℕ, ◌≤◌, Bool, ◌||◌, ◌==◌, nat_lt, false, List, All, IsUtf8, codes, bytes_eq, length, min, Option, Some, None, if◌then◌else◌}
use Rattle.std.specs.List.{position_or_len}
use Rattle.std.specs.Str.{byte}
use Rattle.std.specs.Str.Lossy.{utf8_valid_len}
use Rattle.types_base.specs.declared.memory.OrNoMemory.{OrNoMemory}
use Rattle.types_base.specs.declared.memory.OrNoMemory.TheVariants.{Fault, NoMemory}
use Rattle.types_base.specs.declared.name.BadName.{BadName}

-- a byte that is in no name: a control character, the slash, or delete
abbrev pub is_forbidden : ℕ → Bool
is_forbidden b = nat_lt b 0x20 || b == byte "/" || b == 0x7f

-- the two names that every directory has
abbrev pub is_dots : List ℕ → Bool
is_dots bs = bytes_eq bs (codes ".") || bytes_eq bs (codes "..")

-- the bytes are a name
pub record IsName (bs : List ℕ) : Type 0 where
  pub least : 1 ≤ length bs
  pub most : length bs ≤ 128
  pub utf8 : IsUtf8 bs
  pub allowed : All (λ b. is_forbidden b ≡ false) bs
  pub no_dots : is_dots bs ≡ false

-- the place of the first byte that is forbidden, or the length
abbrev pub first_forbidden : List ℕ → ℕ
first_forbidden bs = position_or_len is_forbidden bs

-- the place of the first byte that is wrong: it is forbidden, or the first of an ill-formed sequence; or the length
abbrev pub first_wrong : List ℕ → ℕ
first_wrong bs = min (first_forbidden bs) (utf8_valid_len bs)

-- no byte is wrong, and yet the length is, or the whole
abbrev pub is_bad_whole : List ℕ → Bool
is_bad_whole bs = length bs == 0 || nat_lt 128 (length bs) || is_dots bs

-- where the bytes are no name
unfoldable pub bad_place : List ℕ → Option ℕ
bad_place bs =
    if nat_lt (first_wrong bs) (length bs) then Some (first_wrong bs)
    else (if is_bad_whole bs then Some (length bs) else None)

-- why bytes were not read as a name: they are none, or they are one and there was no memory
abbrev pub IsRefused : List ℕ → OrNoMemory BadName → Type 0
IsRefused bs (Fault bad) = bad_place bs ≡ Some bad.at
IsRefused bs NoMemory = bad_place bs ≡ None
