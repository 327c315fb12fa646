-- Numbers and sizes in definition texts: the units of libvirt's domain and storage formats, with
-- powers of 1000 after a `B` alone and powers of 1024 after `iB` or nothing (IEC 80000-13).
use Rattle.std.specs.Prelude.{ℕ, ◌*◌, ◌^◌, List, [], ◌∷◌, length, Bool, ◌&&◌, ◌||◌, ◌==◌, nat_le, Option, Some, None, Result, Ok, Err, option_and_then, if◌then◌else◌, codes}
use Rattle.std.specs.Char.{is_ascii_digit, to_ascii_lowercase}
use Rattle.std.specs.Int.{div_ceil}
use Rattle.std.specs.Option.{option_map, option_map_or}
use Rattle.std.specs.List.{list_all}
use Rattle.std.specs.Str.{str_eq_ignore_ascii_case}
use Rattle.std.specs.Str.Parse.{digits_value}
use Rattle.text_spec.specs.declared.size.SizeFault.{SizeFault}
use Rattle.text_spec.specs.declared.size.SizeFault.TheVariants.{BadValue, Range}

-- a number has 1 to so many decimal digits
abbrev pub most_digits : ℕ
most_digits = 19

unfoldable pub is_number : List ℕ → Bool
is_number text = (nat_le 1 (length text) && nat_le (length text) most_digits) && list_all is_ascii_digit text

-- the number that a text is
unfoldable pub number_of : List ℕ → Option ℕ
number_of text = if is_number text then Some (digits_value 10 text) else None

-- the power that the letter of a unit stands for: kilo, mega, giga, tera, peta, exa
unfoldable pub power_of : ℕ → Option ℕ
power_of letter =
    if letter == 107 then Some 1
    else (if letter == 109 then Some 2
    else (if letter == 103 then Some 3
    else (if letter == 116 then Some 4
    else (if letter == 112 then Some 5
    else (if letter == 101 then Some 6 else None)))))

-- what is raised to that power, by what follows the letter
unfoldable pub base_of : List ℕ → Option ℕ
base_of rest =
    if str_eq_ignore_ascii_case rest (codes "b") then Some 1000
    else (if length rest == 0 || str_eq_ignore_ascii_case rest (codes "ib") then Some 1024 else None)

-- the bytes of a unit that begins with a letter
abbrev pub scaled : List ℕ → Option ℕ
scaled [] = None
scaled (letter ∷ rest) =
    option_and_then (λ base. option_map (λ power. base ^ power) (power_of (to_ascii_lowercase letter))) (base_of rest)

-- the bytes of a unit, without regard to the case of its letters
unfoldable pub unit_of : List ℕ → Option ℕ
unit_of unit =
    if str_eq_ignore_ascii_case unit (codes "b") || str_eq_ignore_ascii_case unit (codes "bytes") then Some 1 else scaled unit

-- the bytes of a number of units; without a unit, of the usual one
unfoldable pub size_of : ℕ → List ℕ → Option (List ℕ) → Option ℕ
size_of usual text unit =
    option_and_then (λ number. option_map (λ bytes. number * bytes) (option_map_or unit_of unit (Some usual))) (number_of text)

-- a size from a least one to a greatest one
abbrev pub ranged : ℕ → ℕ → Option ℕ → Result ℕ SizeFault
ranged least most None = Err BadValue
ranged least most (Some size) = if nat_le least size && nat_le size most then Ok size else Err Range

-- as many KiB as hold so many bytes
abbrev pub rounded_up : ℕ → ℕ
rounded_up bytes = div_ceil bytes 1024

-- memory in KiB, from 1 to 2^40, rounded up; a number without a unit counts KiB
unfoldable pub kibibytes_of : List ℕ → Option (List ℕ) → Result ℕ SizeFault
kibibytes_of text unit = ranged 1 (2 ^ 40) (option_map rounded_up (size_of 1024 text unit))

-- storage in bytes, up to 2^60; a number without a unit counts bytes
unfoldable pub bytes_of : List ℕ → Option (List ℕ) → Result ℕ SizeFault
bytes_of text unit = ranged 0 (2 ^ 60) (size_of 1 text unit)
