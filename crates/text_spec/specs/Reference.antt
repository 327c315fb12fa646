-- References of XML 1.0 (fifth edition), productions 66 to 68 and section 4.6: a number of a
-- character in decimal or hexadecimal digits, or one of the five names.
use Rattle.std.specs.Prelude.{ℕ, ◌+◌, ◌*◌, List, [], ◌∷◌, Bool, true, false, ◌&&◌, Ok, Err, nat_lt, ◌==◌, if◌then◌else◌, codes}
use Rattle.std.specs.Char.{digit_value}
use Rattle.text_spec.specs.declared.fault.Flaw.{Flaw}
use Rattle.text_spec.specs.declared.fault.TextKind.TheVariants as kind
use Rattle.text_spec.specs.Reading.{Reading, ◌>>=◌, flaw, ended, expect}
use Rattle.text_spec.specs.Character.{ampersand, hash, semicolon, less, greater, quote, apostrophe, is_char}

-- the greatest number of a character
abbrev pub greatest : ℕ
greatest = 0x10FFFF

-- the character of this number, after the `;`
abbrev pub number_end : Flaw → ℕ → Bool → ℕ → List ℕ → Reading ℕ
number_end told number some c cs =
    if (c == semicolon) && (some && is_char number) then Ok (number, cs) else Err told

-- the digits from here on, after those that gave the number so far
unfoldable pub number_at : ℕ → Flaw → ℕ → Bool → List ℕ → Reading ℕ
number_at base told so_far some [] = Err ended
number_at base told so_far some (c ∷ cs) =
    if nat_lt (digit_value c) base then
    (if nat_lt greatest (base * so_far + digit_value c) then Err told
    else number_at base told (base * so_far + digit_value c) true cs)
    else number_end told so_far some c cs

-- after `&#`
abbrev pub numbered : Flaw → List ℕ → Reading ℕ
numbered told [] = Err ended
numbered told (c ∷ cs) = if c == 120 then number_at 16 told 0 false cs else number_at 10 told 0 false (c ∷ cs)

-- the character, where this name comes next
abbrev pub named : Flaw → ℕ → List ℕ → List ℕ → Reading ℕ
named told character name cs = expect told name cs >>= λ rest. Ok (character, rest)

-- after `&a`: amp or apos
abbrev pub named_a : Flaw → List ℕ → Reading ℕ
named_a told [] = Err ended
named_a told (c ∷ cs) = if c == 109 then named told ampersand (codes "p;") cs
    else (if c == 112 then named told apostrophe (codes "os;") cs else Err told)

-- Reference (67), after its `&`
unfoldable pub after_ampersand : Flaw → List ℕ → Reading ℕ
after_ampersand told [] = Err ended
after_ampersand told (c ∷ cs) =
    if c == hash then numbered told cs
    else (if c == 97 then named_a told cs
    else (if c == 108 then named told less (codes "t;") cs
    else (if c == 103 then named told greater (codes "t;") cs
    else (if c == 113 then named told quote (codes "uot;") cs else Err told))))

-- the character that a reference stands for; the flaw is reported at its `&`
unfoldable pub reference_at : List ℕ → Reading ℕ
reference_at [] = Err ended
reference_at (c ∷ cs) = after_ampersand (flaw kind.Reference (c ∷ cs)) cs
