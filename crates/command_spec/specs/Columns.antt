-- Lines and columns of what virsh prints. Columns count characters.
use Rattle.std.specs.Prelude.{ℕ, ◌-◌, ◌/◌, ◌%◌, ◌^◌, List, [], ◌∷◌, ◌++◌, replicate, codes}
use Rattle.std.specs.List.{flat_map}
use Rattle.std.specs.Net.Text.{dotted_text}
use Rattle.std.specs.Fmt.{char_count}
use Rattle.std.specs.Str.{byte}

-- a text with a line feed
abbrev pub line : List ℕ → List ℕ
line text = text ++ 10 ∷ []

-- each text in a line of its own
abbrev pub lines : List (List ℕ) → List ℕ
lines texts = flat_map line texts

-- blanks as far as a text is short of a width
abbrev pub blanks_to : ℕ → List ℕ → List ℕ
blanks_to width text = replicate (width - char_count text) (byte " ")

-- a text at the right, or at the left, of a column
abbrev pub at_right : ℕ → List ℕ → List ℕ
at_right width text = blanks_to width text ++ text

abbrev pub at_left : ℕ → List ℕ → List ℕ
at_left width text = text ++ blanks_to width text

-- two texts with a blank between them
infixl 6 ◌then◌
abbrev pub ◌then◌ : List ℕ → List ℕ → List ℕ
one then other = one ++ codes " " ++ other

-- an IPv4 address, whose first byte is its highest
abbrev pub address_text : ℕ → List ℕ
address_text a = dotted_text (a / 2 ^ 24) (a / 2 ^ 16 % 256) (a / 2 ^ 8 % 256) (a % 256)
