-- Characters of XML 1.0 (fifth edition), productions 2, 3, 4 and 4a.
use Rattle.std.specs.Prelude.{ℕ, List, [], ◌∷◌, Bool, false, not, ◌&&◌, ◌||◌, ◌==◌, nat_le, if◌then◌else◌}
use Rattle.std.specs.List.{list_any}

-- ---- the characters that mark up a text
abbrev pub tab : ℕ
tab = 9

abbrev pub line_feed : ℕ
line_feed = 10

abbrev pub carriage_return : ℕ
carriage_return = 13

abbrev pub space : ℕ
space = 32

abbrev pub bang : ℕ
bang = 33

abbrev pub quote : ℕ
quote = 34

abbrev pub hash : ℕ
hash = 35

abbrev pub ampersand : ℕ
ampersand = 38

abbrev pub apostrophe : ℕ
apostrophe = 39

abbrev pub hyphen : ℕ
hyphen = 45

abbrev pub slash : ℕ
slash = 47

abbrev pub semicolon : ℕ
semicolon = 59

abbrev pub less : ℕ
less = 60

abbrev pub equals : ℕ
equals = 61

abbrev pub greater : ℕ
greater = 62

abbrev pub question : ℕ
question = 63

abbrev pub open_bracket : ℕ
open_bracket = 91

abbrev pub close_bracket : ℕ
close_bracket = 93

-- the mark that may come before a text
abbrev pub byte_order_mark : ℕ
byte_order_mark = 0xFEFF

-- ---- classes
-- from a low character to a high one, both included
abbrev pub Range : Type 0
Range = ℕ × ℕ

abbrev pub is_in : List Range → ℕ → Bool
is_in ranges c = list_any (λ r. nat_le r.0 c && nat_le c r.1) ranges

-- S (3): a blank
abbrev pub is_blank : ℕ → Bool
is_blank c = c == space || (c == line_feed || (c == tab || c == carriage_return))

-- Char (2): what a text may hold
unfoldable pub is_char : ℕ → Bool
is_char c = is_in ((0x20, 0xD7FF) ∷ (0x9, 0xA) ∷ (0xD, 0xD) ∷ (0xE000, 0xFFFD) ∷ (0x10000, 0x10FFFF) ∷ []) c

-- NameStartChar (4): what a name may begin with
abbrev pub name_start_ranges : List Range
name_start_ranges =
    (0x61, 0x7A) ∷ (0x41, 0x5A) ∷ (0x3A, 0x3A) ∷ (0x5F, 0x5F) ∷ (0xC0, 0xD6) ∷ (0xD8, 0xF6) ∷ (0xF8, 0x2FF)
    ∷ (0x370, 0x37D) ∷ (0x37F, 0x1FFF) ∷ (0x200C, 0x200D) ∷ (0x2070, 0x218F) ∷ (0x2C00, 0x2FEF)
    ∷ (0x3001, 0xD7FF) ∷ (0xF900, 0xFDCF) ∷ (0xFDF0, 0xFFFD) ∷ (0x10000, 0xEFFFF) ∷ []

-- NameChar (4a): what may follow in a name besides
abbrev pub name_further_ranges : List Range
name_further_ranges = (0x2D, 0x2E) ∷ (0x30, 0x39) ∷ (0xB7, 0xB7) ∷ (0x300, 0x36F) ∷ (0x203F, 0x2040) ∷ []

unfoldable pub is_name_start : ℕ → Bool
is_name_start c = is_in name_start_ranges c

unfoldable pub is_name_char : ℕ → Bool
is_name_char c = is_name_start c || is_in name_further_ranges c

-- what a run of text may hold: any character but the two that begin markup
abbrev pub is_run_char : ℕ → Bool
is_run_char c = is_char c && not (c == less || c == ampersand)

-- a blank is at the front
abbrev pub starts_blank : List ℕ → Bool
starts_blank [] = false
starts_blank (c ∷ cs) = is_blank c

-- the characters after the blanks at the front
unfoldable pub after_blanks : List ℕ → List ℕ
after_blanks [] = []
after_blanks (c ∷ cs) = if is_blank c then after_blanks cs else c ∷ cs
