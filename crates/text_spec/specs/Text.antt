-- A whole text: the document of XML 1.0 (fifth edition), productions 1, 22 and 27, in UTF-8, with no
-- document type and at most 65,536 bytes.
use Rattle.std.specs.Prelude.{ℕ, zero, suc, ◌+◌, ◌-◌, List, [], ◌∷◌, length, take, false, Result, Ok, Err, nat_lt, ◌==◌, if◌then◌else◌, chars, encode_utf8_all}
use Rattle.std.specs.Str.Lossy.{utf8_valid_len}
use Rattle.text_spec.specs.declared.ahead.Ahead.{Ahead}
use Rattle.text_spec.specs.declared.ahead.Ahead.TheVariants as ahead
use Rattle.text_spec.specs.declared.fault.Flaw.{Flaw}
use Rattle.text_spec.specs.declared.fault.TextFault.{TextFault}
use Rattle.text_spec.specs.declared.fault.TextKind.{TextKind}
use Rattle.text_spec.specs.declared.fault.TextKind.TheVariants as kind
use Rattle.text_spec.specs.declared.limits.TheConstants.{MOST_LEVELS, MOST_ELEMENTS}
use Rattle.types_base.specs.Limits.{most_text_bytes}
use Rattle.text_spec.specs.Reading.{◌>>=◌, flaw, ended}
use Rattle.text_spec.specs.Character.{byte_order_mark, less, after_blanks}
use Rattle.text_spec.specs.Aside.{aside_at}
use Rattle.text_spec.specs.Declaration.{after_declaration}
use Rattle.text_spec.specs.Tree.{Tree}
use Rattle.text_spec.specs.Element.{ahead_of, Grown, element_at}

-- the limits of a text
abbrev pub most_bytes : ℕ
most_bytes = most_text_bytes

abbrev pub most_levels : ℕ
most_levels = MOST_LEVELS

abbrev pub most_elements : ℕ
most_elements = MOST_ELEMENTS

-- nothing follows, or only a `<`
abbrev pub at_end : List ℕ → Result (List ℕ) Flaw
at_end [] = Ok []
at_end (c ∷ cs) = Err ended

abbrev pub misc_by : Ahead → (List ℕ → Result (List ℕ) Flaw) → List ℕ → Result (List ℕ) Flaw
misc_by ahead.Nothing more cs = at_end cs
misc_by ahead.ClosingTag more cs = Ok cs
misc_by ahead.Element more cs = Ok cs
misc_by ahead.Aside more cs = aside_at false cs >>= λ a. more a.1
misc_by ahead.Reference more cs = Ok cs
misc_by ahead.Run more cs = Ok cs

-- Misc* (27): what follows blanks, comments and instructions, in at most so many steps
unfoldable pub misc_at : ℕ → List ℕ → Result (List ℕ) Flaw
misc_at zero cs = Ok cs
misc_at (suc n) cs = misc_by (ahead_of (after_blanks cs)) (misc_at n) (after_blanks cs)

-- the root element
unfoldable pub root_at : List ℕ → Result Grown Flaw
root_at [] = Err ended
root_at (c ∷ cs) = if c == less then element_at most_levels most_elements (c ∷ cs) else Err (flaw kind.Tag (c ∷ cs))

-- nothing is left
abbrev pub all_read : Tree → List ℕ → Result Tree Flaw
all_read tree [] = Ok tree
all_read tree (c ∷ cs) = Err (flaw kind.Rest (c ∷ cs))

-- document (1), (22)
unfoldable pub document : List ℕ → Result Tree Flaw
document cs =
    after_declaration cs
    >>= λ prolog. misc_at (length prolog + 1) prolog
    >>= λ start. root_at start
    >>= λ root. misc_at (length root.rest + 1) root.rest
    >>= λ rest. all_read root.tree rest

-- without the mark that may come first
unfoldable pub unmarked : List ℕ → List ℕ
unmarked [] = []
unmarked (c ∷ cs) = if c == byte_order_mark then cs else c ∷ cs

-- the offset of a flaw, in bytes
abbrev pub fault_of : List ℕ → Flaw → TextFault
fault_of cs f = record { at = length (encode_utf8_all (take (length cs - f.left) cs)); kind = f.kind }

abbrev pub placed : List ℕ → Result Tree Flaw → Result Tree TextFault
placed cs (Ok tree) = Ok tree
placed cs (Err f) = Err (fault_of cs f)

-- the tree that a list of characters is
unfoldable pub tree_of_characters : List ℕ → Result Tree TextFault
tree_of_characters cs = placed cs (document (unmarked cs))

-- Where bytes that are not UTF-8 follow: a fault before them counts; otherwise they are the fault.
abbrev pub cut_by : TextKind → TextFault → TextFault → TextFault
cut_by kind.End cut found = cut
cut_by _ cut found = found

abbrev pub cut_short : ℕ → Result Tree TextFault → Result Tree TextFault
cut_short n (Ok tree) = Err (record { at = n; kind = kind.Utf8 })
cut_short n (Err found) = Err (cut_by found.kind (record { at = n; kind = kind.Utf8 }) found)

-- the tree that these bytes are, or the first place where they are not in the grammar
unfoldable pub read_of : List ℕ → Result Tree TextFault
read_of bytes =
    if nat_lt most_bytes (length bytes) then Err (record { at = most_bytes; kind = kind.TooLong })
    else (if nat_lt (utf8_valid_len bytes) (length bytes)
    then cut_short (utf8_valid_len bytes) (tree_of_characters (chars (take (utf8_valid_len bytes) bytes)))
    else tree_of_characters (chars bytes))
