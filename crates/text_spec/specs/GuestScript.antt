-- The script of a modelled guest, this project's own language: entries joined by `;`, each of words
-- with blanks around them: `boot B command C ACT`, `slow N`, `stall`.
use Rattle.std.specs.Prelude.{ℕ, ◌-◌, ◌^◌, List, [], ◌∷◌, take, drop, length, codes, Bool, not, ◌&&◌, ◌||◌, ◌==◌, nat_le, Option, Some, None, option_and_then, option_map, if◌then◌else◌}
use Rattle.std.specs.List.{prefix_len}
use Rattle.std.specs.Str.{bytes_eq}
use Rattle.types_base.specs.declared.script.ScriptAct.{ScriptAct}
use Rattle.types_base.specs.declared.script.ScriptAct.TheVariants as act
use Rattle.types_base.specs.declared.script.ScriptEntry.{ScriptEntry}
use Rattle.types_base.specs.declared.script.ScriptEntry.TheVariants as entry
use Rattle.text_spec.specs.Character.{space, tab, semicolon}
use Rattle.text_spec.specs.Units.{number_of}
use Rattle.text_spec.specs.Words.{meant}

-- the blanks of a script
abbrev pub is_gap : ℕ → Bool
is_gap c = c == space || c == tab

abbrev pub is_in_word : ℕ → Bool
is_in_word c = not (is_gap c)

unfoldable pub after_gap : List ℕ → List ℕ
after_gap cs = drop (prefix_len is_gap cs) cs

-- the word at the front, after blanks, and what follows it
unfoldable pub word_at : List ℕ → List ℕ × List ℕ
word_at cs =
    let word = after_gap cs in
    (take (prefix_len is_in_word word) word, drop (prefix_len is_in_word word) word)

-- only blanks are left
unfoldable pub is_over : List ℕ → Bool
is_over cs = length (after_gap cs) == 0

-- a number from a least one to a greatest one
abbrev pub within : ℕ → ℕ → ℕ → Option ℕ
within least most n = if nat_le least n && nat_le n most then Some n else None

unfoldable pub number_within : ℕ → ℕ → List ℕ → Option ℕ
number_within least most word = option_and_then (within least most) (number_of word)

abbrev pub act_word : ScriptAct → List ℕ
act_word act.End = codes "end"
act_word act.Refuse = codes "refuse"
act_word act.Lost = codes "lost"

unfoldable pub act_of : List ℕ → Option ScriptAct
act_of word = meant act_word (act.End ∷ act.Refuse ∷ act.Lost ∷ []) word

-- boots and commands are counted from 1, below 2^62
abbrev pub count_of : List ℕ → Option ℕ
count_of word = number_within 1 (2 ^ 62 - 1) word

-- `stall`, after that word
abbrev pub stall_at : List ℕ → Option ScriptEntry
stall_at cs = if is_over cs then Some entry.Stall else None

-- `slow N`, after its first word
abbrev pub slow_by : List ℕ × List ℕ → Option ScriptEntry
slow_by number = if is_over number.1 then option_map entry.Slow (number_within 0 1000000 number.0) else None

-- `boot B command C ACT`, of its words from the second on
abbrev pub act_by : ℕ → ℕ → List ℕ × List ℕ → Option ScriptEntry
act_by boot command a =
    if is_over a.1 then option_map (λ it. entry.At boot command it) (act_of a.0) else None

abbrev pub number_by : ℕ → List ℕ × List ℕ → Option ScriptEntry
number_by boot number = option_and_then (λ command. act_by boot command (word_at number.1)) (count_of number.0)

abbrev pub command_by : ℕ → List ℕ × List ℕ → Option ScriptEntry
command_by boot word = if bytes_eq word.0 (codes "command") then number_by boot (word_at word.1) else None

abbrev pub boot_by : List ℕ × List ℕ → Option ScriptEntry
boot_by number = option_and_then (λ boot. command_by boot (word_at number.1)) (count_of number.0)

abbrev pub entry_by : List ℕ × List ℕ → Option ScriptEntry
entry_by word =
    if bytes_eq word.0 (codes "boot") then boot_by (word_at word.1)
    else (if bytes_eq word.0 (codes "slow") then slow_by (word_at word.1)
    else (if bytes_eq word.0 (codes "stall") then stall_at word.1 else None))

-- the entry that a piece of a script is
unfoldable pub entry_of : List ℕ → Option ScriptEntry
entry_of cs = entry_by (word_at cs)

abbrev pub not_separator : ℕ → Bool
not_separator c = not (c == semicolon)

-- a character at the front of the first piece
abbrev pub in_first : ℕ → List (List ℕ) → List (List ℕ)
in_first c [] = (c ∷ []) ∷ []
in_first c (piece ∷ pieces) = (c ∷ piece) ∷ pieces

-- the pieces between separators
unfoldable pub pieces_of : List ℕ → List (List ℕ)
pieces_of [] = [] ∷ []
pieces_of (c ∷ cs) = if c == semicolon then [] ∷ pieces_of cs else in_first c (pieces_of cs)

abbrev pub before_entries : Option ScriptEntry → Option (List ScriptEntry) → Option (List ScriptEntry)
before_entries (Some e) (Some es) = Some (e ∷ es)
before_entries e es = None

-- the entries that pieces are, where each is one
unfoldable pub all_entries : List (List ℕ) → Option (List ScriptEntry)
all_entries [] = Some []
all_entries (piece ∷ pieces) = before_entries (entry_of piece) (all_entries pieces)

-- the entries of a script; the empty text has none
unfoldable pub entries_of : List ℕ → Option (List ScriptEntry)
entries_of text = if length text == 0 then Some [] else all_entries (pieces_of text)
