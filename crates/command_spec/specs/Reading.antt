-- A command line read word by word: what it says and what is left, or the first word that fits no command.
use Rattle.std.specs.Prelude.{ℕ, zero, suc, ◌+◌, ◌==◌, ◌&&◌, nat_le, nat_lt, not, Bool, false, List, [], ◌∷◌, length, slice_index, codes, Option, None, Some, Result, Ok, Err, if◌then◌else◌}
use Rattle.std.specs.Char.{is_ascii_digit}
use Rattle.std.specs.List.{list_all}
use Rattle.std.specs.Str.{byte, bytes_eq}
use Rattle.std.specs.Str.Parse.{digits_value}
use Rattle.command_spec.specs.Commands.{flag_word, form_of, option_of}
use Rattle.command_spec.specs.declared.command.Listen.{Listen}
use Rattle.command_spec.specs.declared.fault.WordFault.{WordFault}
use Rattle.command_spec.specs.declared.form.Flag.{Flag}
use Rattle.command_spec.specs.declared.form.Form.{Form}
use Rattle.command_spec.specs.declared.limits.TheConstants.{MOST_WORD_BYTES}

abbrev pub Word : Type 0
Word = List ℕ

-- the words that are left, the number of the first of them, the option that may still come, and the one that came
pub record Left : Type 0 where
  pub place : ℕ
  pub words : List Word
  pub allowed : Option Flag
  pub given : Option Flag

-- a whole command line, of which nothing was read yet
abbrev pub all_of : List Word → Left
all_of words = record { place = 0; words = words; allowed = None; given = None }

-- what is left after one word
abbrev pub behind : List Word → Left → Left
behind ws l = record l { place = l.place + 1; words = ws }

-- the fault of the first word that is left, or of there being none
abbrev pub misfit : Left → WordFault
misfit l = record { at = l.place }

-- one part after another; the first fault ends it
infixl 10 ◌>>=◌
abbrev pub ◌>>=◌ : {A B : Type 0} → Result A WordFault → (A → Result B WordFault) → Result B WordFault
(Ok x) >>= next = next x
(Err f) >>= next = Err f

-- the value, where there is one
abbrev pub some_or : {A B : Type 0} → WordFault → Option A → (A → B) → Result B WordFault
some_or fault None next = Err fault
some_or fault (Some x) next = Ok (next x)

-- a word that is taken for an option
abbrev pub is_option : Word → Bool
is_option w = nat_le 2 (length w) && (slice_index w 0 == byte "-" && slice_index w 1 == byte "-")

-- a word that is taken for a name, a file, an address or a number
abbrev pub is_plain : Word → Bool
is_plain w = not (is_option w) && nat_le (length w) MOST_WORD_BYTES

-- the word of the option that may still come
abbrev pub is_allowed : Option Flag → Word → Bool
is_allowed None w = false
is_allowed (Some flag) w = bytes_eq (flag_word flag) w

-- the option that may still come, where the next word is an option
abbrev pub after_option_in : List Word → Left → Result Left WordFault
after_option_in [] l = Ok l
after_option_in (w ∷ ws) l =
    if is_option w then (if is_allowed l.allowed w then Ok (record { place = l.place + 1; words = ws; allowed = None; given = l.allowed }) else Err (misfit l))
    else Ok l

unfoldable pub after_option : Left → Result Left WordFault
after_option l = after_option_in l.words l

-- the next word, which has to be plain
abbrev pub plain_in : List Word → Left → Result (Word × Left) WordFault
plain_in [] l = Err (misfit l)
plain_in (w ∷ ws) l = if is_plain w then Ok (w, behind ws l) else Err (misfit l)

-- the next word that is no option
unfoldable pub first_word : Left → Result (Word × Left) WordFault
first_word l = after_option l >>= λ l. plain_in l.words l

-- a number has no leading zero
abbrev pub leads_with_zero : Word → Bool
leads_with_zero w = nat_lt 1 (length w) && slice_index w 0 == byte "0"

abbrev pub is_number : ℕ → Word → Bool
is_number most w = (nat_le 1 (length w) && nat_le (length w) most) && (list_all is_ascii_digit w && not (leads_with_zero w))

-- the number of 1 to so many digits that a word is
unfoldable pub number_of : ℕ → Word → Option ℕ
number_of most w = if is_number most w then Some (digits_value 10 w) else None

-- the next word that is no option, which has to be a number
unfoldable pub first_number : ℕ → Left → Result (ℕ × Left) WordFault
first_number most l =
    after_option l >>= λ l.
    plain_in l.words l >>= λ w.
    some_or (misfit l) (number_of most w.0) (λ n. (n, w.1))

-- two words that are no options
unfoldable pub first_two : Left → Result ((Word × Word) × Left) WordFault
first_two l = do
  one ← first_word l
  other ← first_word one.1
  Ok ((one.0, other.0), other.1)

-- an address and a domain
unfoldable pub first_listen : Left → Result (Listen × Left) WordFault
first_listen l = do
  two ← first_two l
  Ok (record { address = two.0.0; name = two.0.1 }, two.1)

-- at most so many more of them, up to the end
unfoldable pub first_listens : ℕ → Left → Result (List Listen × Left) WordFault
first_listens zero l = Ok ([], l)
first_listens (suc n) l = if length l.words == 0 then Ok ([], l) else (first_listen l >>= λ x. first_listens n x.1 >>= λ more. Ok (x.0 ∷ more.0, more.1))

-- an address, where `-c` comes first
abbrev pub address_in : List Word → Left → Result (Option Word × Left) WordFault
address_in [] l = Ok (None, l)
address_in (w ∷ ws) l = if bytes_eq w (codes "-c") then (plain_in ws (behind ws l) >>= λ a. Ok (Some a.0, a.1)) else Ok (None, l)

unfoldable pub first_address : Left → Result (Option Word × Left) WordFault
first_address l = address_in l.words l

-- the word of a command, after which its option may come
abbrev pub form_in : List Word → Left → Result (Form × Left) WordFault
form_in [] l = Err (misfit l)
form_in (w ∷ ws) l = some_or (misfit l) (form_of w) (λ f. (f, record { place = l.place + 1; words = ws; allowed = option_of f; given = None }))

unfoldable pub first_form : Left → Result (Form × Left) WordFault
first_form l = form_in l.words l

-- the option, and nothing else, may come at the end: which came
unfoldable pub ended : Left → Result (Option Flag) WordFault
ended l = after_option l >>= λ l. if length l.words == 0 then Ok l.given else Err (misfit l)
