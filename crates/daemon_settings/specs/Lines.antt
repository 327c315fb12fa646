-- The lines of `virtd.conf`: each is empty, begins with `#`, or is `max_sessions = N`.
use Rattle.std.specs.Prelude.{◌==◌, ◌≤◌, ◌||◌, Bool, true, List, [], ◌∷◌, ℕ, codes, decimal, drop, find, is_some, length, nat_eq, Option, None, if◌then◌else◌}
use Rattle.std.specs.List.{range_with_len, slice_split, starts_with}
use Rattle.std.specs.Str.{byte, bytes_eq}
use Rattle.daemon_settings.specs.declared.settings.TheConstants.{MOST_SESSIONS}

-- so many sessions may be served at once
abbrev pub IsCount : ℕ → Type 0
IsCount n = (1 ≤ n) × (n ≤ MOST_SESSIONS)

-- the lines of a file, each without its line feed
abbrev pub lines_of : List ℕ → List (List ℕ)
lines_of bytes = slice_split (λ b. b == 10) bytes

-- an empty line and a comment say nothing
abbrev pub says_nothing : List ℕ → Bool
says_nothing [] = true
says_nothing (letter ∷ letters) = letter == byte "#"

-- the number of sessions that these digits are, without a leading zero
unfoldable pub number_in : List ℕ → Option ℕ
number_in digits = find (λ n. bytes_eq (decimal n) digits) (range_with_len 1 MOST_SESSIONS)

-- what comes before the number
abbrev pub key : List ℕ
key = codes "max_sessions = "

-- the number of sessions that a line gives
unfoldable pub sessions_in : List ℕ → Option ℕ
sessions_in line = if starts_with nat_eq line key then number_in (drop (length key) line) else None

-- the line is in a form that a line may have
abbrev pub has_form : List ℕ → Bool
has_form line = says_nothing line || is_some (sessions_in line)
