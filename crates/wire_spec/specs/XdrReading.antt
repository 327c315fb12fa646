-- Reading items of XDR from the front of bytes (RFC 4506, section 4): the value and what is left, or the first fault.
use Rattle.std.specs.Prelude.{◌==◌, ℕ, ℤ, ◌+◌, ◌<◌, not, Bool, true, false, nat_lt, List, length, slice_index, take, drop, position, Option, None, Some, option_map, Result, Ok, Err, if◌then◌else◌}
use Rattle.std.specs.Int.{w32, w64, cast_signed, from_be_bytes}
use Rattle.std.specs.Str.{is_utf8}
use Rattle.std.specs.Str.Lossy.{utf8_valid_len}
use Rattle.wire_spec.specs.Xdr.{padding_length}
use Rattle.wire_spec.specs.declared.fault.XdrFault.{XdrFault}
use Rattle.wire_spec.specs.declared.fault.XdrFault.TheVariants.{Short, Pad, Flag, TooLong, Extra, Text}

-- each is a byte
abbrev pub IsBytes : List ℕ → Type 0
IsBytes bytes = (i : ℕ) → slice_index bytes i < 256

-- what a reader has before it: the bytes that are left, and the place of the first of them
pub record Left : Type 0 where
  pub place : ℕ
  pub bytes : List ℕ

-- a whole payload, of which nothing was read yet
abbrev pub all_of : List ℕ → Left
all_of payload = record { place = 0; bytes = payload }

-- what is left after n bytes
abbrev pub behind : ℕ → Left → Left
behind n l = record { place = l.place + n; bytes = drop n l.bytes }

-- one item after another; the first fault ends it
infixl 10 ◌>>=◌
abbrev pub ◌>>=◌ : {A B : Type 0} → Result A XdrFault → (A → Result B XdrFault) → Result B XdrFault
(Ok x) >>= next = next x
(Err f) >>= next = Err f

-- the value, unless there is a fault
abbrev pub unless : {A : Type 0} → Option XdrFault → A → Result A XdrFault
unless None x = Ok x
unless (Some f) x = Err f

-- 4.2 unsigned integer
unfoldable pub first_word : Left → Result (ℕ × Left) XdrFault
first_word l = if nat_lt (length l.bytes) 4 then Err (Short l.place) else Ok (from_be_bytes w32 (take 4 l.bytes), behind 4 l)

-- 4.1 integer
unfoldable pub first_integer : Left → Result (ℤ × Left) XdrFault
first_integer l = do
  word ← first_word l
  Ok (cast_signed w32 word.0, word.1)

-- 4.5 unsigned hyper integer
unfoldable pub first_double_word : Left → Result (ℕ × Left) XdrFault
first_double_word l = if nat_lt (length l.bytes) 8 then Err (Short l.place) else Ok (from_be_bytes w64 (take 8 l.bytes), behind 8 l)

-- the truth that a word at a place is
abbrev pub truth_of : ℕ → ℕ → Result Bool XdrFault
truth_of place n = if n == 0 then Ok false else (if n == 1 then Ok true else Err (Flag place))

-- 4.4 boolean
unfoldable pub first_truth : Left → Result (Bool × Left) XdrFault
first_truth l = do
  word ← first_word l
  there ← truth_of l.place word.0
  Ok (there, word.1)

-- n bytes, where they and their padding are there; their item begins at `start`
abbrev pub first_bytes : ℕ → ℕ → Left → Result (List ℕ × Left) XdrFault
first_bytes start n l = if nat_lt (length l.bytes) (n + padding_length n) then Err (Short start) else Ok (take n l.bytes, behind n l)

abbrev pub is_set : ℕ → Bool
is_set byte = not (byte == 0)

-- the first byte of the padding that is not 0
abbrev pub pad_fault : ℕ → List ℕ → Option XdrFault
pad_fault place bytes = option_map (λ i. Pad (place + i)) (position is_set bytes)

-- 3 block size: what is left after the padding of n bytes
abbrev pub behind_padding : ℕ → Left → Result Left XdrFault
behind_padding n l = unless (pad_fault l.place (take (padding_length n) l.bytes)) (behind (padding_length n) l)

-- the first byte that is not UTF-8
abbrev pub text_fault : ℕ → List ℕ → Option XdrFault
text_fault place bytes = if is_utf8 bytes then None else Some (Text (place + utf8_valid_len bytes))

-- 4.9 fixed-length opaque data of n bytes
unfoldable pub first_fixed : ℕ → Left → Result (List ℕ × Left) XdrFault
first_fixed n l = do
  bytes ← first_bytes l.place n l
  rest ← behind_padding n bytes.1
  Ok (bytes.0, rest)

-- a length word of at most `most`
unfoldable pub first_length : ℕ → Left → Result (ℕ × Left) XdrFault
first_length most l = do
  word ← first_word l
  if nat_lt most word.0 then Err (TooLong l.place word.0) else Ok word

-- 4.10 variable-length opaque data
unfoldable pub first_opaque : ℕ → Left → Result (List ℕ × Left) XdrFault
first_opaque most l = do
  size ← first_length most l
  bytes ← first_bytes l.place size.0 size.1
  rest ← behind_padding size.0 bytes.1
  Ok (bytes.0, rest)

-- 4.11 string
unfoldable pub first_string : ℕ → Left → Result (List ℕ × Left) XdrFault
first_string most l = do
  size ← first_length most l
  bytes ← first_bytes l.place size.0 size.1
  text ← unless (text_fault size.1.place bytes.0) bytes
  rest ← behind_padding size.0 text.1
  Ok (text.0, rest)

-- 4.19 optional data
unfoldable pub first_optional : {A : Type 0} → (Left → Result (A × Left) XdrFault) → Left → Result (Option A × Left) XdrFault
first_optional first l = do
  there ← first_truth l
  if there.0 then (first there.1 >>= λ x. Ok (Some x.0, x.1)) else Ok (None, there.1)

-- all of a payload, with nothing after it
unfoldable pub whole : {A : Type 0} → (Left → Result (A × Left) XdrFault) → List ℕ → Result A XdrFault
whole first payload = do
  x ← first (all_of payload)
  if length x.1.bytes == 0 then Ok x.0 else Err (Extra x.1.place)
