-- Reading the payload of an error: the refusal that it reports, or the first fault. Of an item, that it is well spelled comes before what it says.
use Rattle.std.specs.Prelude.{◌==◌, ℕ, not, Bool, false, List, [], ◌∷◌, Option, None, Some, Result, Ok, Err, if◌then◌else◌}
use Rattle.std.specs.Str.{bytes_eq}
use Rattle.virt_types.specs.Refusal.{refusal_message}
use Rattle.virt_types.specs.Below.types_base.declared.refusal.Refusal.{Refusal}
use Rattle.virt_types.specs.Below.types_base.declared.refusal.RefusalCode.{RefusalCode}
use Rattle.wire_spec.specs.XdrReading.{Left, first_optional, first_string, first_truth, first_word}
use Rattle.procedure_spec.specs.Codes.{code_numbered}
use Rattle.procedure_spec.specs.Reading.{◌>>=◌, all, item}
use Rattle.procedure_spec.specs.declared.words.TheConstants.{ERROR_DOMAIN, ERROR_LEVEL}
use Rattle.procedure_spec.specs.declared.fault.ArgFault.{ArgFault}
use Rattle.procedure_spec.specs.declared.fault.ArgFault.TheVariants.{Foreign}
use Rattle.procedure_spec.specs.declared.words.TheConstants.{PACKET_BOUND}

-- what is left after an item, where it says what it has to
abbrev pub told : ℕ → Bool → Left → Result Left ArgFault
told place is l = if is then Ok l else Err (Foreign place)

-- this word
unfoldable pub told_word : ℕ → Left → Result Left ArgFault
told_word wanted l = do
  word ← item first_word l
  told l.place (word.0 == wanted) word.1

-- nothing, where something might be
unfoldable pub told_absent : Left → Result Left ArgFault
told_absent l = do
  there ← item first_truth l
  told l.place (not there.0) there.1

abbrev pub is_text : List ℕ → Option (List ℕ) → Bool
is_text wanted None = false
is_text wanted (Some text) = bytes_eq text wanted

-- this text
unfoldable pub told_text : List ℕ → Left → Result Left ArgFault
told_text wanted l = do
  text ← item (first_optional (first_string PACKET_BOUND)) l
  told l.place (is_text wanted text.0) text.1

abbrev pub known_code : ℕ → Option RefusalCode → Left → Result (RefusalCode × Left) ArgFault
known_code place None l = Err (Foreign place)
known_code place (Some code) l = Ok (code, l)

unfoldable pub first_code : Left → Result (RefusalCode × Left) ArgFault
first_code l = do
  number ← item first_word l
  known_code l.place (code_numbered number.0) number.1

-- the error domain, the code's message, the level, no domain
unfoldable pub told_head : List ℕ → Left → Result Left ArgFault
told_head message l = do
  part ← told_word ERROR_DOMAIN l
  text ← told_text message part
  level ← told_word ERROR_LEVEL text
  told_absent level

unfoldable pub first_head : Left → Result (RefusalCode × Left) ArgFault
first_head l = do
  code ← first_code l
  head ← told_head (refusal_message code.0) code.1
  Ok (code.0, head)

-- the kept text, which is absent where it is empty
abbrev pub kept_of : ℕ → Option (List ℕ) → Left → Result (List ℕ × Left) ArgFault
kept_of place None l = Ok ([], l)
kept_of place (Some []) l = Err (Foreign place)
kept_of place (Some (b ∷ bs)) l = Ok (b ∷ bs, l)

unfoldable pub first_kept : Left → Result (List ℕ × Left) ArgFault
first_kept l = do
  kept ← item (first_optional (first_string PACKET_BOUND)) l
  kept_of l.place kept.0 kept.1

-- no other strings, two numbers that are not used, no network
unfoldable pub told_tail : Left → Result Left ArgFault
told_tail l = do
  second ← told_absent l
  third ← told_absent second
  one ← told_word 0 third
  other ← told_word 0 one
  told_absent other

unfoldable pub first_refusal : Left → Result (Refusal × Left) ArgFault
first_refusal l = do
  code ← first_head l
  kept ← first_kept code.1
  rest ← told_tail kept.1
  Ok (record { code = code.0; kept = kept.0 }, rest)

-- the refusal that all of a payload reports
abbrev pub error_of : List ℕ → Result Refusal ArgFault
error_of payload = all first_refusal payload
