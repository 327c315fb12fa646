-- The payload of an error (libvirt's `virNetMessageError`, src/rpc/virnetprotocol.x).
use Rattle.std.specs.Prelude.{◌≡◌, ℕ, List, [], ◌∷◌, ◌++◌, Option, None, Some}
use Rattle.virt_types.specs.Refusal.{refusal_message, refusal_number}
use Rattle.virt_types.specs.Below.types_base.declared.refusal.Refusal.{Refusal}
use Rattle.wire_spec.specs.Xdr.{IsString, opaque, optional, word}
use Rattle.procedure_spec.specs.declared.words.TheConstants.{ERROR_DOMAIN, ERROR_LEVEL}
use Rattle.procedure_spec.specs.declared.words.TheConstants.{PACKET_BOUND}

-- a kept text is there where it is not empty
abbrev pub kept_string : List ℕ → Option (List ℕ)
kept_string [] = None
kept_string (b ∷ bs) = Some (b ∷ bs)

-- the code, the error domain, the message, the level, no domain
abbrev pub head : ℕ → List ℕ → List ℕ
head code message = word code ++ word ERROR_DOMAIN ++ optional opaque (Some message) ++ word ERROR_LEVEL ++ word 0

-- no other strings, two numbers that are not used, no network
abbrev pub tail : List ℕ
tail = word 0 ++ word 0 ++ word 0 ++ word 0 ++ word 0

-- the kept text is the first string
abbrev pub error_payload : ℕ → List ℕ → List ℕ → List ℕ
error_payload code message kept = head code message ++ optional opaque (kept_string kept) ++ tail

-- the payload of the error that reports a refusal
abbrev pub refusal_payload : Refusal → List ℕ
refusal_payload r = error_payload (refusal_number r.code) (refusal_message r.code) r.kept

-- the payload is that of the error that reports this refusal
pub record IsErrorOf (payload : List ℕ) (r : Refusal) : Type 0 where
  pub kept : IsString PACKET_BOUND r.kept
  pub spelled : payload ≡ refusal_payload r
