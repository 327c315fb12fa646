-- Replies are short.
use Rattle.std.proofs.Common.{◌≡◌, ◌+◌, ◌≤◌, ℕ, List, [], ◌∷◌, ◌++◌, length, take, arith}
use Rattle.std.specs.Str.Lossy.{utf8_valid_len}
use Rattle.std.proofs.lemmas.List.{length-append, length-replicate, length-take}
use Rattle.std.proofs.lemmas.Str.{utf8_valid_len_le}
use Rattle.procedure_spec.specs.Errors.{error_payload, kept_string, refusal_payload}
use Rattle.procedure_spec.specs.Results.{result_shape}
use Rattle.procedure_spec.proofs.Answered.{has_result}
use Rattle.procedure_spec.specs.Calls.{IsCall}
use Rattle.row_session.specs.Replying.{CanReply}
use Rattle.service_spec.specs.Sayable.{IsSayable}
use Rattle.virt_types.specs.Below.types_base.Refusal.{kept_cut}
use Rattle.virt_types.specs.Refusal.{refusal_message}
use Rattle.virt_types.specs.Below.types_base.declared.refusal.Refusal.{Refusal}
use Rattle.virt_types.specs.Below.types_base.declared.refusal.RefusalCode.{RefusalCode}
use Rattle.virt_types.specs.Below.types_base.declared.refusal.RefusalCode.TheVariants as code
use Rattle.virt_types.specs.declared.request.Request.{Request}
use Rattle.virt_types.specs.declared.value.Reply.{Reply}
use Rattle.virt_types.specs.declared.value.Reply.TheVariants as reply
use Rattle.wire_spec.specs.declared.message.Header.{Header}
use Rattle.wire_spec.specs.Xdr.{fixed, opaque, optional, padding, padding_length, word}

word_short : (n : ℕ) → length (word n) ≤ 4
unfolding word
word_short n = omega arith

both_short : (a b : List ℕ) (m n : ℕ) → length a ≤ m → length b ≤ n → length (a ++ b) ≤ m + n
both_short a b m n p q = omega (arith, length-append a b, p, q)

fixed_short : (bytes : List ℕ) (n : ℕ) → length bytes ≤ n → length (fixed bytes) ≤ n + 3
fixed_short bytes n le = omega (arith, length-append bytes (padding (length bytes)), length-replicate {A = ℕ} (padding_length (length bytes)) 0, le)

pub opaque_short : (bytes : List ℕ) (n : ℕ) → length bytes ≤ n → length (opaque bytes) ≤ 4 + (n + 3)
opaque_short bytes n le = both_short _ _ 4 (n + 3) (word_short (length bytes)) (fixed_short bytes n le)

kept_short : (kept : List ℕ) (n : ℕ) → length kept ≤ n → length (optional opaque (kept_string kept)) ≤ 4 + (4 + (n + 3))
kept_short [] n le = omega (arith, word_short 0)
kept_short (b ∷ bs) n le = both_short _ _ 4 (4 + (n + 3)) (word_short 1) (opaque_short (b ∷ bs) n le)

pub error_short : (code : ℕ) (message kept : List ℕ) → length message ≤ 100 → length kept ≤ 1024 → length (error_payload code message kept) ≤ 4096
error_short code message kept m k =
    let w = word_short in
    let named = both_short _ _ 4 (4 + (100 + 3)) (w 1) (opaque_short message 100 m) in
    let front = both_short _ _ _ 4 (both_short _ _ _ 4 (both_short _ _ _ _ (both_short _ _ 4 4 (w code) (w 10)) named) (w 2)) (w 0) in
    let held = both_short _ _ _ _ front (kept_short kept 1024 k) in
    let tail = both_short _ _ _ 4 (both_short _ _ _ 4 (both_short _ _ _ 4 (both_short _ _ 4 4 (w 0) (w 0)) (w 0)) (w 0)) (w 0) in
    let all = both_short _ _ _ _ held tail in
    omega (arith, all)

-- what a refusal keeps
pub cut_short : (text : List ℕ) → length (kept_cut text) ≤ 1024
unfolding kept_cut
cut_short text = omega (arith, length-take (utf8_valid_len (take 1024 text)) text, utf8_valid_len_le (take 1024 text), length-take 1024 text)

message_hundred : (c : RefusalCode) → length (refusal_message c) ≤ 100
message_hundred code.NoMemory = omega arith
message_hundred code.UnknownProcedure = omega arith
message_hundred code.InvalidArgument = omega arith
message_hundred code.OperationFailed = omega arith
message_hundred code.BadDefinition = omega arith
message_hundred code.DomainExists = omega arith
message_hundred code.NetworkExists = omega arith
message_hundred code.StoreFailed = omega arith
message_hundred code.MalformedCall = omega arith
message_hundred code.NoDomain = omega arith
message_hundred code.NoNetwork = omega arith
message_hundred code.NoPool = omega arith
message_hundred code.NoVolume = omega arith
message_hundred code.OperationInvalid = omega arith
message_hundred code.OperationTimeout = omega arith
message_hundred code.NoSnapshot = omega arith
message_hundred code.OperationAborted = omega arith
message_hundred code.GuestEnded = omega arith
message_hundred code.MonitorLost = omega arith
message_hundred code.TooManyWaiting = omega arith
message_hundred code.ListFull = omega arith
message_hundred code.NotBuilt = omega arith
message_hundred code.Stalled = omega arith
message_hundred code.SnapshotExists = omega arith
message_hundred code.NoFreeSlot = omega arith
message_hundred code.EventsLost = omega arith
message_hundred code.CountSpent = omega arith
message_hundred code.PoolExists = omega arith
message_hundred code.VolumeExists = omega arith

pub refusal_short : (why : Refusal) → length why.kept ≤ 1024 → length (refusal_payload why) ≤ 4096
refusal_short why k = error_short _ _ _ (message_hundred why.code) k

-- a reply of the right shape can be written
pub can_reply : (h : Header) (payload : List ℕ) (asked : Request) (said : Reply) → IsCall h payload asked → IsSayable (result_shape asked) said → CanReply h said
can_reply h payload asked (reply.Ok v) is fits = has_result h payload asked v is fits
can_reply h payload asked (reply.No why) is fits = fits
