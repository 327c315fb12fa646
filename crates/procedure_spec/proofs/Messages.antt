-- Messages of errors are short texts.
use Rattle.std.proofs.Common.{◌≡◌, ◌<◌, ◌^◌, ℕ, zero, suc, ◌&&◌, Bool, true, false, ltb, List, [], ◌∷◌, length, refl, arith, lit<}
use Rattle.std.specs.Str.{IsAscii}
use Rattle.std.proofs.lemmas.Bool.{ltb-true}
use Rattle.std.proofs.lemmas.Str.{IsUtf8-from_ascii}
use Rattle.std.proofs.lemmas.Str.Ascii.{IsAscii-nil}
use Rattle.virt_types.specs.Refusal.{refusal_message}
use Rattle.virt_types.specs.Below.types_base.declared.refusal.RefusalCode.{RefusalCode}
use Rattle.virt_types.specs.Below.types_base.declared.refusal.RefusalCode.TheVariants as code
use Rattle.wire_spec.specs.Xdr.{IsString}
use Rattle.procedure_spec.specs.declared.words.TheConstants.{PACKET_BOUND}

pub message_short : (c : RefusalCode) → length (refusal_message c) < 2 ^ 32
message_short code.NoMemory = lit< tt
message_short code.UnknownProcedure = lit< tt
message_short code.InvalidArgument = lit< tt
message_short code.OperationFailed = lit< tt
message_short code.BadDefinition = lit< tt
message_short code.DomainExists = lit< tt
message_short code.NetworkExists = lit< tt
message_short code.StoreFailed = lit< tt
message_short code.MalformedCall = lit< tt
message_short code.NoDomain = lit< tt
message_short code.NoNetwork = lit< tt
message_short code.NoPool = lit< tt
message_short code.NoVolume = lit< tt
message_short code.OperationInvalid = lit< tt
message_short code.OperationTimeout = lit< tt
message_short code.NoSnapshot = lit< tt
message_short code.OperationAborted = lit< tt
message_short code.GuestEnded = lit< tt
message_short code.MonitorLost = lit< tt
message_short code.TooManyWaiting = lit< tt
message_short code.ListFull = lit< tt
message_short code.NotBuilt = lit< tt
message_short code.Stalled = lit< tt
message_short code.SnapshotExists = lit< tt
message_short code.NoFreeSlot = lit< tt
message_short code.EventsLost = lit< tt
message_short code.CountSpent = lit< tt
message_short code.PoolExists = lit< tt
message_short code.VolumeExists = lit< tt

abbrev is_ascii : List ℕ → Bool
is_ascii [] = true
is_ascii (b ∷ bs) = ltb b 128 && is_ascii bs

both_true : (a b : Bool) → (a && b) ≡ true → (a ≡ true) × (b ≡ true)
both_true true b e = (refl, e)
both_true false b e = absurd cc

ascii_of : (bs : List ℕ) → is_ascii bs ≡ true → IsAscii bs
ascii_of [] e i = IsAscii-nil i
ascii_of (b ∷ bs) e zero = ltb-true b 128 (both_true (ltb b 128) (is_ascii bs) e).0
ascii_of (b ∷ bs) e (suc i) = ascii_of bs (both_true (ltb b 128) (is_ascii bs) e).1 i

short_string : (message : List ℕ) → length message < 1000 → is_ascii message ≡ true → IsString PACKET_BOUND message
short_string message short ascii = record { bounded = omega (arith, short); text = IsUtf8-from_ascii message (ascii_of message ascii) }

pub message_string : (c : RefusalCode) → IsString PACKET_BOUND (refusal_message c)
message_string code.NoMemory = short_string (refusal_message code.NoMemory) (lit< tt) refl
message_string code.UnknownProcedure = short_string (refusal_message code.UnknownProcedure) (lit< tt) refl
message_string code.InvalidArgument = short_string (refusal_message code.InvalidArgument) (lit< tt) refl
message_string code.OperationFailed = short_string (refusal_message code.OperationFailed) (lit< tt) refl
message_string code.BadDefinition = short_string (refusal_message code.BadDefinition) (lit< tt) refl
message_string code.DomainExists = short_string (refusal_message code.DomainExists) (lit< tt) refl
message_string code.NetworkExists = short_string (refusal_message code.NetworkExists) (lit< tt) refl
message_string code.StoreFailed = short_string (refusal_message code.StoreFailed) (lit< tt) refl
message_string code.MalformedCall = short_string (refusal_message code.MalformedCall) (lit< tt) refl
message_string code.NoDomain = short_string (refusal_message code.NoDomain) (lit< tt) refl
message_string code.NoNetwork = short_string (refusal_message code.NoNetwork) (lit< tt) refl
message_string code.NoPool = short_string (refusal_message code.NoPool) (lit< tt) refl
message_string code.NoVolume = short_string (refusal_message code.NoVolume) (lit< tt) refl
message_string code.OperationInvalid = short_string (refusal_message code.OperationInvalid) (lit< tt) refl
message_string code.OperationTimeout = short_string (refusal_message code.OperationTimeout) (lit< tt) refl
message_string code.NoSnapshot = short_string (refusal_message code.NoSnapshot) (lit< tt) refl
message_string code.OperationAborted = short_string (refusal_message code.OperationAborted) (lit< tt) refl
message_string code.GuestEnded = short_string (refusal_message code.GuestEnded) (lit< tt) refl
message_string code.MonitorLost = short_string (refusal_message code.MonitorLost) (lit< tt) refl
message_string code.TooManyWaiting = short_string (refusal_message code.TooManyWaiting) (lit< tt) refl
message_string code.ListFull = short_string (refusal_message code.ListFull) (lit< tt) refl
message_string code.NotBuilt = short_string (refusal_message code.NotBuilt) (lit< tt) refl
message_string code.Stalled = short_string (refusal_message code.Stalled) (lit< tt) refl
message_string code.SnapshotExists = short_string (refusal_message code.SnapshotExists) (lit< tt) refl
message_string code.NoFreeSlot = short_string (refusal_message code.NoFreeSlot) (lit< tt) refl
message_string code.EventsLost = short_string (refusal_message code.EventsLost) (lit< tt) refl
message_string code.CountSpent = short_string (refusal_message code.CountSpent) (lit< tt) refl
message_string code.PoolExists = short_string (refusal_message code.PoolExists) (lit< tt) refl
message_string code.VolumeExists = short_string (refusal_message code.VolumeExists) (lit< tt) refl
