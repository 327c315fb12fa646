-- Codes and messages of errors on the wire. Codes below 100 are libvirt's (virErrorNumber of virterror.h);
-- the messages, and the codes from 201 on, are this project's own.
use Rattle.std.specs.Prelude.{ℕ, List, [], codes, take}
use Rattle.std.specs.Str.Lossy.{utf8_valid_len}
use Rattle.types_base.specs.Limits.{most_kept_bytes}
use Rattle.types_base.specs.declared.refusal.RefusalCode.{RefusalCode}
use Rattle.types_base.specs.declared.refusal.RefusalCode.TheVariants as code

-- the numbers that libvirt has no error for; no error has 0
abbrev own_number : RefusalCode → ℕ
own_number code.GuestEnded = 201
own_number code.MonitorLost = 202
own_number code.TooManyWaiting = 203
own_number code.ListFull = 204
own_number code.NotBuilt = 206
own_number code.Stalled = 207
own_number code.NoFreeSlot = 209
own_number code.EventsLost = 210
own_number code.CountSpent = 211
own_number _ = 0

-- the numbers of errors at an object that is there already, or that is not there
abbrev object_number : RefusalCode → ℕ
object_number code.DomainExists = 28
object_number code.NetworkExists = 37
object_number code.PoolExists = 212
object_number code.VolumeExists = 213
object_number code.SnapshotExists = 208
object_number code.NoDomain = 42
object_number code.NoNetwork = 43
object_number code.NoPool = 49
object_number code.NoVolume = 50
object_number code.NoSnapshot = 72
object_number other = own_number other

-- the number of the error
abbrev pub refusal_number : RefusalCode → ℕ
refusal_number code.NoMemory = 2
refusal_number code.UnknownProcedure = 3
refusal_number code.InvalidArgument = 8
refusal_number code.OperationFailed = 9
refusal_number code.BadDefinition = 27
refusal_number code.StoreFailed = 38
refusal_number code.MalformedCall = 39
refusal_number code.OperationInvalid = 55
refusal_number code.OperationTimeout = 68
refusal_number code.OperationAborted = 78
refusal_number other = object_number other

-- the messages of errors that libvirt has no number for
abbrev own_message : RefusalCode → List ℕ
own_message code.GuestEnded = codes "guest ended"
own_message code.MonitorLost = codes "monitor lost"
own_message code.TooManyWaiting = codes "too many waiting"
own_message code.ListFull = codes "list full"
own_message code.NotBuilt = codes "not built"
own_message code.Stalled = codes "stalled"
own_message code.NoFreeSlot = codes "no free slot"
own_message code.EventsLost = codes "events lost"
own_message code.CountSpent = codes "count spent"
own_message _ = []

-- the messages of errors at an object that is there already, or that is not there
abbrev object_message : RefusalCode → List ℕ
object_message code.DomainExists = codes "domain exists"
object_message code.NetworkExists = codes "network exists"
object_message code.PoolExists = codes "pool exists"
object_message code.VolumeExists = codes "volume exists"
object_message code.SnapshotExists = codes "snapshot exists"
object_message code.NoDomain = codes "no domain"
object_message code.NoNetwork = codes "no network"
object_message code.NoPool = codes "no pool"
object_message code.NoVolume = codes "no volume"
object_message code.NoSnapshot = codes "no snapshot"
object_message other = own_message other

-- the message of the error
abbrev pub refusal_message : RefusalCode → List ℕ
refusal_message code.NoMemory = codes "no memory"
refusal_message code.UnknownProcedure = codes "unknown procedure"
refusal_message code.InvalidArgument = codes "invalid argument"
refusal_message code.OperationFailed = codes "operation failed"
refusal_message code.BadDefinition = codes "bad definition"
refusal_message code.StoreFailed = codes "store failed"
refusal_message code.MalformedCall = codes "malformed call"
refusal_message code.OperationInvalid = codes "operation invalid"
refusal_message code.OperationTimeout = codes "operation timeout"
refusal_message code.OperationAborted = codes "operation aborted"
refusal_message other = object_message other

-- what a refusal keeps of a text: the longest front of whole characters within 1,024 bytes
unfoldable pub kept_cut : List ℕ → List ℕ
kept_cut text = take (utf8_valid_len (take most_kept_bytes text)) text
