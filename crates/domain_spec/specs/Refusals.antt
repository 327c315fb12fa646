-- Refusals: a code, and what is kept of the case (libvirt's virErrorNumber below 100).
use Rattle.std.specs.Prelude.{ℕ, ◌++◌, ◌∷◌, [], List, Bool, nat_lt, if◌then◌else◌, codes, decimal, Option, ◌^◌, ℤ}
use Rattle.std.specs.Fmt.{signed_decimal}
use Rattle.domain_spec.specs.Reading.{state_in}
use Rattle.virt_types.specs.Numbers.{state_word}
use Rattle.domain_spec.specs.Types.{Answer, Live, Refusal, RefusalCode}
use Rattle.domain_spec.specs.Types.answer
use Rattle.domain_spec.specs.Types.code
use Rattle.virt_types.specs.Refusal.{kept_cut}

-- a refusal with this code, which keeps this text
abbrev pub refusal : RefusalCode → List ℕ → Refusal
refusal c kept = record { code = c; kept = kept }

-- a refusal that keeps nothing
abbrev pub bare : RefusalCode → Refusal
bare c = refusal c []

-- there was no memory
abbrev pub no_memory : Refusal
no_memory = bare code.NoMemory

-- a number is outside its range; kept are the number and the bound that it passes, the lower one
-- where it is too small
abbrev pub out_of_range : ℕ → ℕ → ℕ → Refusal
out_of_range n low high = refusal code.InvalidArgument (decimal n ++ 32 ∷ decimal (if nat_lt n low then low else high))

-- a number 1 to 5 is none of these
abbrev pub bad_kick : ℤ → Bool → Refusal
bad_kick n is_low = refusal code.InvalidArgument (signed_decimal n ++ 32 ∷ decimal (if is_low then 1 else 5))

-- no device has this key
abbrev pub no_device : List ℕ → Refusal
no_device key = refusal code.InvalidArgument (kept_cut key)

-- the guest or the desk refused, with this class
abbrev pub failed : ℕ → Refusal
failed class = refusal code.OperationFailed (codes "class " ++ decimal class)

-- the store failed
abbrev pub store_failed : Refusal
store_failed = bare code.StoreFailed

-- there is no domain
abbrev pub no_domain : Refusal
no_domain = bare code.NoDomain

-- the domain's state does not allow it; kept is the word for that state
abbrev pub invalid : Option Live → Refusal
invalid live = refusal code.OperationInvalid (state_word (state_in live))

-- there is no snapshot of this name
abbrev pub no_snapshot : List ℕ → Refusal
no_snapshot name = refusal code.NoSnapshot name

-- a caller asked that the operation be given up
abbrev pub aborted : Refusal
aborted = bare code.OperationAborted

-- the boot that was carried is not live
abbrev pub guest_ended : ℕ → Refusal
guest_ended boot = refusal code.GuestEnded (codes "boot " ++ decimal boot)

-- the link to the guest was lost
abbrev pub monitor_lost : Refusal
monitor_lost = bare code.MonitorLost

-- a list is at its limit
abbrev pub list_full : ℕ → Refusal
list_full most = refusal code.ListFull (decimal most)

-- the copy made no headway; kept is what is left
abbrev pub stalled : ℕ → Refusal
stalled rest = refusal code.Stalled (decimal rest)

-- there is a snapshot of this name already
abbrev pub snapshot_exists : List ℕ → Refusal
snapshot_exists name = refusal code.SnapshotExists name

-- each slot has a device
abbrev pub no_slot : Refusal
no_slot = bare code.NoFreeSlot

-- the number of boots has come to its end
abbrev pub boots_spent : Refusal
boots_spent = refusal code.CountSpent (decimal (2 ^ 62))

-- what an answer that is not Ok makes of the call. An Ended is marked as the boot's end before the
-- call is done, so it decides nothing here.
abbrev pub failure_of : Answer → Refusal
failure_of (answer.Refused class) = failed class
failure_of answer.Device = store_failed
failure_of answer.NoMemory = no_memory
failure_of other = monitor_lost
