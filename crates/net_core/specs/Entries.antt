-- What an entry of the table keeps beside its network, so that a lease needs no walk over the range.
use Rattle.std.specs.Prelude.{◌≡◌, ℕ, ◌≤◌, ◌<◌, ◌||◌, true, false, List, Option, None, Some}
use Rattle.virt_types.specs.Below.types_base.declared.mac.Mac.{Mac}
use Rattle.virt_types.specs.declared.value.LeaseRow.{LeaseRow}
use Rattle.virt_types.specs.Below.types_base.declared.network_def.AddressRange.{AddressRange}
use Rattle.virt_types.specs.Below.types_base.declared.network_def.HostLine.{HostLine}
use Rattle.book_spec.specs.declared.book.Network.{Network}
use Rattle.book_spec.specs.Leases.{leased_to, is_leased, is_hosted, with_lease}
use Rattle.net_core.specs.declared.mac_index.MacIndex.{MacIndex}
use Rattle.net_core.specs.Index.{IsMac, address_at}

-- the index finds what was leased to an interface
abbrev pub IsIndexed : MacIndex → List LeaseRow → Type 0
IsIndexed index leases = (mac : Mac) → IsMac mac.bytes → address_at index mac.bytes ≡ leased_to mac leases

-- of the addresses up to the end, the first from this one on that no host line has
pub record IsFirstAt (hosts : List HostLine) (from end address : ℕ) : Type 0 where
  pub after : from ≤ address
  pub within : address ≤ end
  pub free : is_hosted address hosts ≡ false
  pub before : (a : ℕ) → from ≤ a → a < address → is_hosted a hosts ≡ true

abbrev pub IsFirst : List HostLine → ℕ → ℕ → Option ℕ → Type 0
IsFirst hosts from end None = (a : ℕ) → from ≤ a → a ≤ end → is_hosted a hosts ≡ true
IsFirst hosts from end (Some address) = IsFirstAt hosts from end address

-- leases end only together, so the least free address only rises: each address of the range before `next` is taken, and
-- from there on only host lines take any
pub record IsAhead (range : AddressRange) (hosts : List HostLine) (leases : List LeaseRow) (next : ℕ) : Type 0 where
  pub begun : range.start ≤ next
  pub passed : (a : ℕ) → range.start ≤ a → a < next → (is_leased a leases || is_hosted a hosts) ≡ true
  pub ahead : (a : ℕ) → next ≤ a → is_leased a leases ≡ true → is_hosted a hosts ≡ true

abbrev pub KeepsNext : Option AddressRange → List HostLine → List LeaseRow → ℕ → Type 0
KeepsNext None hosts leases next = Unit {0}
KeepsNext (Some range) hosts leases next = IsAhead range hosts leases next

-- where a range begins
abbrev pub Begins : Option AddressRange → ℕ → Type 0
Begins None next = Unit {0}
Begins (Some range) next = next ≡ range.start

-- the network once an interface has this address; where there is none, it stays as it was
abbrev pub with_address : Mac → Option ℕ → Network → Network
with_address mac None network = network
with_address mac (Some address) network = with_lease mac address network
