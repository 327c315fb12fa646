-- The book of networks. (libvirt's virNetworkObjList is the like: it finds an object by its name or its UUID.)
use Rattle.std.specs.Prelude.{ℕ, Bool, false, List, [], ◌∷◌, bytes_eq, find, Option, None, Some, if◌then◌else◌}
use Rattle.std.specs.Option.{unwrap_or}
use Rattle.uuid.specs.Parts.{zero_bytes}
use Rattle.virt_types.specs.Below.types_base.declared.network_def.NetDef.{NetDef}
use Rattle.book_spec.specs.declared.book.Network.{Network}

abbrev pub Networks : Type 0
Networks = List Network

-- at most as many networks are in the book
abbrev pub most_networks : ℕ
most_networks = 64

-- the identifier of a definition; of one that has none yet, the nil UUID (RFC 9562, section 5.9)
abbrev pub identifier : NetDef → List ℕ
identifier def = unwrap_or def.uuid zero_bytes

abbrev pub name_of : Network → List ℕ
name_of network = network.def.name

abbrev pub uuid_of : Network → List ℕ
uuid_of network = identifier network.def

-- the network has this name, or this identifier
abbrev pub has : (Network → List ℕ) → List ℕ → Network → Bool
has key bytes network = bytes_eq (key network) bytes

-- the network of this name, or of this identifier
unfoldable pub network_of : (Network → List ℕ) → List ℕ → Networks → Option Network
network_of key bytes networks = find (has key bytes) networks

-- a network that was just defined: it is inactive and has no leases
abbrev pub new_network : NetDef → Network
new_network def = record { def = def; autostart = false; active = false; leases = [] }

-- the network of this name, or of this identifier, changed so
unfoldable pub with_changed : (Network → List ℕ) → List ℕ → (Network → Network) → Networks → Networks
with_changed key bytes change [] = []
with_changed key bytes change (network ∷ others) = if has key bytes network then change network ∷ others else network ∷ with_changed key bytes change others

-- the others, without the network of this identifier
unfoldable pub without : List ℕ → Networks → Networks
without uuid [] = []
without uuid (network ∷ others) = if has uuid_of uuid network then others else network ∷ without uuid others
