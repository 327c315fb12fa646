-- What is read, from its parts.
use Rattle.std.proofs.Common.{◌≡◌, ℕ, List, Option, Ok, refl, sym}
use Rattle.std.specs.Prelude.{codes}
use Rattle.types_base.specs.Memory.{FailsUnlessNoMemory}
use Rattle.types_base.specs.declared.memory.OrNoMemory.{OrNoMemory}
use Rattle.types_base.specs.declared.memory.OrNoMemory.TheVariants.{Fault, NoMemory}
use Rattle.types_base.specs.declared.network_def.Dhcp.{Dhcp}
use Rattle.types_base.specs.declared.network_def.ForwardMode.{ForwardMode}
use Rattle.types_base.specs.declared.network_def.NetIp.{NetIp}
use Rattle.text_spec.specs.declared.definition.DefFault.{DefFault}
use Rattle.text_spec.specs.Tree.{Tree}
use Rattle.xml_tables.specs.Called.{first_called, text_called, value_called}
use Rattle.xml_tables.specs.Rows.{needed, optional}
use Rattle.xml_tables.specs.Values.{name_value, uuid_value}
use Rattle.network_xml.specs.NetworkText.{address_value, bridge_in, dhcp_of, if_there, ip_of, mode_in, mode_value, network_of, prefix_of}

pub ip_reads : (t : Tree) (address prefix : ℕ) (dhcp : Option Dhcp) (addresses masks prefixes : Option (List ℕ)) (parts : Option Tree)
    → addresses ≡ value_called (codes "address") t → needed (codes "/network/ip") address_value addresses ≡ Ok address
    → masks ≡ value_called (codes "netmask") t → prefixes ≡ value_called (codes "prefix") t → prefix_of masks prefixes ≡ Ok prefix
    → parts ≡ first_called (codes "dhcp") t → if_there (dhcp_of (record { address = address; prefix = prefix })) parts ≡ Ok dhcp
    → ip_of t ≡ Ok (record { address = address; prefix = prefix; dhcp = dhcp })
unfolding ip_of
ip_reads t address prefix dhcp addresses masks prefixes parts address_at addressed mask_at prefix_at prefixed dhcp_at leased =
    rw (sym address_at, addressed, sym mask_at, sym prefix_at, prefixed, sym dhcp_at, leased) refl

-- the prefix has a fault, or what is leased has one
pub prefix_fails : (t : Tree) (fault : OrNoMemory DefFault) (address : ℕ) (addresses masks prefixes : Option (List ℕ))
    → addresses ≡ value_called (codes "address") t → needed (codes "/network/ip") address_value addresses ≡ Ok address
    → masks ≡ value_called (codes "netmask") t → prefixes ≡ value_called (codes "prefix") t → FailsUnlessNoMemory fault (prefix_of masks prefixes)
    → FailsUnlessNoMemory fault (ip_of t)
unfolding ip_of
prefix_fails t (Fault f) address addresses masks prefixes address_at addressed mask_at prefix_at fails = rw (sym address_at, addressed, sym mask_at, sym prefix_at, fails) refl
prefix_fails t NoMemory address addresses masks prefixes address_at addressed mask_at prefix_at fails = tt

pub dhcp_fails : (t : Tree) (fault : OrNoMemory DefFault) (address prefix : ℕ) (addresses masks prefixes : Option (List ℕ)) (parts : Option Tree)
    → addresses ≡ value_called (codes "address") t → needed (codes "/network/ip") address_value addresses ≡ Ok address
    → masks ≡ value_called (codes "netmask") t → prefixes ≡ value_called (codes "prefix") t → prefix_of masks prefixes ≡ Ok prefix
    → parts ≡ first_called (codes "dhcp") t → FailsUnlessNoMemory fault (if_there (dhcp_of (record { address = address; prefix = prefix })) parts)
    → FailsUnlessNoMemory fault (ip_of t)
unfolding ip_of
dhcp_fails t (Fault f) address prefix addresses masks prefixes parts address_at addressed mask_at prefix_at prefixed dhcp_at fails = rw (sym address_at, addressed, sym mask_at, sym prefix_at, prefixed, sym dhcp_at, fails) refl
dhcp_fails t NoMemory address prefix addresses masks prefixes parts address_at addressed mask_at prefix_at prefixed dhcp_at fails = tt

pub network_reads : (t : Tree) (name : List ℕ) (uuid bridge : Option (List ℕ)) (forward : Option ForwardMode) (ip : Option NetIp) (names uuids modes : Option (List ℕ)) (parts : Option Tree)
    → names ≡ text_called (codes "name") t → needed (codes "/network/name") name_value names ≡ Ok name
    → uuids ≡ text_called (codes "uuid") t → optional (codes "/network/uuid") uuid_value uuids ≡ Ok uuid
    → modes ≡ mode_in t → optional (codes "/network/forward") mode_value modes ≡ Ok forward
    → parts ≡ first_called (codes "ip") t → if_there ip_of parts ≡ Ok ip
    → bridge ≡ bridge_in t
    → network_of t ≡ Ok (record { name = name; uuid = uuid; forward = forward; bridge = bridge; ip = ip })
unfolding network_of
network_reads t name uuid bridge forward ip names uuids modes parts name_at named uuid_at identified mode_at moded ip_at addressed bridged =
    rw (sym name_at, named, sym uuid_at, identified, sym mode_at, moded, sym ip_at, addressed, bridged) refl

-- the identifier has a fault, the mode has one, or the addresses have one
pub uuid_fails : (t : Tree) (fault : OrNoMemory DefFault) (name : List ℕ) (names uuids : Option (List ℕ))
    → names ≡ text_called (codes "name") t → needed (codes "/network/name") name_value names ≡ Ok name
    → uuids ≡ text_called (codes "uuid") t → FailsUnlessNoMemory fault (optional (codes "/network/uuid") uuid_value uuids)
    → FailsUnlessNoMemory fault (network_of t)
unfolding network_of
uuid_fails t (Fault f) name names uuids name_at named uuid_at fails = rw (sym name_at, named, sym uuid_at, fails) refl
uuid_fails t NoMemory name names uuids name_at named uuid_at fails = tt

pub mode_fails : (t : Tree) (fault : OrNoMemory DefFault) (name : List ℕ) (uuid names uuids modes : Option (List ℕ))
    → names ≡ text_called (codes "name") t → needed (codes "/network/name") name_value names ≡ Ok name
    → uuids ≡ text_called (codes "uuid") t → optional (codes "/network/uuid") uuid_value uuids ≡ Ok uuid
    → modes ≡ mode_in t → FailsUnlessNoMemory fault (optional (codes "/network/forward") mode_value modes)
    → FailsUnlessNoMemory fault (network_of t)
unfolding network_of
mode_fails t (Fault f) name uuid names uuids modes name_at named uuid_at identified mode_at fails = rw (sym name_at, named, sym uuid_at, identified, sym mode_at, fails) refl
mode_fails t NoMemory name uuid names uuids modes name_at named uuid_at identified mode_at fails = tt

pub ip_fails : (t : Tree) (fault : OrNoMemory DefFault) (name : List ℕ) (uuid : Option (List ℕ)) (forward : Option ForwardMode) (names uuids modes : Option (List ℕ)) (parts : Option Tree)
    → names ≡ text_called (codes "name") t → needed (codes "/network/name") name_value names ≡ Ok name
    → uuids ≡ text_called (codes "uuid") t → optional (codes "/network/uuid") uuid_value uuids ≡ Ok uuid
    → modes ≡ mode_in t → optional (codes "/network/forward") mode_value modes ≡ Ok forward
    → parts ≡ first_called (codes "ip") t → FailsUnlessNoMemory fault (if_there ip_of parts)
    → FailsUnlessNoMemory fault (network_of t)
unfolding network_of
ip_fails t (Fault f) name uuid forward names uuids modes parts name_at named uuid_at identified mode_at moded ip_at fails = rw (sym name_at, named, sym uuid_at, identified, sym mode_at, moded, sym ip_at, fails) refl
ip_fails t NoMemory name uuid forward names uuids modes parts name_at named uuid_at identified mode_at moded ip_at fails = tt
