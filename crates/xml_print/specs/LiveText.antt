-- The tree that the text of a running domain spells: its definition's, in which each disk and interface
-- has the address of its slot as its last element (libvirt's domain format, "Device Addresses").
use Rattle.std.specs.Prelude.{ℕ, ◌%◌, ◌^◌, List, [], ◌∷◌, ◌++◌, drop, Bool, ◌||◌, Option, Some, None, slice_get, if◌then◌else◌, codes}
use Rattle.virt_types.specs.declared.domain.Live.{Live}
use Rattle.virt_types.specs.Mac.{byte_text}
use Rattle.text_spec.specs.declared.pair.Pair.{Pair}
use Rattle.text_spec.specs.declared.vocabulary.AttributeName.TheVariants as attribute
use Rattle.text_spec.specs.declared.vocabulary.ElementName.TheVariants as known
use Rattle.text_spec.specs.DomainPrinted.{device_trees, front_trees, middle_trees, gathered}
use Rattle.text_spec.specs.Look.{is_element, children_of}
use Rattle.text_spec.specs.Spelling.{pair, holding}
use Rattle.text_spec.specs.Tree.{Tree, element, trees}
use Rattle.text_spec.specs.Words.{domain_type_word}
use Rattle.xml_tables.specs.Spelled.{spelled, worth}

-- a slot as a byte in hexadecimal
abbrev pub slot_word : ℕ → List ℕ
slot_word slot = codes "0x" ++ byte_text (slot % 2 ^ 8)

-- the address of a slot: all devices are on one bus, and each has one function
unfoldable pub address_pairs : ℕ → List Pair
address_pairs slot =
    worth (codes "type") (codes "pci")
    ∷ worth (codes "domain") (codes "0x0000")
    ∷ worth (codes "bus") (codes "0x00")
    ∷ worth (codes "slot") (slot_word slot)
    ∷ worth (codes "function") (codes "0x0")
    ∷ []

unfoldable pub address_tree : ℕ → Tree
address_tree slot = spelled (codes "address") (address_pairs slot) [] []

-- an element with these in place of those in it
abbrev pub with_children : List Tree → Tree → Tree
with_children children (element name attributes text others) = element name attributes text (trees children)

-- an element with one more at its end
abbrev pub with_last : Tree → Tree → Tree
with_last last t = with_children (children_of t ++ last ∷ []) t

-- a device in its slot, if it has one
abbrev pub in_slot : Option ℕ → Tree → Tree
in_slot None t = t
in_slot (Some slot) t = with_last (address_tree slot) t

-- disks and interfaces have slots
abbrev pub has_slot : Tree → Bool
has_slot t = is_element known.Disk t || is_element known.Interface t

-- the next device, and the slots that are left for those after it
abbrev pub next_device : List ℕ → Tree → Tree
next_device slots t = if has_slot t then in_slot (slice_get slots 0) t else t

abbrev pub next_slots : List ℕ → Tree → List ℕ
next_slots slots t = if has_slot t then drop 1 slots else slots

-- devices, of which those that have slots take these in order
unfoldable pub in_slots : List ℕ → List Tree → List Tree
in_slots slots [] = []
in_slots slots (t ∷ ts) = next_device slots t ∷ in_slots (next_slots slots t) ts

-- the tree of a running domain
unfoldable pub live_tree : Live → Tree
live_tree l =
    holding known.Domain (pair attribute.Type (domain_type_word l.def.kind) ∷ [])
    (front_trees l.def ++ (middle_trees l.def ++ gathered known.Devices (in_slots l.slots (device_trees l.def))))
