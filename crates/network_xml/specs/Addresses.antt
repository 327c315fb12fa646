-- The addresses of a network (RFC 4632): those that begin with as many of the same bits as its prefix says.
use Rattle.std.specs.Prelude.{ℕ, ◌-◌, ◌/◌, ◌^◌, ◌==◌, ◌&&◌, Bool, find, nat_le, Option}
use Rattle.std.specs.List.{range_with_len}
use Rattle.types_base.specs.declared.network_def.AddressRange.{AddressRange}
use Rattle.network_xml.specs.declared.subnet.Subnet.{Subnet}

-- how many addresses a network of this prefix has
abbrev pub size_of : ℕ → ℕ
size_of prefix = 2 ^ (32 - prefix)

-- the mask that begins with so many ones, and has no other
abbrev pub mask_of : ℕ → ℕ
mask_of prefix = 2 ^ 32 - size_of prefix

-- how many ones a mask begins with, where it has no other
unfoldable pub ones_of : ℕ → Option ℕ
ones_of mask = find (λ prefix. mask_of prefix == mask) (range_with_len 0 33)

-- the address is one of the network's
unfoldable pub contains : Subnet → ℕ → Bool
contains subnet address = subnet.address / size_of subnet.prefix == address / size_of subnet.prefix

-- a range of the network's addresses, the first not above the last
unfoldable pub has_range : Subnet → AddressRange → Bool
has_range subnet range = nat_le range.start range.end && (contains subnet range.start && contains subnet range.end)
