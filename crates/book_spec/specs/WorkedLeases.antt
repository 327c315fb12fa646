-- A network with the range 10.0.0.2 to 10.0.0.3, and a host line for one interface at 10.0.0.3.
use Rattle.std.specs.Prelude.{◌≡◌, ℕ, true, false, List, [], ◌∷◌, ◌++◌, codes, Option, None, Some}
use Rattle.uuid.specs.Parts.{zero_bytes}
use Rattle.virt_types.specs.Below.types_base.declared.mac.Mac.{Mac}
use Rattle.virt_types.specs.Below.types_base.declared.network_def.NetDef.{NetDef}
use Rattle.book_spec.specs.declared.book.NetAnswer.{NetAnswer}
use Rattle.book_spec.specs.declared.book.NetAnswer.TheVariants.{Done, Leased, NotLeased}
use Rattle.book_spec.specs.declared.book.NetCall.{NetCall}
use Rattle.book_spec.specs.declared.book.NetCall.TheVariants as call
use Rattle.book_spec.specs.declared.book.LeaseFault.TheVariants.{Class}
use Rattle.book_spec.specs.Networks.{Networks}
use Rattle.book_spec.specs.NetCalls.{answer, networks_after}

-- an interface whose address ends with this byte
abbrev pub interface : ℕ → Mac
interface n = record { bytes = 0x52 ∷ 0x54 ∷ 0 ∷ 0 ∷ 0 ∷ n ∷ [] }

abbrev pub two_addresses : NetDef
two_addresses = record {
  name = codes "default";
  uuid = None;
  forward = None;
  bridge = None;
  ip = Some (record {
    address = 0x0a000001;
    prefix = 24;
    dhcp = Some (record { range = Some (record { start = 0x0a000002; end = 0x0a000003 }); hosts = record { mac = interface 1; address = 0x0a000003 } ∷ [] });
  });
}

-- the book after these calls, each as it is answered
abbrev pub after_calls : List NetCall → Networks → Networks
after_calls [] networks = networks
after_calls (c ∷ cs) networks = after_calls cs (networks_after c (answer c networks) networks)

-- the answer to a call after these
abbrev pub answer_after : List NetCall → NetCall → NetAnswer
answer_after before c = answer c (after_calls before [])

abbrev pub leases : ℕ → NetCall
leases n = call.Lease (codes "default") (interface n)

abbrev pub the_book : List NetCall
the_book = call.Define two_addresses ∷ call.Start zero_bytes ∷ []

pub record WorkedLeases : Type 0 where
  -- the line's interface gets its address, another the one that is left, and a third finds none
  pub hosted : answer_after the_book (leases 1) ≡ Leased 0x0a000003
  pub left : answer_after (the_book ++ leases 1 ∷ []) (leases 2) ≡ Leased 0x0a000002
  pub none : answer_after (the_book ++ leases 1 ∷ leases 2 ∷ []) (leases 3) ≡ NotLeased (Class 13)
  -- what was leased is kept, until the network stops
  pub kept : answer_after (the_book ++ leases 1 ∷ leases 2 ∷ leases 3 ∷ []) (leases 2) ≡ Leased 0x0a000002
  pub inactive : answer_after (the_book ++ leases 2 ∷ call.Stop zero_bytes ∷ []) (leases 3) ≡ NotLeased (Class 12)
  pub anew : answer_after (the_book ++ leases 2 ∷ call.Stop zero_bytes ∷ call.Start zero_bytes ∷ []) (leases 3) ≡ Leased 0x0a000002
  pub unknown : answer_after [] (leases 1) ≡ NotLeased (Class 11)
