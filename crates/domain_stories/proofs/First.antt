-- The first pass of a domain is where its story begins: it has nothing open, and no part was cut off it.
use Rattle.std.proofs.Common.{◌≡◌, ◌+◌, ◌^◌, ℕ, Bool, Option, inr, ap}
use Rattle.atomic_table.specs.Seated.{TableId}
use Rattle.domain_spec.specs.Types.{DomainDef}
use Rattle.domain_threads.specs.Below.domain_core.Celled.{new_cell}
use Rattle.domain_threads.specs.Below.domain_core.Meaning.{meaning}
use Rattle.domain_threads.specs.Below.domain_obj.InTurn.{DomainPass}
use Rattle.turn_cell.specs.Passes.{IsFirst}
use Rattle.domain_stories.specs.Home.{IsHome}

pub first_home : (cell : TableId) (stored : Option DomainDef) (autostart : Bool) (first : ℕ) (pass : DomainPass) → pass.cell ≡ cell → IsFirst meaning (new_cell stored autostart) first pass → IsHome cell pass 0
first_home cell stored autostart first pass own is = record { own = own; parts = ap (λ (p : DomainPass). p.parts + 0) is; free = inr (ap (λ (p : DomainPass). p.share) is) }
