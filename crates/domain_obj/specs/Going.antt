-- What an operation does in one turn, as its cell's calls show it: its due phase, and its end.
use Rattle.std.specs.Prelude.{◌≡◌, ◌⊎◌, ℕ, is_some, None}
use Rattle.domain_spec.specs.Types.{Reply, Who}
use Rattle.domain_spec.specs.Cell.{share_of}
use Rattle.domain_obj.specs.InTurn.{IsNotRenewed, IsRenewed}
use Rattle.domain_core.specs.Celled.{Celled, KeepsOtherShares, cell_in, standing_in}
use Rattle.domain_core.specs.Held.{out_by}
use Rattle.domain_core.specs.Tickets.{HasMonitor, LeadsOn, phase_ticket, phased_of}
use Rattle.domain_core.specs.declared.ticket.PhaseLook.{PhaseLook}
use Rattle.domain_core.specs.OfShares.{made_boot}
use Rattle.domain_core.specs.OfTurns.{CanEnd, Ends}
use Rattle.domain_core.specs.OfTurns.{IsDue, Phases}

-- a phase is due of the operation that is kept for the number, by which nobody waits
pub record MayGoOn (n : ℕ) (who : Who) (c : Celled) : Type 0 where
  pub waits : (share_of (cell_in c) n).waits ≡ None
  pub due : IsDue (share_of (cell_in c) n).operation n who

-- a long chapter ended, where there was memory for the next one
abbrev pub IsRenewedIfCan : ℕ → Who → Celled → Celled → Type 0
IsRenewedIfCan n who old new = IsRenewed n who old new ⊎ IsNotRenewed n who old new

-- the operation that is kept for the number is over
abbrev pub MayEnd : ℕ → Who → Celled → Type 0
MayEnd n who c = CanEnd (share_of (cell_in c) n).operation n who

-- it ended
pub record EndsIn (n : ℕ) (who : Who) (old new : Celled) (said : Reply) : Type 0 where
  pub ends : Ends n who old.core.turning new.core.turning said
  pub out : new.out ≡ old.out
  pub others : KeepsOtherShares n old new

module _ {G M E Z : Type 0} where
  -- the due phase was admitted where no normal job is open, and else excluded
  pub record PhasesIn (n : ℕ) (who : Who) (old new : Celled) (result : PhaseLook G M E Z) : Type 0 where
    pub phases : Phases n who old.core.turning new.core.turning (phased_of result)
    pub leads : LeadsOn (standing_in new).operation result
    pub out : new.out ≡ out_by (is_some (phase_ticket result)) (made_boot (standing_in new)) old.out
    pub ticket : HasMonitor (is_some new.out) (phase_ticket result)
    pub others : KeepsOtherShares n old new

  -- a long chapter ended, if it could, and then the operation went on so
  abbrev pub RenewsAndGoesOn : ℕ → Who → Celled → Celled → PhaseLook G M E Z → Type 0
  RenewsAndGoesOn n who old new result = (mid : Celled) × IsRenewedIfCan n who old mid × PhasesIn n who mid new result
