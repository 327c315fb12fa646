-- A long chapter ends, if it can, before the step of a number by which nobody waits: what is kept for that stays.
use Rattle.std.proofs.Common.{◌≡◌, inl, inr, ℕ, List, Option, None, IfSome, sym, ap, ◌∙◌, subst}
use Rattle.domain_spec.specs.Types.{Who}
use Rattle.domain_spec.specs.declared.mark.Mark.{Mark}
use Rattle.domain_spec.specs.CanTake.{WaitsAsNoOther}
use Rattle.domain_spec.specs.Cell.{share_of}
use Rattle.domain_obj.specs.InTurn.{DomainTurn}
use Rattle.domain_obj.proofs.Composing.{not_renewed_history, not_renewed_share, renewed_share, renewed_then, still_then}
use Rattle.domain_core.specs.Celled.{CellShare, Celled, cell_in, cell_share, standing_in}
use Rattle.domain_core.specs.Meaning.{meaning}
use Rattle.domain_core.proofs.Shares.{share_phase}
use Rattle.domain_obj.specs.Going.{IsRenewedIfCan, MayGoOn}
use Rattle.domain_core.specs.OfTurns.{IsDue}
use Rattle.turn_cell.specs.Turning.{Changes}

none_waits : (s : CellShare) → s.kept.waits ≡ None → record s { kept = record s.kept { waits = None } } ≡ s
none_waits s none = ap (λ (w : Option Who). record s { kept = record s.kept { waits = w } }) (sym none)

pub if_can_share : (n : ℕ) (who : Who) (a b : Celled) → IsRenewedIfCan n who a b → (share_of (cell_in a) n).waits ≡ None → cell_share b n ≡ cell_share a n
if_can_share n who a b (inl renewed) none = renewed_share n who a b renewed
if_can_share n who a b (inr not) none = not_renewed_share n who a b not ∙ none_waits (cell_share a n) none

pub if_can_then : (n : ℕ) (who : Who) (more : List (Mark ℕ)) (a b c : Celled) → IsRenewedIfCan n who a b → Changes meaning n more b c → c.core.turning.chapter ≡ b.core.turning.chapter → Changes meaning n more a c
if_can_then n who more a b c (inl renewed) change chapter = renewed_then n who more a b c renewed change chapter
if_can_then n who more a b c (inr not) change chapter = still_then n more a b c (not_renewed_history n who a b not) not.others change chapter

pub waits_as_none : (n : ℕ) (who : Who) (c : Celled) → MayGoOn n who c → WaitsAsNoOther (cell_in c) n who
waits_as_none n who c may = subst (λ (o : Option Who). IfSome o (λ w. w ≡ who)) (sym may.waits) tt

-- a phase that is due before is due after
pub due_then : (who : Who) (turn now : DomainTurn) → IsRenewedIfCan turn.pass.number who turn.value now.value → now ≡ record turn { value = now.value } → MayGoOn turn.pass.number who turn.value
    → IsDue (standing_in now.value).operation now.pass.number who
due_then who turn now renewed same may =
    let n = turn.pass.number in
    subst (λ (k : ℕ). IsDue (standing_in now.value).operation k who) (sym (ap (λ (t : DomainTurn). t.pass.number) same))
    (share_phase (cell_in now.value) n who (subst (λ (s : CellShare). IsDue s.kept.operation n who) (sym (if_can_share n who turn.value now.value renewed may.waits)) may.due))
