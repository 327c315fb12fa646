-- What a pass brings into its turn, and what it may leave.
use Rattle.std.proofs.Common.{◌≡◌, ℕ, ◌==◌, List, Bool, true, false, Option, None, Some, if◌then◌else◌, sym, ap, ◌∙◌, subst}
use Rattle.domain_spec.specs.Types.{Ask}
use Rattle.domain_spec.specs.declared.mark.Mark.{Mark}
use Rattle.domain_spec.specs.declared.open.OpenJob.{OpenJob}
use Rattle.domain_spec.specs.CanTake.{WaitsForAnswer}
use Rattle.domain_spec.specs.Cell.{Cell, OpenCall, as_let_in, asks_so_far, call_of, share_of, standing_of}
use Rattle.domain_core.specs.Celled.{CellShare, Celled, cell_in, cell_share}
use Rattle.domain_core.specs.Meaning.{meaning}
use Rattle.domain_core.specs.Shares.{AwaitsAnswer}
use Rattle.domain_core.specs.OfTurns.{AsksLast as LastAsk}
use Rattle.domain_obj.specs.InTurn.{DomainPass, DomainTurn}
use Rattle.turn_cell.specs.Passes.{Enters}
use Rattle.turn_cell.specs.Turning.{Changes}

-- what a pass brings into its turn

pub share_found : (before : DomainPass) (turn : DomainTurn) → Enters meaning before turn → cell_share turn.value turn.pass.number ≡ before.share
share_found before turn enters =
    ap (λ (v : Celled). cell_share v turn.pass.number) enters.value ∙ ap (λ (n : ℕ). cell_share turn.entry n) (ap (λ (p : DomainPass). p.number) enters.pass) ∙ enters.share

pub kept_found : (before : DomainPass) (turn : DomainTurn) → Enters meaning before turn → before.share.kept ≡ share_of (cell_in turn.value) turn.pass.number
kept_found before turn enters = ap (λ (s : CellShare). s.kept) (sym (share_found before turn enters))

-- what a turn leaves

pub kept_turn : (turn mid now : DomainTurn) → mid ≡ record turn { value = mid.value } → now ≡ mid → now ≡ record turn { value = now.value }
kept_turn turn mid now same told =
    told ∙ same ∙ ap (λ (v : Celled). record turn { value = v }) (sym (ap (λ (t : DomainTurn). t.value) told))

pub may_leave : (before : DomainPass) (turn now : DomainTurn) (more : List (Mark ℕ)) → Enters meaning before turn → now ≡ record turn { value = now.value } → Changes meaning turn.pass.number more turn.value now.value
    → Changes meaning now.pass.number more now.entry now.value
may_leave before turn now more enters kept change =
    subst (λ (t : DomainTurn). Changes meaning t.pass.number more t.entry now.value) (sym kept) (subst (λ (v : Celled). Changes meaning turn.pass.number more v now.value) enters.value change)

-- a call that is open waits

waits_if : (c : Cell) (j : OpenJob) (n : ℕ) (b : Bool) (oc : OpenCall) → WaitsForAnswer c (Some j) → (if b then Some (record { job = as_let_in j; asks = asks_so_far (standing_of c) j.job j c.answers; answers = c.answers }) else None) ≡ Some oc → AwaitsAnswer (Some oc)
waits_if c j n true oc waits e =
    subst (λ (o : Option OpenCall). AwaitsAnswer o) e waits
waits_if c j n false oc waits e = cc

waits_open : (c : Cell) (o : Option OpenJob) (n : ℕ) (oc : OpenCall) → WaitsForAnswer c o → call_of (standing_of c) o c.answers n ≡ Some oc → AwaitsAnswer (Some oc)
waits_open c None n oc waits e = cc
waits_open c (Some j) n oc waits e = waits_if c j n (j.number == n) oc waits e

share_waits : (c : Cell) (n : ℕ) (oc : OpenCall) → WaitsForAnswer c (standing_of c).job → (share_of c n).call ≡ Some oc → AwaitsAnswer (Some oc)
share_waits c n oc waits e = waits_open c (standing_of c).job n oc waits e

pub awaits_now : (c : Cell) (n : ℕ) (o : Option OpenCall) (x : Ask) → WaitsForAnswer c (standing_of c).job → o ≡ (share_of c n).call → LastAsk o x → AwaitsAnswer o
awaits_now c n None x waits e h = absurd h
awaits_now c n (Some oc) x waits e h = share_waits c n oc waits (sym e)
