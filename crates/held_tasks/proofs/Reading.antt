-- A turn of the domain in which its status is read.
use Rattle.std.proofs.Common.{◌≡◌, ℕ, List, [], Option, Result, Ok, IfOk, sym, ap, ◌∙◌, append-nil, subst, le_refl}
use Rattle.boot_status.specs.Reporting.{boot_status}
use Rattle.domain_spec.specs.declared.mark.Mark.{Mark}
use Rattle.domain_spec.specs.declared.standing.Base.{Base}
use Rattle.driver_cells.specs.OfCells.{CellShare, Celled, history_of, meaning, no_mark_lowers}
use Rattle.driver_cells.specs.OfObjects.{DomainPass, IsLegalHistory}
use Rattle.driver_cells.specs.OfOutcomes.{state_of}
use Rattle.history_spec.specs.declared.history.History.{History}
use Rattle.turn_cell.proofs.Turning.{nothing_changes, turn_tells}
use Rattle.turn_cell.specs.Known.{HasMarks}
use Rattle.turn_cell.specs.Meaning.{NewBaseKeeps}
use Rattle.turn_cell.specs.Passes.{Enters, Turned, left_by}
use Rattle.turn_cell.specs.Turning.{Changes, HasTurned, Went}
use Rattle.virt_types.specs.Below.types_base.declared.memory.NoMemory.{NoMemory}
use Rattle.virt_types.specs.declared.status.Status.{Status}
use Rattle.held_tasks.specs.Statuses.{OnlyLooks}

abbrev DomainTurn : Type 0
DomainTurn = Turned Celled Base (Mark ℕ) CellShare

abbrev DomainHistory : Type 0
DomainHistory = History Base (Mark ℕ)

-- a new chapter keeps the number of a domain's boots
new_base_keeps : NewBaseKeeps meaning
new_base_keeps c = le_refl _

-- what was found may be left
pub leaves_all : (before : DomainPass) (turn now : DomainTurn) → Enters meaning before turn → now ≡ turn → Changes meaning now.pass.number [] now.entry now.value
leaves_all before turn now enters same =
    nothing_changes meaning now.pass.number now.entry now.value (ap (λ (t : DomainTurn). t.value) same ∙ enters.value ∙ sym (ap (λ (t : DomainTurn). t.entry) same))

module _ (before : DomainPass) (turn now : DomainTurn) (after : DomainPass) (enters : Enters meaning before turn) (same : now ≡ turn) (left : after ≡ left_by meaning now) where
  went_silent : HasTurned meaning before after turn.entry now.value × Went meaning 1 [] before after
  went_silent =
      turn_tells meaning no_mark_lowers new_base_keeps [] before after turn now enters (same ∙ (λ i. record { pass = turn.pass; ticket = turn.ticket; entry = turn.entry; value = sym (ap (λ (t : DomainTurn). t.value) same) i }))
      (nothing_changes meaning turn.pass.number turn.value now.value (ap (λ (t : DomainTurn). t.value) same)) left

  -- it is the history that was found
  seen_is : after.seen ≡ history_of turn.entry
  seen_is = went_silent.0.seen ∙ ap (λ (t : DomainTurn). history_of t.value) same ∙ ap history_of enters.value

  mine_is : after.mine ≡ before.mine
  mine_is = went_silent.1.mine ∙ append-nil before.mine

  pub only_looks : IsLegalHistory (history_of turn.value) → OnlyLooks before after
  only_looks legal =
      let seen : IsLegalHistory after.seen = subst (λ (h : DomainHistory). IsLegalHistory h) (sym (seen_is ∙ sym (ap history_of enters.value))) legal in
      let found : now.value ≡ turn.entry = ap (λ (t : DomainTurn). t.value) same ∙ enters.value in
      record {
        goes = record {
          went = went_silent.1;
          legal = λ some. seen;
          legal_seen = λ l. seen;
          legal_held = λ l. subst (λ (h : DomainHistory). IsLegalHistory h) (sym went_silent.1.held) l;
        };
        share = went_silent.0.share ∙ ap (λ (c : Celled). meaning.share c before.number) found ∙ enters.share;
        own = subst (λ (x : ℕ × List (ℕ × Mark ℕ) × DomainHistory). HasMarks meaning x.0 x.1 x.2) (λ i. (sym went_silent.1.same.number i, sym mine_is i, sym seen_is i)) enters.mine;
      }

  pub status_seen : (status : Option Status) (read : Result (Option Status) NoMemory) → read ≡ Ok status → IfOk read (λ s. s ≡ boot_status (state_of (history_of turn.value))) → status ≡ boot_status (state_of after.seen)
  status_seen status read is reads =
      let given : status ≡ boot_status (state_of (history_of turn.value)) = subst (λ (r : Result (Option Status) NoMemory). IfOk r (λ s. s ≡ boot_status (state_of (history_of turn.value)))) is reads in
      let seen : after.seen ≡ history_of turn.value = seen_is ∙ sym (ap history_of enters.value) in
      given ∙ sym (ap (λ (h : DomainHistory). boot_status (state_of h)) seen)
