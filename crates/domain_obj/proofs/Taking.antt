-- What a pass knows after one turn.
use Rattle.std.proofs.Common.{◌≡◌, ℕ, List, [], ◌∷◌, length, sym, ap, ◌∙◌, subst}
use Rattle.history_spec.specs.Chapter.{added, tagged}
use Rattle.history_spec.specs.Pass.{held_if, own}
use Rattle.domain_spec.specs.declared.mark.Mark.{Mark}
use Rattle.domain_core.specs.Celled.{Celled, cell_in, cell_share, standing_in}
use Rattle.domain_core.specs.Keeping.{new_base_keeps, no_mark_lowers}
use Rattle.domain_core.specs.Meaning.{history_of, meaning}
use Rattle.domain_core.specs.Core.{is_occupied}
use Rattle.domain_obj.specs.InTurn.{DomainPass, DomainTurn}
use Rattle.domain_obj.specs.Running.{DomainHistory, Goes, IsLegalHistory, Reads, standing_after}
use Rattle.domain_obj.specs.declared.place.Seen.{Seen}
use Rattle.turn_cell.specs.Passes.{Enters, left_by}
use Rattle.turn_cell.specs.Turning.{Changes, HasTurned}
use Rattle.turn_cell.proofs.Turning.{has_turned, nothing_changes, turn_tells}
use Rattle.domain_core.specs.OfShares.{whose}

legal_if : (ms : List (Mark ℕ)) (left held : DomainHistory) → IsLegalHistory left → IsLegalHistory held → IsLegalHistory (held_if ms left held)
legal_if [] left held h g = g
legal_if (m ∷ ms) left held h g = h

-- one turn, as its calls show it
pub one_turn : (more : List (Mark ℕ)) (before after : DomainPass) (turn now : DomainTurn) → Enters meaning before turn → now ≡ record turn { value = now.value } → Changes meaning turn.pass.number more turn.value now.value
    → IsLegalHistory (history_of now.value) → after ≡ left_by meaning now → Goes 1 (tagged (history_of now.value).chapter more) before after
one_turn more before after turn now enters same change legal left =
    let tells = turn_tells meaning no_mark_lowers new_base_keeps more before after turn now enters same change left in
    let turned = tells.0 in
    let seen_legal : IsLegalHistory after.seen = subst (λ (h : DomainHistory). IsLegalHistory h) (sym turned.seen) legal in
    record {
      went = tells.1;
      legal = λ some. seen_legal;
      legal_seen = λ l. seen_legal;
      legal_held = λ l. subst (λ (h : DomainHistory). IsLegalHistory h) (sym turned.held) (legal_if (own whose before.number (added (history_of turn.entry) (history_of now.value))) (history_of now.value) before.held legal l);
    }

-- a turn that changes nothing
pub reads : (before after : DomainPass) (turn now : DomainTurn) (seen : Seen) → Enters meaning before turn → now ≡ turn → IsLegalHistory (history_of turn.value) → after ≡ left_by meaning now
    → seen.front.chapter ≡ turn.value.core.turning.chapter → seen.front.marks ≡ length (cell_in turn.value).marks → seen.occupied ≡ is_occupied (standing_in turn.value) → Reads before after seen
reads before after turn now seen enters same legal left chapter marks occupied =
    let value : now.value ≡ turn.value = ap (λ (t : DomainTurn). t.value) same in
    let kept : now ≡ record turn { value = now.value } = same ∙ ap (λ (v : Celled). record turn { value = v }) (sym value) in
    let legal_now : IsLegalHistory (history_of now.value) = subst (λ (v : Celled). IsLegalHistory (history_of v)) (sym value) legal in
    let turned : HasTurned meaning before after turn.entry now.value = has_turned meaning before after turn now enters kept left in
    let saw : after.seen ≡ history_of turn.value = turned.seen ∙ ap history_of value in
    record {
      goes = one_turn [] before after turn now enters kept (nothing_changes meaning turn.pass.number turn.value now.value value) legal_now left;
      share = turned.share ∙ ap (λ (v : Celled). cell_share v before.number) (value ∙ enters.value) ∙ turned.share_found;
      at = record {
        chapter = chapter ∙ sym (ap (λ (h : DomainHistory). h.chapter) saw);
        marks = marks ∙ sym (ap (λ (h : DomainHistory). length h.marks) saw);
        occupied = occupied ∙ sym (ap (λ (h : DomainHistory). is_occupied (standing_after h)) saw);
      };
    }

pub seen_history : (before after : DomainPass) (turn now : DomainTurn) → Enters meaning before turn → now ≡ turn → after ≡ left_by meaning now → after.seen ≡ history_of turn.value
seen_history before after turn now enters same left =
    let value : now.value ≡ turn.value = ap (λ (t : DomainTurn). t.value) same in
    let kept : now ≡ record turn { value = now.value } = same ∙ ap (λ (v : Celled). record turn { value = v }) (sym value) in
    (has_turned meaning before after turn now enters kept left).seen ∙ ap history_of value
