-- What the turn of an answer leaves of the share of its own number.
use Rattle.std.proofs.Common.{◌≡◌, ℕ, List, None, ap, ◌∙◌}
use Rattle.domain_spec.specs.Types.{Answer}
use Rattle.domain_spec.specs.declared.core_step.CoreStep.TheVariants as step
use Rattle.domain_spec.specs.declared.mark.Mark.{Mark}
use Rattle.domain_spec.specs.declared.standing.Standing.{Standing}
use Rattle.domain_spec.specs.Cell.{Cell, Queue, share_of, standing_of, waits_of}
use Rattle.domain_spec.specs.Fold.{standing}
use Rattle.domain_spec.specs.Turns.{IsTurn, Leads}
use Rattle.core_steps.specs.OfLedger.back_variants as back
use Rattle.core_step_laws.specs.Answered.{AnswersKeep}
use Rattle.core_step_laws.specs.Staying.{AsideStays}
use Rattle.core_step_laws.proofs.Closing.{IsFree, left_done, left_led, left_open}
use Rattle.core_step_laws.proofs.Parts.{Moves, asks_there, call_none, ears_stay, moved, operation_stays, registrations_stay}

back_moves : (c d : Cell) (n : ℕ) (x : Answer) (left : List (Mark ℕ)) → Leads c (step.Back n x) left d → Moves c d left
back_moves c d n x left leads = record { base = leads.base; marks = leads.marks; registrations = leads.registrations; ears = leads.ears }

back_aside : (c d : Cell) (n : ℕ) (x : Answer) (left : List (Mark ℕ)) → IsTurn c (step.Back n x) left → Leads c (step.Back n x) left d → AsideStays (share_of c n) (share_of d n)
back_aside c d n x left turn leads =
    let moves : Moves c d left = back_moves c d n x left leads in
    record {
      waits = ap (λ (q : Queue). waits_of q.passes n) leads.queue;
      registrations = registrations_stay c d (step.Back n x) n left moves tt turn.left;
      ears = ears_stay c d n left moves;
    }

pub answers_keep : AnswersKeep
answers_keep old new n x (back.Done r) h =
    let c : Cell = old.cell in
    let moves : Moves c new.cell h.0 = back_moves c new.cell n x h.0 h.1.leads in
    let free : IsFree (standing_of c) (standing (standing_of c) h.0) = left_done c (step.Back n x) n r h.0 tt h.1.turn.left h.2 in
    record {
      aside = back_aside c new.cell n x h.0 h.1.turn h.1.leads;
      call = call_none new.cell n (ap (λ (s : Standing). s.job) (moved c new.cell h.0 moves) ∙ free.job);
      operation = operation_stays c new.cell n h.0 moves free.operation;
    }
answers_keep old new n x (back.Away y) h =
    let c : Cell = old.cell in
    let moves : Moves c new.cell h.0 = back_moves c new.cell n x h.0 h.1.leads in
    let there : (standing (standing_of c) h.0).job ≡ None → ⊥ = λ none. asks_there new.cell n y h.2.1 (ap (λ (s : Standing). s.job) (moved c new.cell h.0 moves) ∙ none) in
    record {
      aside = back_aside c new.cell n x h.0 h.1.turn h.1.leads;
      call = h.2.1;
      operation = operation_stays c new.cell n h.0 moves (left_open c (step.Back n x) h.0 tt h.1.turn.left there);
    }
answers_keep old new n x (back.Phased st) h =
    let c : Cell = old.cell in
    let moves : Moves c new.cell h.0 = back_moves c new.cell n x h.0 h.1.leads in
    record {
      aside = back_aside c new.cell n x h.0 h.1.turn h.1.leads;
      call = call_none new.cell n (ap (λ (s : Standing). s.job) (moved c new.cell h.0 moves) ∙ left_led c (step.Back n x) n h.2.0 h.0 h.1.turn.left h.2.1);
      operation = (h.2.0, h.2.2, h.2.3);
    }
