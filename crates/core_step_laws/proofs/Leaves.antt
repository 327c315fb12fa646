-- What is left of the share of a number whose call gives up, or for which a chapter ends.
use Rattle.std.proofs.Common.{◌≡◌, ◌⊎◌, inl, inr, ℕ, List, [], ◌∷◌, Option, None, refl, ap, ◌∙◌}
use Rattle.domain_spec.specs.Types.{Call, RefusalCode, Who}
use Rattle.domain_spec.specs.declared.core_step.CoreStep.{CoreStep}
use Rattle.domain_spec.specs.declared.core_step.CoreStep.TheVariants as step
use Rattle.domain_spec.specs.declared.mark.Mark.{Mark}
use Rattle.domain_spec.specs.declared.mark.Mark.TheVariants as mark
use Rattle.domain_spec.specs.declared.standing.Base.{Base}
use Rattle.domain_spec.specs.declared.standing.Registration.{Registration}
use Rattle.domain_spec.specs.declared.standing.Standing.{Standing}
use Rattle.domain_spec.specs.Cell.{Cell, LentEars, Queue, Share, ears_of, operation_of, share_of, standing_of, waits_of}
use Rattle.domain_spec.specs.Chapter.{next_base}
use Rattle.domain_spec.specs.Fold.{at_base, standing}
use Rattle.domain_spec.specs.Kept.{left_queue}
use Rattle.domain_spec.specs.Turns.{IsTurn, Leads}
use Rattle.core_steps.specs.Refusing.{HasRefused}
use Rattle.core_step_laws.proofs.Listed.{taken_of}
use Rattle.core_step_laws.specs.Leaving.{ChaptersKeep, LeaversKeep, RefusalsKeep, WaitsNoMore}
use Rattle.core_step_laws.proofs.Answering.{LetsNoneIn, StaysInForce, call_stays}
use Rattle.core_step_laws.proofs.Listing.{left_listed}
use Rattle.core_step_laws.proofs.Parts.{Moves, call_none, ears_stay, five_parts, operation_stays, registrations_stay}
use Rattle.core_step_laws.proofs.Waiting.{left_waits, queue_left}

-- a call that gives up

refused_stays : (s : Standing) (n : ℕ) (who : Who) (e : Call) (why : RefusalCode) (left : List (Mark ℕ)) → HasRefused n who e why left → StaysInForce s (standing s left)
refused_stays s n who e why [] h = absurd h
refused_stays s n who e why (mark.Refused number w d code held ∷ []) h = record { state = refl; job = refl; operation = refl }
refused_stays s n who e why (mark.Refused number w d code held ∷ k ∷ left) h = absurd h
refused_stays s n who e why (k ∷ left) h = absurd h

refused_first : (n : ℕ) (who : Who) (e : Call) (why : RefusalCode) (left : List (Mark ℕ)) → HasRefused n who e why left → LetsNoneIn left
refused_first n who e why [] h = tt
refused_first n who e why (mark.Admit number w wanted d boot ∷ left) h = absurd h
refused_first n who e why (k ∷ left) h = tt

given_up : (c d : Cell) (n : ℕ) (who : Who) (e : Call) (why : RefusalCode) (left : List (Mark ℕ)) → IsTurn c (step.GiveUp n who e) left → Leads c (step.GiveUp n who e) left d → HasRefused n who e why left
    → WaitsNoMore (share_of c n) (share_of d n)
given_up c d n who e why left turn leads refused =
    let t : CoreStep ℕ = step.GiveUp n who e in
    let moves : Moves c d left = record { base = leads.base; marks = leads.marks; registrations = leads.registrations; ears = leads.ears } in
    let same : StaysInForce (standing_of c) (standing (standing_of c) left) = refused_stays (standing_of c) n who e why left refused in
    let s : Share = share_of c n in
    let v : Share = share_of d n in
    five_parts v.waits None v.call s.call v.operation s.operation v.registrations s.registrations v.ears s.ears
    (queue_left d.queue c.queue n who leads.queue)
    (call_stays c d t n left moves tt (refused_first n who e why left refused) leads.answers same)
    (operation_stays c d n left moves same.operation)
    (registrations_stay c d t n left moves tt turn.left)
    (ears_stay c d n left moves)

pub refusals_keep : RefusalsKeep
refusals_keep old new n who d why h = given_up old.cell new.cell n who d why h.0 h.1.turn h.1.leads h.2

pub leavers_keep : LeaversKeep
leavers_keep c n who =
    let s : Share = share_of c n in
    five_parts (waits_of (left_queue c.queue n who).passes n) None s.call s.call s.operation s.operation s.registrations s.registrations s.ears s.ears
    (left_waits c.queue n who) refl refl refl refl

-- a chapter's end

next_standing : (c d : Cell) → d.base ≡ next_base (standing_of c) c.registrations → d.marks ≡ [] → standing_of d ≡ at_base (next_base (standing_of c) c.registrations)
next_standing c d base marks =
    ap (λ (b : Base). standing (at_base b) d.marks) base ∙ ap (λ (ms : List (Mark ℕ)). standing (at_base (next_base (standing_of c) c.registrations)) ms) marks

rotated_waits : (c d : Cell) (n : ℕ) (who : Who) → ((d.queue ≡ c.queue) ⊎ (d.queue ≡ left_queue c.queue n who)) → ((share_of d n).waits ≡ (share_of c n).waits) ⊎ ((share_of d n).waits ≡ None)
rotated_waits c d n who (inl h) = inl (ap (λ (q : Queue). waits_of q.passes n) h)
rotated_waits c d n who (inr h) = inr (queue_left d.queue c.queue n who h)

pub chapters_keep : ChaptersKeep
chapters_keep c d n who left turn leads =
    let is : standing_of d ≡ at_base (next_base (standing_of c) c.registrations) = next_standing c d leads.base leads.marks in
    record {
      rest = record {
        operation = ap (λ (s : Standing). operation_of s.operation n) is;
        registrations = ap (λ (rs : List Registration). taken_of n rs) leads.registrations ∙ left_listed c (step.Rotate n who) n left c.registrations tt turn.left;
        ears = ap (λ (ears : Option LentEars). ears_of ears n) leads.ears;
      };
      none_before = call_none c n turn.can.1;
      none_after = call_none d n (ap (λ (s : Standing). s.job) is);
      waits = rotated_waits c d n who leads.queue;
    }
