-- A call, and then the hearing.
use Rattle.std.proofs.Common.{◌≡◌, inl, inr, ℕ, List, [], true, false, IfSome, Option, None, Some, refl, sym, ap, ◌∙◌, subst}
use Rattle.virt_types.specs.declared.ask.GuestEvent.{GuestEvent}
use Rattle.virt_types.specs.Below.types_base.declared.caller.Front.{Front}
use Rattle.domain_spec.specs.Types.{Answer, Ask, Call, Who}
use Rattle.domain_spec.specs.declared.mark.Mark.{Mark}
use Rattle.domain_core.specs.Celled.{CellShare}
use Rattle.domain_obj.specs.InTurn.{DomainPass}
use Rattle.domain_obj.specs.Running.{Goes, IsAtRest, IsReady, IsSeen, IsSpent}
use Rattle.domain_obj.specs.declared.place.Seen.{Seen}
use Rattle.domain_obj.specs.Hearing.{HasHushed}
use Rattle.domain_obj.specs.declared.ends.Hushed.{Hushed}
use Rattle.domain_obj.specs.declared.ends.Hushed.TheVariants as hushed
use Rattle.domain_obj.specs.Places.{IsAt, place_or, seen_by}
use Rattle.domain_obj.specs.declared.places.At.{At}
use Rattle.domain_obj.specs.Called.{HasCalled}
use Rattle.domain_obj.specs.declared.ending.Called.{Called}
use Rattle.domain_obj.specs.declared.ending.Called.TheVariants as called
use Rattle.domain_obj.specs.Operated.{HasOperated}
use Rattle.domain_obj.specs.declared.operating.operation.Operated.{Operated}
use Rattle.domain_obj.specs.declared.operating.operation.Operated.TheVariants as operated

-- a pass whose share is what it was, and that went some turns

rest_stays : (before after : DomainPass) → after.share ≡ before.share → IsAtRest before → IsAtRest after
rest_stays before after same rest = record {
  call = ap (λ (s : CellShare). s.kept.call) same ∙ rest.call;
  operation = ap (λ (s : CellShare). s.kept.operation) same ∙ rest.operation;
  waits = ap (λ (s : CellShare). s.kept.waits) same ∙ rest.waits;
  ears = ap (λ (s : CellShare). s.kept.ears) same ∙ rest.ears;
}

ready_stays : (turns : ℕ) (more : List (ℕ × Mark ℕ)) (before after : DomainPass) → Goes turns more before after → after.share ≡ before.share → IsReady before → IsReady after
ready_stays turns more before after goes same (inl spent) = inl (goes.went.spent ∙ spent)
ready_stays turns more before after goes same (inr rest) = inr (rest_stays before after same rest)

spent_ready : (last after : DomainPass) → IsSpent last after → IsReady after
spent_ready last after spent = inl (ap (λ (p : DomainPass). p.spent) spent)

-- after a call

pub ready_then : (who : Who) (d : Call) (before after : DomainPass) (report now : List (Ask × Answer)) (c : Called) → HasCalled who d before after report now c → IsReady before → IsReady after
ready_then who d before after report now (called.Done r place) h ready = ready_stays h.turns _ before after h.goes h.share ready
ready_then who d before after report now (called.TimedOut r place) h ready = ready_stays h.refused.turns _ before after h.refused.goes h.refused.share ready
ready_then who d before after report now (called.WaitersFull r place) h ready = ready_stays h.turns _ before after h.goes h.share ready
ready_then who d before after report now called.NoMemory h ready = ready_stays h.turns [] before after h.goes h.share ready
ready_then who d before after report now called.Spent h ready = spent_ready h.last after h.spent
ready_then who d before after report now called.SpentAway h ready = spent_ready h.last after h.spent

-- the pass is of the same cell

same_cell : (turns : ℕ) (more : List (ℕ × Mark ℕ)) (before after : DomainPass) → Goes turns more before after → after.cell ≡ before.cell
same_cell turns more before after goes = goes.went.same.cell

spent_cell : (turns : ℕ) (more : List (ℕ × Mark ℕ)) (before last after : DomainPass) → Goes turns more before last → IsSpent last after → after.cell ≡ before.cell
spent_cell turns more before last after goes spent = ap (λ (p : DomainPass). p.cell) spent ∙ goes.went.same.cell

pub cell_then : (who : Who) (d : Call) (before after : DomainPass) (report now : List (Ask × Answer)) (c : Called) → HasCalled who d before after report now c → after.cell ≡ before.cell
cell_then who d before after report now (called.Done r place) h = same_cell h.turns _ before after h.goes
cell_then who d before after report now (called.TimedOut r place) h = same_cell h.refused.turns _ before after h.refused.goes
cell_then who d before after report now (called.WaitersFull r place) h = same_cell h.turns _ before after h.goes
cell_then who d before after report now called.NoMemory h = same_cell h.turns [] before after h.goes
cell_then who d before after report now called.Spent h = spent_cell h.turns [] before h.last after h.goes h.spent
cell_then who d before after report now called.SpentAway h = spent_cell h.turns _ before h.last after h.goes h.spent

-- the same of a call that begins an operation or takes one up

pub operated_ready : (who : Who) (d : Call) (before after : DomainPass) (report now : List (Ask × Answer)) (c : Operated) → HasOperated who d before after report now c → IsReady before → IsReady after
operated_ready who d before after report now (operated.Ended r place) h ready = ready_stays h.turns _ before after h.goes h.share ready
operated_ready who d before after report now (operated.Rests r place) h ready = ready_stays h.turns _ before after h.goes h.share ready
operated_ready who d before after report now (operated.Refused r place) h ready = ready_stays h.turns _ before after h.goes h.share ready
operated_ready who d before after report now (operated.TimedOut r place) h ready = ready_stays h.refused.turns _ before after h.refused.goes h.refused.share ready
operated_ready who d before after report now (operated.WaitersFull r place) h ready = ready_stays h.turns _ before after h.goes h.share ready
operated_ready who d before after report now operated.NoMemory h ready = ready_stays h.turns [] before after h.goes h.share ready
operated_ready who d before after report now operated.Spent h ready = spent_ready h.last after h.spent
operated_ready who d before after report now operated.SpentAmid h ready = spent_ready h.last after h.spent

pub operated_cell : (who : Who) (d : Call) (before after : DomainPass) (report now : List (Ask × Answer)) (c : Operated) → HasOperated who d before after report now c → after.cell ≡ before.cell
operated_cell who d before after report now (operated.Ended r place) h = same_cell h.turns _ before after h.goes
operated_cell who d before after report now (operated.Rests r place) h = same_cell h.turns _ before after h.goes
operated_cell who d before after report now (operated.Refused r place) h = same_cell h.turns _ before after h.goes
operated_cell who d before after report now (operated.TimedOut r place) h = same_cell h.refused.turns _ before after h.refused.goes
operated_cell who d before after report now (operated.WaitersFull r place) h = same_cell h.turns _ before after h.goes
operated_cell who d before after report now operated.NoMemory h = same_cell h.turns [] before after h.goes
operated_cell who d before after report now operated.Spent h = spent_cell h.turns [] before h.last after h.goes h.spent
operated_cell who d before after report now operated.SpentAmid h = spent_cell h.turns _ before h.last after h.goes h.spent

-- what it has seen

true_false : {A : Type 0} → true ≡ false → A
true_false e = cc

same_seen : (x s : Seen) → Some x ≡ Some s → x ≡ s
same_seen x s e = cc

seen_at : (after : DomainPass) (seen : Seen) (at : At) → IsSeen seen after → (at.seen ≡ seen.front) × (at.occupied ≡ seen.occupied) → IsSeen (record { front = at.seen; occupied = at.occupied }) after
seen_at after seen at h (front, occupied) = record {
  chapter = ap (λ (f : Front). f.chapter) front ∙ h.chapter;
  marks = ap (λ (f : Front). f.marks) front ∙ h.marks;
  occupied = occupied ∙ h.occupied;
}

seen_is : (o : Option Seen) (s : Seen) (at : At) → IfSome o (λ x. (at.seen ≡ x.front) × (at.occupied ≡ x.occupied)) → o ≡ Some s → (at.seen ≡ s.front) × (at.occupied ≡ s.occupied)
seen_is None s at h e = cc
seen_is (Some x) s at h e = subst (λ (y : Seen). (at.seen ≡ y.front) × (at.occupied ≡ y.occupied)) (same_seen x s e) h

module _ {E : Type 0} (ends faults : E → ℕ) (unheard : E → Option (List GuestEvent)) where
  pub seen_then : (before after : DomainPass) (q : Hushed) (last : Option Front) (at : At) → HasHushed ends faults unheard before after q → at.place ≡ place_or last at.seen
      → ((s : Seen) → seen_by q ≡ Some s → (at.seen ≡ s.front) × (at.occupied ≡ s.occupied)) → IsAt last after at
  seen_then before after (hushed.Quiet seen) last at h place is = record { place = place; seen = λ e. seen_at after seen at h.leaves.at (is seen refl) }
  seen_then before after (hushed.NoMemory seen) last at h place is = record { place = place; seen = λ e. seen_at after seen at h.leaves.at (is seen refl) }
  seen_then before after (hushed.Unheard seen) last at h place is = record { place = place; seen = λ e. seen_at after seen at h.leaves.at (is seen refl) }
  seen_then before after (hushed.Often seen) last at h place is = record { place = place; seen = λ e. seen_at after seen at h.3.at (is seen refl) }
  seen_then before after hushed.Spent last at h place is = record { place = place; seen = λ e. true_false (sym (ap (λ (p : DomainPass). p.spent) h.5.spent) ∙ e) }

  pub at_then : (before after : DomainPass) (q : Hushed) (last told : Option Front) (o : Option Seen) (at : At) → HasHushed ends faults unheard before after q → told ≡ last → o ≡ seen_by q → at.place ≡ place_or told at.seen
      → IfSome o (λ x. (at.seen ≡ x.front) × (at.occupied ≡ x.occupied)) → IsAt last after at
  at_then before after q last told o at h same is place seen =
      seen_then before after q last at h (place ∙ ap (λ (x : Option Front). place_or x at.seen) same) (λ s e. seen_is o s at seen (is ∙ e))
