-- What pends for registrations is what they are owed, after what clients take.
use Rattle.std.proofs.Common.{◌≡◌, inl, inr, ℕ, List, ◌++◌, append-nil, OnErr, OnOk, Result, Ok, Err, Option, sym, ap, ◌∙◌, subst}
use Rattle.domain_spec.specs.declared.core_step.CoreStep.TheVariants as step
use Rattle.domain_spec.specs.declared.mark.Mark.{Mark}
use Rattle.domain_spec.specs.declared.standing.Base.{Base}
use Rattle.domain_spec.specs.Cell.{LentEars, standing_of}
use Rattle.domain_spec.specs.Fold.{at_base, standing}
use Rattle.core_owed.specs.Owing.{IsOwing}
use Rattle.core_owed.proofs.Finding.{theirs}
use Rattle.core_owed.proofs.Turning.{turns_keep_owed}
use Rattle.core_step_laws.specs.Made.{made_boot}
use Rattle.core_steps.specs.ClientLaws.{IsDropping, IsTaking}
use Rattle.core_steps.specs.Turning.{Turning}
use Rattle.domain_core.specs.Celled.{IsCell}
use Rattle.domain_core.specs.Held.{boot_heard}
use Rattle.domain_core.specs.Linked.{Linked, kept_link}
use Rattle.domain_core.specs.Shares.{RegisteredSharesTake}
use Rattle.domain_core.proofs.Handing.{cell_still, kept_by}
use Rattle.domain_core.proofs.Linking.{same_keeps}

pub registered_take : RegisteredSharesTake
registered_take c n client taken e = let there = theirs n client taken c.registrations e in (there.one, (there.number, there.its, there.place, there.at))

-- the history and the ears stay

pub record IsQuietly (old new : Turning) : Type 0 where
  pub base : new.cell.base ≡ old.cell.base
  pub marks : new.cell.marks ≡ old.cell.marks
  pub ears : new.cell.ears ≡ old.cell.ears
  pub owed : IsOwing old.cell → IsOwing new.cell

same_quietly : (old new : Turning) → new ≡ old → IsQuietly old new
same_quietly old new is = record {
  base = ap (λ (t : Turning). t.cell.base) is;
  marks = ap (λ (t : Turning). t.cell.marks) is;
  ears = ap (λ (t : Turning). t.cell.ears) is;
  owed = λ h. subst (λ (t : Turning). IsOwing t.cell) (sym is) h;
}

then_quietly : (old mid new : Turning) → IsQuietly old mid → IsQuietly mid new → IsQuietly old new
then_quietly old mid new a b = record { base = b.base ∙ a.base; marks = b.marks ∙ a.marks; ears = b.ears ∙ a.ears; owed = λ h. b.owed (a.owed h) }

pub taken_quietly : (old new : Turning) (n client : ℕ) → IsTaking n client old new → IsQuietly old new
taken_quietly old new n client h = record {
  base = h.1.leads.base;
  marks = h.1.leads.marks ∙ ap (λ (ms : List (Mark ℕ)). old.cell.marks ++ ms) h.2 ∙ append-nil old.cell.marks;
  ears = h.1.leads.ears;
  owed = λ owed. turns_keep_owed old.cell new.cell (step.Take n client) h.0 h.1.turn h.1.leads h.2 owed;
}

pub dropped_quietly : (old new : Turning) (n client : ℕ) → IsDropping n client old new → IsQuietly old new
dropped_quietly old new n client (inl h) = taken_quietly old new n client h
dropped_quietly old new n client (inr h) = then_quietly old h.0 new (taken_quietly old h.0 n client h.1) (taken_quietly h.0 new n client h.2)

pub quietly_kept : (old new : Turning) (out made : Option ℕ) (link now : Option Linked) → IsQuietly old new → IsCell old out link → made ≡ made_boot (standing_of new.cell) → now ≡ kept_link made link → IsCell new out now
quietly_kept old new out made link now q h e f =
    let same : standing_of new.cell ≡ standing_of old.cell =
    ap (λ (b : Base). standing (at_base b) new.cell.marks) q.base ∙ ap (λ (ms : List (Mark ℕ)). standing (at_base old.cell.base) ms) q.marks in
    cell_still old new out out link now q.base q.marks (q.owed h.owed) h
    (kept_by new out made link now (same_keeps old new out link same (ap (λ (x : Option LentEars). boot_heard x) q.ears) h.linked) e f)

pub taken_kept : {T F : Type 0} (old new : Turning) (n client : ℕ) (r : Result T F) (out made : Option ℕ) (link now : Option Linked) → IsCell old out link → OnOk r (IsTaking n client old new) → OnErr r (new ≡ old)
    → made ≡ made_boot (standing_of new.cell) → now ≡ kept_link made link → IsCell new out now
taken_kept old new n client (Ok v) out made link now h ok err e f = quietly_kept old new out made link now (taken_quietly old new n client ok) h e f
taken_kept old new n client (Err x) out made link now h ok err e f = quietly_kept old new out made link now (same_quietly old new err) h e f

pub dropped_kept : (old new : Turning) (n client : ℕ) (out made : Option ℕ) (link now : Option Linked) → IsCell old out link → IsDropping n client old new → made ≡ made_boot (standing_of new.cell) → now ≡ kept_link made link → IsCell new out now
dropped_kept old new n client out made link now h drops e f = quietly_kept old new out made link now (dropped_quietly old new n client drops) h e f
