-- A turn in which deeds were added, and what the pass knows after it.
use Rattle.std.proofs.Common.{◌≡◌, ◌++◌, ℕ, List, [], ◌∷◌, inl, ⊎_elim, refl, sym, ap, ◌∙◌, subst, arith}
use Rattle.history_spec.specs.declared.history.History.{History}
use Rattle.history_spec.specs.Begins.{IsPrefix, LaterChapter, SameChapter}
use Rattle.history_spec.specs.Chapter.{tagged}
use Rattle.history_spec.proofs.Marks.{added-more}
use Rattle.turn_cell.specs.Known.{IsBegun}
use Rattle.turn_cell.specs.Passes.{Enters, Turned, left_by}
use Rattle.turn_cell.specs.Turning.{AreBy, Changes, Went}
use Rattle.turn_cell.proofs.Turning.{changes_by, turn_tells}
use Rattle.sink_turns.specs.declared.mark.Deed.{Deed}
use Rattle.sink_turns.specs.declared.mark.Mark.{Mark}
use Rattle.sink_turns.specs.declared.mark.Start.{Start}
use Rattle.sink_turns.specs.Keeping.{OutPass, meaning, new_base_keeps, no_mark_lowers}
use Rattle.sink_turns.specs.Marks.{marks_by}
use Rattle.sink_turns.specs.Saying.{Adds, Spoken}
use Rattle.sink_turns.specs.Text.{Text, text}
use Rattle.sink_turns.specs.Told.{HasDone}

abbrev pub OutTurn : Type 0
OutTurn = Turned Spoken Start Mark (Unit {0})

are_by : (by : ℕ) (deeds : List Deed) → AreBy meaning by (marks_by by deeds)
are_by by [] = tt
are_by by (d ∷ ds) = (refl, are_by by ds)

changes : (by : ℕ) (deeds : List Deed) (old new : Spoken) → Adds by deeds old new → Changes meaning by (marks_by by deeds) old new
changes by deeds old new a =
    changes_by meaning by (marks_by by deeds) old new (inl (record { chapter = refl; base = sym a.start; marks = (marks_by by deeds, sym a.marks) }))
    (added-more (meaning.history old) (meaning.history new) (marks_by by deeds) refl (sym a.marks)) (are_by by deeds) (λ j other. refl)

-- the turn may be left so
pub may_leave : (deeds : List Deed) (before : OutPass) (turn now : OutTurn) → Enters meaning before turn → now ≡ record turn { value = now.value } → Adds turn.pass.number deeds turn.value now.value
    → Changes meaning now.pass.number (marks_by turn.pass.number deeds) now.entry now.value
may_leave deeds before turn now enters same adds =
    let number : turn.pass.number ≡ now.pass.number = sym (ap (λ (t : OutTurn). t.pass.number) same) in
    let entry : turn.value ≡ now.entry = enters.value ∙ sym (ap (λ (t : OutTurn). t.entry) same) in
    subst (λ (z : ℕ × Spoken). Changes meaning z.0 (marks_by turn.pass.number deeds) z.1 now.value) (λ i. (number i, entry i)) (changes turn.pass.number deeds turn.value now.value adds)

-- what others did since the pass last looked
seen_since : (seen : History Start Mark) (o : Spoken) → IsBegun meaning seen (meaning.history o) → SameChapter seen (meaning.history o)
seen_since seen o h = ⊎_elim (λ (same : SameChapter seen (meaning.history o)). same) (λ (later : LaterChapter meaning.rising seen (meaning.history o)). absurd (omega (arith, later.chapter))) h

pub prefix_of : (seen : History Start Mark) (o : Spoken) → IsBegun meaning seen (meaning.history o) → IsPrefix seen.marks o.marks
prefix_of seen o h = (seen_since seen o h).marks

pub base_of : (seen : History Start Mark) (o : Spoken) → IsBegun meaning seen (meaning.history o) → seen.base ≡ o.start
base_of seen o h = (seen_since seen o h).base

pub has_done : (So : Text → List Deed → Type 0) (before : OutPass) (turn now : OutTurn) (after : OutPass) → Enters meaning before turn → now ≡ record turn { value = now.value }
    → (deeds : List Deed) × Adds turn.pass.number deeds turn.value now.value × So (text turn.value.marks) deeds → after ≡ left_by meaning now → HasDone So before after
has_done So before turn now after enters same did left =
    let deeds = did.0 in
    let adds = did.1 in
    let number : turn.pass.number ≡ before.number = ap (λ (p : OutPass). p.number) enters.pass in
    let begun : IsPrefix before.seen.marks turn.entry.marks = prefix_of before.seen turn.entry enters.seen in
    let entry : turn.value.marks ≡ before.seen.marks ++ begun.0 = ap (λ (o : Spoken). o.marks) enters.value ∙ sym begun.1 in
    let went : Went meaning 1 (tagged 0 (marks_by turn.pass.number deeds)) before after = (turn_tells meaning no_mark_lowers new_base_keeps (marks_by turn.pass.number deeds) before after turn now enters same (changes turn.pass.number deeds turn.value now.value adds) left).1 in
    record {
      fresh = enters.fresh;
      others = begun.0;
      deeds = deeds;
      went = subst (λ (n : ℕ). Went meaning 1 (tagged 0 (marks_by n deeds)) before after) number went;
      seen = ap (λ (p : OutPass). p.seen.marks) left ∙ (adds.marks ∙ (λ i. entry i ++ marks_by (number i) deeds));
      so = subst (λ (l : List Mark). So (text l) deeds) entry did.2;
    }
