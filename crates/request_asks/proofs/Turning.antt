-- What a turn in which an image is read tells the pass that had it.
use Rattle.std.proofs.Common.{◌≡◌, ◌∙◌, ◌++◌, ℕ, List, [], ◌∷◌, Result, Ok, Err, ap, append-nil, inl, inr, refl, subst, sym}
use Rattle.history_spec.specs.Chapter.{tagged}
use Rattle.history_spec.proofs.Marks.{added-more}
use Rattle.turn_cell.specs.Passes.{Enters, Turned, left_by}
use Rattle.turn_cell.specs.Turning.{AreBy, Changes, Went}
use Rattle.turn_cell.proofs.Turning.{changes_by, turn_tells}
use Rattle.files_disk.specs.Telling.{Told}
use Rattle.store_spec.specs.declared.image.Image.{Image}
use Rattle.store_spec.specs.declared.image.ImageFault.{ImageFault}
use Rattle.virt_types.specs.Below.types_base.declared.caller.Front.{Front}
use Rattle.virt_types.specs.Below.types_base.declared.memory.OrNoMemory.{OrNoMemory}
use Rattle.virt_types.specs.Below.types_base.declared.memory.OrNoMemory.TheVariants as or
use Rattle.virt_types.specs.Below.types_base.declared.refusal.Refusal.{Refusal}
use Rattle.def_keeper.specs.declared.mark.StoreBase.{StoreBase}
use Rattle.def_keeper.specs.declared.mark.StoreAction.TheVariants as action
use Rattle.def_keeper.specs.declared.mark.StoreMark.{StoreMark}
use Rattle.def_keeper.specs.Chapters.{by, with_marks}
use Rattle.def_keeper.specs.Imaging.{HasRead as HasMarked}
use Rattle.def_keeper.specs.Keeper.{Keeping}
use Rattle.def_keeper.specs.Marks.{StoreHistory}
use Rattle.def_keeper.specs.Turns.{meaning, new_base_keeps, no_mark_lowers}
use Rattle.outcome_spec.specs.Histories.{front_of}
use Rattle.outcome_spec.specs.Below.store_asks.Restoring.{IsToldOf, Reads}
use Rattle.outcome_spec.specs.Below.store_asks.Turning.{EndsIn, ReadTells, StorePass}
use Rattle.outcome_spec.specs.Below.store_asks.declared.restoring.SavedGuest.{SavedGuest}
use Rattle.request_asks.specs.Turns.{HasRead}

abbrev pub StoreTurn : Type 0 → Type 0
StoreTurn F = Turned (Keeping F) StoreBase StoreMark (Unit {0})

-- the marks of a read
abbrev marks_of : ℕ → List ℕ → Result Image (OrNoMemory ImageFault) → List StoreMark
marks_of number name (Ok i) = by number (action.ImageRead name (Ok i)) ∷ []
marks_of number name (Err (or.Fault f)) = by number (action.ImageRead name (Err f)) ∷ []
marks_of number name (Err or.NoMemory) = []

marked : (number : ℕ) (name : List ℕ) (old new : StoreHistory) (r : Result Image (OrNoMemory ImageFault)) → HasMarked number name old new r → new ≡ with_marks (marks_of number name r) old
marked number name old new (Ok i) is = is
marked number name old new (Err (or.Fault f)) is = is
marked number name old new (Err or.NoMemory) is = is ∙ ap (λ (ms : List StoreMark). record old { marks = ms }) (sym (append-nil old.marks))

told_so : (number : ℕ) (name : List ℕ) (result : Result SavedGuest (OrNoMemory Refusal)) (r : Result Image (OrNoMemory ImageFault)) → IsToldOf r result → ReadTells number name result (marks_of number name r)
told_so number name result (Ok i) tells = inl (Ok i, refl, tells)
told_so number name result (Err (or.Fault f)) tells = inl (Err f, refl, tells)
told_so number name result (Err or.NoMemory) tells = inr (refl, tells)

module _ {F : Type 0} (told : F → Told) (faults : F → ℕ) where
  are_by : (number : ℕ) (name : List ℕ) (r : Result Image (OrNoMemory ImageFault)) → AreBy (meaning told) number (marks_of number name r)
  are_by number name (Ok i) = (refl, tt)
  are_by number name (Err (or.Fault f)) = (refl, tt)
  are_by number name (Err or.NoMemory) = tt

  -- marks more in this chapter
  adds : (number : ℕ) (more : List StoreMark) (old new : Keeping F) → AreBy (meaning told) number more → new.history ≡ with_marks more old.history → Changes (meaning told) number more old new
  adds number more old new are left =
      let chapter : old.history.chapter ≡ new.history.chapter = sym (ap (λ (h : StoreHistory). h.chapter) left) in
      let marks : old.history.marks ++ more ≡ new.history.marks = sym (ap (λ (h : StoreHistory). h.marks) left) in
      changes_by (meaning told) number more old new
      (inl (record { chapter = chapter; base = sym (ap (λ (h : StoreHistory). h.base) left); marks = (more, marks) }))
      (added-more old.history new.history more chapter marks) are (λ j other. refl)

  -- what the turn may leave
  read_changes : (number : ℕ) (name : List ℕ) (old new : Keeping F) (result : Result SavedGuest (OrNoMemory Refusal)) (reads : Reads told faults number name old new result) → Changes (meaning told) number (marks_of number name reads.0) old new
  read_changes number name old new result (r, read, tells) = adds number (marks_of number name r) old new (are_by number name r) (marked number name old.history new.history r read.marks)

  pub may_leave : (name : List ℕ) (result : Result SavedGuest (OrNoMemory Refusal)) (before : StorePass) (turn now last : StoreTurn F) → Enters (meaning told) before turn → now ≡ record turn { value = now.value } → last ≡ now
      → (reads : Reads told faults turn.pass.number name turn.value now.value result) → Changes (meaning told) last.pass.number (marks_of turn.pass.number name reads.0) last.entry last.value
  may_leave name result before turn now last enters same stays reads =
      let all : last ≡ record turn { value = now.value } = stays ∙ same in
      let number : turn.pass.number ≡ last.pass.number = sym (ap (λ (t : StoreTurn F). t.pass.number) all) in
      let entry : turn.value ≡ last.entry = enters.value ∙ sym (ap (λ (t : StoreTurn F). t.entry) all) in
      let value : now.value ≡ last.value = sym (ap (λ (t : StoreTurn F). t.value) stays) in
      subst (λ (x : ℕ × Keeping F × Keeping F). Changes (meaning told) x.0 (marks_of turn.pass.number name reads.0) x.1 x.2) (λ i. (number i, entry i, value i))
      (read_changes turn.pass.number name turn.value now.value result reads)

  -- the pass after the turn
  pub has_read : (name : List ℕ) (result : Result SavedGuest (OrNoMemory Refusal)) (front : Front) (before : StorePass) (turn now last : StoreTurn F) (after : StorePass) → Enters (meaning told) before turn → now ≡ record turn { value = now.value } → last ≡ now
      → Reads told faults turn.pass.number name turn.value now.value result → front ≡ front_of now.value.history → after ≡ left_by (meaning told) last → HasRead told faults name result front before after
  has_read name result front before turn now last after enters same stays (r, read, tells) place is =
      let more : List StoreMark = marks_of turn.pass.number name r in
      let number : turn.pass.number ≡ before.number = ap (λ (p : StorePass). p.number) enters.pass in
      let left : now.value.history ≡ with_marks more turn.value.history = marked turn.pass.number name turn.value.history now.value.history r read.marks in
      let changes : Changes (meaning told) turn.pass.number more turn.value now.value = adds turn.pass.number more turn.value now.value (are_by turn.pass.number name r) left in
      let turned = turn_tells (meaning told) (no_mark_lowers told) (new_base_keeps told) more before after turn now enters same changes (is ∙ ap (left_by (meaning told)) stays) in
      record {
        read = record {
          found = turn.value;
          left = now.value;
          more = more;
          read = subst (λ (n : ℕ). Reads told faults n name turn.value now.value result) number (r, read, tells);
          seen = turned.0.seen;
          tells = subst (λ (n : ℕ). ReadTells n name result more) number (told_so turn.pass.number name result r tells);
          went = subst (λ (h : StoreHistory). Went (meaning told) 1 (tagged h.chapter more) before after) (sym turned.0.seen) turned.1;
        };
        ends = subst (λ (h : StoreHistory). EndsIn h more) (sym turned.0.seen) (turn.value.history.marks, ap (λ (h : StoreHistory). h.marks) left);
        place = place ∙ ap front_of (sym turned.0.seen);
      }
