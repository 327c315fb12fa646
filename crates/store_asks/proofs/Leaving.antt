-- What a turn of the keeper tells the pass that had it.
use Rattle.std.proofs.Common.{◌≡◌, ◌∙◌, ◌++◌, ◌&&◌, ℕ, Bool, true, false, List, [], ◌∷◌, Option, None, Some, Result, Ok, Err, IfOk, ap, append-nil, append_assoc, inl, inr, refl, subst, sym}
use Rattle.std.specs.Prelude.{IfSome, is_none, nat_le, length}
use Rattle.history_spec.specs.Chapter.{tagged}
use Rattle.history_spec.proofs.Marks.{added-more, added-next}
use Rattle.turn_cell.specs.Passes.{Enters, Turned, left_by}
use Rattle.turn_cell.specs.Turning.{AreBy, Changes, Went}
use Rattle.turn_cell.proofs.Turning.{changes_by, nothing_changes, turn_tells}
use Rattle.files_disk.specs.Telling.{Told}
use Rattle.store_spec.specs.declared.change.Change.{Change}
use Rattle.store_spec.specs.Changes.{Definitions}
use Rattle.virt_types.specs.declared.answer.Answer.{Answer}
use Rattle.virt_types.specs.declared.answer.Answer.TheVariants as answer
use Rattle.virt_types.specs.declared.answer.AnswerValue.TheVariants as given
use Rattle.virt_types.specs.declared.ask.Ask.{Ask}
use Rattle.virt_types.specs.declared.ask.Ask.TheVariants as ask
use Rattle.virt_types.specs.declared.ask.ImageKind.{ImageKind}
use Rattle.virt_types.specs.Below.types_base.declared.domain_def.DomainDef.{DomainDef}
use Rattle.virt_types.specs.Below.types_base.declared.caller.Front.{Front}
use Rattle.virt_types.specs.Below.types_base.declared.memory.Fault.{Fault}
use Rattle.virt_types.specs.Below.types_base.declared.memory.Fault.TheVariants as fault
use Rattle.virt_types.specs.Below.types_base.declared.memory.OrNoMemory.{OrNoMemory}
use Rattle.virt_types.specs.Below.types_base.declared.memory.OrNoMemory.TheVariants as or
use Rattle.def_keeper.specs.declared.mark.DefKey.{DefKey}
use Rattle.def_keeper.specs.declared.mark.StoreBase.{StoreBase}
use Rattle.def_keeper.specs.declared.mark.StoreAction.TheVariants as action
use Rattle.def_keeper.specs.declared.mark.StoreFault.{StoreFault}
use Rattle.def_keeper.specs.declared.mark.StoreFault.TheVariants as store
use Rattle.def_keeper.specs.declared.mark.StoreMark.{StoreMark}
use Rattle.def_keeper.specs.Chapters.{Fails, Leaves, Settles, by, most_marks, next_chapter, open_chapter, with_marks}
use Rattle.def_keeper.specs.Keeper.{Keeping}
use Rattle.def_keeper.specs.Marks.{StoreHistory}
use Rattle.def_keeper.specs.Imaging.{failed}
use Rattle.def_keeper.specs.Turns.{meaning, new_base_keeps, no_mark_lowers}
use Rattle.store_asks.specs.Answers.{HasAnswered, HasNone}
use Rattle.store_asks.specs.Asks.{change_answer, drop_of, image_answer, image_of, put_of}
use Rattle.store_asks.specs.Keeping.{IsWritten, front_of, opened}
use Rattle.store_asks.specs.Told.{told_change}
use Rattle.store_asks.specs.Turning.{AreTried, EndsIn, HasAsked, MarksTell, StorePass}

abbrev pub StoreTurn : Type 0 → Type 0
StoreTurn F = Turned (Keeping F) StoreBase StoreMark (Unit {0})

module _ {F : Type 0} (told : F → Told) where
  -- marks more in this chapter
  same_chapter : (number : ℕ) (more : List StoreMark) (old new : Keeping F) → AreBy (meaning told) number more → new.history ≡ with_marks more old.history → Changes (meaning told) number more old new
  same_chapter number more old new are left =
      let chapter : old.history.chapter ≡ new.history.chapter = sym (ap (λ (h : StoreHistory). h.chapter) left) in
      let marks : old.history.marks ++ more ≡ new.history.marks = sym (ap (λ (h : StoreHistory). h.marks) left) in
      changes_by (meaning told) number more old new
      (inl (record { chapter = chapter; base = sym (ap (λ (h : StoreHistory). h.base) left); marks = (more, marks) }))
      (added-more old.history new.history more chapter marks) are (λ j other. refl)

  -- in the next chapter
  next_one : (number : ℕ) (more : List StoreMark) (old new : Keeping F) → AreBy (meaning told) number more
      → new.history ≡ with_marks more (next_chapter (told old.files) old.map old.history) → Changes (meaning told) number more old new
  next_one number more old new are left =
      let begins : _ = record { chapter = ap (λ (h : StoreHistory). h.chapter) left; base = ap (λ (h : StoreHistory). h.base) left } in
      changes_by (meaning told) number more old new (inr begins)
      (added-next _ old.history new.history begins ∙ ap (λ (h : StoreHistory). h.marks) left) are (λ j other. refl)

  by_test : (number : ℕ) (more : List StoreMark) (old new : Keeping F) (b : Bool) → (nat_le most_marks (length old.history.marks) && is_none old.doubt) ≡ b
      → AreBy (meaning told) number more → new.history ≡ with_marks more (opened told (λ _. 0) old) → Changes (meaning told) number more old new
  unfolding open_chapter
  by_test number more old new true e are left = next_one number more old new are (rw e at left)
  by_test number more old new false e are left = same_chapter number more old new are (rw e at left)

  -- in the chapter in which a change leaves its marks
  pub opened_changes : (number : ℕ) (more : List StoreMark) (old new : Keeping F) → AreBy (meaning told) number more
      → new.history ≡ with_marks more (opened told (λ _. 0) old) → Changes (meaning told) number more old new
  opened_changes number more old new are left = by_test number more old new _ refl are left

  -- ---- whose marks these are
  are_more : (number : ℕ) (xs ys : List StoreMark) → AreBy (meaning told) number xs → AreBy (meaning told) number ys → AreBy (meaning told) number (xs ++ ys)
  are_more number [] ys a b = b
  are_more number (x ∷ xs) ys a b = (a.0, are_more number xs ys a.1 b)

  settles_by : (number : ℕ) (doubt : Option DefKey) (map : Definitions) (first : List StoreMark) → Settles number doubt map first → AreBy (meaning told) number first
  settles_by number None map first is = subst (AreBy (meaning told) number) (sym is) tt
  settles_by number (Some key) map first is = subst (AreBy (meaning told) number) (sym is.4) (refl, tt)

  fails_by : (number : ℕ) (c : Change) (moment : ℕ) (first more : List StoreMark) → AreBy (meaning told) number first → Fails number c moment first more → AreBy (meaning told) number more
  fails_by number c moment first more by_first (inl is) = subst (AreBy (meaning told) number) (sym is) (are_more number first _ by_first (refl, tt))
  fails_by number c moment first more by_first (inr is) = subst (AreBy (meaning told) number) (sym is) (are_more number first _ by_first (refl, (refl, tt)))

  leaves_by : (number : ℕ) (c : Change) (doubt : Option DefKey) (map : Definitions) (moment : ℕ) (r : Result Front (OrNoMemory StoreFault)) (more : List StoreMark)
      → Leaves number c doubt map moment r more → AreBy (meaning told) number more
  leaves_by number c doubt map moment (Ok front) more (first, settles, is) = subst (AreBy (meaning told) number) (sym is) (are_more number first _ (settles_by number doubt map first settles) (refl, tt))
  leaves_by number c doubt map moment (Err (or.Fault store.Device)) more (first, settles, fails) = fails_by number c moment first more (settles_by number doubt map first settles) fails
  leaves_by number c doubt map moment (Err (or.Fault (store.NameKept one two))) more is = subst (AreBy (meaning told) number) (sym is) (refl, tt)
  leaves_by number c doubt map moment (Err or.NoMemory) more (inl is) = subst (AreBy (meaning told) number) (sym is) tt
  leaves_by number c doubt map moment (Err or.NoMemory) more (inr settles) = settles_by number doubt map more settles

-- ---- what is no answer
tried_more : (xs ys : List StoreMark) → AreTried xs → AreTried ys → AreTried (xs ++ ys)
tried_more [] ys a b = b
tried_more (x ∷ xs) ys a b = (a.0, tried_more xs ys a.1 b)

settles_tried : (number : ℕ) (doubt : Option DefKey) (map : Definitions) (first : List StoreMark) → Settles number doubt map first → AreTried first
settles_tried number None map first is = subst AreTried (sym is) tt
settles_tried number (Some key) map first is = subst AreTried (sym is.4) (tt, tt)

-- ---- what the last mark says
-- the last mark of a change gives its answer, and no other does; without memory none does
abbrev pub ChangeLast : ℕ → Change → Front → Answer → List StoreMark → Type 0
ChangeLast number c front answer.NoMemory more = AreTried more
ChangeLast number c front a more =
    (first : List StoreMark) × (r : Result (Unit {0}) StoreFault) × (moment : ℕ) × (more ≡ first ++ by number (action.Changed c r moment) ∷ []) × (a ≡ told_change front r)
    × AreTried first

fails_last : (number : ℕ) (c : Change) (moment : ℕ) (front : Front) (first more : List StoreMark) → AreTried first → Fails number c moment first more → ChangeLast number c front answer.Device more
fails_last number c moment front first more tried (inl is) = (first, Err store.Device, moment, is, refl, tried)
fails_last number c moment front first more tried (inr is) = (
  first ++ by number (action.Tried c) ∷ [],
  Err store.Device,
  moment,
  is ∙ sym (append_assoc first (by number (action.Tried c) ∷ []) _),
  refl,
  tried_more first (by number (action.Tried c) ∷ []) tried (tt, tt),
)

leaves_last : (number : ℕ) (c : Change) (doubt : Option DefKey) (map : Definitions) (moment : ℕ) (place : Front) (r : Result Front (OrNoMemory StoreFault)) (more : List StoreMark)
    → IfOk r (λ front. front ≡ place) → Leaves number c doubt map moment r more → ChangeLast number c place (change_answer r) more
leaves_last number c doubt map moment place (Ok front) more at (first, settles, is) =
    (first, Ok tt, moment, is, ap (λ f. answer.Ok (given.Front f)) at, settles_tried number doubt map first settles)
leaves_last number c doubt map moment place (Err (or.Fault store.Device)) more at (first, settles, fails) =
    fails_last number c moment place first more (settles_tried number doubt map first settles) fails
leaves_last number c doubt map moment place (Err (or.Fault (store.NameKept one two))) more at is = ([], Err (store.NameKept one two), moment, is, refl, tt)
leaves_last number c doubt map moment place (Err or.NoMemory) more at (inl is) = subst AreTried (sym is) tt
leaves_last number c doubt map moment place (Err or.NoMemory) more at (inr settles) = settles_tried number doubt map more settles

put_last : (number : ℕ) (d : DomainDef) (autostart : Bool) (front : Front) (a : Answer) (more : List StoreMark) → ChangeLast number (put_of d autostart) front a more → MarksTell number (ask.Put d autostart) front a more
put_last number d autostart front (answer.Ok v) more (first, r, moment, is, says, tried) = (first, action.Changed (put_of d autostart) r moment, is, (refl, says), tried)
put_last number d autostart front (answer.Refused class) more (first, r, moment, is, says, tried) = (first, action.Changed (put_of d autostart) r moment, is, (refl, says), tried)
put_last number d autostart front (answer.Ended why) more (first, r, moment, is, says, tried) = (first, action.Changed (put_of d autostart) r moment, is, (refl, says), tried)
put_last number d autostart front answer.Lost more (first, r, moment, is, says, tried) = (first, action.Changed (put_of d autostart) r moment, is, (refl, says), tried)
put_last number d autostart front answer.Device more (first, r, moment, is, says, tried) = (first, action.Changed (put_of d autostart) r moment, is, (refl, says), tried)
put_last number d autostart front answer.NoMemory more last = last

drop_last : (number : ℕ) (uuid : List ℕ) (front : Front) (a : Answer) (more : List StoreMark) → ChangeLast number (drop_of uuid) front a more → MarksTell number (ask.Drop uuid) front a more
drop_last number uuid front (answer.Ok v) more (first, r, moment, is, says, tried) = (first, action.Changed (drop_of uuid) r moment, is, (refl, says), tried)
drop_last number uuid front (answer.Refused class) more (first, r, moment, is, says, tried) = (first, action.Changed (drop_of uuid) r moment, is, (refl, says), tried)
drop_last number uuid front (answer.Ended why) more (first, r, moment, is, says, tried) = (first, action.Changed (drop_of uuid) r moment, is, (refl, says), tried)
drop_last number uuid front answer.Lost more (first, r, moment, is, says, tried) = (first, action.Changed (drop_of uuid) r moment, is, (refl, says), tried)
drop_last number uuid front answer.Device more (first, r, moment, is, says, tried) = (first, action.Changed (drop_of uuid) r moment, is, (refl, says), tried)
drop_last number uuid front answer.NoMemory more last = last

-- ---- an ask
module _ {F : Type 0} (told : F → Told) (faults : F → ℕ) where
  -- the marks of a turn in which the store was asked, and what they say
  pub record Left (number : ℕ) (question : Ask) (old new : Keeping F) (result : Option Answer) : Type 0 where
    pub more : List StoreMark
    pub changes : Changes (meaning told) number more old new
    pub ends : EndsIn new.history more
    pub tells : IfSome result (λ a. MarksTell number question (front_of new.history) a more)

  -- more marks are at the end, and none are too
  ends_more : (more : List StoreMark) (old new : StoreHistory) → new ≡ with_marks more old → EndsIn new more
  ends_more more old new is = (old.marks, ap (λ (h : StoreHistory). h.marks) is)

  ends_none : (h : StoreHistory) → EndsIn h []
  ends_none h = (h.marks, sym (append-nil h.marks))

  left_none : (number : ℕ) (question : Ask) (old new : Keeping F) (a : Answer) → HasNone old new a → Left number question old new (Some a)
  left_none number question old new a none = record {
    more = [];
    changes = nothing_changes (meaning told) number old new none.1;
    ends = ends_none new.history;
    tells = subst (λ (x : Answer). MarksTell number question (front_of new.history) x []) (sym none.0) tt;
  }

  left_put : (number : ℕ) (d : DomainDef) (autostart : Bool) (old new : Keeping F) (a : Answer) → HasAnswered told faults number (ask.Put d autostart) old new (Some a) → Left number (ask.Put d autostart) old new (Some a)
  left_put number d autostart old new a (inr none) = left_none number (ask.Put d autostart) old new a none
  left_put number d autostart old new a (inl (r, changed, is)) = record {
    more = changed.marks.0;
    changes = opened_changes told number changed.marks.0 old new (leaves_by told number _ _ _ _ r changed.marks.0 changed.marks.1) changed.marks.2;
    ends = ends_more changed.marks.0 _ new.history changed.marks.2;
    tells = subst (λ (x : Answer). MarksTell number (ask.Put d autostart) (front_of new.history) x changed.marks.0) (sym is)
        (put_last number d autostart (front_of new.history) (change_answer r) changed.marks.0 (leaves_last number _ _ _ _ (front_of new.history) r changed.marks.0 changed.front changed.marks.1));
  }

  left_drop : (number : ℕ) (uuid : List ℕ) (old new : Keeping F) (a : Answer) → HasAnswered told faults number (ask.Drop uuid) old new (Some a) → Left number (ask.Drop uuid) old new (Some a)
  left_drop number uuid old new a (r, changed, is) = record {
    more = changed.marks.0;
    changes = opened_changes told number changed.marks.0 old new (leaves_by told number _ _ _ _ r changed.marks.0 changed.marks.1) changed.marks.2;
    ends = ends_more changed.marks.0 _ new.history changed.marks.2;
    tells = subst (λ (x : Answer). MarksTell number (ask.Drop uuid) (front_of new.history) x changed.marks.0) (sym is)
        (drop_last number uuid (front_of new.history) (change_answer r) changed.marks.0 (leaves_last number _ _ _ _ (front_of new.history) r changed.marks.0 changed.front changed.marks.1));
  }

  left_image : (number : ℕ) (name : List ℕ) (k : ImageKind) (d : DomainDef) (running : Bool) (bytes : List ℕ) (old new : Keeping F) (r : Result (Unit {0}) Fault)
      → IsWritten told faults number name (image_of k d running bytes) old new r → Left number (ask.WriteImage name k running d bytes) old new (Some (image_answer r))
  left_image number name k d running bytes old new (Ok done) written = record {
    more = by number (action.ImageWritten name (image_of k d running bytes) (Ok tt)) ∷ [];
    changes = same_chapter told number _ old new (refl, tt) written.marks;
    ends = ends_more _ old.history new.history written.marks;
    tells = ([], action.ImageWritten name (image_of k d running bytes) (Ok tt), refl, (refl, refl, refl), tt);
  }
  left_image number name k d running bytes old new (Err fault.Failed) written = record {
    more = by number (action.ImageWritten name (image_of k d running bytes) (Err failed)) ∷ [];
    changes = same_chapter told number _ old new (refl, tt) written.marks;
    ends = ends_more _ old.history new.history written.marks;
    tells = ([], action.ImageWritten name (image_of k d running bytes) (Err failed), refl, (refl, refl, refl), tt);
  }
  left_image number name k d running bytes old new (Err fault.NoMemory) written = record {
    more = [];
    changes = same_chapter told number [] old new tt (written.marks ∙ ap (λ ms. record old.history { marks = ms }) (sym (append-nil old.history.marks)));
    ends = ends_none new.history;
    tells = tt;
  }

  -- whatever was asked
  pub left_by_ask : (number : ℕ) (question : Ask) (old new : Keeping F) (result : Option Answer) → HasAnswered told faults number question old new result → Left number question old new result
  left_by_ask number (ask.Put d autostart) old new (Some a) it = left_put number d autostart old new a it
  left_by_ask number (ask.Put d autostart) old new None it = absurd it
  left_by_ask number (ask.Drop uuid) old new (Some a) it = left_drop number uuid old new a it
  left_by_ask number (ask.Drop uuid) old new None it = absurd it
  left_by_ask number (ask.WriteImage name k running d bytes) old new (Some a) (inl (r, written, is)) =
      subst (λ (x : Answer). Left number (ask.WriteImage name k running d bytes) old new (Some x)) (sym is) (left_image number name k d running bytes old new r written)
  left_by_ask number (ask.WriteImage name k running d bytes) old new (Some a) (inr none) = left_none number _ old new a none
  left_by_ask number (ask.WriteImage name k running d bytes) old new None it = absurd it
  left_by_ask number (ask.Lease network mac) old new (Some a) (is, same) = record {
    more = [];
    changes = nothing_changes (meaning told) number old new same;
    ends = ends_none new.history;
    tells = subst (λ (x : Answer). MarksTell number (ask.Lease network mac) (front_of new.history) x []) (sym is) refl;
  }
  left_by_ask number (ask.Lease network mac) old new None it = absurd it
  left_by_ask number (ask.Command c) old new None same = record { more = []; changes = nothing_changes (meaning told) number old new same; ends = ends_none new.history; tells = tt }
  left_by_ask number (ask.Command c) old new (Some a) it = absurd it
  left_by_ask number (ask.Make d boot) old new None same = record { more = []; changes = nothing_changes (meaning told) number old new same; ends = ends_none new.history; tells = tt }
  left_by_ask number (ask.Make d boot) old new (Some a) it = absurd it

  -- what may be left of it
  pub ask_leaves : (question : Ask) (result : Option Answer) (before : StorePass) (turn now : StoreTurn F) → Enters (meaning told) before turn → now ≡ record turn { value = now.value }
      → (left : Left turn.pass.number question turn.value now.value result) → Changes (meaning told) now.pass.number left.more now.entry now.value
  ask_leaves question result before turn now enters same left =
      let number : turn.pass.number ≡ now.pass.number = sym (ap (λ (t : StoreTurn F). t.pass.number) same) in
      let entry : turn.value ≡ now.entry = enters.value ∙ sym (ap (λ (t : StoreTurn F). t.entry) same) in
      subst (λ (x : ℕ × Keeping F). Changes (meaning told) x.0 left.more x.1 now.value) (λ i. (number i, entry i)) left.changes

  -- the pass after the turn
  pub has_asked : (question : Ask) (result : Option Answer) (before : StorePass) (turn now : StoreTurn F) (after : StorePass) → Enters (meaning told) before turn → now ≡ record turn { value = now.value }
      → HasAnswered told faults turn.pass.number question turn.value now.value result → after ≡ left_by (meaning told) now → HasAsked told faults question result before after
  has_asked question result before turn now after enters same answered is =
      let number : turn.pass.number ≡ before.number = ap (λ (p : StorePass). p.number) enters.pass in
      let left = left_by_ask turn.pass.number question turn.value now.value result answered in
      let tells = turn_tells (meaning told) (no_mark_lowers told) (new_base_keeps told) left.more before after turn now enters same left.changes is in
      record {
        found = turn.value;
        left = now.value;
        more = left.more;
        answered = subst (λ (n : ℕ). HasAnswered told faults n question turn.value now.value result) number answered;
        seen = tells.0.seen;
        ends = subst (λ (h : StoreHistory). EndsIn h left.more) (sym tells.0.seen) left.ends;
        tells = subst (λ (x : ℕ × StoreHistory). IfSome result (λ a. MarksTell x.0 question (front_of x.1) a left.more)) (λ i. (number i, sym tells.0.seen i)) left.tells;
        went = subst (λ (h : StoreHistory). Went (meaning told) 1 (tagged h.chapter left.more) before after) (sym tells.0.seen) tells.1;
      }
