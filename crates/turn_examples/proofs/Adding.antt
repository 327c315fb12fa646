-- A turn in which an amount was added or none was, and one turn more.
use Rattle.std.proofs.Common.{◌≡◌, ℕ, ◌+◌, ◌-◌, List, [], ◌∷◌, ◌++◌, Some, inl, refl, sym, ap, ◌∙◌, subst, length-append, arith}
use Rattle.history_spec.proofs.Marks.{added-more}
use Rattle.turn_cell.specs.Passes.{Passed, Turned, Enters, left_by}
use Rattle.turn_cell.specs.Turning.{Changes, Went}
use Rattle.turn_cell.proofs.Turning.{changes_by, nothing_changes, turn_tells, went_nowhere, went_on}
use Rattle.turn_examples.specs.declared.counter.Amount.{Amount}
use Rattle.turn_examples.specs.Counting.{Adds, total_of}
use Rattle.turn_examples.specs.Keeping.{meaning, no_mark_lowers, new_base_keeps, HasAdded, HasLooked}
use Rattle.turn_examples.specs.Many.{AreAdded, HasAddedMany}

abbrev pub Pass : Type 0
Pass = Passed (Unit {0}) Amount (Unit {0})

abbrev Turn : Type 0
Turn = Turned (List Amount) (Unit {0}) Amount (Unit {0})

pub adds_changes : (number amount : ℕ) (old new : List Amount) (a : Adds number amount old new) → Changes meaning number (record { by = a.0; amount = amount } ∷ []) old new
adds_changes number amount old new a =
    let more : List Amount = record { by = a.0; amount = amount } ∷ [] in
    subst (Changes meaning number more old) (sym a.2)
    (changes_by meaning number more old (old ++ more) (inl (record { chapter = refl; base = refl; marks = (more, refl) })) (added-more (meaning.history old) (meaning.history (old ++ more)) more refl refl) (ap Some a.1, tt) (λ j other. refl))

-- the pass after the turn
pub added_one : (amount : ℕ) (before : Pass) (turn now : Turn) (after : Pass) → Enters meaning before turn → Adds turn.pass.number amount turn.value now.value → now ≡ record turn { value = now.value } → after ≡ left_by meaning now → HasAdded amount before after
added_one amount before turn now after enters adds same left =
    let m : Amount = record { by = adds.0; amount = amount } in
    record {
      by = adds.0;
      number = adds.1 ∙ ap (λ (p : Pass). p.number) enters.pass;
      went = (turn_tells meaning no_mark_lowers new_base_keeps (m ∷ []) before after turn now enters same (adds_changes turn.pass.number amount turn.value now.value adds) left).1;
    }

pub added_none : (before : Pass) (turn now : Turn) (after : Pass) → Enters meaning before turn → now.value ≡ turn.value → now ≡ record turn { value = now.value } → after ≡ left_by meaning now → Went meaning 1 [] before after
added_none before turn now after enters value same left = (turn_tells meaning no_mark_lowers new_base_keeps [] before after turn now enters same (nothing_changes meaning turn.pass.number turn.value now.value value) left).1

-- the pass after a turn in which the total was read
pub looked : (total : ℕ) (before : Pass) (turn now : Turn) (after : Pass) → Enters meaning before turn → total ≡ total_of turn.value → now ≡ turn → after ≡ left_by meaning now → HasLooked total before after
looked total before turn now after enters is same left =
    let value : now.value ≡ turn.value = ap (λ (t : Turn). t.value) same in
    record {
      went = added_none before turn now after enters value (same ∙ (λ i. record turn { value = sym value i })) left;
      total_is = is ∙ ap total_of (sym value ∙ sym (ap (λ (p : Pass). p.seen.marks) left));
    }

added_append : (number amount : ℕ) (xs ys : List (ℕ × Amount)) → AreAdded number amount xs → AreAdded number amount ys → AreAdded number amount (xs ++ ys)
added_append number amount [] ys a b = b
added_append number amount (x ∷ xs) ys a b = (a.0, a.1, a.2, added_append number amount xs ys a.3 b)

pub no_turn_yet : (amount : ℕ) (pass : Pass) → HasAddedMany amount 0 pass pass
no_turn_yet amount pass = record { more = []; went = went_nowhere meaning pass; many = refl; added = tt }

pub one_turn_more : (amount times : ℕ) (before mid after : Pass) → HasAddedMany amount times before mid → HasAdded amount mid after → HasAddedMany amount (times + 1) before after
one_turn_more amount times before mid after so_far one =
    let mark : ℕ × Amount = (0, record { by = one.by; amount = amount }) in
    record {
      more = so_far.more ++ mark ∷ [];
      went = went_on meaning no_mark_lowers times 1 so_far.more (mark ∷ []) before mid after so_far.went one.went;
      many = omega (arith, length-append so_far.more (mark ∷ []), so_far.many);
      added = added_append before.number amount so_far.more (mark ∷ []) so_far.added (refl, one.number ∙ so_far.went.same.number, refl, tt);
    }

-- one more pass is cut off
pub one_cut : (count : ℕ) (first before after : Pass) → before ≡ record first { parts = first.parts - count } → after ≡ record before { parts = before.parts - 1 } → after ≡ record first { parts = first.parts - (count + 1) }
one_cut count first before after so_far is =
    let fewer : (first.parts - count) - 1 ≡ first.parts - (count + 1) = omega arith in
    is ∙ (ap (λ (p : Pass). record p { parts = p.parts - 1 }) so_far ∙ (λ i. record first { parts = fewer i }))
