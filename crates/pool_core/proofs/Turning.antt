-- What a turn at the book tells the pass that had it.
use Rattle.std.proofs.Common.{◌≡◌, ℕ, ◌+◌, ◌<◌, ◌≤◌, List, [], ◌∷◌, length, refl, sym, ap, ◌∙◌, subst, inl, inr, ⊎_elim}
use Rattle.std.proofs.lemmas.Bool.{cases_lt}
use Rattle.history_spec.specs.Chapter.{tagged}
use Rattle.history_spec.proofs.Marks.{added-more, added-next}
use Rattle.turn_cell.specs.Passes.{Turned, Enters, left_by}
use Rattle.turn_cell.specs.Turning.{Changes, Went}
use Rattle.turn_cell.proofs.Turning.{changes_by, nothing_changes, turn_tells}
use Rattle.book_spec.specs.declared.pool_book.PoolAnswer.{PoolAnswer}
use Rattle.book_spec.specs.declared.pool_book.PoolCall.{PoolCall}
use Rattle.book_spec.specs.declared.pool_book.PoolMark.{PoolMark}
use Rattle.book_spec.specs.Pools.{Pools}
use Rattle.book_spec.specs.PoolCalls.{answer}
use Rattle.book_spec.specs.PoolHistory.{PoolHistory, pools_of, open_chapter, with_mark, HasCalled, IsCalled, LacksMemory}
use Rattle.pool_core.specs.Keeping.{meaning, no_mark_lowers, new_base_keeps}
use Rattle.pool_core.specs.Turns.{PoolPassed, HasAsked}
use Rattle.pool_core.proofs.Chronicles.{opens_next, opens_same, pools_of-open}

abbrev PoolTurned : Type 0
PoolTurned = Turned PoolHistory Pools PoolMark (Unit {0})

-- a mark more, in this chapter
mark_here : (m : PoolMark) (h : PoolHistory) → Changes meaning m.number (m ∷ []) h (with_mark m h)
unfolding with_mark
mark_here m h = changes_by meaning m.number (m ∷ []) h (with_mark m h)
    (inl (record { chapter = refl; base = refl; marks = (m ∷ [], refl) }))
    (added-more h (with_mark m h) (m ∷ []) refl refl)
    (refl, tt)
    (λ j other. refl)

-- a mark more, in this chapter or the next
pub mark_changes : (m : PoolMark) (h : PoolHistory) → Changes meaning m.number (m ∷ []) h (with_mark m (open_chapter h))
unfolding with_mark
mark_changes m h = ⊎_elim
    (λ (short : length h.marks < 4096). subst (λ (x : PoolHistory). Changes meaning m.number (m ∷ []) h (with_mark m x)) (sym (opens_same h short)) (mark_here m h))
    (λ (long : 4096 ≤ length h.marks).
    let next : PoolHistory = record { chapter = h.chapter + 1; base = pools_of h; marks = [] } in
    subst (λ (x : PoolHistory). Changes meaning m.number (m ∷ []) h (with_mark m x)) (sym (opens_next h long))
    (changes_by meaning m.number (m ∷ []) h (with_mark m next)
    (inr (record { chapter = refl; base = refl }))
    (added-next (pools_of h) h (with_mark m next) (record { chapter = refl; base = refl }))
    (refl, tt)
    (λ j other. refl)))
    (cases_lt (length h.marks) 4096)

-- a call and its mark
pub call_changes : (number : ℕ) (c : PoolCall) (given : PoolAnswer) (h next : PoolHistory) → IsCalled number c given h next → Changes meaning number (record { number = number; call = c; answer = given } ∷ []) h next
call_changes number c given h next called =
    let m : PoolMark = record { number = number; call = c; answer = given } in
    let left : next ≡ with_mark m (open_chapter h) = called.1 ∙ ap (λ (g : PoolAnswer). with_mark (record { number = number; call = c; answer = g }) (open_chapter h)) (ap (answer c) (pools_of-open h) ∙ sym called.0) in
    subst (Changes meaning number (m ∷ []) h) (sym left) (mark_changes m h)

-- what is left may be left
change_of : (more : List PoolMark) (before : PoolPassed) (turn now : PoolTurned) → Enters meaning before turn → now ≡ record turn { value = now.value } → Changes meaning turn.pass.number more turn.value now.value → Changes meaning now.pass.number more now.entry now.value
change_of more before turn now enters same changes =
    let number : turn.pass.number ≡ now.pass.number = sym (ap (λ (t : PoolTurned). t.pass.number) same) in
    let entry : turn.value ≡ now.entry = enters.value ∙ sym (ap (λ (t : PoolTurned). t.entry) same) in
    subst (λ (x : ℕ × PoolHistory). Changes meaning x.0 more x.1 now.value) (λ i. (number i, entry i)) changes

pub asked_leaves : (c : PoolCall) (given : PoolAnswer) (before : PoolPassed) (turn now : PoolTurned) → Enters meaning before turn → HasCalled turn.pass.number c given turn.value now.value → now ≡ record turn { value = now.value } → (more : List PoolMark) × Changes meaning now.pass.number more now.entry now.value
asked_leaves c given before turn now enters called same = ⊎_elim
    (λ (is : IsCalled turn.pass.number c given turn.value now.value). (record { number = turn.pass.number; call = c; answer = given } ∷ [], change_of _ before turn now enters same (call_changes turn.pass.number c given turn.value now.value is)))
    (λ (lacks : LacksMemory given turn.value now.value). ([], change_of [] before turn now enters same (nothing_changes meaning turn.pass.number turn.value now.value lacks.1)))
    called

-- the pass after the turn
pub asked : (c : PoolCall) (given : PoolAnswer) (before : PoolPassed) (turn now : PoolTurned) (after : PoolPassed) → Enters meaning before turn → HasCalled turn.pass.number c given turn.value now.value → now ≡ record turn { value = now.value } → after ≡ left_by meaning now → HasAsked c given before after
asked c given before turn now after enters called same left =
    let number : turn.pass.number ≡ before.number = ap (λ (p : PoolPassed). p.number) enters.pass in
    ⊎_elim
    (λ (is : IsCalled turn.pass.number c given turn.value now.value).
    let told = turn_tells meaning no_mark_lowers new_base_keeps (record { number = turn.pass.number; call = c; answer = given } ∷ []) before after turn now enters same (call_changes turn.pass.number c given turn.value now.value is) left in
    inl (record {
      pools = pools_of turn.value;
      answered = is.0;
      went = subst (λ (x : PoolHistory × ℕ). Went meaning 1 (tagged x.0.chapter (record { number = x.1; call = c; answer = given } ∷ [])) before after) (λ i. (sym told.0.seen i, number i)) told.1;
    }))
    (λ (lacks : LacksMemory given turn.value now.value). inr (lacks.0, (turn_tells meaning no_mark_lowers new_base_keeps [] before after turn now enters same (nothing_changes meaning turn.pass.number turn.value now.value lacks.1) left).1))
    called
