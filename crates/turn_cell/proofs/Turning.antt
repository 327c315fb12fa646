-- One turn of a pass, and several, whatever the value.
use Rattle.std.proofs.Common.{◌≡◌, ℕ, ◌+◌, Bool, true, cond, eq-eqb, List, [], ◌∷◌, ◌++◌, Option, inl, refl, sym, ap, ◌∙◌, subst, append_assoc, append-nil, arith}
use Rattle.history_spec.specs.declared.history.History.{History}
use Rattle.history_spec.specs.Chapter.{GoesOn, added, tagged}
use Rattle.history_spec.specs.Pass.{bears, IsOf, AreOf, own, held_if}
use Rattle.history_spec.proofs.Beginnings.{begins_itself, begins_through}
use Rattle.history_spec.proofs.Marks.{added-more}
use Rattle.turn_cell.specs.Meaning.{Meaning, NoMarkLowers, NewBaseKeeps}
use Rattle.turn_cell.specs.Known.{IsBegun}
use Rattle.turn_cell.specs.Passes.{Passed, Turned, Enters, SameShare, left_by}
use Rattle.turn_cell.specs.Turning.{AreBy, Changes, HasTurned, Holds, Went, TurnTells, TurnsAddUp}
use Rattle.turn_cell.proofs.Knowledge.{goes_on_begins}

module _ {T B M S : Type 0} (K : Meaning T B M S) where
  are_of : (number : ℕ) (ms : List M) → AreBy K number ms → AreOf K.whose number ms
  are_of number [] h = tt
  are_of number (m ∷ ms) h = (subst (IsOf number) (sym h.0) refl, are_of number ms h.1)

  own_is : (number : ℕ) (ms : List M) → AreBy K number ms → own K.whose number ms ≡ ms
  own_is number [] h = refl
  own_is number (m ∷ ms) h =
      let yes : bears number (K.whose m) ≡ true = subst (λ (o : Option ℕ). bears number o ≡ true) (sym h.0) (eq-eqb number number refl) in
      ap (λ (b : Bool). cond b (m ∷ own K.whose number ms) (own K.whose number ms)) yes ∙ ap (λ (t : List M). m ∷ t) (own_is number ms h.1)

  -- what was added is by one number
  pub changes_by : (number : ℕ) (more : List M) (entry left : T) → GoesOn (K.next_base entry) (K.history entry) (K.history left) → added (K.history entry) (K.history left) ≡ more → AreBy K number more → SameShare K number entry left → Changes K number more entry left
  changes_by number more entry left goes is by others = record {
    goes_on = goes;
    marks = subst (AreOf K.whose number) (sym is) (are_of number more by);
    others = others;
    own_marks = ap (own K.whose number) is ∙ own_is number more by;
  }

  pub nothing_changes : (number : ℕ) (entry left : T) → left ≡ entry → Changes K number [] entry left
  nothing_changes number entry left e =
      let h = K.history entry in
      subst (Changes K number [] entry) (sym e) (changes_by number [] entry entry (inl (record { chapter = refl; base = refl; marks = ([], append-nil h.marks) })) (added-more h h [] refl (append-nil h.marks)) tt (λ j other. refl))

  pub has_turned : (before after : Passed B M S) (turn now : Turned T B M S) → Enters K before turn → now ≡ record turn { value = now.value } → after ≡ left_by K now → HasTurned K before after turn.entry now.value
  has_turned before after turn now enters same left =
      let P : Type 0 = Passed B M S in
      let at : Turned T B M S = record { pass = record before { turns = before.turns + 1 }; ticket = turn.ticket; entry = turn.entry; value = now.value } in
      let whole : record turn { value = now.value } ≡ at = λ i. record { pass = enters.pass i; ticket = turn.ticket; entry = turn.entry; value = now.value } in
      let is : after ≡ left_by K at = left ∙ ap (left_by K) (same ∙ whole) in
      record {
        same = record { cell = ap (λ (p : P). p.cell) is; first = ap (λ (p : P). p.first) is; number = ap (λ (p : P). p.number) is; parts = ap (λ (p : P). p.parts) is; ended = ap (λ (p : P). p.ended) is };
        fresh = enters.fresh;
        spent = ap (λ (p : P). p.spent) is ∙ enters.fresh;
        turns = ap (λ (p : P). p.turns) is;
        found = enters.seen;
        seen = ap (λ (p : P). p.seen) is;
        mine = ap (λ (p : P). p.mine) is;
        held_before = enters.held;
        held = ap (λ (p : P). p.held) is;
        share_found = enters.share;
        share = ap (λ (p : P). p.share) is;
      }

  held_one : (c : ℕ) (more : List M) (before after : Passed B M S) (left : History B M) → IsBegun K before.seen left → after.held ≡ held_if more left before.held → Holds K (tagged c more) before after
  held_one c [] before after left begun is = is
  held_one c (m ∷ ms) before after left begun is = subst (IsBegun K before.seen) (sym is) begun

  held_seen_one : (more : List M) (held left now seen : History B M) → seen ≡ left → IsBegun K held left → now ≡ held_if more left held → IsBegun K now seen
  held_seen_one [] held left now seen is begun e = subst (λ (z : History B M × History B M). IsBegun K z.0 z.1) (λ i. (sym e i, sym is i)) begun
  held_seen_one (m ∷ ms) held left now seen is begun e = subst (λ (z : History B M × History B M). IsBegun K z.0 z.1) (λ i. (sym e i, sym is i)) (begins_itself K.rising left)

  pub went_nowhere : (pass : Passed B M S) → Went K 0 [] pass pass
  went_nowhere pass = record {
    same = record { cell = refl; first = refl; number = refl; parts = refl; ended = refl };
    spent = refl;
    turns_rose = omega arith;
    seen = begins_itself K.rising pass.seen;
    mine = sym (append-nil pass.mine);
    held = refl;
    held_seen = λ l. l;
  }

  pub went_once : NoMarkLowers K → NewBaseKeeps K → (more : List M) (before after : Passed B M S) (entry left : T) → HasTurned K before after entry left → Changes K before.number more entry left → Went K 1 (tagged (K.history left).chapter more) before after
  went_once lowers keeps more before after entry left t c =
      let a : History B M = K.history entry in
      let b : History B M = K.history left in
      let begun : IsBegun K before.seen b = begins_through K.rising lowers before.seen a b t.found (goes_on_begins K keeps entry left c.goes_on) in
      let held : after.held ≡ held_if more b before.held = t.held ∙ ap (λ (l : List M). held_if l b before.held) c.own_marks in
      record {
        same = t.same;
        spent = t.spent ∙ sym t.fresh;
        turns_rose = t.turns;
        seen = subst (IsBegun K before.seen) (sym t.seen) begun;
        mine = t.mine ∙ ap (λ (l : List M). before.mine ++ tagged b.chapter l) c.own_marks;
        held = held_one b.chapter more before after b begun held;
        held_seen = λ _. held_seen_one more before.held b after.held after.seen t.seen (begins_through K.rising lowers before.held before.seen b t.held_before begun) held;
      }

  held_on : NoMarkLowers K → (xs ys : List (ℕ × M)) (a b c : Passed B M S) → IsBegun K a.seen b.seen → Holds K xs a b → Holds K ys b c → Holds K (xs ++ ys) a c
  held_on lowers [] [] a b c s p q = q ∙ p
  held_on lowers [] (y ∷ ys) a b c s p q = begins_through K.rising lowers a.seen b.seen c.held s q
  held_on lowers (x ∷ xs) [] a b c s p q = subst (IsBegun K a.seen) (sym q) p
  held_on lowers (x ∷ xs) (y ∷ ys) a b c s p q = begins_through K.rising lowers a.seen b.seen c.held s q

  pub went_on : NoMarkLowers K → TurnsAddUp K
  went_on lowers m n xs ys a b c p q = record {
    same = record { cell = q.same.cell ∙ p.same.cell; first = q.same.first ∙ p.same.first; number = q.same.number ∙ p.same.number; parts = q.same.parts ∙ p.same.parts; ended = q.same.ended ∙ p.same.ended };
    spent = q.spent ∙ p.spent;
    turns_rose = omega (arith, p.turns_rose, q.turns_rose);
    seen = begins_through K.rising lowers a.seen b.seen c.seen p.seen q.seen;
    mine = q.mine ∙ (ap (λ (l : List (ℕ × M)). l ++ ys) p.mine ∙ append_assoc a.mine xs ys);
    held = held_on lowers xs ys a b c p.seen p.held q.held;
    held_seen = λ l. q.held_seen (p.held_seen l);
  }

  -- one turn, by its calls
  pub turn_tells : NoMarkLowers K → NewBaseKeeps K → TurnTells K
  turn_tells lowers keeps more before after turn now enters same change left =
      let t : HasTurned K before after turn.entry now.value = has_turned before after turn now enters same left in
      let number : turn.pass.number ≡ before.number = ap (λ (p : Passed B M S). p.number) enters.pass in
      let c : Changes K before.number more turn.entry now.value = subst (λ (z : ℕ × T). Changes K z.0 more z.1 now.value) (λ i. (number i, enters.value i)) change in
      (t, went_once lowers keeps more before after turn.entry now.value t c)
