-- Slots after one of them was written.
use Rattle.std.proofs.Common.{◌≡◌, ◌≢◌, ◌⊎◌, ℕ, ◌<◌, ◌≤◌, Bool, true, false, cond, List, length, length-set, get_or, set, bytes_eq, Option, None, Some, refl, sym, ap, ◌∙◌, subst, inl, inr, ⊎_elim, arith}
use Rattle.std.specs.List.{position}
use Rattle.std.specs.Option.{unwrap_or}
use Rattle.std.proofs.lemmas.Bool.{cases_eq, cases_lt, cases_Bool, cond-true, cond-false, false_from_ne_true}
use Rattle.std.proofs.lemmas.Option.{none-some}
use Rattle.std.proofs.lemmas.List.{get_or-set_same, get_or-set_other, get_or_past, set_past}
use Rattle.std.proofs.lemmas.List.Quantifiers.{position-Some}
use Rattle.std.proofs.lemmas.Slice.Eq.{bytes_eq-Decides}
use Rattle.book_spec.specs.declared.list.Entry.{Entry}
use Rattle.book_spec.specs.Slots.{Slots, entry_in, has, slot_of, AreApart}
use Rattle.book_spec.proofs.Positions.{position_is, position_none, none_passes, position_same}

-- a slot that holds something is one of the slots
pub within_at : (slots : Slots) (k : ℕ) (e : Entry) → entry_in slots k ≡ Some e → k < length slots
within_at slots k e at = ⊎_elim (λ (lt : k < length slots). lt) (λ (past : length slots ≤ k). absurd (none-some e (sym (get_or_past slots k None past) ∙ at))) (cases_lt k (length slots))

module _ (key : Entry → List ℕ) where
  -- what has a key is an entry with it
  has_entry : (q : List ℕ) (o : Option Entry) → has key q o ≡ true → (e : Entry) × (o ≡ Some e) × (key e ≡ q)
  has_entry q None is = absurd (Rattle.std.proofs.lemmas.Bool.false≢true is)
  has_entry q (Some e) is = (e, refl, (bytes_eq-Decides (key e) q).0 is)

  has_not : (q : List ℕ) (o : Option Entry) → ((e : Entry) → o ≡ Some e → key e ≢ q) → has key q o ≡ false
  has_not q None differs = refl
  has_not q (Some e) differs = false_from_ne_true (bytes_eq (key e) q) (λ is. differs e refl ((bytes_eq-Decides (key e) q).0 is))

  has_at : (q : List ℕ) (o : Option Entry) (e : Entry) → o ≡ Some e → key e ≡ q → has key q o ≡ true
  has_at q o e is same = ap (has key q) is ∙ (bytes_eq-Decides (key e) q).1 same

  pub slot_of-Some : (q : List ℕ) (slots : Slots) (i : ℕ) → slot_of key q slots ≡ Some i → (i < length slots) × (e : Entry) × (entry_in slots i ≡ Some e) × (key e ≡ q)
  unfolding slot_of
  slot_of-Some q slots i is = let found = position-Some (has key q) slots i None is in let e = has_entry q (entry_in slots i) found.1 in (found.0, e.0, e.1, e.2)

  -- the slot of a domain that is in one
  pub slot_of-at : (slots : Slots) (i : ℕ) (e : Entry) → AreApart key slots → i < length slots → entry_in slots i ≡ Some e → slot_of key (key e) slots ≡ Some i
  unfolding slot_of
  slot_of-at slots i e apart within is =
      position_is (has key (key e)) None slots i within (has_at (key e) (entry_in slots i) e is refl)
      (λ k lt ne. has_not (key e) (entry_in slots k) (λ other at same. ne (apart k i other e at is same)))

  -- nobody has a key that has no slot
  pub slot_of-None : (q : List ℕ) (slots : Slots) → slot_of key q slots ≡ None → (k : ℕ) (e : Entry) → k < length slots → entry_in slots k ≡ Some e → key e ≢ q
  unfolding slot_of
  slot_of-None q slots none k e within is same = Rattle.std.proofs.lemmas.Bool.both_ways (has key q (entry_in slots k)) (none_passes (has key q) None slots none k within) (has_at q (entry_in slots k) e is same)

  -- an entry takes the place of one of the same key
  pub slot_of-same : (q : List ℕ) (slots : Slots) (i : ℕ) (one other : Entry) → entry_in slots i ≡ Some one → key other ≡ key one → slot_of key q (set slots i (Some other)) ≡ slot_of key q slots
  unfolding slot_of
  slot_of-same q slots i one other is same = position_same (has key q) None slots i (Some other) (ap (λ (k : List ℕ). bytes_eq k q) same ∙ sym (ap (has key q) is))

  -- at another key a write is not seen
  slot_of-other : (q : List ℕ) (slots : Slots) (i : ℕ) (o : Option Entry) → has key q o ≡ false → has key q (entry_in slots i) ≡ false → slot_of key q (set slots i o) ≡ slot_of key q slots
  unfolding slot_of
  slot_of-other q slots i o new old = position_same (has key q) None slots i o (new ∙ sym old)

  -- an entry is put into a free slot
  pub slot_of-put : (q : List ℕ) (slots : Slots) (i : ℕ) (e : Entry) → i < length slots → entry_in slots i ≡ None → slot_of key (key e) slots ≡ None → slot_of key q (set slots i (Some e)) ≡ cond (bytes_eq (key e) q) (Some i) (slot_of key q slots)
  unfolding slot_of
  slot_of-put q slots i e within free new =
      let new_slots : Slots = set slots i (Some e) in
      ⊎_elim
      (λ (yes : bytes_eq (key e) q ≡ true).
      let same : key e ≡ q = (bytes_eq-Decides (key e) q).0 yes in
      let here : entry_in new_slots i ≡ Some e = get_or-set_same slots i (Some e) None within in
      position_is (has key q) None new_slots i (subst (λ (n : ℕ). i < n) (sym (length-set slots i (Some e))) within) (has_at q (entry_in new_slots i) e here same)
      (λ k lt ne. ap (has key q) (get_or-set_other slots i k (Some e) None ne) ∙ subst (λ (b : List ℕ). has key b (entry_in slots k) ≡ false) same (none_passes (has key (key e)) None slots new k (subst (λ (n : ℕ). k < n) (length-set slots i (Some e)) lt)))
      ∙ sym (cond-true (bytes_eq (key e) q) (Some i) (position (has key q) slots) yes))
      (λ (no : bytes_eq (key e) q ≡ false). slot_of-other q slots i (Some e) no (ap (has key q) free) ∙ sym (cond-false (bytes_eq (key e) q) (Some i) (position (has key q) slots) no))
      (cases_Bool (bytes_eq (key e) q))

  -- an entry is taken out
  pub slot_of-drop : (q : List ℕ) (slots : Slots) (i : ℕ) (e : Entry) → AreApart key slots → i < length slots → entry_in slots i ≡ Some e → slot_of key q (set slots i None) ≡ cond (bytes_eq (key e) q) None (slot_of key q slots)
  unfolding slot_of
  slot_of-drop q slots i e apart within is =
      let new_slots : Slots = set slots i None in
      ⊎_elim
      (λ (yes : bytes_eq (key e) q ≡ true).
      let same : key e ≡ q = (bytes_eq-Decides (key e) q).0 yes in
      position_none (has key q) None new_slots
      (λ k lt. ⊎_elim
      (λ (at : k ≡ i). ap (λ (n : ℕ). has key q (entry_in new_slots n)) at ∙ ap (has key q) (get_or-set_same slots i None None within))
      (λ (ne : k ≢ i). ap (has key q) (get_or-set_other slots i k None None ne) ∙ has_not q (entry_in slots k) (λ other there is_q. ne (apart k i other e there is (is_q ∙ sym same))))
      (cases_eq k i))
      ∙ sym (cond-true (bytes_eq (key e) q) None (position (has key q) slots) yes))
      (λ (no : bytes_eq (key e) q ≡ false). slot_of-other q slots i None refl (ap (has key q) is ∙ no) ∙ sym (cond-false (bytes_eq (key e) q) None (position (has key q) slots) no))
      (cases_Bool (bytes_eq (key e) q))

  -- keys stay apart where what is written has no other's key
  pub apart-set : (slots : Slots) (i : ℕ) (o : Option Entry) → AreApart key slots → ((e : Entry) → o ≡ Some e → (k : ℕ) (other : Entry) → k ≢ i → entry_in slots k ≡ Some other → key e ≢ key other) → AreApart key (set slots i o)
  apart-set slots i o apart new = ⊎_elim inside outside (cases_lt i (length slots))
    where
      outside : length slots ≤ i → AreApart key (set slots i o)
      outside past = subst (AreApart key) (sym (set_past slots i o past)) apart

      inside : i < length slots → AreApart key (set slots i o)
      inside within j k one other at_j at_k same =
          let there : (n : ℕ) → n ≢ i → entry_in (set slots i o) n ≡ entry_in slots n = λ n ne. get_or-set_other slots i n o None ne in
          let here : (n : ℕ) → n ≡ i → entry_in (set slots i o) n ≡ o = λ n at. ap (entry_in (set slots i o)) at ∙ get_or-set_same slots i o None within in
          ⊎_elim
          (λ (j_at : j ≡ i). ⊎_elim
          (λ (k_at : k ≡ i). j_at ∙ sym k_at)
          (λ (k_ne : k ≢ i). absurd (new one (sym (here j j_at) ∙ at_j) k other k_ne (sym (there k k_ne) ∙ at_k) same))
          (cases_eq k i))
          (λ (j_ne : j ≢ i). ⊎_elim
          (λ (k_at : k ≡ i). absurd (new other (sym (here k k_at) ∙ at_k) j one j_ne (sym (there j j_ne) ∙ at_j) (sym same)))
          (λ (k_ne : k ≢ i). apart j k one other (sym (there j j_ne) ∙ at_j) (sym (there k k_ne) ∙ at_k) same)
          (cases_eq k i))
          (cases_eq j i)

  -- the key of what was there, or a new one
  pub apart-same : (slots : Slots) (i : ℕ) (one other : Entry) → AreApart key slots → entry_in slots i ≡ Some one → key other ≡ key one → AreApart key (set slots i (Some other))
  apart-same slots i one other apart is same = apart-set slots i (Some other) apart
      (λ e e_is k third ne at e_same. ne (sym (apart i k one third is at (sym same ∙ (ap (λ (o : Option Entry). key (unwrap_or o other)) e_is ∙ e_same)))))

  -- a key that nobody has
  pub apart-put : (slots : Slots) (i : ℕ) (e : Entry) → AreApart key slots → slot_of key (key e) slots ≡ None → AreApart key (set slots i (Some e))
  apart-put slots i e apart new = apart-set slots i (Some e) apart
      (λ one one_is k other ne at same. slot_of-None (key e) slots new k other (within_at slots k other at) at (sym (ap (λ (o : Option Entry). key (unwrap_or o e)) one_is ∙ same)))

  -- none at all
  pub apart-drop : (slots : Slots) (i : ℕ) → AreApart key slots → AreApart key (set slots i None)
  apart-drop slots i apart = apart-set slots i None apart (λ e e_is. absurd (none-some e e_is))
