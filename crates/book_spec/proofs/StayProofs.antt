-- Names and identifiers stay apart, whatever is called.
use Rattle.std.proofs.Common.{◌≡◌, ◌⊎◌, ℕ, ◌<◌, ◌==◌, ◌&&◌, not, Bool, true, false, cond, List, length, length-set, get_or, set, bytes_eq, option_map, is_none, Option, None, Some, Result, Ok, Err, refl, sym, ap, ◌∙◌, subst, inl, inr, ⊎_elim, replicate, arith}
use Rattle.std.proofs.lemmas.Bool.{cond_both, false≢true}
use Rattle.std.proofs.lemmas.Option.{none-some}
use Rattle.std.proofs.lemmas.List.{length-replicate, get_or-replicate}
use Rattle.std.proofs.lemmas.List.Quantifiers.{position-Some}
use Rattle.virt_types.specs.Front.{is_longer}
use Rattle.virt_types.specs.Limits.{most_domains}
use Rattle.virt_types.specs.Below.types_base.declared.caller.Front.{Front}
use Rattle.book_spec.specs.declared.list.Entry.{Entry}
use Rattle.book_spec.specs.declared.list.ListCall.{ListCall}
use Rattle.book_spec.specs.declared.list.ListCall.TheVariants as call
use Rattle.book_spec.specs.declared.list.ListFault.{ListFault}
use Rattle.book_spec.specs.Slots.{Slots, AreSlots, AreApart, entry_in, slot_of, name_of, uuid_of, least_free_slot, free_slots, new_entry, held_by, told, let_go_by, kept, released}
use Rattle.book_spec.specs.ListCalls.{answer, slots_after, entry_after, entry_or_new, found, claimed, claim_held, claim_of_other, claim_new}
use Rattle.book_spec.specs.ListLaws.{FreeAreSlots, SlotsStay}
use Rattle.book_spec.proofs.SlotProofs.{within_at, slot_of-Some, apart-same, apart-put, apart-drop}

-- an entry takes the place of one of the same name and identifier
pub slots-same : (slots : Slots) (i : ℕ) (one other : Entry) → AreSlots slots → entry_in slots i ≡ Some one → other.name ≡ one.name → other.uuid ≡ one.uuid → AreSlots (set slots i (Some other))
slots-same slots i one other are is name uuid = record {
  count = length-set slots i (Some other) ∙ are.count;
  names = apart-same name_of slots i one other are.names is name;
  uuids = apart-same uuid_of slots i one other are.uuids is uuid;
}

pub slots-put : (slots : Slots) (i : ℕ) (e : Entry) → AreSlots slots → slot_of name_of e.name slots ≡ None → slot_of uuid_of e.uuid slots ≡ None → AreSlots (set slots i (Some e))
slots-put slots i e are name uuid = record {
  count = length-set slots i (Some e) ∙ are.count;
  names = apart-put name_of slots i e are.names name;
  uuids = apart-put uuid_of slots i e are.uuids uuid;
}

pub slots-drop : (slots : Slots) (i : ℕ) → AreSlots slots → AreSlots (set slots i None)
slots-drop slots i are = record {
  count = length-set slots i None ∙ are.count;
  names = apart-drop name_of slots i are.names;
  uuids = apart-drop uuid_of slots i are.uuids;
}

-- a release changes neither the name nor the identifier
told-name : (front : Front) (occupied : Bool) (e : Entry) → (told front occupied e).name ≡ e.name
told-name front occupied e = cond_both (is_longer front e.front) (record e { front = front; occupied = occupied }) e (λ (x : Entry). x.name ≡ e.name) (λ _. refl) (λ _. refl)

told-uuid : (front : Front) (occupied : Bool) (e : Entry) → (told front occupied e).uuid ≡ e.uuid
told-uuid front occupied e = cond_both (is_longer front e.front) (record e { front = front; occupied = occupied }) e (λ (x : Entry). x.uuid ≡ e.uuid) (λ _. refl) (λ _. refl)

pub slots-released : (number : ℕ) (front : Front) (occupied : Bool) (slots : Slots) (i : ℕ) (o : Option Entry) → AreSlots slots → entry_in slots i ≡ o → AreSlots (set slots i (released number front occupied o))
slots-released number front occupied slots i None are is = slots-drop slots i are
slots-released number front occupied slots i (Some e) are is =
    let left : Entry = told front occupied (let_go_by number e) in
    cond_both ((length left.holders == 0) && not left.occupied) None (Some left) (λ (x : Option Entry). AreSlots (set slots i x))
    (λ _. slots-drop slots i are)
    (λ _. slots-same slots i e left are is (told-name front occupied (let_go_by number e)) (told-uuid front occupied (let_go_by number e)))

-- a slot that was found is held once more
held-found : (number : ℕ) (key : Entry → List ℕ) (q : List ℕ) (slots : Slots) (c : ListCall) (o : Option ℕ) → AreSlots slots → ((e : Entry) → entry_after number c (Some e) ≡ Some (held_by number e)) → slot_of key q slots ≡ o → AreSlots (slots_after number c (found o) slots)
held-found number key q slots c None are held is = are
held-found number key q slots c (Some slot) are held is =
    let at = slot_of-Some key q slots slot is in
    subst (λ (x : Option Entry). AreSlots (set slots slot x)) (sym (ap (entry_after number c) at.2 ∙ held at.1))
    (slots-same slots slot at.1 (held_by number at.1) are at.2 refl refl)

module _ (number : ℕ) (name uuid : List ℕ) (slots : Slots) (are : AreSlots slots) where
  abbrev after : Result ℕ ListFault → Slots
  after given = slots_after number (call.Claim name uuid) given slots

  claimed-new : (o : Option ℕ) → least_free_slot slots ≡ o → slot_of name_of name slots ≡ None → slot_of uuid_of uuid slots ≡ None → AreSlots (after (claim_new o))
  unfolding least_free_slot
  claimed-new None is no_name no_uuid = are
  claimed-new (Some slot) is no_name no_uuid =
      let free = position-Some is_none slots slot None is in
      let empty : (x : Option Entry) → is_none x ≡ true → x ≡ None = none_is in
      subst (λ (x : Option Entry). AreSlots (set slots slot (entry_after number (call.Claim name uuid) x))) (sym (empty (entry_in slots slot) free.1))
      (slots-put slots slot (held_by number (new_entry name uuid)) are no_name no_uuid)
    where
      none_is : (x : Option Entry) → is_none x ≡ true → x ≡ None
      none_is None e = refl
      none_is (Some x) e = absurd (false≢true e)

  claimed-other : (slot : ℕ) (x : Option Entry) → AreSlots (after (claim_of_other x))
  claimed-other slot None = are
  claimed-other slot (Some e) = are

  claimed-held : (slot : ℕ) (x : Option Entry) → entry_in slots slot ≡ x → AreSlots (after (claim_held uuid slot x))
  claimed-held slot None is = are
  claimed-held slot (Some e) is =
      cond_both (bytes_eq e.uuid uuid) (Ok slot) (Err (Rattle.book_spec.specs.declared.list.ListFault.TheVariants.Exists e.name e.uuid)) (λ (r : Result ℕ ListFault). AreSlots (after r))
      (λ _. subst (λ (x : Option Entry). AreSlots (set slots slot (entry_after number (call.Claim name uuid) x))) (sym is) (slots-same slots slot e (held_by number e) are is refl refl))
      (λ _. are)

  claimed-any : (of_name of_uuid : Option ℕ) → slot_of name_of name slots ≡ of_name → slot_of uuid_of uuid slots ≡ of_uuid → AreSlots (after (claimed uuid slots of_name of_uuid))
  claimed-any (Some slot) of_uuid is_name is_uuid = claimed-held slot (entry_in slots slot) refl
  claimed-any None (Some slot) is_name is_uuid = claimed-other slot (entry_in slots slot)
  claimed-any None None is_name is_uuid = claimed-new (least_free_slot slots) refl is_name is_uuid

pub slots_stay : SlotsStay
unfolding answer
slots_stay number (call.HoldName name) slots are = held-found number name_of name slots (call.HoldName name) (slot_of name_of name slots) are (λ e. refl) refl
slots_stay number (call.HoldUuid uuid) slots are = held-found number uuid_of uuid slots (call.HoldUuid uuid) (slot_of uuid_of uuid slots) are (λ e. refl) refl
slots_stay number (call.Claim name uuid) slots are = claimed-any number name uuid slots are (slot_of name_of name slots) (slot_of uuid_of uuid slots) refl refl
slots_stay number (call.Release slot front occupied) slots are = slots-released number front occupied slots slot (entry_in slots slot) are refl

abbrev nothing : Option Entry
nothing = None

free_apart : (key : Entry → List ℕ) → AreApart key (replicate most_domains nothing)
free_apart key i j one other at_i at_j same =
    let free : Slots = replicate most_domains nothing in
    absurd (none-some one (sym (get_or-replicate most_domains i nothing nothing (subst (λ (n : ℕ). i < n) (length-replicate most_domains nothing) (within_at free i one at_i))) ∙ at_i))

pub free_are_slots : FreeAreSlots
unfolding free_slots
free_are_slots = record {
  count = length-replicate most_domains nothing;
  names = free_apart name_of;
  uuids = free_apart uuid_of;
}
