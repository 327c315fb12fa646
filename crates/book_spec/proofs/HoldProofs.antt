-- How often each number holds each slot, after a call.
use Rattle.std.proofs.Common.{◌≡◌, ◌≢◌, ◌⊎◌, ℕ, ◌+◌, ◌<◌, ◌==◌, ◌&&◌, not, Bool, true, false, cond, eqb, List, [], ◌∷◌, length, get_or, set, map, bytes_eq, is_none, filter, option_map, Option, None, Some, Result, Ok, Err, is_ok, zero, suc, ◌≤◌, refl, sym, ap, ◌∙◌, subst, inl, inr, ⊎_elim, eq-eqb, ne_eqb, eqb-true, slice_index, arith}
use Rattle.std.proofs.Math.Seq.{map-set_same}
use Rattle.std.proofs.lemmas.Bool.{cond_both, cases_eq, cases_lt, and_parts, false≢true}
use Rattle.std.proofs.lemmas.List.{length-map, map-set, get_or-set_same, get_or_past, set-set, set-get_or}
use Rattle.std.proofs.lemmas.List.Quantifiers.{position-Some}
use Rattle.history_spec.specs.Tally.{one_fewer}
use Rattle.virt_types.specs.Front.{is_longer}
use Rattle.virt_types.specs.Limits.{most_domains}
use Rattle.virt_types.specs.Below.types_base.declared.caller.Front.{Front}
use Rattle.book_spec.specs.declared.list.Entry.{Entry}
use Rattle.book_spec.specs.declared.list.ListCall.{ListCall}
use Rattle.book_spec.specs.declared.list.ListCall.TheVariants as call
use Rattle.book_spec.specs.declared.list.ListFault.{ListFault}
use Rattle.book_spec.specs.declared.list.ListFault.TheVariants as fault
use Rattle.book_spec.specs.Slots.{Slots, entry_in, least_free_slot, slot_of, name_of, uuid_of, held_by, told, let_go_by, kept, released, times_held, holds_of}
use Rattle.book_spec.specs.ListCalls.{answer, slots_after, entry_after, claimed, claim_held, claim_new, claim_of_other, found, IsHold}
use Rattle.book_spec.specs.ListLaws.{OthersHoldTheSame, HoldsMore, HoldsAdd, GivenIsHeld, ReleaseUndoes}
use Rattle.book_spec.proofs.SlotProofs.{slot_of-Some}

abbrev times : ℕ → List ℕ → ℕ
times number ns = length (filter (λ n. n == number) ns)

times-cons_same : (number n : ℕ) (ns : List ℕ) → n ≡ number → times number (n ∷ ns) ≡ times number ns + 1
times-cons_same number n ns is = ap (λ (b : Bool). length (cond b (n ∷ filter (λ m. m == number) ns) (filter (λ m. m == number) ns))) (eq-eqb n number is) ∙ omega arith

times-cons_other : (number n : ℕ) (ns : List ℕ) → n ≢ number → times number (n ∷ ns) ≡ times number ns
times-cons_other number n ns ne = ap (λ (b : Bool). length (cond b (n ∷ filter (λ m. m == number) ns) (filter (λ m. m == number) ns))) (ne_eqb n number ne)

-- one fewer of a number is no fewer of another
times-fewer_other : (number other : ℕ) (ns : List ℕ) → other ≢ number → times other (one_fewer number ns) ≡ times other ns
times-fewer_other number other [] ne = refl
times-fewer_other number other (n ∷ ns) ne = ⊎_elim
    (λ (is : n ≡ number). ap (λ (b : Bool). times other (cond b ns (n ∷ one_fewer number ns))) (eq-eqb n number is) ∙ sym (times-cons_other other n ns (λ e. ne (sym e ∙ is))))
    (λ (differs : n ≢ number). ap (λ (b : Bool). times other (cond b ns (n ∷ one_fewer number ns))) (ne_eqb n number differs)
    ∙ ap (λ (k : ℕ). k) (cons_same n (one_fewer number ns) ns (times-fewer_other number other ns ne)))
    (cases_eq n number)
  where
    cons_same : (n : ℕ) (xs ys : List ℕ) → times other xs ≡ times other ys → times other (n ∷ xs) ≡ times other (n ∷ ys)
    cons_same n xs ys same = ⊎_elim
        (λ (is : n ≡ other). times-cons_same other n xs is ∙ (ap (λ (k : ℕ). k + 1) same ∙ sym (times-cons_same other n ys is)))
        (λ (differs : n ≢ other). times-cons_other other n xs differs ∙ (same ∙ sym (times-cons_other other n ys differs)))
        (cases_eq n other)

times-fewer : (number : ℕ) (ns : List ℕ) → 0 < times number ns → times number (one_fewer number ns) + 1 ≡ times number ns
times-fewer number [] some = absurd (omega (arith, some))
times-fewer number (n ∷ ns) some = ⊎_elim
    (λ (is : n ≡ number). ap (λ (b : Bool). times number (cond b ns (n ∷ one_fewer number ns)) + 1) (eq-eqb n number is) ∙ sym (times-cons_same number n ns is))
    (λ (differs : n ≢ number). ap (λ (b : Bool). times number (cond b ns (n ∷ one_fewer number ns)) + 1) (ne_eqb n number differs)
    ∙ (ap (λ (k : ℕ). k + 1) (times-cons_other number n (one_fewer number ns) differs)
    ∙ (times-fewer number ns (subst (λ (k : ℕ). 0 < k) (times-cons_other number n ns differs) some) ∙ sym (times-cons_other number n ns differs))))
    (cases_eq n number)

times-none : (number : ℕ) (ns : List ℕ) → length ns ≡ 0 → times number ns ≡ 0
times-none number [] is = refl
times-none number (n ∷ ns) is = absurd (omega (arith, is))

-- a slot that is given free was held by nobody
times-kept : (number : ℕ) (e : Entry) → times_held number (kept e) ≡ times number e.holders
times-kept number e = cond_both ((length e.holders == 0) && not e.occupied) None (Some e) (λ (x : Option Entry). times_held number x ≡ times number e.holders)
    (λ is. sym (times-none number e.holders (eqb-true (length e.holders) 0 (and_parts (length e.holders == 0) (not e.occupied) is).0)))
    (λ _. refl)

told-holders : (front : Front) (occupied : Bool) (e : Entry) → (told front occupied e).holders ≡ e.holders
told-holders front occupied e = cond_both (is_longer front e.front) (record e { front = front; occupied = occupied }) e (λ (x : Entry). x.holders ≡ e.holders) (λ _. refl) (λ _. refl)

times-released : (number one : ℕ) (front : Front) (occupied : Bool) (e : Entry) → times_held one (released number front occupied (Some e)) ≡ times one (one_fewer number e.holders)
times-released number one front occupied e = times-kept one (told front occupied (let_go_by number e)) ∙ ap (times one) (told-holders front occupied (let_go_by number e))

-- what another number holds stays
times-others : (number other : ℕ) (c : ListCall) (o : Option Entry) → other ≢ number → times_held other (entry_after number c o) ≡ times_held other o
times-others number other (call.HoldName name) None ne = refl
times-others number other (call.HoldName name) (Some e) ne = times-cons_other other number e.holders (λ is. ne (sym is))
times-others number other (call.HoldUuid uuid) None ne = refl
times-others number other (call.HoldUuid uuid) (Some e) ne = times-cons_other other number e.holders (λ is. ne (sym is))
times-others number other (call.Claim name uuid) None ne = times-cons_other other number [] (λ is. ne (sym is))
times-others number other (call.Claim name uuid) (Some e) ne = times-cons_other other number e.holders (λ is. ne (sym is))
times-others number other (call.Release slot front occupied) None ne = refl
times-others number other (call.Release slot front occupied) (Some e) ne = times-released number other front occupied e ∙ times-fewer_other number other e.holders ne

pub others_hold_the_same : OthersHoldTheSame
unfolding holds_of
others_hold_the_same number other c (Err e) slots ne = refl
others_hold_the_same number other c (Ok slot) slots ne = map-set_same (times_held other) slots slot (entry_after number c (entry_in slots slot)) None (times-others number other c (entry_in slots slot) ne)

-- the holds of a number at a slot
pub holds-at : (number : ℕ) (slots : Slots) (slot : ℕ) → get_or (map (times_held number) slots) slot 0 ≡ times_held number (entry_in slots slot)
holds-at number [] slot = refl
holds-at number (x ∷ xs) zero = refl
holds-at number (x ∷ xs) (suc slot) = holds-at number xs slot

-- one hold more at a slot
more_at : (number slot : ℕ) (slots : Slots) (x : Option Entry) → times_held number x ≡ times_held number (entry_in slots slot) + 1 → HoldsMore number slot slots (set slots slot x)
unfolding holds_of
more_at number slot slots x more = map-set (times_held number) slots slot x ∙ ap (set (map (times_held number) slots) slot) (more ∙ ap (λ (k : ℕ). k + 1) (sym (holds-at number slots slot)))

abbrev ok_or_zero : Result ℕ ListFault → ℕ
ok_or_zero (Ok n) = n
ok_or_zero (Err e) = 0

more_found : (number slot : ℕ) (key : Entry → List ℕ) (q : List ℕ) (slots : Slots) (c : ListCall) (o : Option ℕ) → ((e : Entry) → entry_after number c (Some e) ≡ Some (held_by number e)) → slot_of key q slots ≡ o → found o ≡ Ok slot → HoldsMore number slot slots (slots_after number c (Ok slot) slots)
more_found number slot key q slots c None held is given = absurd (false≢true (ap (λ (r : Result ℕ ListFault). is_ok r) given))
more_found number slot key q slots c (Some there) held is given =
    let at = slot_of-Some key q slots there is in
    let same : there ≡ slot = ap (λ (r : Result ℕ ListFault). ok_or_zero r) given in
    let here : entry_in slots slot ≡ Some at.1 = ap (entry_in slots) (sym same) ∙ at.2 in
    more_at number slot slots (entry_after number c (entry_in slots slot))
    (ap (λ (x : Option Entry). times_held number (entry_after number c x)) here ∙ (ap (times_held number) (held at.1) ∙ (times-cons_same number number at.1.holders refl ∙ ap (λ (x : Option Entry). times_held number x + 1) (sym here))))

times-claimed : (number : ℕ) (name uuid : List ℕ) (o : Option Entry) → times_held number (entry_after number (call.Claim name uuid) o) ≡ times_held number o + 1
times-claimed number name uuid None = times-cons_same number number [] refl
times-claimed number name uuid (Some e) = times-cons_same number number e.holders refl

pub holds_add : HoldsAdd
unfolding answer
holds_add number slot (call.HoldName name) slots hold given = more_found number slot name_of name slots (call.HoldName name) (slot_of name_of name slots) (λ e. refl) refl given
holds_add number slot (call.HoldUuid uuid) slots hold given = more_found number slot uuid_of uuid slots (call.HoldUuid uuid) (slot_of uuid_of uuid slots) (λ e. refl) refl given
holds_add number slot (call.Claim name uuid) slots hold given = more_at number slot slots (entry_after number (call.Claim name uuid) (entry_in slots slot)) (times-claimed number name uuid (entry_in slots slot))
holds_add number slot (call.Release s front occupied) slots hold given = absurd hold

-- what was given is one of the slots
module _ (slots : Slots) (slot : ℕ) where
  abbrev Gives : Result ℕ ListFault → Type 0
  Gives r = r ≡ Ok slot

  never : (e : ListFault) → Gives (Err e) → slot < length slots
  never e given = absurd (false≢true (ap (λ (r : Result ℕ ListFault). is_ok r) given))

  given_here : (there : ℕ) → there < length slots → Gives (Ok there) → slot < length slots
  given_here there within given = subst (λ (n : ℕ). n < length slots) (ap (λ (r : Result ℕ ListFault). ok_or_zero r) given) within

  found_within : (key : Entry → List ℕ) (q : List ℕ) (o : Option ℕ) → slot_of key q slots ≡ o → Gives (found o) → slot < length slots
  found_within key q None is given = never fault.Absent given
  found_within key q (Some there) is given = given_here there (slot_of-Some key q slots there is).0 given

  held_within : (uuid : List ℕ) (there : ℕ) (o : Option Entry) → there < length slots → Gives (claim_held uuid there o) → slot < length slots
  held_within uuid there None within given = never fault.Absent given
  held_within uuid there (Some e) within given = cond_both (bytes_eq e.uuid uuid) (Ok there) (Err (fault.Exists e.name e.uuid)) (λ (r : Result ℕ ListFault). Gives r → slot < length slots)
      (λ _ here. given_here there within here) (λ _ err. never (fault.Exists e.name e.uuid) err) given

  other_within : (o : Option Entry) → Gives (claim_of_other o) → slot < length slots
  other_within None given = never fault.Absent given
  other_within (Some e) given = never (fault.Exists e.name e.uuid) given

  new_within : (o : Option ℕ) → least_free_slot slots ≡ o → Gives (claim_new o) → slot < length slots
  unfolding least_free_slot
  new_within None is given = never (fault.Full most_domains) given
  new_within (Some free) is given = given_here free (position-Some is_none slots free None is).0 given

  claimed_within : (name uuid : List ℕ) (of_name of_uuid : Option ℕ) → slot_of name_of name slots ≡ of_name → Gives (claimed uuid slots of_name of_uuid) → slot < length slots
  claimed_within name uuid (Some there) of_uuid is given = held_within uuid there (entry_in slots there) (slot_of-Some name_of name slots there is).0 given
  claimed_within name uuid None (Some there) is given = other_within (entry_in slots there) given
  claimed_within name uuid None None is given = new_within (least_free_slot slots) refl given

  pub given_within : (c : ListCall) → IsHold c → Gives (answer c slots) → slot < length slots
  unfolding answer
  given_within (call.HoldName name) hold given = found_within name_of name (slot_of name_of name slots) refl given
  given_within (call.HoldUuid uuid) hold given = found_within uuid_of uuid (slot_of uuid_of uuid slots) refl given
  given_within (call.Claim name uuid) hold given = claimed_within name uuid (slot_of name_of name slots) (slot_of uuid_of uuid slots) refl given
  given_within (call.Release s front occupied) hold given = absurd hold

pub given_is_held : GivenIsHeld
unfolding holds_of
given_is_held number slot c slots hold given =
    let holds : List ℕ = map (times_held number) slots in
    let within : slot < length holds = subst (λ (n : ℕ). slot < n) (sym (length-map slots (times_held number))) (given_within slots slot c hold given) in
    let more : get_or (holds_of number (slots_after number c (Ok slot) slots)) slot 0 ≡ get_or holds slot 0 + 1 = ap (λ (l : List ℕ). get_or l slot 0) (holds_add number slot c slots hold given) ∙ get_or-set_same holds slot (get_or holds slot 0 + 1) 0 within in
    omega (arith, more)

fewer_at : (number slot : ℕ) (front : Front) (occupied : Bool) (slots : Slots) (o : Option Entry) → entry_in slots slot ≡ o → 0 < times_held number o → times_held number (released number front occupied o) + 1 ≡ times_held number o
fewer_at number slot front occupied slots None is some = absurd (omega (arith, some))
fewer_at number slot front occupied slots (Some e) is some = ap (λ (k : ℕ). k + 1) (times-released number number front occupied e) ∙ times-fewer number e.holders some

pub release_undoes : ReleaseUndoes
unfolding holds_of
release_undoes number slot front occupied slots some =
    let holds : List ℕ = map (times_held number) slots in
    let x : Option Entry = released number front occupied (entry_in slots slot) in
    let n : ℕ = times_held number x in
    let new : map (times_held number) (set slots slot x) ≡ set holds slot n = map-set (times_held number) slots slot x in
    let within : slot < length holds = ⊎_elim (λ (lt : slot < length holds). lt) (λ (past : length holds ≤ slot). absurd (omega (arith, some, get_or_past holds slot 0 past))) (cases_lt slot (length holds)) in
    let one : n + 1 ≡ get_or holds slot 0 = fewer_at number slot front occupied slots (entry_in slots slot) refl (subst (λ (k : ℕ). 0 < k) (holds-at number slots slot) some) ∙ sym (holds-at number slots slot) in
    sym (ap (λ (l : List ℕ). set l slot (get_or l slot 0 + 1)) new
    ∙ (ap (λ (k : ℕ). set (set holds slot n) slot (k + 1)) (get_or-set_same holds slot n 0 within)
    ∙ (set-set holds slot n (n + 1) ∙ (ap (set holds slot) one ∙ set-get_or holds slot 0))))
