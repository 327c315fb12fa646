-- The list, opened with domains one after the other.
use Rattle.std.proofs.Common.{◌≡◌, ℕ, ◌+◌, ◌-◌, ◌<◌, ◌≤◌, List, [], ◌∷◌, ◌++◌, length, length-append, length-take-le, get_or, set, take, map, replicate, true, Option, None, Some, refl, sym, ap, ◌∙◌, subst, ⊎_elim, append_assoc, zero, suc, arith}
use Rattle.std.specs.Option.{unwrap_or}
use Rattle.std.proofs.lemmas.Bool.{cases_lt}
use Rattle.std.proofs.lemmas.Option.{none-some}
use Rattle.std.proofs.lemmas.List.{length-map, map-append, length-replicate, get_or-replicate, get_or_append_left, get_or-append_right, get_or-take, take_more, set_at, get_or_past, get_or-map}
use Rattle.book_spec.specs.declared.list.Entry.{Entry}
use Rattle.book_spec.specs.ListHistory.{slots_of}
use Rattle.book_spec.specs.Slots.{Slots, entry_in, free_slots, holds_of, new_entry, no_holds, slot_of, name_of, times_held, uuid_of}
use Rattle.book_spec.proofs.SlotProofs.{slot_of-Some}
use Rattle.object_list.specs.declared.slot_name.FoundDomain.{FoundDomain}
use Rattle.object_list.specs.Opening.{opened, opened_entry, AreDistinct, CanOpen}
use Rattle.object_list.specs.Table.{IsNew}
use Rattle.object_list.proofs.Tables.{nothing}

abbrev put_in : FoundDomain → Option Entry
put_in domain = Some (opened_entry domain)

abbrev rest : List FoundDomain → ℕ
rest ds = 256 - length ds

pub length-opened : (ds : List FoundDomain) → length ds ≤ 256 → length (opened ds) ≡ 256
unfolding opened
length-opened ds few = omega (arith, length-append (map put_in ds) (replicate (rest ds) nothing), length-map ds put_in, length-replicate (rest ds) nothing, few)

-- past the domains there is nothing
past-opened : (ds : List FoundDomain) (j : ℕ) → length ds ≤ j → entry_in (opened ds) j ≡ None
unfolding opened
past-opened ds j past =
    let n : length (map put_in ds) ≡ length ds = length-map ds put_in in
    get_or-append_right (map put_in ds) (replicate (rest ds) nothing) (length ds) j nothing n past
    ∙ ⊎_elim
    (λ (lt : j - length ds < rest ds). get_or-replicate (rest ds) (j - length ds) nothing nothing lt)
    (λ (le : rest ds ≤ j - length ds). get_or_past (replicate (rest ds) nothing) (j - length ds) nothing (subst (λ (k : ℕ). k ≤ j - length ds) (sym (length-replicate (rest ds) nothing)) le))
    (cases_lt (j - length ds) (rest ds))

-- what is in a slot is a domain that was found
opened-at : (ds : List FoundDomain) (j : ℕ) (e : Entry) (d : FoundDomain) → entry_in (opened ds) j ≡ Some e → (j < length ds) × (e ≡ opened_entry (get_or ds j d))
unfolding opened
opened-at ds j e d at = ⊎_elim
    (λ (lt : j < length ds).
    let here : entry_in (opened ds) j ≡ put_in (get_or ds j d) = get_or_append_left (map put_in ds) (replicate (rest ds) nothing) nothing j (subst (λ (k : ℕ). j < k) (sym (length-map ds put_in)) lt) ∙ get_or-map put_in ds j d nothing lt in
    (lt, ap (λ (o : Option Entry). unwrap_or o e) (sym at ∙ here)))
    (λ (past : length ds ≤ j). absurd (none-some e (sym (past-opened ds j past) ∙ at)))
    (cases_lt j (length ds))

-- one domain more
opened-more : (ds : List FoundDomain) (d : FoundDomain) → length ds < 256 → set (opened ds) (length ds) (put_in d) ≡ opened (ds ++ d ∷ [])
unfolding opened
opened-more ds d few =
    let m : ℕ = 255 - length ds in
    let one : rest ds ≡ suc m = omega (arith, few) in
    let less : rest (ds ++ d ∷ []) ≡ m = omega (arith, length-append ds (d ∷ []), few) in
    ap (λ (k : ℕ). set (map put_in ds ++ replicate k nothing) (length ds) (put_in d)) one
    ∙ (set_at (map put_in ds) nothing (replicate m nothing) (put_in d) (length ds) (length-map ds put_in)
    ∙ (sym (append_assoc (map put_in ds) (put_in d ∷ []) (replicate m nothing))
    ∙ (λ i. sym (map-append put_in ds (d ∷ [])) i ++ replicate (sym less i) nothing)))

module _ (found : List FoundDomain) (i : ℕ) (d : FoundDomain) (can : CanOpen found) (within : i < length found) where
  abbrev before : List FoundDomain
  before = take i found

  length-before : length before ≡ i
  length-before = length-take-le i found (omega (arith, within))

  -- the next slot is free, and the next domain is new
  none-before : (key : Entry → List ℕ) (of : FoundDomain → List ℕ) → AreDistinct of found → ((x : FoundDomain) → key (opened_entry x) ≡ of x) → (o : Option ℕ) → slot_of key (of (get_or found i d)) (opened before) ≡ o → o ≡ None
  none-before key of distinct same None is = refl
  none-before key of distinct same (Some j) is =
      let at = slot_of-Some key (of (get_or found i d)) (opened before) j is in
      let stands = opened-at before j at.1 d at.2 in
      let lt : j < i = subst (λ (k : ℕ). j < k) length-before stands.0 in
      let there : of (get_or found j d) ≡ of (get_or found i d) = ap of (sym (get_or-take i found j d lt)) ∙ (sym (same (get_or before j d)) ∙ (ap key (sym stands.1) ∙ at.3)) in
      absurd (omega (arith, lt, distinct j i d (omega (arith, lt, within)) within there))

  pub opened-new : IsNew i (get_or found i d).name (get_or found i d).uuid (opened before)
  opened-new = record {
    within = omega (arith, length-opened before (omega (arith, length-before, within, can.few)), within, can.few);
    free = past-opened before i (omega (arith, length-before));
    name_is_new = none-before name_of (λ x. x.name) can.names (λ x. refl) (slot_of name_of (get_or found i d).name (opened before)) refl;
    uuid_is_new = none-before uuid_of (λ x. x.uuid) can.uuids (λ x. refl) (slot_of uuid_of (get_or found i d).uuid (opened before)) refl;
  }

  pub opened-next : (new : Slots) → new ≡ set (opened before) i (put_in (get_or found i d)) → new ≡ opened (take (i + 1) found)
  opened-next new is = is ∙ (ap (λ (k : ℕ). set (opened before) k (put_in (get_or found i d))) (sym length-before) ∙ (opened-more before (get_or found i d) (omega (arith, length-before, within, can.few)) ∙ ap opened (sym (take_more found i d within))))

pub opened-none : opened [] ≡ free_slots
unfolding opened free_slots
opened-none = refl

-- a domain that is put into the next slot
module _ (found : List FoundDomain) (i : ℕ) (d : FoundDomain) (can : CanOpen found) (within : i < length found) (name : List ℕ) (row : Entry) (table : Slots) (copied : name ≡ d.name) (is : row ≡ record (new_entry name d.uuid) { occupied = true }) (at : d ≡ get_or found i d) (so_far : table ≡ opened (take i found)) where
  row_is : row ≡ opened_entry (get_or found i d)
  row_is = is ∙ (ap (λ (n : List ℕ). record (new_entry n d.uuid) { occupied = true }) copied ∙ ap opened_entry at)

  pub next-new : IsNew i row.name row.uuid table
  next-new = subst (λ (x : Entry × Slots). IsNew i x.0.name x.0.uuid x.1) (λ j. (sym row_is j, sym so_far j)) (opened-new found i d can within)

  pub next-opened : (new : Slots) → new ≡ set table i (Some row) → new ≡ opened (take (i + 1) found)
  next-opened new put = opened-next found i d can within new (put ∙ (λ j. set (so_far j) i (Some (row_is j))))

-- nobody holds what was found
zeros_only : (number : ℕ) (k : ℕ) → map (times_held number) (replicate k nothing) ≡ replicate k 0
zeros_only number zero = refl
zeros_only number (suc k) = ap (λ (l : List ℕ). 0 ∷ l) (zeros_only number k)

zeros_after : (number : ℕ) (ds : List FoundDomain) (k : ℕ) → map (times_held number) (map put_in ds ++ replicate k nothing) ≡ replicate (length ds + k) 0
zeros_after number [] k = zeros_only number k ∙ ap (λ (n : ℕ). replicate n 0) (omega arith)
zeros_after number (d ∷ ds) k =
    let one : suc (length ds + k) ≡ length (d ∷ ds) + k = omega arith in
    ap (λ (l : List ℕ). 0 ∷ l) (zeros_after number ds k) ∙ ap (λ (n : ℕ). replicate n 0) one

pub nobody_holds : (number : ℕ) (ds : List FoundDomain) → length ds ≤ 256 → holds_of number (slots_of (record { chapter = 0; base = opened ds; marks = [] })) ≡ no_holds
unfolding slots_of holds_of opened no_holds
nobody_holds number ds few =
    let all : length ds + rest ds ≡ 256 = omega (arith, few) in
    zeros_after number ds (rest ds) ∙ ap (λ (k : ℕ). replicate k 0) all
