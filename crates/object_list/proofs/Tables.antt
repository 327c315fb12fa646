-- The table, after one of its rows was written.
use Rattle.std.proofs.Common.{◌≡◌, ◌≢◌, ℕ, ◌+◌, ◌<◌, ◌≤◌, ◌^◌, true, false, cond, List, length, set, bytes_eq, is_some, is_none, option_map, position, replicate, ltb, IfSome, IfNone, Option, None, Some, refl, sym, ap, ◌∙◌, subst, ⊎_elim, arith}
use Rattle.std.proofs.lemmas.Bool.{cases_eq, cases_lt, cond-true, lt-ltb, false≢true, true≢false}
use Rattle.std.proofs.lemmas.List.{get_or-set_same, get_or-set_other, get_or_past, set-get_or, get_or-replicate, length-replicate}
use Rattle.std.proofs.lemmas.List.Sums.{sum_by-set, position_or_len_is}
use Rattle.std.proofs.lemmas.List.Folds.{sum_by-replicate}
use Rattle.std.specs.List.{position_or_len}
use Rattle.book_spec.specs.declared.list.Entry.{Entry}
use Rattle.book_spec.specs.Slots.{Slots, AreSlots, entry_in, slot_of, name_of, uuid_of, all_holders, holders_in, holds_of, times_held, held_by, has, least_free_slot, free_slots}
use Rattle.book_spec.proofs.SlotProofs.{within_at, slot_of-same, slot_of-put, slot_of-drop}
use Rattle.book_spec.proofs.StayProofs.{slots-same, slots-put, slots-drop, free_are_slots}
use Rattle.book_spec.proofs.Positions.{position_none}
use Rattle.book_spec.proofs.HoldProofs.{holds-at}
use Rattle.object_list.specs.declared.index.SlotIndex.{SlotIndex}
use Rattle.object_list.specs.FreeSlots.{free_bit, ChangesBit, IsLeastFree, NoneIsFree}
use Rattle.object_list.specs.Index.{slot_at, Updates}
use Rattle.object_list.specs.Table.{vacancy, IsTable, IsNew, Holds, GoesOut, Remains}

-- all holders, after one slot was written
pub all-set : (slots : Slots) (i : ℕ) (o : Option Entry) → i < length slots → all_holders (set slots i o) + holders_in (entry_in slots i) ≡ all_holders slots + holders_in o
unfolding all_holders
all-set slots i o within = sum_by-set holders_in slots i o None within

-- what a slot that is held holds
pub held-some : (number slot : ℕ) (slots : Slots) → Holds number slot slots → (slot < length slots) × (0 < times_held number (entry_in slots slot))
unfolding holds_of
held-some number slot slots some =
    let at : 0 < times_held number (entry_in slots slot) = subst (λ (k : ℕ). 0 < k) (holds-at number slots slot) some in
    (⊎_elim (λ (lt : slot < length slots). lt) (λ (past : length slots ≤ slot). absurd (omega (arith, subst (λ (o : Option Entry). 0 < times_held number o) (get_or_past slots slot None past) at))) (cases_lt slot (length slots)), at)

-- a slot is vacant or not, after one was written
vacant-set : (free new : List ℕ) (rows : Slots) (slot bit : ℕ) (o : Option Entry) → slot < length rows → ((s : ℕ) → s < 256 → free_bit free s ≡ vacancy (entry_in rows s)) → ChangesBit slot bit free new → bit ≡ vacancy o → (s : ℕ) → s < 256 → free_bit new s ≡ vacancy (entry_in (set rows slot o) s)
vacant-set free new rows slot bit o within vacant changes is s lt = ⊎_elim
    (λ (here : s ≡ slot). ap (free_bit new) here ∙ (changes.changed ∙ (is ∙ sym (ap (λ (n : ℕ). vacancy (entry_in (set rows slot o) n)) here ∙ ap vacancy (get_or-set_same rows slot o None within)))))
    (λ (there : s ≢ slot). changes.others s lt there ∙ (vacant s lt ∙ sym (ap vacancy (get_or-set_other rows slot s o None there))))
    (cases_eq s slot)

unchanged : (free : List ℕ) (rows : Slots) (slot : ℕ) (one other : Entry) → slot < length rows → entry_in rows slot ≡ Some one → ((s : ℕ) → s < 256 → free_bit free s ≡ vacancy (entry_in rows s)) → (s : ℕ) → s < 256 → free_bit free s ≡ vacancy (entry_in (set rows slot (Some other)) s)
unchanged free rows slot one other within is vacant s lt = ⊎_elim
    (λ (here : s ≡ slot). ap (free_bit free) here ∙ (vacant slot (subst (λ (n : ℕ). n < 256) here lt) ∙ (ap vacancy is ∙ sym (ap (λ (n : ℕ). vacancy (entry_in (set rows slot (Some other)) n)) here ∙ ap vacancy (get_or-set_same rows slot (Some other) None within)))))
    (λ (there : s ≢ slot). vacant s lt ∙ sym (ap vacancy (get_or-set_other rows slot s (Some other) None there)))
    (cases_eq s slot)

module _ (rows : Slots) (by_name by_uuid : SlotIndex) (free : List ℕ) (holders : ℕ) (is : IsTable rows by_name by_uuid free holders) where
  -- an entry took the place of one of its name and identifier
  pub table-same : (slot : ℕ) (one other : Entry) (count : ℕ) → entry_in rows slot ≡ Some one → other.name ≡ one.name → other.uuid ≡ one.uuid → count ≡ all_holders (set rows slot (Some other)) → count ≤ 2 ^ 62 → IsTable (set rows slot (Some other)) by_name by_uuid free count
  table-same slot one other count at name uuid counts fits = record {
    slots = slots-same rows slot one other is.slots at name uuid;
    names = λ q. is.names q ∙ sym (slot_of-same name_of q rows slot one other at name);
    uuids = λ q. is.uuids q ∙ sym (slot_of-same uuid_of q rows slot one other at uuid);
    vacant = unchanged free rows slot one other (within_at rows slot one at) at is.vacant;
    counted = counts;
    most = omega (arith, counts, fits);
  }

  -- what is in a slot is held once more
  pub table-held : (number slot : ℕ) (new : Slots) (e : Entry) → entry_in rows slot ≡ Some e → all_holders rows < 2 ^ 62 → new ≡ set rows slot (option_map (held_by number) (entry_in rows slot)) → IsTable new by_name by_uuid free (holders + 1)
  table-held number slot new e at room new_is =
      let held : Option Entry = Some (held_by number e) in
      let counts : holders + 1 ≡ all_holders (set rows slot held) = omega (arith, is.counted, all-set rows slot held (within_at rows slot e at), ap holders_in at) in
      subst (λ (x : Slots). IsTable x by_name by_uuid free (holders + 1)) (sym (new_is ∙ ap (λ (o : Option Entry). set rows slot (option_map (held_by number) o)) at))
      (table-same slot e (held_by number e) (holders + 1) at refl refl counts (omega (arith, is.counted, room)))

  -- nothing is there
  pub table-not_held : (number slot : ℕ) (new : Slots) → entry_in rows slot ≡ None → new ≡ set rows slot (option_map (held_by number) (entry_in rows slot)) → IsTable new by_name by_uuid free holders
  table-not_held number slot new at new_is =
      subst (λ (x : Slots). IsTable x by_name by_uuid free holders) (sym (new_is ∙ (ap (λ (o : Option Entry). set rows slot (option_map (held_by number) o)) at ∙ (ap (set rows slot) (sym at) ∙ set-get_or rows slot None)))) is

  -- a domain was put into a free slot
  pub table-put : (slot : ℕ) (e : Entry) (new : Slots) (names uuids : SlotIndex) (left : List ℕ) → IsNew slot e.name e.uuid rows → all_holders rows + length e.holders ≤ 2 ^ 62 → new ≡ set rows slot (Some e) → Updates e.name (Some slot) by_name names → Updates e.uuid (Some slot) by_uuid uuids → ChangesBit slot 0 free left → IsTable new names uuids left (holders + length e.holders)
  table-put slot e new names uuids left fresh room new_is by_names by_uuids bits =
      let counts : holders + length e.holders ≡ all_holders (set rows slot (Some e)) = omega (arith, is.counted, all-set rows slot (Some e) fresh.within, ap holders_in fresh.free) in
      subst (λ (x : Slots). IsTable x names uuids left (holders + length e.holders)) (sym new_is) (record {
        slots = slots-put rows slot e is.slots fresh.name_is_new fresh.uuid_is_new;
        names = λ q. by_names q ∙ (ap (λ (o : Option ℕ). cond (bytes_eq e.name q) (Some slot) o) (is.names q) ∙ sym (slot_of-put name_of q rows slot e fresh.within fresh.free fresh.name_is_new));
        uuids = λ q. by_uuids q ∙ (ap (λ (o : Option ℕ). cond (bytes_eq e.uuid q) (Some slot) o) (is.uuids q) ∙ sym (slot_of-put uuid_of q rows slot e fresh.within fresh.free fresh.uuid_is_new));
        vacant = vacant-set free left rows slot 0 (Some e) fresh.within is.vacant bits refl;
        counted = counts;
        most = omega (arith, counts, is.counted, room);
      })

  -- what was in a slot was taken out
  pub table-out : (out : Entry) (slot : ℕ) (new : Slots) (names uuids : SlotIndex) (left : List ℕ) (count : ℕ) → GoesOut out slot rows new → Updates out.name None by_name names → Updates out.uuid None by_uuid uuids → ChangesBit slot 1 free left → count + 1 ≡ holders → IsTable new names uuids left count
  table-out out slot new names uuids left count goes by_names by_uuids bits fewer =
      let e : Entry = goes.entry in
      let within : slot < length rows = within_at rows slot e goes.was in
      let counts : count ≡ all_holders new = omega (arith, fewer, is.counted, goes.fewer) in
      record {
        slots = subst AreSlots (sym goes.free) (slots-drop rows slot is.slots);
        names = λ q. by_names q ∙ (λ i. cond (bytes_eq (goes.name_same i) q) None (is.names q i)) ∙ (sym (slot_of-drop name_of q rows slot e is.slots.names within goes.was) ∙ ap (slot_of name_of q) (sym goes.free));
        uuids = λ q. by_uuids q ∙ (λ i. cond (bytes_eq (goes.uuid_same i) q) None (is.uuids q i)) ∙ (sym (slot_of-drop uuid_of q rows slot e is.slots.uuids within goes.was) ∙ ap (slot_of uuid_of q) (sym goes.free));
        vacant = subst (λ (x : Slots). (s : ℕ) → s < 256 → free_bit left s ≡ vacancy (entry_in x s)) (sym goes.free) (vacant-set free left rows slot 1 None within is.vacant bits refl);
        counted = counts;
        most = omega (arith, counts, fewer, is.counted, is.most);
      }

  -- what was in a slot is there still
  pub table-stays : (slot : ℕ) (new : Slots) (count : ℕ) → Remains slot rows new → count + 1 ≡ holders → IsTable new by_name by_uuid free count
  table-stays slot new count stays fewer =
      let counts : count ≡ all_holders new = omega (arith, fewer, is.counted, stays.fewer) in
      subst (λ (x : Slots). IsTable x by_name by_uuid free count) (sym stays.stays)
      (table-same slot stays.entry stays.left count stays.was stays.name_same stays.uuid_same (counts ∙ ap all_holders stays.stays) (omega (arith, fewer, is.counted, is.most)))

  -- by whether something is there
  pub held-table : (number slot : ℕ) (new : Slots) → is_some (entry_in rows slot) ≡ true → all_holders rows < 2 ^ 62 → new ≡ set rows slot (option_map (held_by number) (entry_in rows slot)) → IsTable new by_name by_uuid free (holders + 1)
  held-table number slot new some room new_is = by (entry_in rows slot) refl some
    where
      by : (o : Option Entry) → entry_in rows slot ≡ o → is_some o ≡ true → IsTable new by_name by_uuid free (holders + 1)
      by None at is_there = absurd (false≢true is_there)
      by (Some e) at is_there = table-held number slot new e at room new_is

  pub unheld-table : (number slot : ℕ) (new : Slots) → is_some (entry_in rows slot) ≡ false → new ≡ set rows slot (option_map (held_by number) (entry_in rows slot)) → IsTable new by_name by_uuid free holders
  unheld-table number slot new gone new_is = by (entry_in rows slot) refl gone
    where
      by : (o : Option Entry) → entry_in rows slot ≡ o → is_some o ≡ false → IsTable new by_name by_uuid free holders
      by None at is_gone = table-not_held number slot new at new_is
      by (Some e) at is_gone = absurd (true≢false is_gone)

  -- the least free slot by its bit is that of the rows
  none_at : (o : Option Entry) → vacancy o ≡ 1 → is_none o ≡ true
  none_at None is_vacant = refl
  none_at (Some e) is_vacant = absurd (omega (arith, is_vacant))

  some_at : (o : Option Entry) → vacancy o ≡ 0 → is_none o ≡ false
  some_at None is_vacant = absurd (omega (arith, is_vacant))
  some_at (Some e) is_vacant = refl

  pub least-table : (slot : Option ℕ) → IfSome slot (IsLeastFree free) → IfNone slot (NoneIsFree free) → slot ≡ least_free_slot rows
  unfolding least_free_slot
  least-table None some none = sym (position_none is_none None rows (λ k lt. let within : k < 256 = omega (arith, lt, is.slots.count) in some_at (entry_in rows k) (sym (is.vacant k within) ∙ none k within)))
  least-table (Some slot) some none =
      let first : position_or_len is_none rows ≡ slot = position_or_len_is is_none rows slot None (omega (arith, some.within, is.slots.count)) (λ k lt. let within : k < 256 = omega (arith, lt, some.within) in some_at (entry_in rows k) (sym (is.vacant k within) ∙ some.least k lt)) (λ lt. none_at (entry_in rows slot) (sym (is.vacant slot some.within) ∙ some.free)) in
      sym (ap (λ (n : ℕ). cond (ltb n (length rows)) (Some n) None) first ∙ cond-true (ltb slot (length rows)) (Some slot) None (lt-ltb slot (length rows) (omega (arith, some.within, is.slots.count))))

abbrev pub nothing : Option Entry
nothing = None

-- a table of which every slot is free
pub empty-table : (by_name by_uuid : SlotIndex) (free : List ℕ) → ((q : List ℕ) → slot_at by_name q ≡ None) → ((q : List ℕ) → slot_at by_uuid q ≡ None) → ((s : ℕ) → s < 256 → free_bit free s ≡ 1) → IsTable (replicate 256 None) by_name by_uuid free 0
unfolding free_slots slot_of all_holders
empty-table by_name by_uuid free names uuids bits = record {
  slots = free_are_slots;
  names = λ q. names q ∙ sym (nowhere name_of q);
  uuids = λ q. uuids q ∙ sym (nowhere uuid_of q);
  vacant = λ s lt. bits s lt ∙ sym (ap vacancy (get_or-replicate 256 s nothing nothing lt));
  counted = sym (sum_by-replicate holders_in 256 nothing);
  most = omega (arith, sum_by-replicate holders_in 256 nothing);
}
  where
    nowhere : (key : Entry → List ℕ) (q : List ℕ) → position (has key q) (replicate 256 nothing) ≡ None
    nowhere key q = position_none (has key q) nothing (replicate 256 nothing) (λ k lt. ap (has key q) (get_or-replicate 256 k nothing nothing (omega (arith, lt, length-replicate 256 nothing))))
