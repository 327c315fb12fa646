-- The domains of the list, in the order of the index by name.
use Rattle.std.proofs.Common.{◌≡◌, ℕ, ◌+◌, ◌<◌, Bool, true, false, List, [], ◌∷◌, ◌++◌, length, length-append, get_or, take, map, suc, All, Contains, IfOk, option_to_list, Result, Ok, Err, Option, None, Some, Vec, refl, sym, ap, ◌∙◌, subst, ⊎_elim, append_assoc, append-nil, arith}
use Rattle.std.specs.BTreeMap.{BTreeMap, is_at}
use Rattle.std.specs.BTreeMap as tree
use Rattle.std.specs.Map.{lookup, keys_of, values_of}
use Rattle.std.specs.List.Sorted.{IsStrictlySortedBy}
use Rattle.std.specs.Cmp.Lexicographic.{slice_cmp, on_texts}
use Rattle.std.specs.Ordering.{nat_cmp}
use Rattle.std.specs.declared.cmp.Ordering.TheVariants.{Less}
use Rattle.std.specs.Option.{unwrap_or}
use Rattle.std.proofs.lemmas.Bool.{cases_Bool, cond-true, cond-false}
use Rattle.std.proofs.lemmas.Option.{none-some}
use Rattle.std.proofs.lemmas.List.{take_more, get_or-append-add}
use Rattle.std.proofs.lemmas.Map.Views.{All-found}
use Rattle.book_spec.specs.declared.list.Entry.{Entry}
use Rattle.book_spec.specs.Slots.{Slots, AreSlots, entry_in, slot_of, name_of}
use Rattle.book_spec.proofs.SlotProofs.{within_at, slot_of-Some, slot_of-at}
use Rattle.object_list.specs.declared.slot_name.SlotName.{SlotName}
use Rattle.object_list.specs.declared.index.SlotIndex.{SlotIndex}
use Rattle.object_list.specs.Index.{slot_at}
use Rattle.object_list.specs.Names.{AreAfter, IsRising, AllStandIn, AreNames, row_of, rows_of}

-- one slot more
pub rows_of-append : (slots : Slots) (xs ys : List ℕ) → rows_of slots (xs ++ ys) ≡ rows_of slots xs ++ rows_of slots ys
rows_of-append slots [] ys = refl
rows_of-append slots (x ∷ xs) ys = ap (λ (rest : List SlotName). row_of x (entry_in slots x) ++ rest) (rows_of-append slots xs ys) ∙ sym (append_assoc (row_of x (entry_in slots x)) (rows_of slots xs) (rows_of slots ys))

pub rows_of-more : (slots : Slots) (xs : List ℕ) (i : ℕ) → i < length xs → rows_of slots (take (i + 1) xs) ≡ rows_of slots (take i xs) ++ row_of (get_or xs i 0) (entry_in slots (get_or xs i 0))
rows_of-more slots xs i within = ap (rows_of slots) (take_more xs i 0 within) ∙ (rows_of-append slots (take i xs) (get_or xs i 0 ∷ []) ∙ ap (λ (l : List SlotName). rows_of slots (take i xs) ++ l) (append-nil (row_of (get_or xs i 0) (entry_in slots (get_or xs i 0)))))

-- each is in its slot
stand_append : (slots : Slots) (xs ys : List SlotName) → AllStandIn slots xs → AllStandIn slots ys → AllStandIn slots (xs ++ ys)
stand_append slots [] ys a b = b
stand_append slots (x ∷ xs) ys a b = (a.0, stand_append slots xs ys a.1 b)

stand_one : (slots : Slots) (slot : ℕ) (o : Option Entry) → entry_in slots slot ≡ o → AllStandIn slots (row_of slot o)
stand_one slots slot None at = tt
stand_one slots slot (Some e) at = ((e, at, refl, refl), tt)

stand_all : (slots : Slots) (xs : List ℕ) → AllStandIn slots (rows_of slots xs)
stand_all slots [] = tt
stand_all slots (x ∷ xs) = stand_append slots (row_of x (entry_in slots x)) (rows_of slots xs) (stand_one slots x (entry_in slots x) refl) (stand_all slots xs)

contains_right : (xs ys : List SlotName) (row : SlotName) → Contains ys row → Contains (xs ++ ys) row
contains_right xs ys row has = (length xs + has.0, omega (arith, length-append xs ys, has.1), get_or-append-add xs ys has.0 row ∙ has.2)

module _ {Y : Type 0} where
  -- what a look-up finds is among them
  contains_found : (slots : Slots) (test : Vec ℕ Y → Bool) (es : List (Vec ℕ Y × ℕ)) (slot : ℕ) (e : Entry) → lookup test es ≡ Some slot → entry_in slots slot ≡ Some e → Contains (rows_of slots (map (λ x. x.1) es)) (record { name = e.name; uuid = e.uuid; slot = slot })
  contains_found slots test [] slot e is at = absurd (none-some slot is)
  contains_found slots test (x ∷ es) slot e is at =
      let row : SlotName = record { name = e.name; uuid = e.uuid; slot = slot } in
      let rest : List SlotName = rows_of slots (map (λ (y : Vec ℕ Y × ℕ). y.1) es) in
      ⊎_elim
      (λ (yes : test x.0 ≡ true).
      let same : slot ≡ x.1 = ap (λ (o : Option ℕ). unwrap_or o 0) (sym is ∙ cond-true (test x.0) (Some x.1) (lookup test es) yes) in
      let here : entry_in slots x.1 ≡ Some e = ap (entry_in slots) (sym same) ∙ at in
      subst (λ (rows : List SlotName). Contains rows row) (λ i. row_of (same i) (sym here i) ++ rest) (0, omega arith, refl))
      (λ (no_key : test x.0 ≡ false). contains_right (row_of x.1 (entry_in slots x.1)) rest row (contains_found slots test es slot e (sym (cond-false (test x.0) (Some x.1) (lookup test es) no_key) ∙ is) at))
      (cases_Bool (test x.0))

  -- each key is the name of what is in its slot
  Stand : Slots → List (Vec ℕ Y × ℕ) → Type 0
  Stand slots [] = Unit {0}
  Stand slots (x ∷ es) = ((e : Entry) × (entry_in slots x.1 ≡ Some e) × (e.name ≡ x.0.items)) × Stand slots es

  stand_from : (slots : Slots) (m : BTreeMap (Vec ℕ Y) ℕ) (es : List (Vec ℕ Y × ℕ)) → ((q : List ℕ) → tree.get_by (λ k. slice_cmp nat_cmp q k.items) m ≡ slot_of name_of q slots) → All (λ x. tree.get_by (λ k. slice_cmp nat_cmp x.0.items k.items) m ≡ Some x.1) es → Stand slots es
  unfolding Stand
  stand_from slots m [] names found = tt
  stand_from slots m (x ∷ es) names found =
      let at = slot_of-Some name_of x.0.items slots x.1 (sym (names x.0.items) ∙ found 0 x (omega arith)) in
      ((at.1, at.2, at.3), stand_from slots m es names (λ k d lt. found (suc k) d (omega (arith, lt))))

  after : (slots : Slots) (name : List ℕ) (es : List (Vec ℕ Y × ℕ)) → Stand slots es → Rattle.std.specs.List.AllByRecursion (λ (k : Vec ℕ Y). slice_cmp nat_cmp name k.items ≡ Less) (keys_of es) → AreAfter name (rows_of slots (map (λ x. x.1) es))
  unfolding Stand
  after slots name [] stand above = tt
  after slots name (x ∷ es) stand above =
      subst (λ (o : Option Entry). AreAfter name (row_of x.1 o ++ rows_of slots (map (λ (y : Vec ℕ Y × ℕ). y.1) es))) (sym stand.0.1)
      (ap (slice_cmp nat_cmp name) stand.0.2 ∙ above.0, after slots name es stand.1 above.1)

  rising : (slots : Slots) (es : List (Vec ℕ Y × ℕ)) → Stand slots es → IsStrictlySortedBy (λ x y. slice_cmp nat_cmp x.items y.items) (keys_of es) → IsRising (rows_of slots (map (λ x. x.1) es))
  unfolding Stand IsStrictlySortedBy
  rising slots [] stand sorted = tt
  rising slots (x ∷ es) stand sorted =
      let rest : List SlotName = rows_of slots (map (λ (y : Vec ℕ Y × ℕ). y.1) es) in
      subst (λ (o : Option Entry). IsRising (row_of x.1 o ++ rest)) (sym stand.0.1)
      (subst (λ (name : List ℕ). AreAfter name rest) (sym stand.0.2) (after slots x.0.items es stand.1 sorted.0), rising slots es stand.1 sorted.1)

-- the domains in the order of the index
pub are_names : (slots : Slots) (index : SlotIndex) → AreSlots slots → ((q : List ℕ) → slot_at index q ≡ slot_of name_of q slots) → tree.IsOrdered (λ x y. slice_cmp nat_cmp x.items y.items) index.slots → AreNames slots (rows_of slots (map (λ x. x.1) index.slots.entries))
unfolding slot_at
are_names slots index are names ordered =
    let m = index.slots in
    let stand : Stand slots m.entries = stand_from slots m m.entries names (All-found (on_texts (λ k. k.items)) m ordered) in
    record {
      rising = rising slots m.entries stand ordered;
      stand = stand_all slots (map (λ x. x.1) m.entries);
      all = λ slot e at. contains_found slots (is_at (λ k. slice_cmp nat_cmp e.name k.items)) m.entries slot e (names e.name ∙ slot_of-at name_of slots slot e are.names (within_at slots slot e at) at) at;
    }

-- what is said of an answer Ok
pub if_ok : {A E : Type 0} (P Q : A → Type 0) (r : Result A E) → IfOk r P → ((a : A) → P a → Q a) → IfOk r Q
if_ok P Q (Ok a) p f = f a p
if_ok P Q (Err e) p f = tt

-- one slot more, by what is there
pub more_rows : (slots : Slots) (xs : List ℕ) (i x : ℕ) (so_far now : List SlotName) → i < length xs → x ≡ get_or xs i 0 → so_far ≡ rows_of slots (take i xs) → now ≡ so_far ++ row_of x (entry_in slots x) → now ≡ rows_of slots (take (i + 1) xs)
more_rows slots xs i x so_far now within is before more = more ∙ ((λ j. before j ++ row_of (is j) (entry_in slots (is j))) ∙ sym (rows_of-more slots xs i within))

-- nothing was there, or a domain was put after the others
pub none_there : (so_far now row : List SlotName) (o : Option SlotName) → now ≡ so_far → o ≡ None → option_to_list o ≡ row → now ≡ so_far ++ row
none_there so_far now row o same gone is = same ∙ (sym (append-nil so_far) ∙ ap (λ (l : List SlotName). so_far ++ l) (sym (ap (λ (x : Option SlotName). option_to_list x) gone) ∙ is))

pub one_there : (so_far now row : List SlotName) (o : Option SlotName) (name : SlotName) → now ≡ so_far ++ name ∷ [] → o ≡ Some name → option_to_list o ≡ row → now ≡ so_far ++ row
one_there so_far now row o name more there is = more ∙ ap (λ (l : List SlotName). so_far ++ l) (sym (ap (λ (x : Option SlotName). option_to_list x) there) ∙ is)
