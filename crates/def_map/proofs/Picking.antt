-- The entries in the rows of one kind.
use Rattle.std.proofs.Common.{◌≡◌, ⊎_elim, ℕ, Bool, true, false, cond, List, [], ◌∷◌, bytes_eq, Contains, Option, None, Some, refl, sym, ap, ◌∙◌, subst, Vec}
use Rattle.std.specs.Cmp.Lexicographic.{bytes_decides, nat_list_eq_equiv, slice_cmp}
use Rattle.std.specs.List.{AllByRecursion, IsDistinct, cons_option}
use Rattle.std.specs.List.Sorted.{IsPermutation, IsSortedBy}
use Rattle.std.specs.Map.{keys_of}
use Rattle.std.specs.Ordering.{is_lt, nat_cmp}
use Rattle.std.proofs.lemmas.Bool.{cases_Bool, eqb-true}
use Rattle.std.proofs.lemmas.List.Sorted.{Contains-permutation, IsPermutation-sym}
use Rattle.std.proofs.lemmas.Map.Keys.{IsDistinct-IsPermutation}
use Rattle.std.proofs.lemmas.Map.Views.{Contains-from_lookup, lookup-from_Contains}
use Rattle.store_spec.specs.declared.entry.Entry.{Entry}
use Rattle.store_spec.specs.declared.kind.BookKind.{BookKind}
use Rattle.store_spec.specs.declared.kind.BookKind.TheVariants as kind
use Rattle.def_map.specs.Listed.{AreEntries}
use Rattle.def_map.specs.Map.{MapRows, NamesLead, entry_in, found, key_of, kind_byte}
use Rattle.def_map.specs.Rows.{at, rows_in}
use Rattle.def_map.specs.Walk.{entry_at, is_of, picked}
use Rattle.def_map.proofs.Elements.{by_elements, contains_cases, contains_here, contains_later, contains_map, contains_none, of_element, rises}

-- two entries have one name
abbrev pub same_name : Entry → Entry → Bool
same_name one other = bytes_eq one.name other.name

-- in the rows of a kind a name occurs once
abbrev pub HasNamesOnce : BookKind → List (List ℕ × Option Entry) → Type 0
HasNamesOnce k rows = (one other : List ℕ) (e f : Entry) → Contains rows (one, Some e) → Contains rows (other, Some f) → is_of k one ≡ true → is_of k other ≡ true → e.name ≡ f.name → one ≡ other

-- the row of an entry
abbrev pub RowOf : BookKind → List (List ℕ × Option Entry) → Entry → Type 0
RowOf k rows e = (key : List ℕ) × Contains rows (key, Some e) × (is_of k key ≡ true)

later : (o : Option Entry) (es : List Entry) (e : Entry) → Contains es e → Contains (cons_option o es) e
later None es e h = h
later (Some f) es e h = contains_later f e es h

row_later : (k : BookKind) (row : List ℕ × Option Entry) (rows : List (List ℕ × Option Entry)) (e : Entry) → RowOf k rows e → RowOf k (row ∷ rows) e
row_later k row rows e h = (h.0, contains_later row (h.0, Some e) rows h.1, h.2)

pub picked_from : (k : BookKind) (rows : List (List ℕ × Option Entry)) (e : Entry) → Contains (picked k rows) e → RowOf k rows e
picked_from k [] e h = absurd (contains_none e h)
picked_from k (row ∷ rows) e h = by_row (is_of k row.0) row.1 refl refl (picked_from k rows e) h
  where
    by_row : (b : Bool) (o : Option Entry) → is_of k row.0 ≡ b → row.1 ≡ o → (Contains (picked k rows) e → RowOf k rows e) → Contains (cons_option (cond b o None) (picked k rows)) e → RowOf k (row ∷ rows) e
    by_row false o is has rest h = row_later k row rows e (rest h)
    by_row true None is has rest h = row_later k row rows e (rest h)
    by_row true (Some f) is has rest h = ⊎_elim
        (λ (same : f ≡ e). (row.0, subst (λ (o : Option Entry). Contains (row ∷ rows) (row.0, o)) (has ∙ ap Some same) (contains_here row rows), is))
        (λ (more : Contains (picked k rows) e). row_later k row rows e (rest more))
        (contains_cases f e (picked k rows) h)

pub picked_all : (k : BookKind) (rows : List (List ℕ × Option Entry)) (key : List ℕ) (e : Entry) → Contains rows (key, Some e) → is_of k key ≡ true → Contains (picked k rows) e
picked_all k [] key e h is = absurd (contains_none (key, Some e) h)
picked_all k (row ∷ rows) key e h is = ⊎_elim
    (λ (same : row ≡ (key, Some e)). subst (λ (r : List ℕ × Option Entry). Contains (cons_option (entry_at k r) (picked k rows)) e) (sym same)
    (subst (λ (b : Bool). Contains (cons_option (cond b (Some e) None) (picked k rows)) e) (sym is) (contains_here e (picked k rows))))
    (λ (more : Contains rows (key, Some e)). later (entry_at k row) (picked k rows) e (picked_all k rows key e more is))
    (contains_cases row (key, Some e) rows h)

pub picked_apart : (k : BookKind) (rows : List (List ℕ × Option Entry)) → IsDistinct bytes_eq (keys_of rows) → HasNamesOnce k rows → IsDistinct same_name (picked k rows)
unfolding IsDistinct
picked_apart k [] apart once = tt
picked_apart k (row ∷ rows) apart once = by_row (is_of k row.0) row.1 refl refl
    (picked_apart k rows apart.1 (λ one other e f h g. once one other e f (contains_later row (one, Some e) rows h) (contains_later row (other, Some f) rows g)))
  where
    differ : (e f : Entry) → is_of k row.0 ≡ true → row.1 ≡ Some e → RowOf k rows f → same_name e f ≡ false
    differ e f is has h = ⊎_elim
        (λ (same : same_name e f ≡ true).
        let keys : row.0 ≡ h.0 = once row.0 h.0 e f (subst (λ (o : Option Entry). Contains (row ∷ rows) (row.0, o)) has (contains_here row rows)) (contains_later row (h.0, Some f) rows h.1) is h.2 ((bytes_decides e.name f.name).0 same) in
        let no : bytes_eq row.0 h.0 ≡ false = of_element (λ y. bytes_eq row.0 y ≡ false) (keys_of rows) h.0 apart.0 (contains_map (λ (r : List ℕ × Option Entry). r.0) rows (h.0, Some f) h.1) in
        absurd (let unlike : true ≡ false = sym ((bytes_decides row.0 h.0).1 keys) ∙ no in cc))
        (λ (no : same_name e f ≡ false). no)
        (cases_Bool (same_name e f))

    by_row : (b : Bool) (o : Option Entry) → is_of k row.0 ≡ b → row.1 ≡ o → IsDistinct same_name (picked k rows) → IsDistinct same_name (cons_option (cond b o None) (picked k rows))
    by_row false o is has rest = rest
    by_row true None is has rest = rest
    by_row true (Some e) is has rest = (by_elements (λ f. same_name e f ≡ false) (picked k rows) (λ f h. differ e f is has (picked_from k rows f h)), rest)

-- the keys of rows differ where those of the map do
module _ {Y X : Type 0} where
  keys_apart : (key : List ℕ) (es : List (Vec ℕ Y × X)) → AllByRecursion (λ (other : Vec ℕ Y). bytes_eq key other.items ≡ false) (keys_of es) → AllByRecursion (λ (other : List ℕ). bytes_eq key other ≡ false) (keys_of (rows_in es))
  keys_apart key [] apart = tt
  keys_apart key (e ∷ es) apart = (apart.0, keys_apart key es apart.1)

  pub rows_apart : (es : List (Vec ℕ Y × X)) → IsDistinct (λ (one other : Vec ℕ Y). bytes_eq one.items other.items) (keys_of es) → IsDistinct bytes_eq (keys_of (rows_in es))
  unfolding IsDistinct
  rows_apart [] apart = tt
  rows_apart (e ∷ es) apart = (keys_apart e.0.items es apart.0, rows_apart es apart.1)

-- a key of a kind is that of some identifier
key_is : (k : BookKind) (key : List ℕ) → is_of k key ≡ true → (uuid : List ℕ) × (key ≡ key_of k uuid)
key_is k [] is = absurd (let unlike : false ≡ true = is in cc)
key_is k (byte ∷ uuid) is = (uuid, ap (λ (b : ℕ). b ∷ uuid) (eqb-true byte (kind_byte k) is))

of_its_kind : (k : BookKind) (uuid : List ℕ) → is_of k (key_of k uuid) ≡ true
of_its_kind kind.Domain uuid = refl
of_its_kind kind.Network uuid = refl
of_its_kind kind.Pool uuid = refl

has_entry : (o : Option (Option Entry)) (e : Entry) → entry_in o ≡ Some e → o ≡ Some (Some e)
has_entry None e is = absurd (let unlike : None ≡ Some e = is in cc)
has_entry (Some entry) e is = ap Some is

module _ (m : MapRows) (apart : IsDistinct bytes_eq (keys_of m.entries)) where
  -- what a row says is found
  found_in_row : (k : BookKind) (e : Entry) → RowOf k m.entries e → (uuid : List ℕ) × (found m k uuid ≡ Some e)
  unfolding found at
  found_in_row k e row =
      let key = key_is k row.0 row.2 in
      (key.0, ap (λ (bytes : List ℕ). entry_in (at m.entries bytes)) (sym key.1) ∙ ap entry_in (lookup-from_Contains nat_list_eq_equiv row.0 (Some e) m.entries apart row.1))

  row_of_found : (k : BookKind) (uuid : List ℕ) (e : Entry) → found m k uuid ≡ Some e → Contains m.entries (key_of k uuid, Some e)
  unfolding found at
  row_of_found k uuid e is = Contains-from_lookup (λ x y. (bytes_decides x y).0) (key_of k uuid) (Some e) m.entries (has_entry (at m.entries (key_of k uuid)) e is)

  names_once : NamesLead m → (k : BookKind) → HasNamesOnce k m.entries
  unfolding found at
  names_once lead k one other e f h g is_one is_other same =
      let key = key_is k one is_one in
      let other_key = key_is k other is_other in
      let here : found m k key.0 ≡ Some e = ap (λ (bytes : List ℕ). entry_in (at m.entries bytes)) (sym key.1) ∙ ap entry_in (lookup-from_Contains nat_list_eq_equiv one (Some e) m.entries apart h) in
      let there : found m k other_key.0 ≡ Some f = ap (λ (bytes : List ℕ). entry_in (at m.entries bytes)) (sym other_key.1) ∙ ap entry_in (lookup-from_Contains nat_list_eq_equiv other (Some f) m.entries apart g) in
      let uuids : Some key.0 ≡ Some other_key.0 = sym (lead k key.0 e here) ∙ ap (λ (name : List ℕ). at m.names (key_of k name)) same ∙ lead k other_key.0 f there in
      key.1 ∙ ap (key_of k) (let is : key.0 ≡ other_key.0 = cc in is) ∙ sym other_key.1

  -- the entries that were picked, in the order of their names
  pub are_entries : NamesLead m → (k : BookKind) (es : List Entry) → IsPermutation (picked k m.entries) es → IsSortedBy (λ (one other : Entry). is_lt (slice_cmp nat_cmp one.name other.name)) es → AreEntries k (found m) es
  are_entries lead k es same sorted = record {
    rising = rises (λ (e : Entry). e.name) es sorted
        (IsDistinct-IsPermutation same_name (λ x y. nat_list_eq_equiv.symm x.name y.name) (picked k m.entries) es same (picked_apart k m.entries apart (names_once lead k)));
    from = λ e h. found_in_row k e (picked_from k m.entries e (Contains-permutation es (picked k m.entries) e (IsPermutation-sym (picked k m.entries) es same) h));
    all = λ uuid e is. Contains-permutation (picked k m.entries) es e same (picked_all k m.entries (key_of k uuid) e (row_of_found k uuid e is) (of_its_kind k uuid));
  }
