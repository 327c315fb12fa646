-- What is found of a directory, one file after another.
use Rattle.std.proofs.Common.{◌≡◌, ◌⊎◌, inl, inr, ⊎_elim, ◌<◌, ◌+◌, ◌++◌, ◌||◌, ◌&&◌, Bool, true, false, cond, List, [], ◌∷◌, ℕ, Option, None, Some, All, bytes_eq, count_by, get_or, length, map, take, refl, sym, ◌∙◌, ap, subst, arith}
use Rattle.std.specs.Prelude.{Contains}
use Rattle.std.specs.List.Sorted.{IsStrictlySortedBy}
use Rattle.std.proofs.lemmas.Bool.{cases_Bool}
use Rattle.std.proofs.lemmas.List.{map_push}
use Rattle.std.proofs.lemmas.List.Elements.{All-push, Contains-append_left, Contains-append_right}
use Rattle.std.proofs.lemmas.List.Folds.{list_any-append}
use Rattle.std.proofs.lemmas.List.Sums.{sum_by-cons}
use Rattle.files_disk.specs.Telling.{IsListed, Lists, Told, times}
use Rattle.store_spec.specs.declared.change.Change.{Change}
use Rattle.store_spec.specs.declared.change.Change.TheVariants as change
use Rattle.store_spec.specs.declared.entry.Entry.{Entry}
use Rattle.store_spec.specs.declared.kind.BookKind.{BookKind}
use Rattle.store_spec.specs.declared.version.Version.{Version}
use Rattle.store_spec.specs.declared.version.Version.TheVariants as version
use Rattle.store_spec.specs.Changes.{Definitions, changed, is_of, same_kind}
use Rattle.store_spec.specs.DefinitionFile.{IsEntryOf, has_feed}
use Rattle.store_spec.specs.Directory.{Directory, directory}
use Rattle.store_spec.specs.FileNames.{IsDefinitionName, IsUuid, definition_name}
use Rattle.store_spec.specs.StandsFor.{Holds, IsNamed}
use Rattle.store_spec.proofs.Names.{is_named, says_definition}
use Rattle.store_spec.proofs.Operating.{bytes_eq_same}
use Rattle.store_spec.proofs.Stands.{changed_else, changed_here, eq_of, kind_by_test, of_or_apart}
use Rattle.def_keeper.specs.declared.outcome.FoundDefinition.{FoundDefinition}
use Rattle.def_keeper.specs.Calls.{AllGood}
use Rattle.def_keeper.specs.Finding.{Finds, HasFoundAt, Passes, Takes}
use Rattle.def_keeper.specs.Opening.{AreRising, ComesBefore, HasFound, IsFound, IsInOrder, IsWhole, files_in, is_listed}
use Rattle.def_keeper.proofs.Rising.{before_this, rising_more}

true_false : true ≡ false → ⊥
true_false e = cc

or_cases : (a b : Bool) → (a || (b || false)) ≡ true → (a ≡ true) ⊎ (b ≡ true)
or_cases true b is = inl refl
or_cases false true is = inr refl
or_cases false false is = cc

or_neither : (a b : Bool) → (a || (b || false)) ≡ false → (a ≡ false) × (b ≡ false)
or_neither true b is = cc
or_neither false true is = cc
or_neither false false is = (refl, refl)

listed_more : (x n : List ℕ) (names : List (List ℕ)) → is_listed x (names ++ n ∷ []) ≡ (is_listed x names || (bytes_eq x n || false))
listed_more x n names = list_any-append (bytes_eq x) names (n ∷ [])

-- a listed name is an earlier one, or the last
pub listed_cases : (x n : List ℕ) (names : List (List ℕ)) → is_listed x (names ++ n ∷ []) ≡ true → (is_listed x names ≡ true) ⊎ (x ≡ n)
listed_cases x n names is = ⊎_elim (λ before. inl before) (λ same. inr (eq_of x n same)) (or_cases (is_listed x names) (bytes_eq x n) (sym (listed_more x n names) ∙ is))

-- a listed name stays one, and the last one is
pub listed_still : (x n : List ℕ) (names : List (List ℕ)) → is_listed x names ≡ true → is_listed x (names ++ n ∷ []) ≡ true
listed_still x n names is = listed_more x n names ∙ ap (λ (b : Bool). b || (bytes_eq x n || false)) is

pub listed_here : (n : List ℕ) (names : List (List ℕ)) → is_listed n (names ++ n ∷ []) ≡ true
listed_here n names = listed_more n n names ∙ ap (λ (b : Bool). is_listed n names || (b || false)) (bytes_eq_same n n refl) ∙ or_true (is_listed n names)
  where
    or_true : (b : Bool) → (b || true) ≡ true
    or_true true = refl
    or_true false = refl

pub all_still : (names : List (List ℕ)) (n : List ℕ) (files : List (List ℕ)) → All (λ x. is_listed x names ≡ true) files → All (λ x. is_listed x (names ++ n ∷ []) ≡ true) files
all_still names n files all k x lt = listed_still (get_or files k x) n names (all k x lt)

unlisted : (x n : List ℕ) (names : List (List ℕ)) → is_listed x (names ++ n ∷ []) ≡ false → (is_listed x names ≡ false) × (x ≡ n → ⊥)
unlisted x n names is =
    let both = or_neither (is_listed x names) (bytes_eq x n) (sym (listed_more x n names) ∙ is) in
    (both.0, λ same. true_false (sym (bytes_eq_same x n same) ∙ both.1))

-- an unlisted definition has no entry; so its name alone decides what is held there
held : (names : List (List ℕ)) (d : Directory) (map : Definitions) (rows : List FoundDefinition) (k : BookKind) (uuid : List ℕ) → HasFound names d map rows → IsUuid uuid
    → (is_listed (definition_name k uuid) names ≡ true) ⊎ (d (definition_name k uuid) ≡ None) → Holds (d (definition_name k uuid)) (map k uuid)
held names d map rows k uuid f u how = ⊎_elim
    (λ there. f.files k uuid u there)
    (λ (absent : d (definition_name k uuid) ≡ None). ⊎_elim
    (λ (there : is_listed (definition_name k uuid) names ≡ true). f.files k uuid u there)
    (λ (gone : is_listed (definition_name k uuid) names ≡ false). subst (λ (o : Option (List ℕ)). Holds o (map k uuid)) (sym absent) (subst (λ (o : Option Entry). Holds None o) (sym (f.none k uuid gone)) tt))
    (cases_Bool (is_listed (definition_name k uuid) names)))
    how

pub found_first : (d : Directory) (map : Definitions) (rows : List FoundDefinition) → ((k : BookKind) (uuid : List ℕ) → map k uuid ≡ None) → rows ≡ [] → HasFound [] d map rows
unfolding IsStrictlySortedBy
found_first d map rows none no_rows = record {
  files = λ k uuid u is. absurd (true_false (sym is));
  none = λ k uuid is. none k uuid;
  no_other = λ n is. absurd (true_false (sym is));
  versions = subst (λ (l : List FoundDefinition). All (IsFound d) l) (sym no_rows) (λ k f lt. absurd (omega (arith, lt)));
  rising = subst (λ (l : List FoundDefinition). AreRising (files_in l)) (sym no_rows) tt;
  from = subst (λ (l : List FoundDefinition). All (λ n. is_listed n [] ≡ true) (files_in l)) (sym no_rows) (λ k f lt. absurd (omega (arith, lt)));
  all = λ k uuid e is. absurd (never e (sym (none k uuid) ∙ is));
}
  where
    never : (e : Entry) → None ≡ Some e → ⊥
    never e is = cc

-- a file that is no definition's, or absent
found_pass : (d : Directory) (names : List (List ℕ)) (n : List ℕ) (old new : Definitions) (rows rows' : List FoundDefinition)
    → (IsDefinitionName n → ⊥) ⊎ (d n ≡ None) → Passes old new rows rows' → HasFound names d old rows → HasFound (names ++ n ∷ []) d new rows'
found_pass d names n old new rows rows' why (same, same_rows) f = record {
  files = λ k uuid u is. subst (λ (o : Option Entry). Holds (d (definition_name k uuid)) o) (sym (same k uuid)) (held names d old rows k uuid f u
      (⊎_elim (λ before. inl before) (λ (this : definition_name k uuid ≡ n). ⊎_elim (λ says_none. absurd (says_none (subst IsDefinitionName this (says_definition k uuid)))) (λ absent. inr (ap d this ∙ absent)) why)
      (listed_cases (definition_name k uuid) n names is)));
  none = λ k uuid is. same k uuid ∙ f.none k uuid (unlisted (definition_name k uuid) n names is).0;
  no_other = λ x is says other. ⊎_elim (λ before. f.no_other x before says other)
      (λ (this : x ≡ n). ⊎_elim (λ says_none. absurd (says_none (subst IsDefinitionName this says))) (λ absent. ap d this ∙ absent) why)
      (listed_cases x n names is);
  versions = subst (λ (l : List FoundDefinition). All (IsFound d) l) (sym same_rows) f.versions;
  rising = subst (λ (l : List FoundDefinition). AreRising (files_in l)) (sym same_rows) f.rising;
  from = subst (λ (l : List FoundDefinition). All (λ x. is_listed x (names ++ n ∷ []) ≡ true) (files_in l)) (sym same_rows) (all_still names n (files_in rows) f.from);
  all = λ k uuid e is. let v = f.all k uuid e (sym (same k uuid) ∙ is) in
      (v.0, subst (λ (l : List FoundDefinition). Contains l (record { kind = k; uuid = uuid; version = v.0 })) (sym same_rows) v.1);
}

one_row : (f : FoundDefinition) → Contains (f ∷ []) f
one_row f = (0, omega arith, refl)

-- a file that was taken in
found_taken : (d : Directory) (names : List (List ℕ)) (n bytes : List ℕ) (old new : Definitions) (rows rows' : List FoundDefinition)
    → ((m : List ℕ) → is_listed m names ≡ true → ComesBefore m n) → d n ≡ Some bytes → Takes n bytes old new rows rows' → HasFound names d old rows → HasFound (names ++ n ∷ []) d new rows'
found_taken d names n bytes old new rows rows' earlier content t f = record {
  files = λ k uuid u is. ⊎_elim
      (λ (this : (is_of c k uuid ≡ true) × (definition_name k uuid ≡ definition_name t.kind t.uuid)).
      subst (λ (o : Option (List ℕ)). Holds o (new k uuid)) (sym (ap d (this.1 ∙ sym t.named) ∙ content))
      (subst (λ (o : Option Entry). Holds (Some bytes) o) (sym (t.map k uuid ∙ changed_here c old k uuid this.0)) (t.version, t.file)))
      (λ (apart : (is_of c k uuid ≡ false) × (definition_name k uuid ≡ definition_name t.kind t.uuid → ⊥)).
      subst (λ (o : Option Entry). Holds (d (definition_name k uuid)) o) (sym (t.map k uuid ∙ changed_else c old k uuid apart.0))
      (⊎_elim (λ before. f.files k uuid u before) (λ this. absurd (apart.1 (this ∙ t.named))) (listed_cases (definition_name k uuid) n names is)))
      (of_or_apart c k uuid t.is_uuid u);
  none = λ k uuid is. let un = unlisted (definition_name k uuid) n names is in
      t.map k uuid ∙ changed_else c old k uuid (not_of k uuid un.1) ∙ f.none k uuid un.0;
  no_other = λ x is says other. ⊎_elim (λ before. f.no_other x before says other)
      (λ (this : x ≡ n). absurd (other (subst IsNamed (sym (this ∙ t.named)) (is_named t.kind t.uuid t.is_uuid))))
      (listed_cases x n names is);
  versions = subst (λ (l : List FoundDefinition). All (IsFound d) l) (sym t.row) (All-push (IsFound d) rows row f.versions (bytes, t.entry, ap d (sym t.named) ∙ content, t.file));
  rising = subst AreRising (sym files) (rising_more (files_in rows) n f.rising (λ k x lt. earlier (get_or (files_in rows) k x) (f.from k x lt)));
  from = subst (λ (l : List (List ℕ)). All (λ x. is_listed x (names ++ n ∷ []) ≡ true) l) (sym files) (All-push (λ x. is_listed x (names ++ n ∷ []) ≡ true) (files_in rows) n (all_still names n (files_in rows) f.from) (listed_here n names));
  all = λ k uuid e is. ⊎_elim
      (λ (this : is_of c k uuid ≡ true). let both = both_true (same_kind k t.kind) (bytes_eq uuid t.uuid) this in (
        t.version,
        subst (λ (l : List FoundDefinition). Contains l (record { kind = k; uuid = uuid; version = t.version })) (sym t.row)
            (subst (λ (r : FoundDefinition). Contains (rows ++ row ∷ []) r) (same_row k uuid (kind_by_test k t.kind both.0) (eq_of uuid t.uuid both.1)) (Contains-append_right rows (row ∷ []) row (one_row row))),
      ))
      (λ (apart : is_of c k uuid ≡ false). let v = f.all k uuid e (sym (t.map k uuid ∙ changed_else c old k uuid apart) ∙ is) in (
        v.0,
        subst (λ (l : List FoundDefinition). Contains l (record { kind = k; uuid = uuid; version = v.0 })) (sym t.row)
            (Contains-append_left rows (row ∷ []) (record { kind = k; uuid = uuid; version = v.0 }) v.1),
      ))
      (cases_Bool (is_of c k uuid));
}
  where
    c : Change
    c = change.Put t.kind t.uuid t.entry

    row : FoundDefinition
    row = record { kind = t.kind; uuid = t.uuid; version = t.version }

    files : files_in rows' ≡ files_in rows ++ n ∷ []
    files = ap files_in t.row ∙ map_push (λ (r : FoundDefinition). definition_name r.kind r.uuid) rows row ∙ ap (λ (m : List ℕ). files_in rows ++ m ∷ []) (sym t.named)

    both_true : (a b : Bool) → (a && b) ≡ true → (a ≡ true) × (b ≡ true)
    both_true true b is = (refl, is)
    both_true false b is = cc

    same_row : (k : BookKind) (uuid : List ℕ) → k ≡ t.kind → uuid ≡ t.uuid → row ≡ record { kind = k; uuid = uuid; version = t.version }
    same_row k uuid kinds uuids = λ i. record { kind = sym kinds i; uuid = sym uuids i; version = t.version }

    not_of : (k : BookKind) (uuid : List ℕ) → (definition_name k uuid ≡ n → ⊥) → is_of c k uuid ≡ false
    not_of k uuid differ = ⊎_elim
        (λ (this : is_of c k uuid ≡ true). let both = both_true (same_kind k t.kind) (bytes_eq uuid t.uuid) this in
        absurd (differ ((λ i. definition_name (kind_by_test k t.kind both.0 i) (eq_of uuid t.uuid both.1 i)) ∙ sym t.named)))
        (λ apart. apart)
        (cases_Bool (is_of c k uuid))

pub find_step : (told : Told) (all : List (List ℕ)) (i : ℕ) (n : List ℕ) (old new : Definitions) (rows rows' : List FoundDefinition) → IsListed told all → IsInOrder all → i < length all → n ≡ get_or all i n
    → take (i + 1) all ≡ take i all ++ n ∷ [] → HasFoundAt told (take i all) old rows → Finds told n old new rows rows' → HasFoundAt told (take (i + 1) all) new rows'
find_step None all i n old new rows rows' lists sorted within here cut f finds = tt
find_step (Some os) all i n old new rows rows' lists sorted within here cut f finds = subst (λ (l : List (List ℕ)). HasFound l (directory os) new rows') (sym cut) (⊎_elim
    (λ pass. found_pass (directory os) (take i all) n old new rows rows' pass.0 pass.1 f)
    (λ taken. found_taken (directory os) (take i all) n taken.0 old new rows rows' (λ m is. before_this (directory os) all i n m lists sorted within here cut is) taken.1 taken.2 f)
    finds)

-- a name that is not listed has no file
none_counted : (x : List ℕ) (names : List (List ℕ)) → is_listed x names ≡ false → count_by (bytes_eq x) names ≡ 0
none_counted x [] is = refl
none_counted x (n ∷ names) is = sum_by-cons (λ y. cond (bytes_eq x y) 1 0) n names ∙ by (none_counted x names) (bytes_eq x n) is
  where
    by : (is_listed x names ≡ false → count_by (bytes_eq x) names ≡ 0) → (b : Bool) → (b || is_listed x names) ≡ false → cond b 1 0 + count_by (bytes_eq x) names ≡ 0
    by rec true is = cc
    by rec false is = let e : count_by (bytes_eq x) names ≡ 0 = rec is in omega arith

no_times : (o : Option (List ℕ)) → 0 ≡ times o → o ≡ None
no_times None is = refl
no_times (Some x) is = absurd (omega (arith, is))

pub unlisted_none : (d : Directory) (names : List (List ℕ)) (x : List ℕ) → Lists d names → is_listed x names ≡ false → d x ≡ None
unlisted_none d names x lists is = no_times (d x) (sym (none_counted x names is) ∙ lists x)

pub found_whole : (d : Directory) (names : List (List ℕ)) (map : Definitions) (rows : List FoundDefinition) → Lists d names → HasFound names d map rows → IsWhole d map rows
found_whole d names map rows lists f = record {
  stands = record {
    files = λ k uuid u. held names d map rows k uuid f u (⊎_elim (λ there. inl there) (λ gone. inr (unlisted_none d names (definition_name k uuid) lists gone)) (cases_Bool (is_listed (definition_name k uuid) names)));
    no_other = λ n says other. ⊎_elim (λ there. f.no_other n there says other) (λ gone. unlisted_none d names n lists gone) (cases_Bool (is_listed n names));
  };
  versions = f.versions;
  rising = f.rising;
  all = f.all;
}

-- an entry of either version may be written
good_of : (v : Version) (e : Entry) → IsEntryOf v e → IsEntryOf version.Two e
good_of version.Two e is = is
good_of version.One e is = record { name = is.name; title = ap (λ (t : List ℕ). has_feed t) is.title; title_utf8 = is.title_utf8; text = is.text; text_utf8 = is.text_utf8 }

some_entry : (a b : Entry) → Some a ≡ Some b → a ≡ b
some_entry a b is = cc

pub put_good : (old new : Definitions) (k : BookKind) (uuid : List ℕ) (v : Version) (e : Entry) → IsEntryOf v e → ((l : BookKind) (u : List ℕ) → new l u ≡ changed (change.Put k uuid e) old l u) → AllGood old → AllGood new
put_good old new k uuid v e is_entry map good l u f is = ⊎_elim
    (λ (this : is_of (change.Put k uuid e) l u ≡ true). subst (λ (x : Entry). IsEntryOf version.Two x) (some_entry e f (sym (changed_here (change.Put k uuid e) old l u this) ∙ sym (map l u) ∙ is)) (good_of v e is_entry))
    (λ (apart : is_of (change.Put k uuid e) l u ≡ false). good l u f (sym (changed_else (change.Put k uuid e) old l u apart) ∙ sym (map l u) ∙ is))
    (cases_Bool (is_of (change.Put k uuid e) l u))
