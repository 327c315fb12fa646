-- What files are found to be, one after another.
use Rattle.std.proofs.Common.{◌≡◌, ◌⊎◌, inl, inr, ⊎_elim, ◌<◌, ◌+◌, ◌++◌, Bool, true, false, List, [], ◌∷◌, ℕ, Option, None, Some, Result, Ok, Err, OnOk, All, get_or, length, take, refl, sym, ◌∙◌, ap, subst, arith, append-nil, append_assoc}
use Rattle.std.specs.Prelude.{Contains}
use Rattle.std.specs.Option.{IsSome, is_some}
use Rattle.std.specs.List.Sorted.{IsStrictlySortedBy}
use Rattle.std.proofs.lemmas.Bool.{cases_Bool}
use Rattle.std.proofs.lemmas.List.{map_push}
use Rattle.std.proofs.lemmas.List.Elements.{All-push, Contains-append_left, Contains-append_right}
use Rattle.virt_types.specs.Below.types_base.declared.memory.Fault.{Fault}
use Rattle.files_disk.specs.Telling.{IsListed, IsRead, Lists, Told}
use Rattle.store_spec.specs.declared.entry.Entry.{Entry}
use Rattle.store_spec.specs.declared.kind.BookKind.{BookKind}
use Rattle.store_spec.specs.Directory.{Directory, directory}
use Rattle.store_spec.specs.FileNames.{IsDefinitionName, IsStatusName}
use Rattle.store_spec.proofs.Names.{have_own_files, says_definition}
use Rattle.store_spec.proofs.Spelling.{holds_one_entry}
use Rattle.def_map.specs.Map.{key_of}
use Rattle.def_map.specs.Rows.{at, Updates}
use Rattle.def_map.proofs.MapFinds.{key_apart, same_or_apart, update_else, update_here}
use Rattle.def_keeper.specs.declared.report.Finding.{Finding}
use Rattle.def_keeper.specs.declared.report.Finding.TheVariants as finding
use Rattle.def_keeper.specs.declared.report.Report.{Report}
use Rattle.def_keeper.specs.Examining.{AreReports, IsDefinitionOf, IsExaminedAt, IsFinding, IsNamedBefore, IsNamedSo, IsReport, files_of}
use Rattle.def_keeper.specs.Judging.{Adds, AddsDefinition, AddsStatus, FoundBy, HasDefinitionsAt, HasStatusesAt, Judges, Names, TellsFound}
use Rattle.def_keeper.specs.Opening.{AreRising, ComesBefore, IsInOrder, is_listed}
use Rattle.def_keeper.proofs.Opens.{all_still, listed_cases, listed_here, listed_still, unlisted_none}
use Rattle.def_keeper.proofs.Rising.{before_this, listed_before, rising_more}

false_true : false ≡ true → ⊥
false_true e = cc

some_none : (b : List ℕ) → Some b ≡ None → ⊥
some_none b is = cc

some_same : (a b : List ℕ) → Some a ≡ Some b → a ≡ b
some_same a b is = cc

-- of the files with these names, those whose names say so are reported
pub record Reported (Says : List ℕ → Type 0) (d : Directory) (before : List (List ℕ)) (reports : List Report) : Type 0 where
  pub rising : AreRising (files_of reports)
  pub from : All (λ n. is_listed n before ≡ true) (files_of reports)
  pub only : All Says (files_of reports)
  pub all : (n bytes : List ℕ) → is_listed n before ≡ true → Says n → d n ≡ Some bytes → Contains (files_of reports) n
  pub each : All (IsReport d) reports

none_all : {X : Type 0} (P : X → Type 0) → All P []
none_all P k x lt = absurd (omega (arith, lt))

reported_first : (Says : List ℕ → Type 0) (d : Directory) (reports : List Report) → reports ≡ [] → Reported Says d [] reports
unfolding IsStrictlySortedBy
reported_first Says d reports none = subst (λ (l : List Report). Reported Says d [] l) (sym none) (record {
  rising = tt;
  from = none_all (λ n. is_listed n [] ≡ true);
  only = none_all Says;
  all = λ n bytes is says content. absurd (false_true is);
  each = none_all (IsReport d);
})

reported_pass : (Says : List ℕ → Type 0) (d : Directory) (before : List (List ℕ)) (n : List ℕ) (old now : List Report) → (Says n → ⊥) ⊎ (d n ≡ None) → now ≡ old → Reported Says d before old → Reported Says d (before ++ n ∷ []) now
reported_pass Says d before n old now why same r = subst (λ (l : List Report). Reported Says d (before ++ n ∷ []) l) (sym same) (record {
  rising = r.rising;
  from = all_still before n (files_of old) r.from;
  only = r.only;
  all = λ x bytes is says content. ⊎_elim
      (λ earlier. r.all x bytes earlier says content)
      (λ (this : x ≡ n). ⊎_elim (λ not. absurd (not (subst Says this says))) (λ absent. absurd (some_none bytes (sym content ∙ ap d this ∙ absent))) why)
      (listed_cases x n before is);
  each = r.each;
})

reported_one : (Says : List ℕ → Type 0) (d : Directory) (before : List (List ℕ)) (n bytes : List ℕ) (found : Finding) (old now : List Report) → Says n → d n ≡ Some bytes → IsFinding d n bytes found
    → ((m : List ℕ) → is_listed m before ≡ true → ComesBefore m n) → now ≡ old ++ record { file = n; found = found } ∷ [] → Reported Says d before old → Reported Says d (before ++ n ∷ []) now
reported_one Says d before n bytes found old now says content is earlier same r = subst (λ (l : List Report). Reported Says d (before ++ n ∷ []) l) (sym same) (record {
  rising = subst AreRising (sym files) (rising_more (files_of old) n r.rising (λ k x lt. earlier (get_or (files_of old) k x) (r.from k x lt)));
  from = subst (λ (l : List (List ℕ)). All (λ x. is_listed x (before ++ n ∷ []) ≡ true) l) (sym files) (All-push (λ x. is_listed x (before ++ n ∷ []) ≡ true) (files_of old) n (all_still before n (files_of old) r.from) listed_last);
  only = subst (λ (l : List (List ℕ)). All Says l) (sym files) (All-push Says (files_of old) n r.only says);
  all = λ x b listed says' content'. subst (λ (l : List (List ℕ)). Contains l x) (sym files) (⊎_elim
      (λ before_it. Contains-append_left (files_of old) (n ∷ []) x (r.all x b before_it says' content'))
      (λ (this : x ≡ n). Contains-append_right (files_of old) (n ∷ []) x (0, omega arith, sym this))
      (listed_cases x n before listed));
  each = All-push (IsReport d) old (record { file = n; found = found }) r.each (bytes, content, is);
})
  where
    files : files_of (old ++ record { file = n; found = found } ∷ []) ≡ files_of old ++ n ∷ []
    files = map_push (λ (r : Report). r.file) old (record { file = n; found = found })

    listed_last : is_listed n (before ++ n ∷ []) ≡ true
    listed_last = listed_here n before

reported_whole : (Says : List ℕ → Type 0) (d : Directory) (names : List (List ℕ)) (reports : List Report) → Lists d names → Reported Says d names reports → AreReports Says d reports
reported_whole Says d names reports lists r = record {
  rising = r.rising;
  only = r.only;
  all = λ n bytes says content. ⊎_elim
      (λ (there : is_listed n names ≡ true). r.all n bytes there says content)
      (λ (gone : is_listed n names ≡ false). absurd (some_none bytes (sym content ∙ unlisted_none d names n lists gone)))
      (cases_Bool (is_listed n names));
  each = r.each;
}

-- the rows have the names of the objects whose definitions are among the files with these names
pub record Knows (d : Directory) (before : List (List ℕ)) (seen : Names) : Type 0 where
  pub known : (k : BookKind) (name : List ℕ) → IsSome (at seen (key_of k name)) → (file : List ℕ) × (uuid : List ℕ) × (is_listed file before ≡ true) × IsDefinitionOf d file k uuid name
  pub all : (file : List ℕ) (k : BookKind) (uuid name : List ℕ) → is_listed file before ≡ true → IsDefinitionOf d file k uuid name → IsSome (at seen (key_of k name))

knows_first : (d : Directory) (seen : Names) → seen ≡ [] → Knows d [] seen
unfolding at
knows_first d seen none = subst (λ (s : Names). Knows d [] s) (sym none) (record {
  known = λ k name is. absurd (false_true is);
  all = λ file k uuid name listed is. absurd (false_true listed);
})

-- a file is the definition of one object
one_named : (file bytes : List ℕ) (k l : BookKind) (uuid other name word : List ℕ) → IsNamedSo file bytes k uuid name → IsNamedSo file bytes l other word → (k ≡ l) × (name ≡ word)
one_named file bytes k l uuid other name word a b = (
  (have_own_files k l uuid other a.is_uuid b.is_uuid (sym a.named ∙ b.named)).0,
  sym a.same_name ∙ ap (λ (e : Entry). e.name) (holds_one_entry a.version b.version a.entry b.entry bytes a.holds b.holds).1 ∙ b.same_name,
)

says_so : (file bytes : List ℕ) (k : BookKind) (uuid name : List ℕ) → IsNamedSo file bytes k uuid name → IsDefinitionName file
says_so file bytes k uuid name is = subst IsDefinitionName (sym is.named) (says_definition k uuid)

with_bytes : (d : Directory) (n bytes : List ℕ) (k : BookKind) (uuid name : List ℕ) → d n ≡ Some bytes → IsDefinitionOf d n k uuid name → IsNamedSo n bytes k uuid name
with_bytes d n bytes k uuid name content is = subst (λ (b : List ℕ). IsNamedSo n b k uuid name) (some_same is.0 bytes (sym is.1 ∙ content)) is.2

-- the rows stay as they are, where the next file is no definition whose name is new
knows_same : (d : Directory) (before : List (List ℕ)) (n : List ℕ) (old now : Names) → now ≡ old
    → ((k : BookKind) (uuid name : List ℕ) → IsDefinitionOf d n k uuid name → IsSome (at old (key_of k name))) → Knows d before old → Knows d (before ++ n ∷ []) now
knows_same d before n old now same next s = subst (λ (rows : Names). Knows d (before ++ n ∷ []) rows) (sym same) (record {
  known = λ k name is. let x = s.known k name is in (x.0, x.1, listed_still x.0 n before x.2, x.3);
  all = λ file k uuid name listed is. ⊎_elim
      (λ earlier. s.all file k uuid name earlier is)
      (λ (this : file ≡ n). next k uuid name (subst (λ (f : List ℕ). IsDefinitionOf d f k uuid name) this is))
      (listed_cases file n before listed);
})

knows_new : (d : Directory) (before : List (List ℕ)) (n bytes : List ℕ) (k : BookKind) (uuid name : List ℕ) (old now : Names) → d n ≡ Some bytes → IsNamedSo n bytes k uuid name
    → Updates (key_of k name) (Some tt) old now → Knows d before old → Knows d (before ++ n ∷ []) now
knows_new d before n bytes k uuid name old now content named updates s = record {
  known = λ l word is. ⊎_elim
      (λ (here : key_of k name ≡ key_of l word). let both = key_apart k l name word here in
      (n, uuid, listed_here n before, (bytes, content, subst (λ (w : List ℕ). IsNamedSo n bytes l uuid w) both.1 (subst (λ (m : BookKind). IsNamedSo n bytes m uuid name) both.0 named))))
      (λ else. let x = s.known l word (subst (λ (o : Option (Unit {0})). IsSome o) (update_else (key_of k name) (Some tt) old now updates (key_of l word) else) is) in
      (x.0, x.1, listed_still x.0 n before x.2, x.3))
      (same_or_apart (key_of k name) (key_of l word));
  all = λ file l other word listed is. ⊎_elim
      (λ (here : key_of k name ≡ key_of l word). some_here l word here)
      (λ (else : key_of k name ≡ key_of l word → ⊥). ⊎_elim
      (λ earlier. subst (λ (o : Option (Unit {0})). IsSome o) (sym (update_else (key_of k name) (Some tt) old now updates (key_of l word) else)) (s.all file l other word earlier is))
      (λ (this : file ≡ n).
      let both = one_named n bytes k l uuid other name word named (with_bytes d n bytes l other word content (subst (λ (f : List ℕ). IsDefinitionOf d f l other word) this is)) in
      absurd (else (λ i. key_of (both.0 i) (both.1 i))))
      (listed_cases file n before listed))
      (same_or_apart (key_of k name) (key_of l word));
}
  where
    some_here : (l : BookKind) (word : List ℕ) → key_of k name ≡ key_of l word → IsSome (at now (key_of l word))
    some_here l word here = ap is_some (update_here (key_of k name) (Some tt) old now updates (key_of l word) here)

-- what is known after the first files
pub record Judged (d : Directory) (before : List (List ℕ)) (seen : Names) (reports : List Report) : Type 0 where
  pub names : Knows d before seen
  pub reported : Reported IsDefinitionName d before reports

abbrev pub JudgedAt : Told → List (List ℕ) → Names → List Report → Type 0
JudgedAt None before seen reports = Unit {0}
JudgedAt (Some os) before seen reports = Judged (directory os) before seen reports

-- the next definition's file
module _ (d : Directory) (all : List (List ℕ)) (i : ℕ) (n bytes : List ℕ) (old now : Names) (lists : Lists d all) (sorted : IsInOrder all) (within : i < length all) (here : n ≡ get_or all i n)
    (cut : take (i + 1) all ≡ take i all ++ n ∷ []) (content : d n ≡ Some bytes) (s : Knows d (take i all) old) where
  earlier_of : (m : List ℕ) → is_listed m (take i all) ≡ true → ComesBefore m n
  earlier_of m is = before_this d all i n m lists sorted within here cut is

  listed_of : (file : List ℕ) (k : BookKind) (uuid name : List ℕ) → IsDefinitionOf d file k uuid name → is_listed file all ≡ true
  listed_of file k uuid name is = ⊎_elim
      (λ there. there)
      (λ (gone : is_listed file all ≡ false). absurd (some_none is.0 (sym is.1 ∙ unlisted_none d all file lists gone)))
      (cases_Bool (is_listed file all))

  -- no earlier file has the name
  new_name : (k : BookKind) (name : List ℕ) → at old (key_of k name) ≡ None → IsNamedBefore d n k name → ⊥
  new_name k name none b =
      let listed = listed_before all i n b.0 sorted within here (listed_of b.0 k b.1 name b.3) b.2 in
      false_true (sym (ap is_some none) ∙ s.all b.0 k b.1 name listed b.3)

  -- an earlier one has it
  old_name : (k : BookKind) (name : List ℕ) → IsSome (at old (key_of k name)) → IsNamedBefore d n k name
  old_name k name is = let x = s.known k name is in (x.0, x.1, earlier_of x.0 x.2, x.3)

  by_name : (k : BookKind) (uuid name : List ℕ) (found : Finding) → IsNamedSo n bytes k uuid name → FoundBy k uuid name old now found → Knows d (take i all ++ n ∷ []) now × IsFinding d n bytes found
  by_name k uuid name (finding.Ok l word other) named (kinds, uuids, names, (none, updates)) = (
    knows_new d (take i all) n bytes k uuid name old now content named updates s,
    (
      subst (λ (m : BookKind). IsNamedSo n bytes m other word) (sym kinds) (subst (λ (u : List ℕ). IsNamedSo n bytes k u word) (sym uuids) (subst (λ (w : List ℕ). IsNamedSo n bytes k uuid w) (sym names) named)),
      λ b. new_name k name none (subst (λ (w : List ℕ). IsNamedBefore d n k w) names (subst (λ (m : BookKind). IsNamedBefore d n m word) kinds b)),
    ),
  )
  by_name k uuid name finding.Damaged named (is, same) = (
    knows_same d (take i all) n old now same
        (λ l other word of. let both = one_named n bytes k l uuid other name word named (with_bytes d n bytes l other word content of) in subst (λ (key : List ℕ). IsSome (at old key)) (λ j. key_of (both.0 j) (both.1 j)) is) s,
    (
      says_so n bytes k uuid name named,
      λ l other word of. let both = one_named n bytes k l uuid other name word named of in
          subst (λ (w : List ℕ). IsNamedBefore d n l w) both.1 (subst (λ (m : BookKind). IsNamedBefore d n m name) both.0 (old_name k name is)),
    ),
  )
  by_name k uuid name (finding.Ran word boot) named f = absurd f
  by_name k uuid name finding.Unread named f = absurd f

  by_bytes : (found : Finding) → IsDefinitionName n → Judges n bytes old now found → Knows d (take i all ++ n ∷ []) now × IsFinding d n bytes found
  by_bytes found says (inl (k, uuid, name, named, f)) = by_name k uuid name found named f
  by_bytes found says (inr (is, same, none)) = (
    knows_same d (take i all) n old now same (λ l other word of. absurd (none l other word (with_bytes d n bytes l other word content of))) s,
    subst (λ (f : Finding). IsFinding d n bytes f) (sym is) (says, λ l other word of. absurd (none l other word of)),
  )

judged_step : (d : Directory) (all : List (List ℕ)) (i : ℕ) (n : List ℕ) (old now : Names) (before after : List Report) → Lists d all → IsInOrder all → i < length all → n ≡ get_or all i n
    → take (i + 1) all ≡ take i all ++ n ∷ [] → Judged d (take i all) old before
    → Adds IsDefinitionName (λ bytes found. Judges n bytes old now found) (now ≡ old) d n before after → Judged d (take i all ++ n ∷ []) now after
judged_step d all i n old now before after lists sorted within here cut j (inl (why, same, reports)) = record {
  names = knows_same d (take i all) n old now same
      (λ k uuid name of. ⊎_elim (λ not. absurd (not (says_so n of.0 k uuid name of.2))) (λ absent. absurd (some_none of.0 (sym of.1 ∙ absent))) why) j.names;
  reported = reported_pass IsDefinitionName d (take i all) n before after why reports j.reported;
}
judged_step d all i n old now before after lists sorted within here cut j (inr (bytes, found, says, content, judges, reports)) =
    let both = by_bytes d all i n bytes old now lists sorted within here cut content j.names found says judges in
    record {
      names = both.0;
      reported = reported_one IsDefinitionName d (take i all) n bytes found before after says content both.1 (λ m is. before_this d all i n m lists sorted within here cut is) reports j.reported;
    }

pub judged_first : (told : Told) (seen : Names) (reports : List Report) → seen ≡ [] → reports ≡ [] → JudgedAt told [] seen reports
judged_first None seen reports none empty = tt
judged_first (Some os) seen reports none empty = record { names = knows_first (directory os) seen none; reported = reported_first IsDefinitionName (directory os) reports empty }

pub judged_more : (told : Told) (all : List (List ℕ)) (i : ℕ) (n : List ℕ) (old now : Names) (before after : List Report) → IsListed told all → IsInOrder all → i < length all → n ≡ get_or all i n
    → take (i + 1) all ≡ take i all ++ n ∷ [] → JudgedAt told (take i all) old before → AddsDefinition told n old now before after → JudgedAt told (take (i + 1) all) now after
judged_more None all i n old now before after lists sorted within here cut j adds = tt
judged_more (Some os) all i n old now before after lists sorted within here cut j adds =
    subst (λ (l : List (List ℕ)). Judged (directory os) l now after) (sym cut) (judged_step (directory os) all i n old now before after lists sorted within here cut j adds)

pub judged_whole : (told : Told) (all : List (List ℕ)) (seen : Names) (reports : List Report) → IsListed told all → JudgedAt told all seen reports → HasDefinitionsAt told reports
judged_whole None all seen reports lists j = tt
judged_whole (Some os) all seen reports lists j = reported_whole IsDefinitionName (directory os) all reports lists j.reported

-- the status files among the first files are reported, after what was before
pub record ReportedAfter (d : Directory) (before : List (List ℕ)) (start reports : List Report) : Type 0 where
  pub more : List Report
  pub is : reports ≡ start ++ more
  pub reported : Reported IsStatusName d before more

abbrev pub StatusesAt : Told → List (List ℕ) → List Report → List Report → Type 0
StatusesAt None before start reports = Unit {0}
StatusesAt (Some os) before start reports = ReportedAfter (directory os) before start reports

tells_finding : (d : Directory) (n bytes : List ℕ) (found : Finding) → IsStatusName n → TellsFound n bytes found → IsFinding d n bytes found
tells_finding d n bytes (finding.Ok k name uuid) says is = absurd is
tells_finding d n bytes finding.Damaged says is = absurd is
tells_finding d n bytes (finding.Ran name boot) says is = is
tells_finding d n bytes finding.Unread says is = (says, is)

status_step : (d : Directory) (all : List (List ℕ)) (i : ℕ) (n : List ℕ) (start before after : List Report) → ((m : List ℕ) → is_listed m (take i all) ≡ true → ComesBefore m n) → ReportedAfter d (take i all) start before
    → Adds IsStatusName (λ bytes found. TellsFound n bytes found) (Unit {0}) d n before after → ReportedAfter d (take i all ++ n ∷ []) start after
status_step d all i n start before after earlier r (inl (why, same, reports)) = record {
  more = r.more;
  is = reports ∙ r.is;
  reported = reported_pass IsStatusName d (take i all) n r.more r.more why refl r.reported;
}
status_step d all i n start before after earlier r (inr (bytes, found, says, content, tells, reports)) =
    let last : Report = record { file = n; found = found } in
    record {
      more = r.more ++ last ∷ [];
      is = reports ∙ ap (λ (l : List Report). l ++ last ∷ []) r.is ∙ append_assoc start r.more (last ∷ []);
      reported = reported_one IsStatusName d (take i all) n bytes found r.more (r.more ++ last ∷ []) says content (tells_finding d n bytes found says tells) earlier refl r.reported;
    }

pub statuses_first : (told : Told) (start : List Report) → StatusesAt told [] start start
statuses_first None start = tt
statuses_first (Some os) start = record { more = []; is = sym (append-nil start); reported = reported_first IsStatusName (directory os) [] refl }

pub statuses_more : (told : Told) (all : List (List ℕ)) (i : ℕ) (n : List ℕ) (start before after : List Report) → IsListed told all → IsInOrder all → i < length all → n ≡ get_or all i n
    → take (i + 1) all ≡ take i all ++ n ∷ [] → StatusesAt told (take i all) start before → AddsStatus told n before after → StatusesAt told (take (i + 1) all) start after
statuses_more None all i n start before after lists sorted within here cut r adds = tt
statuses_more (Some os) all i n start before after lists sorted within here cut r adds =
    subst (λ (l : List (List ℕ)). ReportedAfter (directory os) l start after) (sym cut)
    (status_step (directory os) all i n start before after (λ m is. before_this (directory os) all i n m lists sorted within here cut is) r adds)

pub statuses_whole : (told : Told) (all : List (List ℕ)) (start reports : List Report) → IsListed told all → StatusesAt told all start reports → HasStatusesAt told start reports
statuses_whole None all start reports lists r = tt
statuses_whole (Some os) all start reports lists r = (r.more, r.is, reported_whole IsStatusName (directory os) all r.more lists r.reported)

pub examined : (told : Told) (definitions reports : List Report) → HasDefinitionsAt told definitions → HasStatusesAt told definitions reports → IsExaminedAt told reports
examined None definitions reports a b = tt
examined (Some os) definitions reports a (more, is, of) = record { definitions = definitions; statuses = more; parts = is; of_definitions = a; of_statuses = of }

-- the next definition's file was read, judged and reported
pub adds_definition : (told : Told) (file bytes : List ℕ) (found : Finding) (old now : Names) (before after : List Report) (r : Result (Unit {0}) Fault) (says : Bool)
    → (says ≡ true → IsDefinitionName file) → says ≡ true → IsRead told file (Some bytes) → Judges file bytes old now found
    → OnOk r (after ≡ before ++ record { file = file; found = found } ∷ []) → OnOk r (AddsDefinition told file old now before after)
adds_definition told file bytes found old now before after (Err e) says tells is read judges added = tt
adds_definition None file bytes found old now before after (Ok done) says tells is read judges added = tt
adds_definition (Some os) file bytes found old now before after (Ok done) says tells is read judges added = inr (bytes, found, tells is, sym read, judges, added)
