-- Status files are reported and removed.
use Rattle.std.proofs.Common.{◌≡◌, ◌⊎◌, ⊎_elim, ◌<◌, ◌+◌, ◌++◌, true, false, List, [], ◌∷◌, ℕ, Option, None, Some, codes, get_or, length, option_map, take, refl, sym, ◌∙◌, ap, subst, arith, append_assoc, append-nil, length-append}
use Rattle.std.specs.List.Sorted.{IsStrictlySortedBy}
use Rattle.std.proofs.lemmas.List.{get_or-append-add}
use Rattle.std.proofs.lemmas.List.Elements.{All-push, Contains-append_left, Contains-append_right}
use Rattle.virt_types.specs.declared.status.Status.{Status}
use Rattle.files_disk.specs.Telling.{IsListed, Told, more}
use Rattle.store_spec.specs.declared.operation.Operation.{Operation}
use Rattle.store_spec.specs.declared.operation.Operation.TheVariants as op
use Rattle.store_spec.specs.Directory.{Directory, File, Files, directory, files_after}
use Rattle.store_spec.specs.FileNames.{IsDefinitionName, IsStatusName}
use Rattle.store_spec.proofs.Operating.{files_more, put_else, put_here, same_or_not}
use Rattle.store_spec.proofs.Settling.{IsAside}
use Rattle.store_reading.specs.Status.{TellsStatus}
use Rattle.def_keeper.specs.Opening.{ComesBefore, IsInOrder, is_listed}
use Rattle.def_keeper.specs.Tidying.{HasRemoved, HasRemovedAt, HasReported, HasReportedAt, AreReported, IsReported, IsTidying, ReportsAt, Tidies}
use Rattle.def_keeper.proofs.Opens.{all_still, listed_cases, listed_here}
use Rattle.def_keeper.proofs.Rising.{before_this, rising_more}

true_false : true ≡ false → ⊥
true_false e = cc

false_true : false ≡ true → ⊥
false_true e = cc

some_none : (b : List ℕ) → Some b ≡ None → ⊥
some_none b is = cc

-- a report more
told_more : (d : Directory) (files : List (List ℕ)) (statuses : List (Option Status)) (n : List ℕ) (s : Option Status) → AreReported d files statuses → IsReported d n s → AreReported d (files ++ n ∷ []) (statuses ++ s ∷ [])
told_more d [] [] n s told here = (here, tt)
told_more d [] (x ∷ statuses) n s told here = absurd told
told_more d (m ∷ files) [] n s told here = absurd told
told_more d (m ∷ files) (x ∷ statuses) n s told here = (told.0, told_more d files statuses n s told.1 here)

reported_none : (d : Directory) (names : List (List ℕ)) (n : List ℕ) (old new : List (Option Status)) → (IsStatusName n → ⊥) ⊎ (d n ≡ None) → new ≡ old → HasReported names d old → HasReported (names ++ n ∷ []) d new
reported_none d names n old new why same r = record {
  files = r.files;
  rising = r.rising;
  from = all_still names n r.files r.from;
  all = λ name bytes is says content. ⊎_elim
      (λ before. r.all name bytes before says content)
      (λ (this : name ≡ n). ⊎_elim (λ not. absurd (not (subst IsStatusName this says))) (λ absent. absurd (some_none bytes (sym content ∙ ap d this ∙ absent))) why)
      (listed_cases name n names is);
  told = subst (AreReported d r.files) (sym same) r.told;
}

reported_one : (d : Directory) (names : List (List ℕ)) (n bytes : List ℕ) (s : Option Status) (old new : List (Option Status)) → ((m : List ℕ) → is_listed m names ≡ true → ComesBefore m n)
    → IsStatusName n → d n ≡ Some bytes → TellsStatus n bytes s → new ≡ old ++ s ∷ [] → HasReported names d old → HasReported (names ++ n ∷ []) d new
reported_one d names n bytes s old new earlier says content tells same r = record {
  files = r.files ++ n ∷ [];
  rising = rising_more r.files n r.rising (λ k x lt. earlier (get_or r.files k x) (r.from k x lt));
  from = All-push (λ x. is_listed x (names ++ n ∷ []) ≡ true) r.files n (all_still names n r.files r.from) (listed_here n names);
  all = λ name bytes' is says' content'. ⊎_elim
      (λ before. Contains-append_left r.files (n ∷ []) name (r.all name bytes' before says' content'))
      (λ (this : name ≡ n). Contains-append_right r.files (n ∷ []) name (0, omega arith, sym this))
      (listed_cases name n names is);
  told = subst (AreReported d (r.files ++ n ∷ [])) (sym same) (told_more d r.files old n s r.told (says, (bytes, content, tells)));
}

pub report_first : (told : Told) (statuses : List (Option Status)) → statuses ≡ [] → HasReportedAt told [] statuses
unfolding IsStrictlySortedBy
report_first None statuses none = tt
report_first (Some os) statuses none = record {
  files = [];
  rising = tt;
  from = λ k s lt. absurd (omega (arith, lt));
  all = λ name bytes is says content. absurd (false_true is);
  told = subst (AreReported (directory os) []) (sym none) tt;
}

pub report_step : (told : Told) (all : List (List ℕ)) (i : ℕ) (n : List ℕ) (old new : List (Option Status)) → IsListed told all → IsInOrder all → i < length all → n ≡ get_or all i n
    → take (i + 1) all ≡ take i all ++ n ∷ [] → HasReportedAt told (take i all) old → ReportsAt told n old new → HasReportedAt told (take (i + 1) all) new
report_step None all i n old new lists sorted within here cut r step = tt
report_step (Some os) all i n old new lists sorted within here cut r step = subst (λ (l : List (List ℕ)). HasReported l (directory os) new) (sym cut) (⊎_elim
    (λ none. reported_none (directory os) (take i all) n old new none.0 none.1 r)
    (λ one. reported_one (directory os) (take i all) n one.0 one.1 old new (λ m is. before_this (directory os) all i n m lists sorted within here cut is) one.2 one.3 one.4 one.5 r)
    step)

-- what is read after a removal
removed_here : (os : List Operation) (n : List ℕ) → directory (os ++ op.Remove n ∷ []) n ≡ None
removed_here os n = ap (λ (fs : Files). option_map (λ f. f.bytes) (fs n)) (files_more os (op.Remove n)) ∙ ap (λ (f : Option File). option_map (λ g. g.bytes) f) (put_here n n None (files_after os) refl)

still_absent : (os : List Operation) (n x : List ℕ) → directory os x ≡ None → directory (os ++ op.Remove n ∷ []) x ≡ None
still_absent os n x absent = ⊎_elim
    (λ (same : x ≡ n). ap (λ (m : List ℕ). directory (os ++ op.Remove n ∷ []) m) same ∙ removed_here os n)
    (λ differ. ap (λ (fs : Files). option_map (λ f. f.bytes) (fs x)) (files_more os (op.Remove n)) ∙ ap (λ (f : Option File). option_map (λ g. g.bytes) f) (put_else n x None (files_after os) differ) ∙ absent)
    (same_or_not x n)

pub remove_first : (told : Told) → HasRemovedAt told [] told
remove_first None = refl
remove_first (Some os) = (
  os,
  refl,
  record {
    added = [];
    is = sym (append-nil os);
    only = λ k o lt. absurd (omega (arith, lt));
    gone = λ n is says. absurd (false_true is);
    absent = λ n none. none;
  },
)

some_ops : (a b : List Operation) → Some a ≡ Some b → a ≡ b
some_ops a b is = cc

removed_pass : (names : List (List ℕ)) (n : List ℕ) (os now : List Operation) → (IsStatusName n → ⊥) → HasRemoved names os now → HasRemoved (names ++ n ∷ []) os now
removed_pass names n os now not r = record {
  added = r.added;
  is = r.is;
  only = r.only;
  gone = λ x is says. ⊎_elim (λ before. r.gone x before says) (λ this. absurd (not (subst IsStatusName this says))) (listed_cases x n names is);
  absent = r.absent;
}

removed_one : (names : List (List ℕ)) (n : List ℕ) (os now : List Operation) → IsStatusName n → HasRemoved names os now → HasRemoved (names ++ n ∷ []) os (now ++ op.Remove n ∷ [])
removed_one names n os now says r = record {
  added = r.added ++ op.Remove n ∷ [];
  is = ap (λ (l : List Operation). l ++ op.Remove n ∷ []) r.is ∙ append_assoc os r.added (op.Remove n ∷ []);
  only = All-push IsTidying r.added (op.Remove n) r.only says;
  gone = λ x is says'. ⊎_elim
      (λ before. still_absent now n x (r.gone x before says'))
      (λ this. ap (λ (m : List ℕ). directory (now ++ op.Remove n ∷ []) m) this ∙ removed_here now n)
      (listed_cases x n names is);
  absent = λ x none. still_absent now n x (r.absent x none);
}

pub remove_step : (told : Told) (names : List (List ℕ)) (n : List ℕ) (old new : Told) → HasRemovedAt told names old
    → (((IsStatusName n → ⊥) × (new ≡ old)) ⊎ (IsStatusName n × (new ≡ more old (op.Remove n)))) → HasRemovedAt told (names ++ n ∷ []) new
remove_step None names n old new h step = ⊎_elim (λ pass. pass.1 ∙ h) (λ one. one.1 ∙ ap (λ (t : Told). more t (op.Remove n)) h) step
remove_step (Some os) names n old new (now, told_is, r) step = ⊎_elim
    (λ pass. (now, pass.1 ∙ told_is, removed_pass names n os now pass.0 r))
    (λ one. (now ++ op.Remove n ∷ [], one.1 ∙ ap (λ (t : Told). more t (op.Remove n)) told_is, removed_one names n os now one.0 r))
    step

pub removed_tidies : (told : Told) (names : List (List ℕ)) (new : Told) → HasRemovedAt told names new → Tidies told new
removed_tidies None names new h = h
removed_tidies (Some os) names new (now, told_is, r) = (r.added, told_is ∙ ap (λ (l : List Operation). Some l) r.is, r.only)

pub tidies_more : (told old new : Told) (n : List ℕ) → IsStatusName n → Tidies told old → new ≡ more old (op.Remove n) → Tidies told new
tidies_more None old new n says t is = is ∙ ap (λ (x : Told). more x (op.Remove n)) t
tidies_more (Some os) old new n says (added, told_is, only) is = (
  added ++ op.Remove n ∷ [],
  is ∙ ap (λ (x : Told). more x (op.Remove n)) told_is ∙ ap (λ (l : List Operation). Some l) (append_assoc os added (op.Remove n ∷ [])),
  All-push IsTidying added (op.Remove n) only says,
)

pub tidies_failed : (told old new : Told) (n : List ℕ) → Tidies told old → (new ≡ old) ⊎ (IsStatusName n × (new ≡ more old (op.Remove n))) → Tidies told new
tidies_failed told old new n t step = ⊎_elim (λ same. subst (Tidies told) (sym same) t) (λ one. tidies_more told old new n one.0 t one.1) step

pub tidies_none : (told new : Told) → new ≡ told → Tidies told new
tidies_none None new same = same
tidies_none (Some os) new same = ([], same ∙ ap (λ (l : List Operation). Some l) (sym (append-nil os)), λ k o lt. absurd (omega (arith, lt)))

pub tidies_synced : (told old new : Told) → Tidies told old → new ≡ more old op.SyncDirectory → Tidies told new
tidies_synced None old new t is = is ∙ ap (λ (x : Told). more x op.SyncDirectory) t
tidies_synced (Some os) old new (added, told_is, only) is = (
  added ++ op.SyncDirectory ∷ [],
  is ∙ ap (λ (x : Told). more x op.SyncDirectory) told_is ∙ ap (λ (l : List Operation). Some l) (append_assoc os added (op.SyncDirectory ∷ [])),
  All-push IsTidying added op.SyncDirectory only tt,
)

-- a status file is no definition
pub status_apart : (n : List ℕ) → IsStatusName n → IsDefinitionName n → ⊥
status_apart n (stem, is) (front, def) =
    let a = codes "run-" ++ stem in
    let long : length a ≡ length front = omega (arith, ap length (sym is ∙ def), length-append a (codes ".sta"), length-append front (codes ".def")) in
    let left : get_or (a ++ codes ".sta") (length a + 3) 0 ≡ 97 = get_or-append-add a (codes ".sta") 3 0 in
    let right : get_or (front ++ codes ".def") (length front + 3) 0 ≡ 102 = get_or-append-add front (codes ".def") 3 0 in
    let both : get_or (a ++ codes ".sta") (length a + 3) 0 ≡ 102 = ap (λ (l : List ℕ). get_or l (length a + 3) 0) (sym is ∙ def) ∙ ap (λ (k : ℕ). get_or (front ++ codes ".def") (k + 3) 0) long ∙ right in
    omega (arith, left, both)

pub tidying_aside : (o : Operation) → IsTidying o → IsAside o
tidying_aside (op.Remove n) says = record { files = λ fs x is. put_else n x None fs (λ same. status_apart n says (subst IsDefinitionName same is)); writes_none = λ x is. refl }
tidying_aside op.SyncDirectory says = record { files = λ fs x is. refl; writes_none = λ x is. refl }
tidying_aside (op.Write n bytes) says = absurd says
tidying_aside (op.Sync n) says = absurd says
tidying_aside (op.Rename from to) says = absurd says
