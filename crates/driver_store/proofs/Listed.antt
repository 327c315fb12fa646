-- The domains that were found, as the list is told of them, and those that are to be started.
use Rattle.std.proofs.Common.{◌≡◌, ◌∙◌, ◌++◌, ◌<◌, ◌≤◌, ◌+◌, List, [], ◌∷◌, ℕ, append_assoc, append-nil, ap, arith, drop, get_or, length, map, refl, suc, sym}
use Rattle.std.proofs.Math.Seq.{drop-cons}
use Rattle.std.proofs.lemmas.List.{get_or-map, get_or_default, length-map}
use Rattle.virt_types.specs.Limits.{most_domains}
use Rattle.virt_types.specs.declared.request.Request.{Request}
use Rattle.found_domains.specs.declared.found.FoundDomain.{FoundDomain}
use Rattle.found_domains.specs.Found.{AreDistinct, name_of}
use Rattle.object_list.specs.declared.slot_name.FoundDomain.{FoundDomain as ListedDomain}
use Rattle.object_list.specs.Opening as opening
use Rattle.driver_store.specs.Listing.{listed, start_of, starts_of}

-- keys that differ differ in the list too
distinct : (key : FoundDomain → List ℕ) (told : ListedDomain → List ℕ) (ds : List FoundDomain) → ((d : FoundDomain) → told (listed d) ≡ key d) → AreDistinct key ds → opening.AreDistinct told (map listed ds)
distinct key told [] same apart i j d i' j' e = absurd (let no : ⊥ = omega (arith, i') in no)
distinct key told (x ∷ xs) same apart i j d i' j' e =
    let ds = x ∷ xs in
    let long = length-map ds listed in
    let at : (n : ℕ) → n < length ds → told (get_or (map listed ds) n d) ≡ key (get_or ds n x) = λ n lt.
    ap told (get_or_default (map listed ds) n d (listed x) (omega (arith, long, lt)) ∙ get_or-map listed ds n x (listed x) lt) ∙ same (get_or ds n x) in
    let a : i < length ds = omega (arith, long, i') in
    let b : j < length ds = omega (arith, long, j') in
    apart i j x a b (sym (at i a) ∙ (e ∙ at j b))

pub can_open : (ds : List FoundDomain) → length ds ≤ most_domains → AreDistinct name_of ds → AreDistinct (λ d. d.uuid) ds → opening.CanOpen (map listed ds)
can_open ds few names uuids = record {
  few = omega (arith, length-map ds listed, few);
  names = distinct name_of (λ d. d.name) ds (λ d. refl) names;
  uuids = distinct (λ d. d.uuid) (λ d. d.uuid) ds (λ d. refl) uuids;
}

-- ---- starts
cut_at : (ds : List FoundDomain) (i : ℕ) (d : FoundDomain) → i < length ds → d ≡ get_or ds i d → drop i ds ≡ d ∷ drop (i + 1) ds
cut_at ds i d lt is =
    let one : suc i ≡ i + 1 = omega arith in
    drop-cons ds i d lt ∙ (ap (λ n. get_or ds i d ∷ drop n ds) one ∙ ap (λ x. x ∷ drop (i + 1) ds) (sym is))

next_starts : (d : FoundDomain) (ds : List FoundDomain) → starts_of (d ∷ ds) ≡ start_of d ++ starts_of ds
unfolding starts_of
next_starts d ds = refl

pub starts_more : (ds : List FoundDomain) (i : ℕ) (d : FoundDomain) (asked now : List Request) → i < length ds → d ≡ get_or ds i d → now ≡ asked ++ start_of d → asked ++ starts_of (drop i ds) ≡ starts_of ds
    → now ++ starts_of (drop (i + 1) ds) ≡ starts_of ds
starts_more ds i d asked now lt is put all = ap (λ (l : List Request). l ++ starts_of (drop (i + 1) ds)) put
    ∙ (append_assoc asked (start_of d) (starts_of (drop (i + 1) ds))
    ∙ (ap (λ (l : List Request). asked ++ l) (sym (ap starts_of (cut_at ds i d lt is) ∙ next_starts d (drop (i + 1) ds))) ∙ all))

pub starts_none : (ds : List FoundDomain) (i : ℕ) (asked : List Request) → drop i ds ≡ [] → asked ++ starts_of (drop i ds) ≡ starts_of ds → asked ≡ starts_of ds
unfolding starts_of
starts_none ds i asked none all = let whole = rw none at all in sym (append-nil asked) ∙ whole
