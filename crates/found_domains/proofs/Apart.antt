-- Domains by strictly rising name have different names and identifiers.
use Rattle.std.proofs.Common.{◌≡◌, ◌∙◌, ◌<◌, Bool, true, false, List, ℕ, Some, ap, arith, refl, sym}
use Rattle.std.specs.Prelude.{All, bytes_eq, nat_lt}
use Rattle.std.specs.Cmp.Lexicographic.{slice_cmp}
use Rattle.std.specs.List.Sorted.{IsStrictlySortedBy}
use Rattle.std.specs.Ordering.{is_eq, nat_cmp}
use Rattle.std.specs.declared.cmp.Ordering.TheVariants.{Less}
use Rattle.std.proofs.lemmas.Bool.Decides.{nat_tests}
use Rattle.std.proofs.lemmas.Map.Keys.{Less-from_sorted}
use Rattle.std.proofs.lemmas.Map.Text.{is_eq-slice_cmp}
use Rattle.std.proofs.lemmas.Slice.Eq.{bytes_eq-Decides}
use Rattle.store_spec.specs.declared.entry.Entry.{Entry}
use Rattle.store_spec.specs.declared.kind.BookKind.TheVariants as kind
use Rattle.store_spec.specs.Changes.{Definitions}
use Rattle.found_domains.specs.declared.found.FoundDomain.{FoundDomain}
use Rattle.found_domains.specs.Found.{AreDistinct, IsKeptOf, compare_names, name_of}

same_by : (i j : ℕ) (a b : Bool) → nat_lt i j ≡ a → nat_lt j i ≡ b → (i < j → ⊥) → (j < i → ⊥) → i ≡ j
same_by i j true b e f below above = absurd (below (grind (arith, nat_tests, e)))
same_by i j false true e f below above = absurd (above (grind (arith, nat_tests, f)))
same_by i j false false e f below above = grind (arith, nat_tests, e, f)

same_place : (i j : ℕ) → (i < j → ⊥) → (j < i → ⊥) → i ≡ j
same_place i j below above = same_by i j (nat_lt i j) (nat_lt j i) refl refl below above

not_before : (a b : List ℕ) → a ≡ b → slice_cmp nat_cmp a b ≡ Less → ⊥
not_before a b same less =
    let one : bytes_eq a b ≡ true = (bytes_eq-Decides a b).1 same in
    let other : bytes_eq a b ≡ false = sym (is_eq-slice_cmp a b) ∙ ap is_eq less in
    let both : true ≡ false = sym one ∙ other in cc

pub names_distinct : (ds : List FoundDomain) → IsStrictlySortedBy compare_names ds → AreDistinct name_of ds
names_distinct ds rising i j d lti ltj same = same_place i j
    (λ lt. not_before _ _ same (Less-from_sorted compare_names ds i j d rising lt ltj))
    (λ lt. not_before _ _ (sym same) (Less-from_sorted compare_names ds j i d rising lt lti))

one_name : (m : Definitions) (d other : FoundDomain) → IsKeptOf m d → IsKeptOf m other → d.uuid ≡ other.uuid → name_of d ≡ name_of other
one_name m d other kept more same =
    let both : Some kept.entry ≡ Some more.entry = sym kept.kept ∙ (ap (λ u. m kind.Domain u) same ∙ more.kept) in
    let entries : kept.entry ≡ more.entry = cc in
    sym kept.name ∙ (ap (λ (e : Entry). e.name) entries ∙ more.name)

pub uuids_distinct : (m : Definitions) (ds : List FoundDomain) → IsStrictlySortedBy compare_names ds → All (IsKeptOf m) ds → AreDistinct (λ d. d.uuid) ds
uuids_distinct m ds rising kept i j d lti ltj same = names_distinct ds rising i j d lti ltj (one_name m _ _ (kept i d lti) (kept j d ltj) same)
