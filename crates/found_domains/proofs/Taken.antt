-- Files that are taken in one after another.
use Rattle.std.proofs.Common.{◌≡◌, ◌∙◌, ◌++◌, ◌<◌, ◌+◌, true, false, List, [], ◌∷◌, ℕ, Option, None, Some, append_assoc, append-nil, ap, arith, drop, get_or, length, refl, sym, suc}
use Rattle.std.proofs.Math.Seq.{drop-cons}
use Rattle.store_spec.specs.declared.change.Change.{Change}
use Rattle.store_spec.specs.Changes.{Definitions}
use Rattle.def_keeper.specs.declared.outcome.FoundDefinition.{FoundDefinition}
use Rattle.found_domains.specs.declared.found.FoundDomain.{FoundDomain}
use Rattle.found_domains.specs.Files.{Given, given}
use Rattle.found_domains.specs.Found.{again_in, domains_in, first_bad}
use Rattle.found_domains.specs.Taking.{Takes}

-- what is found so far and what is left to find are all
abbrev pub AreLeft : Definitions → List FoundDefinition → List FoundDefinition → List FoundDomain → List Change → Type 0
AreLeft m fs rows ds cs = (first_bad m fs ≡ first_bad m rows) × (ds ++ domains_in m fs ≡ domains_in m rows) × (cs ++ again_in m fs ≡ again_in m rows)

next_bad : (m : Definitions) (f : FoundDefinition) (fs : List FoundDefinition) (g : Given) → given m f ≡ Some g → first_bad m (f ∷ fs) ≡ first_bad m fs
unfolding first_bad
next_bad m f fs g e = rw e refl

next_domains : (m : Definitions) (f : FoundDefinition) (fs : List FoundDefinition) (g : Given) → given m f ≡ Some g → domains_in m (f ∷ fs) ≡ g.domains ++ domains_in m fs
unfolding domains_in
next_domains m f fs g e = rw e refl

next_again : (m : Definitions) (f : FoundDefinition) (fs : List FoundDefinition) (g : Given) → given m f ≡ Some g → again_in m (f ∷ fs) ≡ g.again ++ again_in m fs
unfolding again_in
next_again m f fs g e = rw e refl

by_given : (m : Definitions) (f : FoundDefinition) (fs rows : List FoundDefinition) (ds dsn : List FoundDomain) (cs csn : List Change) (g : Option Given) → given m f ≡ g
    → Takes g ds dsn cs csn true → AreLeft m (f ∷ fs) rows ds cs → AreLeft m fs rows dsn csn
by_given m f fs rows ds dsn cs csn None e took left = absurd cc
by_given m f fs rows ds dsn cs csn (Some g) e took left = (
  sym (next_bad m f fs g e) ∙ left.0,
  ap (λ x. x ++ domains_in m fs) took.1 ∙ append_assoc ds g.domains (domains_in m fs) ∙ ap (λ x. ds ++ x) (sym (next_domains m f fs g e)) ∙ left.1,
  ap (λ x. x ++ again_in m fs) took.2 ∙ append_assoc cs g.again (again_in m fs) ∙ ap (λ x. cs ++ x) (sym (next_again m f fs g e)) ∙ left.2,
)

next_of : (rows : List FoundDefinition) (i : ℕ) (f : FoundDefinition) → i < length rows → f ≡ get_or rows i f → drop i rows ≡ f ∷ drop (i + 1) rows
next_of rows i f lt is =
    let one : suc i ≡ i + 1 = omega arith in
    drop-cons rows i f lt ∙ (ap (λ n. get_or rows i f ∷ drop n rows) one ∙ ap (λ x. x ∷ drop (i + 1) rows) (sym is))

-- the next file was good
pub takes_next : (m : Definitions) (rows : List FoundDefinition) (i : ℕ) (f : FoundDefinition) (ds dsn : List FoundDomain) (cs csn : List Change) → i < length rows → f ≡ get_or rows i f
    → Takes (given m f) ds dsn cs csn true → AreLeft m (drop i rows) rows ds cs → AreLeft m (drop (i + 1) rows) rows dsn csn
takes_next m rows i f ds dsn cs csn lt is took left =
    let cut : drop i rows ≡ f ∷ drop (i + 1) rows = next_of rows i f lt is in
    by_given m f (drop (i + 1) rows) rows ds dsn cs csn (given m f) refl took (rw cut at left)

bad_given : (m : Definitions) (f : FoundDefinition) (fs : List FoundDefinition) (ds dsn : List FoundDomain) (cs csn : List Change) (g : Option Given) → given m f ≡ g
    → Takes g ds dsn cs csn false → first_bad m (f ∷ fs) ≡ Some f
unfolding first_bad
bad_given m f fs ds dsn cs csn None e took = rw e refl
bad_given m f fs ds dsn cs csn (Some g) e took = absurd (let h = took.0 in cc)

-- it was not
pub bad_next : (m : Definitions) (rows : List FoundDefinition) (i : ℕ) (f : FoundDefinition) (ds dsn : List FoundDomain) (cs csn : List Change) → i < length rows → f ≡ get_or rows i f
    → Takes (given m f) ds dsn cs csn false → first_bad m (drop i rows) ≡ first_bad m rows → Some f ≡ first_bad m rows
bad_next m rows i f ds dsn cs csn lt is took left =
    let cut : drop i rows ≡ f ∷ drop (i + 1) rows = next_of rows i f lt is in
    sym (bad_given m f (drop (i + 1) rows) ds dsn cs csn (given m f) refl took) ∙ ap (first_bad m) (sym cut) ∙ left

-- all were
pub takes_last : (m : Definitions) (rows : List FoundDefinition) (i : ℕ) (ds : List FoundDomain) (cs : List Change) → drop i rows ≡ []
    → AreLeft m (drop i rows) rows ds cs → (None ≡ first_bad m rows) × (ds ≡ domains_in m rows) × (cs ≡ again_in m rows)
unfolding first_bad domains_in again_in
takes_last m rows i ds cs none left =
    let all = rw none at left in (all.0, sym (append-nil ds) ∙ all.1, sym (append-nil cs) ∙ all.2)
