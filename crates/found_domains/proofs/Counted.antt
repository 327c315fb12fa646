-- There are no more domains than files of domains.
use Rattle.std.proofs.Common.{◌≡◌, ◌++◌, ◌≤◌, Bool, true, false, List, [], ◌∷◌, Option, None, Some, inl, inr, arith, length, refl}
use Rattle.std.specs.Prelude.{filter, nat_le, option_and_then, option_map, if◌then◌else◌}
use Rattle.std.specs.Option.{option_or}
use Rattle.std.proofs.lemmas.List.{length-append}
use Rattle.std.proofs.lemmas.Option.{slice_get_cases}
use Rattle.types_base.specs.Limits.{most_domains, most_text_bytes}
use Rattle.types_base.specs.declared.domain_def.DomainDef.{DomainDef}
use Rattle.store_spec.specs.declared.entry.Entry.{Entry}
use Rattle.store_spec.specs.declared.kind.BookKind.{BookKind}
use Rattle.store_spec.specs.declared.kind.BookKind.TheVariants as kind
use Rattle.store_spec.specs.Changes.{Definitions, same_kind}
use Rattle.def_keeper.specs.declared.outcome.FoundDefinition.{FoundDefinition}
use Rattle.domain_texts.specs.Kept.{stored}
use Rattle.found_domains.specs.Files.{given, given_by, of_domain, of_other}
use Rattle.found_domains.specs.Found.{domains_in, domains_of, first_past, past}

abbrev pub files_of_domains : List FoundDefinition → List FoundDefinition
files_of_domains fs = filter (λ f. same_kind f.kind kind.Domain) fs

few_domain : (f : FoundDefinition) (e : Entry) (s : Option DomainDef) → length (domains_of (option_map (of_domain f e) s)) ≤ 1
few_domain f e None = omega arith
few_domain f e (Some d) = omega arith

few_other : (f : FoundDefinition) (e : Entry) (b : Bool) → nat_le (length e.text) most_text_bytes ≡ b → length (domains_of (of_other f e)) ≤ 0
few_other f e true is = rw is (omega arith)
few_other f e false is = rw is (omega arith)

few_file : (k : BookKind) (f : FoundDefinition) (e : Option Entry) → length (domains_of (option_and_then (given_by k f) e)) ≤ (if same_kind k kind.Domain then 1 else 0)
few_file kind.Domain f None = omega arith
few_file kind.Domain f (Some e) = few_domain f e (stored f.version f.uuid e)
few_file kind.Network f None = omega arith
few_file kind.Network f (Some e) = few_other f e _ refl
few_file kind.Pool f None = omega arith
few_file kind.Pool f (Some e) = few_other f e _ refl

few_given : (m : Definitions) (f : FoundDefinition) → length (domains_of (given m f)) ≤ (if same_kind f.kind kind.Domain then 1 else 0)
unfolding given
few_given m f = few_file f.kind f (m f.kind f.uuid)

few_step : (m : Definitions) (f : FoundDefinition) (fs : List FoundDefinition) (b : Bool) → same_kind f.kind kind.Domain ≡ b → length (domains_of (given m f)) ≤ (if b then 1 else 0)
    → length (domains_in m fs) ≤ length (files_of_domains fs) → length (domains_of (given m f) ++ domains_in m fs) ≤ length (files_of_domains (f ∷ fs))
few_step m f fs true is one rest = rw is (omega (arith, one, rest, length-append (domains_of (given m f)) (domains_in m fs)))
few_step m f fs false is one rest = rw is (omega (arith, one, rest, length-append (domains_of (given m f)) (domains_in m fs)))

domains_few : (m : Definitions) (fs : List FoundDefinition) → length (domains_in m fs) ≤ length (files_of_domains fs)
unfolding domains_in
domains_few m [] = omega arith
domains_few m (f ∷ fs) = few_step m f fs (same_kind f.kind kind.Domain) refl (few_given m f) (domains_few m fs)

no_first : {A : Type 0} (a b : Option A) → option_or a b ≡ None → a ≡ None
no_first None b e = refl
no_first (Some x) b e = absurd cc

files_few : (fs : List FoundDefinition) → past kind.Domain fs ≡ None → length (files_of_domains fs) ≤ most_domains
unfolding past
files_few fs e = elim ((slice_get_cases (files_of_domains fs) most_domains).1) [
  | inl here ↦ absurd (let h = here.2 in cc)
  | inr over ↦ over.0
]

-- where no file is past the most, the domains are not more
pub few_found : (m : Definitions) (fs : List FoundDefinition) → first_past fs ≡ None → length (domains_in m fs) ≤ most_domains
few_found m fs e =
    let files = files_few fs (no_first _ _ e) in
    let domains = domains_few m fs in omega (arith, files, domains)
