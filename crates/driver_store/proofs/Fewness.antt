-- There are no more changes that put files again than files, and no more files than are served.
use Rattle.std.proofs.Common.{◌≡◌, ◌+◌, ◌<◌, ◌≤◌, ℕ, Bool, true, false, List, [], ◌∷◌, Option, None, Some, inl, inr, arith, length, length-append, refl}
use Rattle.std.specs.Prelude.{filter, nat_le, option_and_then, option_map}
use Rattle.std.specs.Option.{option_or}
use Rattle.std.proofs.lemmas.Option.{slice_get_cases}
use Rattle.virt_types.specs.Limits.{most_text_bytes}
use Rattle.virt_types.specs.Below.types_base.declared.domain_def.DomainDef.{DomainDef}
use Rattle.store_spec.specs.declared.change.Change.{Change}
use Rattle.store_spec.specs.declared.entry.Entry.{Entry}
use Rattle.store_spec.specs.declared.kind.BookKind.{BookKind}
use Rattle.store_spec.specs.declared.kind.BookKind.TheVariants as kind
use Rattle.store_spec.specs.declared.version.Version.{Version}
use Rattle.store_spec.specs.declared.version.Version.TheVariants as version
use Rattle.store_spec.specs.Changes.{Definitions, same_kind}
use Rattle.def_keeper.specs.declared.outcome.FoundDefinition.{FoundDefinition}
use Rattle.found_domains.specs.Below.domain_texts.Kept.{stored}
use Rattle.found_domains.specs.Files.{given, given_by, if_old, of_domain, of_other}
use Rattle.found_domains.specs.Found.{again_in, again_of, fault_in, first_past, most_of, past}

old_few : (v : Version) (c : Change) → length (if_old v c) ≤ 1
old_few version.One c = omega arith
old_few version.Two c = omega arith

few_domain : (f : FoundDefinition) (e : Entry) (s : Option DomainDef) → length (again_of (option_map (of_domain f e) s)) ≤ 1
few_domain f e None = omega arith
few_domain f e (Some d) = old_few f.version _

few_other : (f : FoundDefinition) (e : Entry) (b : Bool) → nat_le (length e.text) most_text_bytes ≡ b → length (again_of (of_other f e)) ≤ 1
few_other f e true is = rw is (old_few f.version _)
few_other f e false is = rw is (omega arith)

few_file : (k : BookKind) (f : FoundDefinition) (e : Option Entry) → length (again_of (option_and_then (given_by k f) e)) ≤ 1
few_file kind.Domain f None = omega arith
few_file kind.Domain f (Some e) = few_domain f e (stored f.version f.uuid e)
few_file kind.Network f None = omega arith
few_file kind.Network f (Some e) = few_other f e _ refl
few_file kind.Pool f None = omega arith
few_file kind.Pool f (Some e) = few_other f e _ refl

few_given : (m : Definitions) (f : FoundDefinition) → length (again_of (given m f)) ≤ 1
unfolding given
few_given m f = few_file f.kind f (m f.kind f.uuid)

again_few : (m : Definitions) (fs : List FoundDefinition) → length (again_in m fs) ≤ length fs
unfolding again_in
again_few m [] = omega arith
again_few m (f ∷ fs) = let one = few_given m f in let rest = again_few m fs in omega (arith, one, rest, length-append (again_of (given m f)) (again_in m fs))

abbrev of_kind : BookKind → List FoundDefinition → ℕ
of_kind k fs = length (filter (λ f. same_kind f.kind k) fs)

counted_step : (k : BookKind) (f : FoundDefinition) (fs : List FoundDefinition) → f.kind ≡ k → length fs ≤ of_kind kind.Domain fs + of_kind kind.Network fs + of_kind kind.Pool fs
    → length (f ∷ fs) ≤ of_kind kind.Domain (f ∷ fs) + of_kind kind.Network (f ∷ fs) + of_kind kind.Pool (f ∷ fs)
counted_step kind.Domain f fs is rest = rw is (omega (arith, rest))
counted_step kind.Network f fs is rest = rw is (omega (arith, rest))
counted_step kind.Pool f fs is rest = rw is (omega (arith, rest))

-- each file is of a kind
all_counted : (fs : List FoundDefinition) → length fs ≤ of_kind kind.Domain fs + of_kind kind.Network fs + of_kind kind.Pool fs
all_counted [] = omega arith
all_counted (f ∷ fs) = counted_step f.kind f fs refl (all_counted fs)

none_past : (k : BookKind) (fs : List FoundDefinition) → past k fs ≡ None → of_kind k fs ≤ most_of k
unfolding past
none_past k fs e = elim ((slice_get_cases (filter (λ f. same_kind f.kind k) fs) (most_of k)).1) [
  | inl here ↦ absurd (let h = here.2 in cc)
  | inr over ↦ over.0
]

both_none : {A : Type 0} (a b : Option A) → option_or a b ≡ None → (a ≡ None) × (b ≡ None)
both_none None b e = (refl, e)
both_none (Some x) b e = absurd cc

map_none : {A B : Type 0} (f : A → B) (a : Option A) → option_map f a ≡ None → a ≡ None
map_none f None e = refl
map_none f (Some x) e = absurd cc

past_none : (m : Definitions) (fs : List FoundDefinition) → fault_in m fs ≡ None → first_past fs ≡ None
unfolding fault_in
past_none m fs e = map_none _ (first_past fs) (both_none _ _ e).1

-- so few changes put the files of what is served again
pub few_again : (m : Definitions) (fs : List FoundDefinition) → fault_in m fs ≡ None → length (again_in m fs) < 4096
few_again m fs e =
    let none = past_none m fs e in
    let one = both_none (past kind.Domain fs) _ none in
    let two = both_none (past kind.Network fs) (past kind.Pool fs) one.1 in
    let domains = none_past kind.Domain fs one.0 in
    let networks = none_past kind.Network fs two.0 in
    let pools = none_past kind.Pool fs two.1 in
    let all = all_counted fs in
    let few = again_few m fs in
    omega (arith, domains, networks, pools, all, few)
