-- An empty directory.
use Rattle.std.proofs.Common.{◌≡◌, ◌++◌, List, [], ◌∷◌, ℕ, Option, None, option_map, refl, sym, ◌∙◌, ap, subst}
use Rattle.store_spec.specs.declared.operation.Operation.{Operation}
use Rattle.store_spec.specs.Directory.{Directory, File, directory, files_after}
use Rattle.store_spec.specs.Disk.{Leaves, MayLeave}
use Rattle.std.specs.List.{list_any}
use Rattle.store_spec.specs.Disk.{writes}
use Rattle.store_spec.specs.Laws.{EmptyIsSettled}
use Rattle.store_spec.specs.Settled.{IsSure}
use Rattle.store_spec.specs.FileNames.{definition_name}
use Rattle.store_spec.specs.StandsFor.{Holds, StandsFor}

no_file : (n : List ℕ) → files_after [] n ≡ None
unfolding files_after
no_file n = refl

stands_empty : (left : Directory) → ((n : List ℕ) → left n ≡ None) → StandsFor left (λ k uuid. None)
stands_empty left none = record {
  files = λ k uuid u. subst (λ (o : Option (List ℕ)). Holds o None) (sym (none (definition_name k uuid))) tt;
  no_other = λ n is other. none n;
}

-- both parts of an empty list are empty
first_empty : (kept lost : List Operation) → kept ++ lost ≡ [] → (kept ≡ []) × (lost ≡ [])
first_empty [] lost none = (refl, none)
first_empty (o ∷ kept) lost none = cc

empty_left : (left : Directory) → MayLeave [] left → (n : List ℕ) → left n ≡ None
empty_left left m n =
    let both = first_empty m.kept m.lost m.parts in
    subst (λ (f : Option File). Leaves f (left n)) (ap (λ (l : List Operation). files_after l n) both.0 ∙ no_file n)
    (m.files n (ap (λ (l : List Operation). list_any (writes n) l) both.1))

pub empty_is_settled : EmptyIsSettled
empty_is_settled = record {
  stands = stands_empty (directory []) (λ n. ap (λ (f : Option File). option_map (λ g. g.bytes) f) (no_file n));
  sure = λ n is. subst IsSure (sym (no_file n)) tt;
  images = λ left m. stands_empty left (empty_left left m);
}
