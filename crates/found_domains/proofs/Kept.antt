-- What good files give: domains of their entries, and changes that can be made.
use Rattle.std.proofs.Common.{◌≡◌, ◌∙◌, ◌≤◌, Bool, true, false, List, [], ◌∷◌, ℕ, Option, None, Some, Result, Ok, Err, ap, arith, length, refl, subst, sym}
use Rattle.std.specs.Prelude.{◌&&◌, All, bytes_eq, nat_le, option_and_then, option_map}
use Rattle.std.proofs.lemmas.Bool.Decides.{nat_tests}
use Rattle.std.proofs.lemmas.List.Elements.{All-append, All-from_recursion, All-nil}
use Rattle.std.proofs.lemmas.Slice.Eq.{bytes_eq-Decides}
use Rattle.types_base.specs.Limits.{most_text_bytes}
use Rattle.types_base.specs.declared.domain_def.DomainDef.{DomainDef}
use Rattle.store_spec.specs.declared.change.Change.{Change}
use Rattle.store_spec.specs.declared.change.Change.TheVariants as change
use Rattle.store_spec.specs.declared.entry.Entry.{Entry}
use Rattle.store_spec.specs.declared.kind.BookKind.{BookKind}
use Rattle.store_spec.specs.declared.kind.BookKind.TheVariants as kind
use Rattle.store_spec.specs.declared.version.Version.{Version}
use Rattle.store_spec.specs.declared.version.Version.TheVariants as version
use Rattle.store_spec.specs.Changes.{Definitions}
use Rattle.domain_texts.specs.Below.session_spec.DefinitionText.{definition_in}
use Rattle.def_keeper.specs.declared.outcome.FoundDefinition.{FoundDefinition}
use Rattle.def_keeper.specs.Calls.{CanBeMade}
use Rattle.domain_texts.specs.Kept.{has_addresses, is_own, names_uuid, own, stored, tells_title}
use Rattle.domain_texts.proofs.Short.{reads_short}
use Rattle.domain_texts.proofs.Titles.{line_has_none}
use Rattle.found_domains.specs.Files.{Given, given, given_by, if_old, of_domain, of_other}
use Rattle.found_domains.specs.Found.{IsKeptOf, again_in, again_of, domains_in, domains_of}

-- what a definition has that is its file's
pub record IsStored (uuid : List ℕ) (e : Entry) (d : DomainDef) : Type 0 where
  pub name : d.name ≡ e.name
  pub identifier : d.uuid ≡ Some uuid
  pub short : length e.text ≤ most_text_bytes

first_of : (a b c d : Bool) → (a && b && c && d) ≡ true → a ≡ true
first_of true b c d e = refl
first_of false b c d e = cc

own_by : (v : Version) (uuid : List ℕ) (e : Entry) (read d : DomainDef) (b : Bool) → is_own v uuid e read ≡ b → definition_in e.text ≡ Ok read → own v uuid e (Ok read) ≡ Some d → IsStored uuid e d
own_by v uuid e read d true is reads says =
    let whole : record read { uuid = Some uuid } ≡ d = (let h = rw is at says in cc) in
    record {
      name = ap (λ (x : DomainDef). x.name) (sym whole) ∙ (bytes_eq-Decides read.name e.name).0 (first_of (bytes_eq read.name e.name) (names_uuid uuid read.uuid) (tells_title v e.title read) (has_addresses read) is);
      identifier = ap (λ (x : DomainDef). x.uuid) (sym whole);
      short = reads_short e.text read reads;
    }
own_by v uuid e read d false is reads says = absurd (let h = rw is at says in cc)

stored_by : (v : Version) (uuid : List ℕ) (e : Entry) (d : DomainDef) (r : Result DomainDef (List ℕ)) → definition_in e.text ≡ r → own v uuid e r ≡ Some d → IsStored uuid e d
stored_by v uuid e d (Ok read) reads says = own_by v uuid e read d (is_own v uuid e read) refl reads says
stored_by v uuid e d (Err kept) reads says = absurd cc

pub stored_is : (v : Version) (uuid : List ℕ) (e : Entry) (d : DomainDef) → stored v uuid e ≡ Some d → IsStored uuid e d
unfolding stored
stored_is v uuid e d says = stored_by v uuid e d (definition_in e.text) refl says

-- ---- changes
old_made : (v : Version) (c : Change) → CanBeMade c → All CanBeMade (if_old v c)
old_made version.One c can = All-from_recursion CanBeMade (c ∷ []) (can, tt)
old_made version.Two c can = All-nil CanBeMade

domain_made : (f : FoundDefinition) (e : Entry) (s : Option DomainDef) (g : Given) → stored f.version f.uuid e ≡ s → option_map (of_domain f e) s ≡ Some g → All CanBeMade g.again
domain_made f e None g is says = absurd cc
domain_made f e (Some d) g is says =
    let of : of_domain f e d ≡ g = cc in
    let all : All CanBeMade (of_domain f e d).again = old_made f.version _ (record { title = line_has_none _; text = (stored_is f.version f.uuid e d is).short }) in
    subst (λ (x : Given). All CanBeMade x.again) of all

other_by : (f : FoundDefinition) (e : Entry) (b : Bool) (g : Given) → nat_le (length e.text) most_text_bytes ≡ b → of_other f e ≡ Some g → All CanBeMade g.again
other_by f e true g is says =
    let of : record { domains = []; again = if_old f.version (change.Put f.kind f.uuid (record e { title = [] })) } ≡ g = (let h = rw is at says in cc) in
    subst (λ (x : Given). All CanBeMade x.again) of (old_made f.version _ (record { title = refl; text = grind (arith, nat_tests, is) }))
other_by f e false g is says = absurd (let h = rw is at says in cc)

entry_made : (k : BookKind) (f : FoundDefinition) (e : Entry) (g : Given) → given_by k f e ≡ Some g → All CanBeMade g.again
entry_made kind.Domain f e g says = domain_made f e (stored f.version f.uuid e) g refl says
entry_made kind.Network f e g says = other_by f e _ g refl says
entry_made kind.Pool f e g says = other_by f e _ g refl says

file_made : (f : FoundDefinition) (e : Option Entry) (g : Option Given) → option_and_then (given_by f.kind f) e ≡ g → All CanBeMade (again_of g)
file_made f e None is = All-nil CanBeMade
file_made f None (Some g) is = absurd cc
file_made f (Some e) (Some g) is = entry_made f.kind f e g is

given_made : (m : Definitions) (f : FoundDefinition) → All CanBeMade (again_of (given m f))
unfolding given
given_made m f = file_made f (m f.kind f.uuid) _ refl

-- each change that puts a file again can be made
pub again_made : (m : Definitions) (fs : List FoundDefinition) → All CanBeMade (again_in m fs)
unfolding again_in
again_made m [] = All-nil CanBeMade
again_made m (f ∷ fs) = All-append CanBeMade (again_of (given m f)) (again_in m fs) (given_made m f) (again_made m fs)

-- ---- domains
domain_kept : (m : Definitions) (f : FoundDefinition) (e : Entry) (s : Option DomainDef) (g : Given) → m kind.Domain f.uuid ≡ Some e → stored f.version f.uuid e ≡ s → option_map (of_domain f e) s ≡ Some g
    → All (IsKeptOf m) g.domains
domain_kept m f e None g at is says = absurd cc
domain_kept m f e (Some d) g at is says =
    let of : of_domain f e d ≡ g = cc in
    let its = stored_is f.version f.uuid e d is in
    subst (λ (x : Given). All (IsKeptOf m) x.domains) of
    (All-from_recursion (IsKeptOf m) (of_domain f e d).domains (record { entry = e; kept = at; name = sym its.name; identifier = its.identifier; flag = refl }, tt))

other_kept : (m : Definitions) (f : FoundDefinition) (e : Entry) (b : Bool) (g : Given) → nat_le (length e.text) most_text_bytes ≡ b → of_other f e ≡ Some g → All (IsKeptOf m) g.domains
other_kept m f e true g is says =
    let of : record { domains = []; again = if_old f.version (change.Put f.kind f.uuid (record e { title = [] })) } ≡ g = (let h = rw is at says in cc) in
    subst (λ (x : Given). All (IsKeptOf m) x.domains) of (All-nil (IsKeptOf m))
other_kept m f e false g is says = absurd (let h = rw is at says in cc)

entry_kept : (m : Definitions) (k : BookKind) (f : FoundDefinition) (e : Entry) (g : Given) → m k f.uuid ≡ Some e → given_by k f e ≡ Some g → All (IsKeptOf m) g.domains
entry_kept m kind.Domain f e g at says = domain_kept m f e (stored f.version f.uuid e) g at refl says
entry_kept m kind.Network f e g at says = other_kept m f e _ g refl says
entry_kept m kind.Pool f e g at says = other_kept m f e _ g refl says

file_kept : (m : Definitions) (f : FoundDefinition) (e : Option Entry) (g : Option Given) → m f.kind f.uuid ≡ e → option_and_then (given_by f.kind f) e ≡ g → All (IsKeptOf m) (domains_of g)
file_kept m f e None at is = All-nil (IsKeptOf m)
file_kept m f None (Some g) at is = absurd cc
file_kept m f (Some e) (Some g) at is = entry_kept m f.kind f e g at is

given_kept : (m : Definitions) (f : FoundDefinition) → All (IsKeptOf m) (domains_of (given m f))
unfolding given
given_kept m f = file_kept m f (m f.kind f.uuid) _ refl refl

-- each domain of the files is that of its entry
pub domains_kept : (m : Definitions) (fs : List FoundDefinition) → All (IsKeptOf m) (domains_in m fs)
unfolding domains_in
domains_kept m [] = All-nil (IsKeptOf m)
domains_kept m (f ∷ fs) = All-append (IsKeptOf m) (domains_of (given m f)) (domains_in m fs) (given_kept m f) (domains_kept m fs)
