-- What the files of definitions hold, one by one.
use Rattle.std.specs.Prelude.{List, [], ◌∷◌, nat_le, length, Option, None, Some, option_and_then, option_map, if◌then◌else◌}
use Rattle.types_base.specs.Limits.{most_text_bytes}
use Rattle.types_base.specs.declared.domain_def.DomainDef.{DomainDef}
use Rattle.store_spec.specs.declared.change.Change.{Change}
use Rattle.store_spec.specs.declared.change.Change.TheVariants as change
use Rattle.store_spec.specs.declared.entry.Entry.{Entry}
use Rattle.store_spec.specs.declared.kind.BookKind.{BookKind}
use Rattle.store_spec.specs.declared.kind.BookKind.TheVariants as kind
use Rattle.store_spec.specs.declared.version.Version.{Version}
use Rattle.store_spec.specs.declared.version.Version.TheVariants as version
use Rattle.store_spec.specs.Changes.{Definitions}
use Rattle.def_keeper.specs.declared.outcome.FoundDefinition.{FoundDefinition}
use Rattle.domain_texts.specs.Kept.{stored}
use Rattle.domain_texts.specs.Title.{title_of}
use Rattle.found_domains.specs.declared.found.FoundDomain.{FoundDomain}

-- what a good file gives: its domain, where it is one's, and the change that puts it again, where it is of version 1
pub record Given : Type 0 where
  pub domains : List FoundDomain
  pub again : List Change

-- a file of version 1 is put again
abbrev pub if_old : Version → Change → List Change
if_old version.One c = c ∷ []
if_old version.Two c = []

-- a domain with its definition; its file is put again with its title
abbrev pub of_domain : FoundDefinition → Entry → DomainDef → Given
of_domain f e d = record {
  domains = record { uuid = f.uuid; definition = d; autostart = e.autostart } ∷ [];
  again = if_old f.version (change.Put f.kind f.uuid (record e { title = title_of d }));
}

-- another object, which has no title, and whose text is taken for good where it is within the limit of texts
abbrev pub of_other : FoundDefinition → Entry → Option Given
of_other f e =
    if nat_le (length e.text) most_text_bytes
    then Some (record { domains = []; again = if_old f.version (change.Put f.kind f.uuid (record e { title = [] })) }) else None

-- what a file of this entry gives; nothing where its text is not that of its object
abbrev pub given_by : BookKind → FoundDefinition → Entry → Option Given
given_by kind.Domain f e = option_map (of_domain f e) (stored f.version f.uuid e)
given_by kind.Network f e = of_other f e
given_by kind.Pool f e = of_other f e

-- what a file that was found gives, by the map of the entries
unfoldable pub given : Definitions → FoundDefinition → Option Given
given map f = option_and_then (given_by f.kind f) (map f.kind f.uuid)
