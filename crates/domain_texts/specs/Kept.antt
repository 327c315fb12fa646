-- What a store keeps of a domain's definition, and which domain a definition in a store is of.
use Rattle.std.specs.Prelude.{ℕ, Bool, true, List, ◌&&◌, bytes_eq, is_none, not, Option, None, Some, Result, Ok, Err, if◌then◌else◌}
use Rattle.std.specs.List.{list_any}
use Rattle.store_spec.specs.declared.entry.Entry.{Entry}
use Rattle.store_spec.specs.declared.version.Version.{Version}
use Rattle.store_spec.specs.declared.version.Version.TheVariants as version
use Rattle.session_spec.specs.DefinitionText.{definition_in, text_of}
use Rattle.types_base.specs.declared.domain_def.DomainDef.{DomainDef}
use Rattle.domain_texts.specs.Title.{title_of}

-- the entry of a definition: its name, the flag, its title and its text
abbrev pub entry_of : DomainDef → Bool → Entry
entry_of d autostart = record { name = d.name; autostart = autostart; title = title_of d; text = text_of d }

-- a text names this identifier, or none
abbrev pub names_uuid : List ℕ → Option (List ℕ) → Bool
names_uuid uuid None = true
names_uuid uuid (Some own) = bytes_eq own uuid

-- a file gives the title of its definition, unless it is of version 1
abbrev pub tells_title : Version → List ℕ → DomainDef → Bool
tells_title version.One title d = true
tells_title version.Two title d = bytes_eq title (title_of d)

-- each interface has its address: nothing is filled in when a store is opened
abbrev pub has_addresses : DomainDef → Bool
has_addresses d = not (list_any (λ i. is_none i.mac) d.interfaces)

-- a definition is that of the domain that its file is of
abbrev pub is_own : Version → List ℕ → Entry → DomainDef → Bool
is_own v uuid e d = bytes_eq d.name e.name && names_uuid uuid d.uuid && tells_title v e.title d && has_addresses d

abbrev pub own : Version → List ℕ → Entry → Result DomainDef (List ℕ) → Option DomainDef
own v uuid e (Err kept) = None
own v uuid e (Ok d) = if is_own v uuid e d then Some (record d { uuid = Some uuid }) else None

-- the definition of the domain of this identifier that the entry of its file holds; none where its text has no reading,
-- or is not that domain's
unfoldable pub stored : Version → List ℕ → Entry → Option DomainDef
stored v uuid e = own v uuid e (definition_in e.text)
