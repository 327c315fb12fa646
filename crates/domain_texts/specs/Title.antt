-- The title of a definition, as a store gives it: in one line.
use Rattle.std.specs.Prelude.{ℕ, List, [], ◌==◌, unwrap_or}
use Rattle.std.specs.List.{before_first}
use Rattle.store_spec.specs.DefinitionFile.{line_feed}
use Rattle.types_base.specs.declared.domain_def.DomainDef.{DomainDef}

-- a text up to its first line feed
unfoldable pub first_line : List ℕ → List ℕ
first_line text = before_first (λ b. b == line_feed) text

-- the title of a definition up to its first line feed; empty where it has none
abbrev pub title_of : DomainDef → List ℕ
title_of d = first_line (unwrap_or d.title [])
