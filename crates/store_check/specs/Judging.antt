-- What the files of a directory are found to be once the texts of domains are read.
use Rattle.std.specs.Prelude.{◌≡◌, ◌⊎◌, List, [], ◌∷◌, ℕ, Some, IsSome}
use Rattle.domain_texts.specs.Kept.{stored}
use Rattle.store_spec.specs.declared.entry.Entry.{Entry}
use Rattle.store_spec.specs.declared.kind.BookKind.{BookKind}
use Rattle.store_spec.specs.declared.kind.BookKind.TheVariants as kind
use Rattle.store_spec.specs.declared.version.Version.{Version}
use Rattle.store_spec.specs.DefinitionFile.{IsDefinitionFile}
use Rattle.store_spec.specs.Directory.{Directory}
use Rattle.def_keeper.specs.declared.report.Finding.{Finding}
use Rattle.def_keeper.specs.declared.report.Finding.TheVariants as finding
use Rattle.def_keeper.specs.declared.report.Report.{Report}

-- bytes are a definition whose text is that of the domain of this identifier
abbrev pub IsOwnText : List ℕ → List ℕ → Type 0
IsOwnText bytes uuid = (v : Version) × (e : Entry) × IsDefinitionFile v e bytes × IsSome (stored v uuid e)

-- a file has such bytes
abbrev pub HoldsOwnText : Directory → List ℕ → List ℕ → Type 0
HoldsOwnText d file uuid = (bytes : List ℕ) × (d file ≡ Some bytes) × IsOwnText bytes uuid

-- the file of a domain's definition has the domain's own text; texts of networks and pools are taken for good
abbrev pub IsGoodDefinition : Directory → List ℕ → BookKind → List ℕ → Type 0
IsGoodDefinition d file kind.Domain uuid = HoldsOwnText d file uuid
IsGoodDefinition d file kind.Network uuid = Unit {0}
IsGoodDefinition d file kind.Pool uuid = Unit {0}

-- of a file that was found to be no good definition no more is asked
abbrev pub IsGood : Directory → List ℕ → Finding → Type 0
IsGood d file (finding.Ok k name uuid) = IsGoodDefinition d file k uuid
IsGood d file found = Unit {0}

-- a file is what it was found to be, or it is damaged because its text is not good
abbrev pub IsJudged : Directory → Report → Report → Type 0
IsJudged d r judged =
    ((judged ≡ r) × IsGood d r.file r.found) ⊎ ((judged ≡ record r { found = finding.Damaged }) × (IsGood d r.file r.found → ⊥))

-- the same of each of them, in order
abbrev pub AreJudged : Directory → List Report → List Report → Type 0
AreJudged d [] [] = Unit {0}
AreJudged d (r ∷ reports) (j ∷ judged) = IsJudged d r j × AreJudged d reports judged
AreJudged d reports judged = ⊥
