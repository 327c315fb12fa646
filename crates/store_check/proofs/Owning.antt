-- A file is one definition at most.
use Rattle.std.proofs.Common.{◌≡◌, ◌∙◌, true, false, List, ℕ, None, ap, is_some}
use Rattle.store_spec.specs.declared.entry.Entry.{Entry}
use Rattle.store_spec.specs.declared.version.Version.{Version}
use Rattle.store_spec.specs.DefinitionFile.{IsDefinitionFile}
use Rattle.store_spec.proofs.Spelling.{holds_one_entry}
use Rattle.domain_texts.specs.Kept.{stored}
use Rattle.store_check.specs.Judging.{IsOwnText}

false_true : false ≡ true → ⊥
false_true e = cc

-- so it has no text of its own where the one that was read has none
pub no_own_text : (bytes uuid : List ℕ) (v : Version) (e : Entry) → IsDefinitionFile v e bytes → None ≡ stored v uuid e → IsOwnText bytes uuid → ⊥
no_own_text bytes uuid v e holds none (w, f, other, some) =
    let same = holds_one_entry v w e f bytes holds other in
    let is : stored v uuid e ≡ stored w uuid f = λ i. stored (same.0 i) uuid (same.1 i) in
    false_true (ap is_some none ∙ ap is_some is ∙ some)
