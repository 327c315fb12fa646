-- How the reports of files are judged and said one after another. No public clause cites this.
use Rattle.std.specs.Prelude.{◌≡◌, ◌++◌, List, ℕ, Option, None, Some, if◌then◌else◌}
use Rattle.std.specs.String.{string_bytes}
use Rattle.files_disk.specs.Telling.{Told}
use Rattle.store_spec.specs.declared.kind.BookKind.{BookKind}
use Rattle.store_spec.specs.Directory.{directory}
use Rattle.def_keeper.specs.declared.report.Finding.{Finding}
use Rattle.def_keeper.specs.declared.report.Finding.TheVariants as finding
use Rattle.def_keeper.specs.declared.report.Report.{Report}
use Rattle.store_check.specs.declared.judging.Verdict.{Verdict}
use Rattle.store_check.specs.declared.judging.Verdict.TheVariants.{Bad, Gone, Good}
use Rattle.store_check.specs.declared.lines.Lines.{Lines}
use Rattle.store_check.specs.Judging.{AreJudged, HoldsOwnText, IsGood, IsGoodDefinition}
use Rattle.store_check.specs.Lines.{first_damaged, is_damage, line_of, text_of}

-- a verdict: as good as that, or not, or without such bytes
abbrev pub IsVerdict : Type 0 → Option (List ℕ) → Verdict → Type 0
IsVerdict IsSo bytes Good = IsSo
IsVerdict IsSo bytes Bad = IsSo → ⊥
IsVerdict IsSo bytes Gone = bytes ≡ None

-- the verdict of a file, of which the text of this domain is asked
abbrev pub IsOfText : Told → List ℕ → List ℕ → Verdict → Type 0
IsOfText None file uuid v = Unit {0}
IsOfText (Some os) file uuid v = IsVerdict (HoldsOwnText (directory os) file uuid) (directory os file) v

-- the verdict of a definition's file
abbrev pub IsOfDefinition : Told → List ℕ → BookKind → List ℕ → Verdict → Type 0
IsOfDefinition None file k uuid v = Unit {0}
IsOfDefinition (Some os) file k uuid v = IsVerdict (IsGoodDefinition (directory os) file k uuid) (directory os file) v

-- the verdict of a file that was found to be this
abbrev pub IsOfFinding : Told → List ℕ → Finding → Verdict → Type 0
IsOfFinding None file found v = Unit {0}
IsOfFinding (Some os) file found v = IsVerdict (IsGood (directory os) file found) (directory os file) v

-- the first damaged file, where this one comes after those before
abbrev pub damaged_after : Option (List ℕ) → Report → Option (List ℕ)
damaged_after (Some file) r = Some file
damaged_after None r = if is_damage r.found then Some r.file else None

-- one more report is said
pub record SaysMore (r : Report) (old new : Lines) : Type 0 where
  pub text : string_bytes new.text ≡ string_bytes old.text ++ line_of r
  pub damaged : new.damaged ≡ damaged_after old.damaged r

-- a report is said as its verdict has it; that of a file that is gone is passed over
abbrev pub SaysVerdict : Verdict → Report → Lines → Lines → Type 0
SaysVerdict Good r old new = SaysMore r old new
SaysVerdict Bad r old new = SaysMore (record r { found = finding.Damaged }) old new
SaysVerdict Gone r old new = new ≡ old

-- one more report is judged and said
abbrev pub JudgesMore : Told → Report → Lines → Lines → Type 0
JudgesMore told r old new = (v : Verdict) × IsOfFinding told r.file r.found v × SaysVerdict v r old new

-- of a store that tells its operations
abbrev pub AreJudgedAt : Told → List Report → List Report → Type 0
AreJudgedAt None reports judged = Unit {0}
AreJudgedAt (Some os) reports judged = AreJudged (directory os) reports judged

-- these reports were judged and said
pub record HasSaid (told : Told) (reports : List Report) (lines : Lines) : Type 0 where
  pub judged : List Report
  pub are : AreJudgedAt told reports judged
  pub text : string_bytes lines.text ≡ text_of judged
  pub damaged : lines.damaged ≡ first_damaged judged
