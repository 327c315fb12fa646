-- Reports that are judged and said one after another.
use Rattle.std.proofs.Common.{◌≡◌, ◌∙◌, ◌++◌, ◌<◌, inl, inr, All, Bool, true, false, List, [], ◌∷◌, ℕ, Option, None, Some, ap, append-nil, cond, find, get_or, length, option_map, refl, subst, sym, if◌then◌else◌}
use Rattle.std.specs.Option.{option_or}
use Rattle.std.proofs.lemmas.Grind.{flat_map-append}
use Rattle.std.proofs.lemmas.List.Elements.{All-append, All-get_or}
use Rattle.std.proofs.lemmas.List.Folds.{find-append}
use Rattle.std.specs.String.{string_bytes}
use Rattle.files_disk.specs.Telling.{Told}
use Rattle.store_spec.specs.Directory.{Directory, directory}
use Rattle.def_keeper.specs.declared.report.Finding.TheVariants as finding
use Rattle.def_keeper.specs.declared.report.Report.{Report}
use Rattle.def_keeper.specs.Examining.{IsExamined, IsExaminedAt, IsReport}
use Rattle.store_check.specs.declared.checked.Checked.{Checked}
use Rattle.store_check.specs.declared.judging.Verdict.TheVariants.{Bad, Gone, Good}
use Rattle.store_check.specs.declared.lines.Lines.{Lines}
use Rattle.store_check.specs.Adding.{AreJudgedAt, HasSaid, IsOfFinding, JudgesMore, SaysMore, damaged_after}
use Rattle.store_check.specs.Checking.{HasChecked}
use Rattle.store_check.specs.Judging.{AreJudged, IsJudged}
use Rattle.store_check.specs.Lines.{first_damaged, is_damage, line_of, text_of}

-- the same file, damaged
abbrev damaged : Report → Report
damaged r = record r { found = finding.Damaged }

-- of a store that tells its operations: a report is of a file, and what it is judged to be
abbrev pub IsReportAt : Told → Report → Type 0
IsReportAt None r = Unit {0}
IsReportAt (Some os) r = IsReport (directory os) r

abbrev IsJudgedAt : Told → Report → Report → Type 0
IsJudgedAt None r judged = Unit {0}
IsJudgedAt (Some os) r judged = IsJudged (directory os) r judged

-- each report of an examination is of a file
pub reported : (told : Told) (reports : List Report) (i : ℕ) (r : Report) → IsExaminedAt told reports → i < length reports → IsReportAt told (get_or reports i r)
reported None reports i r examined lt = tt
reported (Some os) reports i r examined lt =
    let d = directory os in
    All-get_or (IsReport d) reports i r lt
    (subst (λ (l : List Report). All (IsReport d) l) (sym examined.parts)
    (All-append (IsReport d) examined.definitions examined.statuses examined.of_definitions.each examined.of_statuses.each))

judged_more : (d : Directory) (reports judged : List Report) (r j : Report) → AreJudged d reports judged → IsJudged d r j → AreJudged d (reports ++ r ∷ []) (judged ++ j ∷ [])
judged_more d [] [] r j are is = (is, tt)
judged_more d [] (k ∷ judged) r j are is = absurd are
judged_more d (q ∷ reports) [] r j are is = absurd are
judged_more d (q ∷ reports) (k ∷ judged) r j are is = (are.0, judged_more d reports judged r j are.1 is)

judged_more_at : (told : Told) (reports judged : List Report) (r j : Report) → AreJudgedAt told reports judged → IsJudgedAt told r j → AreJudgedAt told (reports ++ r ∷ []) (judged ++ j ∷ [])
judged_more_at None reports judged r j are is = tt
judged_more_at (Some os) reports judged r j are is = judged_more (directory os) reports judged r j are is

-- the line of one report more
text_more : (judged : List Report) (j : Report) → text_of (judged ++ j ∷ []) ≡ text_of judged ++ line_of j
text_more judged j = flat_map-append line_of judged (j ∷ []) ∙ ap (λ (t : List ℕ). text_of judged ++ t) (append-nil (line_of j))

-- the first file that is damaged: one of those before, or this one
after_found : (found : Option Report) (j : Report) → option_map (λ r. r.file) (option_or found (find (λ r. is_damage r.found) (j ∷ []))) ≡ damaged_after (option_map (λ r. r.file) found) j
after_found (Some r) j = refl
after_found None j = by_test (is_damage j.found)
  where
    by_test : (b : Bool) → option_map (λ (r : Report). r.file) (cond b (Some j) None) ≡ (if b then Some j.file else None)
    by_test true = refl
    by_test false = refl

damaged_more : (judged : List Report) (j : Report) → first_damaged (judged ++ j ∷ []) ≡ damaged_after (first_damaged judged) j
damaged_more judged j =
    ap (λ (o : Option Report). option_map (λ r. r.file) o) (find-append (λ r. is_damage r.found) judged (j ∷ []))
    ∙ after_found (find (λ r. is_damage r.found) judged) j

pub said_first : (told : Told) (lines : Lines) → string_bytes lines.text ≡ [] → lines.damaged ≡ None → HasSaid told [] lines
said_first told lines empty none = record { judged = []; are = nothing told; text = empty; damaged = none }
  where
    nothing : (told : Told) → AreJudgedAt told [] []
    nothing None = tt
    nothing (Some os) = tt

-- a report is said as this one
says : (told : Told) (reports : List Report) (r j : Report) (old new : Lines) → HasSaid told reports old → IsJudgedAt told r j → SaysMore j old new → HasSaid told (reports ++ r ∷ []) new
says told reports r j old new said is more = record {
  judged = said.judged ++ j ∷ [];
  are = judged_more_at told reports said.judged r j said.are is;
  text = more.text ∙ ap (λ (t : List ℕ). t ++ line_of j) said.text ∙ sym (text_more said.judged j);
  damaged = more.damaged ∙ ap (λ (o : Option (List ℕ)). damaged_after o j) said.damaged ∙ sym (damaged_more said.judged j);
}

as_found : (told : Told) (r : Report) → IsOfFinding told r.file r.found Good → IsJudgedAt told r r
as_found None r is = tt
as_found (Some os) r is = inl (refl, is)

as_damaged : (told : Told) (r : Report) → IsOfFinding told r.file r.found Bad → IsJudgedAt told r (damaged r)
as_damaged None r is = tt
as_damaged (Some os) r is = inr (refl, is)

-- a file that was read is not gone where the store tells its operations
passes : (told : Told) (reports : List Report) (r : Report) (lines : Lines) → HasSaid told reports lines → IsReportAt told r → IsOfFinding told r.file r.found Gone → HasSaid told (reports ++ r ∷ []) lines
passes None reports r lines said there gone = record { judged = said.judged; are = tt; text = said.text; damaged = said.damaged }
passes (Some os) reports r lines said (bytes, some, is) gone = absurd (none_some (sym gone ∙ some))
  where
    none_some : {A : Type 0} {x : A} → None ≡ Some x → ⊥
    none_some e = cc

pub said_more : (told : Told) (reports : List Report) (r : Report) (old new : Lines) → HasSaid told reports old → IsReportAt told r → JudgesMore told r old new → HasSaid told (reports ++ r ∷ []) new
said_more told reports r old new said there (Good, is, more) = says told reports r r old new said (as_found told r is) more
said_more told reports r old new said there (Bad, is, more) = says told reports r (damaged r) old new said (as_damaged told r is) more
said_more told reports r old new said there (Gone, is, same) =
    subst (λ (l : Lines). HasSaid told (reports ++ r ∷ []) l) (sym same) (passes told reports r old said there is)

-- what was said of all reports of an examination is what a check says
pub checked : (told : Told) (reports : List Report) (lines : Lines) (c : Checked) → IsExaminedAt told reports → HasSaid told reports lines → c.text ≡ string_bytes lines.text → c.damaged ≡ lines.damaged → HasChecked told c
checked None reports lines c examined said text first = (said.judged, tt, record { text = text ∙ said.text; damaged = first ∙ said.damaged })
checked (Some os) reports lines c examined said text first =
    (said.judged, (reports, examined, said.are), record { text = text ∙ said.text; damaged = first ∙ said.damaged })
