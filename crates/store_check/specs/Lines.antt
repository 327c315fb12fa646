-- The lines that `virtd check` prints: one for each file, by what it is found to be.
use Rattle.std.specs.Prelude.{◌++◌, Bool, true, false, List, ℕ, codes, decimal, find, Option, option_map}
use Rattle.std.specs.List.{flat_map}
use Rattle.uuid.specs.Text.{hyphenated_text, lower}
use Rattle.store_spec.specs.DefinitionFile.{line}
use Rattle.store_spec.specs.FileNames.{kind_word}
use Rattle.def_keeper.specs.declared.report.Finding.{Finding}
use Rattle.def_keeper.specs.declared.report.Finding.TheVariants as finding
use Rattle.def_keeper.specs.declared.report.Report.{Report}

-- what is said of a file
abbrev pub said_of : List ℕ → Finding → List ℕ
said_of file (finding.Ok k name uuid) = kind_word k ++ codes " " ++ name ++ codes " " ++ hyphenated_text lower uuid ++ codes " ok"
said_of file finding.Damaged = file ++ codes " damaged"
said_of file (finding.Ran name boot) = codes "was running " ++ name ++ codes " boot " ++ decimal boot
said_of file finding.Unread = codes "was running ? boot ?"

abbrev pub line_of : Report → List ℕ
line_of r = line (said_of r.file r.found)

-- the text of all reports
abbrev pub text_of : List Report → List ℕ
text_of reports = flat_map line_of reports

abbrev pub is_damage : Finding → Bool
is_damage finding.Damaged = true
is_damage found = false

-- the first file that is damaged
abbrev pub first_damaged : List Report → Option (List ℕ)
first_damaged reports = option_map (λ r. r.file) (find (λ r. is_damage r.found) reports)
