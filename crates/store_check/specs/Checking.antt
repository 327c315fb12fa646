-- What a check of a directory says, and the status of the program that says it.
use Rattle.std.specs.Prelude.{◌≡◌, List, ℕ, Option, None, Some, Result, Ok, Err}
use Rattle.files_disk.specs.Telling.{Told}
use Rattle.store_spec.specs.Directory.{Directory, directory}
use Rattle.types_base.specs.declared.memory.Fault.{Fault}
use Rattle.types_base.specs.declared.memory.Fault.TheVariants.{Failed, NoMemory}
use Rattle.def_keeper.specs.declared.report.Report.{Report}
use Rattle.def_keeper.specs.Examining.{IsExamined}
use Rattle.store_check.specs.declared.checked.Checked.{Checked}
use Rattle.store_check.specs.Judging.{AreJudged}
use Rattle.store_check.specs.Lines.{first_damaged, text_of}

-- what each file of a directory is
abbrev pub AreReportsOf : Directory → List Report → Type 0
AreReportsOf d reports = (found : List Report) × IsExamined d found × AreJudged d found reports

-- of a store that tells its operations
abbrev pub AreReportsAt : Told → List Report → Type 0
AreReportsAt None reports = Unit {0}
AreReportsAt (Some os) reports = AreReportsOf (directory os) reports

-- what is printed, and the first file that is damaged, are those of these reports
pub record Says (reports : List Report) (c : Checked) : Type 0 where
  pub text : c.text ≡ text_of reports
  pub damaged : c.damaged ≡ first_damaged reports

abbrev pub HasChecked : Told → Checked → Type 0
HasChecked told c = (reports : List Report) × AreReportsAt told reports × Says reports c

abbrev pub damage_status : Option (List ℕ) → ℕ
damage_status None = 0
damage_status (Some file) = 6

-- the status: all files are good, or one is damaged; the store failed; there was no memory
abbrev pub status : Result Checked Fault → ℕ
status (Ok c) = damage_status c.damaged
status (Err Failed) = 4
status (Err NoMemory) = 12
