-- What is read of a status file.
use Rattle.std.specs.Prelude.{◌≡◌, ◌<◌, ◌≤◌, ◌^◌, ◌++◌, List, [], ◌∷◌, ℕ, codes, decimal, Option, None, Some}
use Rattle.std.specs.Borrow.{Bor}
use Rattle.virt_types.specs.declared.status.Status.{Status}
use Rattle.virt_types.specs.Name.{IsName}
use Rattle.virt_types.specs.Numbers.{job_number, phase_number, state_number}
use Rattle.store_spec.specs.DefinitionFile.{line_feed}
use Rattle.store_spec.specs.StatusFile.{IsStatusFile}
use Rattle.store_reading.specs.declared.status.StatusLine.{StatusLine}

-- the byte that ends a word
abbrev pub space : ℕ
space = 32

-- the number that digits spell, as numbers are written
abbrev pub IsNumberOf : List ℕ → Option ℕ → Type 0
IsNumberOf digits None = (n : ℕ) → n < 2 ^ 64 → digits ≡ decimal n → ⊥
IsNumberOf digits (Some n) = (n < 2 ^ 64) × (digits ≡ decimal n)

-- a number after a label, with a space after it, and what comes then
abbrev pub HasNumber : List ℕ → List ℕ → Option (ℕ × Bor (List ℕ)) → Type 0
HasNumber label bytes None = (n : ℕ) (rest : List ℕ) → n < 2 ^ 64 → bytes ≡ label ++ (decimal n ++ space ∷ rest) → ⊥
HasNumber label bytes (Some x) = (x.0 < 2 ^ 64) × (bytes ≡ label ++ (decimal x.0 ++ space ∷ x.1.now))

-- a status file's line, by its numbers and its name
abbrev pub status_line : ℕ → ℕ → ℕ → ℕ → List ℕ → List ℕ
status_line boot state job phase name =
    codes "run 1 boot=" ++ (decimal boot ++ space ∷ (codes "state=" ++ (decimal state ++ space ∷ (codes "op=" ++ (decimal job
    ++ space ∷ (codes "phase=" ++ (decimal phase ++ space ∷ (codes "name=" ++ (name ++ line_feed ∷ [])))))))))

-- numbers of 64 bits
pub record AreNumbers (l : StatusLine) : Type 0 where
  pub boot_fits : l.boot < 2 ^ 64
  pub state_fits : l.state < 2 ^ 64
  pub job_fits : l.job < 2 ^ 64
  pub phase_fits : l.phase < 2 ^ 64

-- the numbers and the name of a status file's line
abbrev pub IsLineOf : List ℕ → Option StatusLine → Type 0
IsLineOf bytes None = (boot state job phase : ℕ) (name : List ℕ) → boot < 2 ^ 64 → state < 2 ^ 64 → job < 2 ^ 64 → phase < 2 ^ 64
    → bytes ≡ status_line boot state job phase name → ⊥
IsLineOf bytes (Some l) = AreNumbers l × (bytes ≡ status_line l.boot l.state l.job l.phase l.name.now)

-- the name after its label, up to the line feed at the end
abbrev pub Names : List ℕ → Option (Bor (List ℕ)) → Type 0
Names bytes None = (name : List ℕ) → bytes ≡ codes "name=" ++ (name ++ line_feed ∷ []) → ⊥
Names bytes (Some name) = bytes ≡ codes "name=" ++ (name.now ++ line_feed ∷ [])

-- the boot that a line with these numbers reports
pub record IsBootOf (l : StatusLine) (s : Status) : Type 0 where
  pub boot_is : s.boot ≡ l.boot
  pub state_is : state_number s.state ≡ l.state
  pub job_is : job_number s.op ≡ l.job
  pub phase_is : phase_number s.phase ≡ l.phase
  pub name_is : s.name ≡ l.name.now
  pub least : 1 ≤ s.boot
  pub most : s.boot ≤ 2 ^ 62
  pub named : IsName s.name

abbrev pub IsToldBy : List ℕ → StatusLine → Option Status → Type 0
IsToldBy uuid l None = (s : Status) → IsBootOf l s → ⊥
IsToldBy uuid l (Some s) = (s.uuid ≡ uuid) × IsBootOf l s

-- what a status file reports, exactly where it reports something
abbrev pub TellsStatus : List ℕ → List ℕ → Option Status → Type 0
TellsStatus name bytes None = (s : Status) → IsStatusFile name bytes s → ⊥
TellsStatus name bytes (Some s) = IsStatusFile name bytes s
