-- Places among the marks of a chapter.
use Rattle.std.specs.Prelude.{ℕ, ◌+◌, List, [], ◌∷◌, Bool, true, false, if◌then◌else◌}
use Rattle.std.specs.List.{list_any}
use Rattle.domain_spec.specs.declared.mark.Mark.{Mark}
use Rattle.domain_spec.specs.declared.mark.Mark.TheVariants as mark

-- a mark of some pass: a boot's end, a guest's event and a cut belong to nobody
abbrev pub is_of_pass : {N : Type 0} → Mark N → Bool
is_of_pass (mark.Exit boot why events) = false
is_of_pass (mark.Event boot e events) = false
is_of_pass (mark.Cut client total taken) = false
is_of_pass other = true

-- how many marks there are up to the last one of a pass, none where there is none
abbrev pub last_place : {N : Type 0} → List (Mark N) → ℕ
last_place [] = 0
last_place (m ∷ marks) = if list_any is_of_pass (m ∷ marks) then last_place marks + 1 else 0
