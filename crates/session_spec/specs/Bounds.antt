-- Numbers in requests that are out of their bounds.
use Rattle.std.specs.Prelude.{ℕ, ℤ, pos, int_lt, Option, Some, None, if◌then◌else◌}
use Rattle.procedure_spec.specs.declared.words.TheConstants.{NAMES_BOUND}

-- the bound of 0 to 1,024 that a number passes
abbrev pub passed : ℤ → Option ℕ
passed most = if int_lt most (pos 0) then Some 0 else (if int_lt (pos NAMES_BOUND) most then Some NAMES_BOUND else None)
