-- Which procedures are announced: known, though not served.
use Rattle.std.specs.Prelude.{Bool, true, false}
use Rattle.procedure_spec.specs.declared.procedure.Procedure.{Procedure}
use Rattle.procedure_spec.specs.declared.procedure.Procedure.TheVariants as procedure

-- a call of one that is not served is told that it is not built; of the others the number is unknown until they are served
abbrev pub is_announced : Procedure → Bool
is_announced procedure.Titles = false
is_announced procedure.MigratePerform = false
is_announced procedure.MigrateConfirm = false
is_announced procedure.MigratePrepare = false
is_announced procedure.MigrateFinish = false
is_announced procedure.MigrateLimit = false
is_announced _ = true
