-- The procedures of both programs: libvirt's (src/remote/remote_protocol.x, in a choice of this project's own) and this project's.
use Rattle.std.specs.Prelude.{◌==◌, ℕ, ◌&&◌, Option, find}
use Rattle.procedure_spec.specs.declared.table.TheConstants.{PROCEDURES}
use Rattle.procedure_spec.specs.declared.table.Row.{Row}

-- the line of the procedure with this number in this program
unfoldable pub row_of : ℕ → ℕ → Option Row
row_of program number = find (λ row. (row.program == program) && (row.number == number)) PROCEDURES
