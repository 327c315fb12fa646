-- Laws of the table: each is on a function of `src/laws.rt`.
use Rattle.std.specs.Prelude.{◌≡◌, ℕ, negsuc, true, List, [], ◌∷◌, ◌++◌, codes, Some}
use Rattle.virt_types.specs.declared.run_state.DomainState.TheVariants as state
use Rattle.command_spec.specs.Columns.{line}
use Rattle.command_spec.specs.Commands.{command_word, form_of}
use Rattle.command_spec.specs.Printed.{IsTable}
use Rattle.command_spec.specs.declared.form.Form.{Form}

-- each command is found by its word
abbrev pub HasItsWord : Type 0
HasItsWord = (f : Form) → form_of (command_word f) ≡ Some f

-- the table of one domain that is shut off, which is shown where all are
abbrev pub ShowsShutOff : Type 0
ShowsShutOff = (uuid : List ℕ) → IsTable true (record { domain = record { name = codes "demo"; uuid = uuid; id = negsuc 0 }; state = state.ShutOff } ∷ [])
    (line (codes "   Id Name                 State") ++ line (codes "    - demo                 shut off"))
