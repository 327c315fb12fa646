-- Which rows are of domains that are not active.
use Rattle.std.specs.Prelude.{Bool, true, false}
use Rattle.virt_types.specs.declared.run_state.DomainState.{DomainState}
use Rattle.virt_types.specs.declared.run_state.DomainState.TheVariants as run
use Rattle.virt_types.specs.declared.value.DomainRow.{DomainRow}

-- the state is that of a domain which does not run
abbrev pub is_shut_off : DomainState → Bool
is_shut_off run.ShutOff = true
is_shut_off other = false

-- the row is of a domain that is not active
abbrev pub is_idle : DomainRow → Bool
is_idle row = is_shut_off row.state
