-- Faults of the store and of what is found in it, as the driver's.
use Rattle.virt_types.specs.Below.types_base.declared.memory.OrNoMemory.{OrNoMemory}
use Rattle.virt_types.specs.Below.types_base.declared.memory.OrNoMemory.TheVariants as or
use Rattle.store_spec.specs.declared.kind.BookKind.{BookKind}
use Rattle.def_keeper.specs.declared.mark.StoreFault.{StoreFault}
use Rattle.def_keeper.specs.declared.mark.StoreFault.TheVariants as store
use Rattle.def_keeper.specs.declared.outcome.OpenFault.{OpenFault}
use Rattle.def_keeper.specs.declared.outcome.OpenFault.TheVariants as opening
use Rattle.found_domains.specs.declared.found.FoundFault.{FoundFault}
use Rattle.found_domains.specs.declared.found.FoundFault.TheVariants as found
use Rattle.driver_store.specs.declared.fault.DriverFault.{DriverFault}
use Rattle.driver_store.specs.declared.fault.DriverFault.TheVariants as fault

-- a fault of the store's opening
abbrev pub of_open : OpenFault → DriverFault
of_open opening.Device = fault.Device
of_open (opening.NotADefinition file) = fault.NotADefinition file
of_open (opening.TwoOfOneName k one two) = fault.TwoOfOneName k one two

-- the same, or there was no memory
abbrev pub of_opening : OrNoMemory OpenFault → OrNoMemory DriverFault
of_opening (or.Fault f) = or.Fault (of_open f)
of_opening or.NoMemory = or.NoMemory

-- a fault of a change to an object of this kind
abbrev pub of_store : BookKind → StoreFault → DriverFault
of_store k store.Device = fault.Device
of_store k (store.NameKept one two) = fault.TwoOfOneName k one two

-- the same, or there was no memory
abbrev pub of_change : BookKind → OrNoMemory StoreFault → OrNoMemory DriverFault
of_change k (or.Fault f) = or.Fault (of_store k f)
of_change k or.NoMemory = or.NoMemory

-- a fault of what the store holds
abbrev pub of_bad : FoundFault → DriverFault
of_bad (found.BadText file) = fault.BadText file
of_bad (found.TooMany file) = fault.TooMany file

-- the same, or there was no memory
abbrev pub of_found : OrNoMemory FoundFault → OrNoMemory DriverFault
of_found (or.Fault f) = or.Fault (of_bad f)
of_found or.NoMemory = or.NoMemory
