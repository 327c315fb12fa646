-- Which procedures a driver serves: those of domains and of the connection, but no registrations, networks and pools.
use Rattle.std.specs.Prelude.{◌&&◌, ◌||◌, Bool, true, false, not}
use Rattle.procedure_spec.specs.declared.procedure.Procedure.{Procedure}
use Rattle.procedure_spec.specs.declared.procedure.Procedure.TheVariants as procedure

-- those of networks and their leases
abbrev pub is_of_network : Procedure → Bool
is_of_network procedure.ConnectListDefinedNetworks = true
is_of_network procedure.ConnectListNetworks = true
is_of_network procedure.NetworkCreate = true
is_of_network procedure.NetworkDefineXml = true
is_of_network procedure.NetworkDestroy = true
is_of_network procedure.NetworkGetXmlDesc = true
is_of_network procedure.NetworkLookupByName = true
is_of_network procedure.NetworkSetAutostart = true
is_of_network procedure.NetworkUndefine = true
is_of_network procedure.Leases = true
is_of_network _ = false

-- those of pools
abbrev pub is_of_pool : Procedure → Bool
is_of_pool procedure.PoolDefine = true
is_of_pool procedure.PoolCreate = true
is_of_pool procedure.PoolDestroy = true
is_of_pool procedure.PoolUndefine = true
is_of_pool procedure.PoolXml = true
is_of_pool procedure.PoolLookup = true
is_of_pool procedure.PoolList = true
is_of_pool procedure.PoolAutostart = true
is_of_pool _ = false

-- those of volumes
abbrev pub is_of_volume : Procedure → Bool
is_of_volume procedure.VolCreate = true
is_of_volume procedure.VolDelete = true
is_of_volume procedure.VolList = true
is_of_volume procedure.VolXml = true
is_of_volume _ = false

-- those of registrations
abbrev pub is_of_registration : Procedure → Bool
is_of_registration procedure.EventRegister = true
is_of_registration procedure.EventDeregister = true
is_of_registration _ = false

-- all others
abbrev pub is_served : Procedure → Bool
is_served p = not (is_of_network p || (is_of_pool p || is_of_volume p)) && not (is_of_registration p)
