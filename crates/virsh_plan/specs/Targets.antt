-- What was looked up by its name, as the calls on it name it.
use Rattle.virt_types.specs.declared.reference.DomainRef.{DomainRef}
use Rattle.virt_types.specs.declared.reference.DomainTarget.{DomainTarget}
use Rattle.virt_types.specs.declared.reference.NetworkRef.{NetworkRef}
use Rattle.virt_types.specs.declared.reference.NetworkTarget.{NetworkTarget}
use Rattle.virt_types.specs.declared.reference.PoolRef.{PoolRef}
use Rattle.virt_types.specs.declared.reference.PoolTarget.{PoolTarget}

abbrev pub domain_target : DomainRef → DomainTarget
domain_target d = record { name = d.name; uuid = d.uuid; id = d.id }

abbrev pub network_target : NetworkRef → NetworkTarget
network_target n = record { name = n.name; uuid = n.uuid }

abbrev pub pool_target : PoolRef → PoolTarget
pool_target p = record { name = p.name; uuid = p.uuid }
