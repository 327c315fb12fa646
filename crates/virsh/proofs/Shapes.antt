-- What a value is, by the shape of the reply that it came in.
use Rattle.std.proofs.Common.{◌≡◌, ℕ, Bool, List, Option, refl}
use Rattle.virt_types.specs.declared.reference.DomainRef.{DomainRef}
use Rattle.virt_types.specs.declared.reference.NetworkRef.{NetworkRef}
use Rattle.virt_types.specs.declared.reference.PoolRef.{PoolRef}
use Rattle.virt_types.specs.declared.value.DomainInfo.{DomainInfo}
use Rattle.virt_types.specs.declared.value.DomainRow.{DomainRow}
use Rattle.virt_types.specs.declared.value.JobInfo.{JobInfo}
use Rattle.virt_types.specs.declared.value.LeaseRow.{LeaseRow}
use Rattle.virt_types.specs.declared.value.PoolRow.{PoolRow}
use Rattle.virt_types.specs.declared.value.Value.{Value}
use Rattle.virt_types.specs.declared.value.Value.TheVariants as value
use Rattle.procedure_spec.specs.Results.{HasShape}
use Rattle.procedure_spec.specs.declared.shape.ResultShape.{ResultShape}
use Rattle.procedure_spec.specs.declared.shape.ResultShape.TheVariants as shape

-- the shape of the replies that carry a value; of one that no reply carries it is of no use
abbrev shape_of : Value → ResultShape
shape_of value.Nothing = shape.Nothing
shape_of (value.Domain d) = shape.Domain
shape_of (value.Network n) = shape.Network
shape_of (value.Pool p) = shape.Pool
shape_of (value.Text t) = shape.Text
shape_of (value.Autostart b) = shape.Autostart
shape_of (value.Info i) = shape.Info
shape_of (value.Names ns) = shape.Names
shape_of (value.Domains rows) = shape.Domains
shape_of (value.Pools rows) = shape.Pools
shape_of (value.Job j) = shape.Job
shape_of (value.Name n) = shape.Name
shape_of (value.Parent p) = shape.OptionalName
shape_of (value.Memory n) = shape.DoubleWord
shape_of (value.Leases rows) = shape.Leases
shape_of (value.Titles rows) = shape.Titles
shape_of v = shape.Migrated

shape_is : (v : Value) (s : ResultShape) → HasShape v s → s ≡ shape_of v
shape_is value.Nothing s h = h
shape_is (value.Domain d) s h = h
shape_is (value.Network n) s h = h
shape_is (value.Pool p) s h = h
shape_is (value.Text t) s h = h.0
shape_is (value.Autostart b) s h = h
shape_is (value.Info i) s h = h
shape_is (value.Names ns) s h = h.0
shape_is (value.Domains rows) s h = h.0
shape_is (value.Pools rows) s h = h.0
shape_is (value.Job j) s h = h
shape_is (value.Name n) s h = h
shape_is (value.Parent p) s h = h
shape_is (value.Memory n) s h = h
shape_is (value.Leases rows) s h = h.0
shape_is (value.Titles rows) s h = h.0
shape_is (value.MigratedText m) s h = h.0
shape_is v s h = absurd h

nothing_of : (v : Value) → shape.Nothing ≡ shape_of v → v ≡ value.Nothing
nothing_of value.Nothing e = refl
nothing_of v e = absurd cc

domain_of : (v : Value) → shape.Domain ≡ shape_of v → (d : DomainRef) × (v ≡ value.Domain d)
domain_of (value.Domain d) e = (d, refl)
domain_of v e = absurd cc

network_of : (v : Value) → shape.Network ≡ shape_of v → (n : NetworkRef) × (v ≡ value.Network n)
network_of (value.Network n) e = (n, refl)
network_of v e = absurd cc

pool_of : (v : Value) → shape.Pool ≡ shape_of v → (p : PoolRef) × (v ≡ value.Pool p)
pool_of (value.Pool p) e = (p, refl)
pool_of v e = absurd cc

text_of : (v : Value) → shape.Text ≡ shape_of v → (t : List ℕ) × (v ≡ value.Text t)
text_of (value.Text t) e = (t, refl)
text_of v e = absurd cc

autostart_of : (v : Value) → shape.Autostart ≡ shape_of v → (b : Bool) × (v ≡ value.Autostart b)
autostart_of (value.Autostart b) e = (b, refl)
autostart_of v e = absurd cc

info_of : (v : Value) → shape.Info ≡ shape_of v → (i : DomainInfo) × (v ≡ value.Info i)
info_of (value.Info i) e = (i, refl)
info_of v e = absurd cc

names_of : (v : Value) → shape.Names ≡ shape_of v → (ns : List (List ℕ)) × (v ≡ value.Names ns)
names_of (value.Names ns) e = (ns, refl)
names_of v e = absurd cc

domains_of : (v : Value) → shape.Domains ≡ shape_of v → (rows : List DomainRow) × (v ≡ value.Domains rows)
domains_of (value.Domains rows) e = (rows, refl)
domains_of v e = absurd cc

pools_of : (v : Value) → shape.Pools ≡ shape_of v → (rows : List PoolRow) × (v ≡ value.Pools rows)
pools_of (value.Pools rows) e = (rows, refl)
pools_of v e = absurd cc

job_of : (v : Value) → shape.Job ≡ shape_of v → (j : JobInfo) × (v ≡ value.Job j)
job_of (value.Job j) e = (j, refl)
job_of v e = absurd cc

name_of : (v : Value) → shape.Name ≡ shape_of v → (n : List ℕ) × (v ≡ value.Name n)
name_of (value.Name n) e = (n, refl)
name_of v e = absurd cc

parent_of : (v : Value) → shape.OptionalName ≡ shape_of v → (p : Option (List ℕ)) × (v ≡ value.Parent p)
parent_of (value.Parent p) e = (p, refl)
parent_of v e = absurd cc

memory_of : (v : Value) → shape.DoubleWord ≡ shape_of v → (n : ℕ) × (v ≡ value.Memory n)
memory_of (value.Memory n) e = (n, refl)
memory_of v e = absurd cc

leases_of : (v : Value) → shape.Leases ≡ shape_of v → (rows : List LeaseRow) × (v ≡ value.Leases rows)
leases_of (value.Leases rows) e = (rows, refl)
leases_of v e = absurd cc

pub is_nothing : (v : Value) → HasShape v shape.Nothing → v ≡ value.Nothing
is_nothing v h = nothing_of v (shape_is v shape.Nothing h)

pub is_domain : (v : Value) → HasShape v shape.Domain → (d : DomainRef) × (v ≡ value.Domain d)
is_domain v h = domain_of v (shape_is v shape.Domain h)

pub is_network : (v : Value) → HasShape v shape.Network → (n : NetworkRef) × (v ≡ value.Network n)
is_network v h = network_of v (shape_is v shape.Network h)

pub is_pool : (v : Value) → HasShape v shape.Pool → (p : PoolRef) × (v ≡ value.Pool p)
is_pool v h = pool_of v (shape_is v shape.Pool h)

pub is_text : (v : Value) → HasShape v shape.Text → (t : List ℕ) × (v ≡ value.Text t)
is_text v h = text_of v (shape_is v shape.Text h)

pub is_autostart : (v : Value) → HasShape v shape.Autostart → (b : Bool) × (v ≡ value.Autostart b)
is_autostart v h = autostart_of v (shape_is v shape.Autostart h)

pub is_info : (v : Value) → HasShape v shape.Info → (i : DomainInfo) × (v ≡ value.Info i)
is_info v h = info_of v (shape_is v shape.Info h)

pub are_names : (v : Value) → HasShape v shape.Names → (ns : List (List ℕ)) × (v ≡ value.Names ns)
are_names v h = names_of v (shape_is v shape.Names h)

pub are_domains : (v : Value) → HasShape v shape.Domains → (rows : List DomainRow) × (v ≡ value.Domains rows)
are_domains v h = domains_of v (shape_is v shape.Domains h)

pub are_pools : (v : Value) → HasShape v shape.Pools → (rows : List PoolRow) × (v ≡ value.Pools rows)
are_pools v h = pools_of v (shape_is v shape.Pools h)

pub is_job : (v : Value) → HasShape v shape.Job → (j : JobInfo) × (v ≡ value.Job j)
is_job v h = job_of v (shape_is v shape.Job h)

pub is_name : (v : Value) → HasShape v shape.Name → (n : List ℕ) × (v ≡ value.Name n)
is_name v h = name_of v (shape_is v shape.Name h)

pub is_parent : (v : Value) → HasShape v shape.OptionalName → (p : Option (List ℕ)) × (v ≡ value.Parent p)
is_parent v h = parent_of v (shape_is v shape.OptionalName h)

pub is_memory : (v : Value) → HasShape v shape.DoubleWord → (n : ℕ) × (v ≡ value.Memory n)
is_memory v h = memory_of v (shape_is v shape.DoubleWord h)

pub are_leases : (v : Value) → HasShape v shape.Leases → (rows : List LeaseRow) × (v ≡ value.Leases rows)
are_leases v h = leases_of v (shape_is v shape.Leases h)
