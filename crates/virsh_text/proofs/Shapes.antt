-- Of which values a command has a text.
use Rattle.std.proofs.Common.{◌≡◌, ℕ, List, [], ◌∷◌, Option, None, Result, Ok, Err, refl, sym, subst}
use Rattle.std.specs.Prelude.{IfOk}
use Rattle.virt_types.specs.Below.types_base.declared.memory.NoMemory.{NoMemory}
use Rattle.virt_types.specs.declared.reference.DomainRef.{DomainRef}
use Rattle.virt_types.specs.declared.reference.NetworkRef.{NetworkRef}
use Rattle.virt_types.specs.declared.reference.PoolRef.{PoolRef}
use Rattle.virt_types.specs.declared.value.Value.{Value}
use Rattle.virt_types.specs.declared.value.Value.TheVariants as value
use Rattle.command_spec.specs.Output.{Prints}
use Rattle.command_spec.specs.declared.command.Command.{Command}
use Rattle.command_spec.specs.declared.command.Command.TheVariants as command
use Rattle.command_spec.specs.declared.form.DomainFileVerb.{DomainFileVerb}
use Rattle.command_spec.specs.declared.form.FileVerb.{FileVerb}
use Rattle.command_spec.specs.declared.form.FileVerb.TheVariants as file
use Rattle.command_spec.specs.declared.form.Flag.{Flag}
use Rattle.command_spec.specs.declared.form.NetworkVerb.{NetworkVerb}
use Rattle.command_spec.specs.declared.form.NetworkVerb.TheVariants as network
use Rattle.command_spec.specs.declared.form.NumberVerb.{NumberVerb}
use Rattle.command_spec.specs.declared.form.NumberVerb.TheVariants as number
use Rattle.command_spec.specs.declared.form.PoolVerb.{PoolVerb}
use Rattle.command_spec.specs.declared.form.PoolVerb.TheVariants as pool
use Rattle.command_spec.specs.declared.form.SnapshotVerb.{SnapshotVerb}
use Rattle.command_spec.specs.declared.form.SnapshotVerb.TheVariants as snapshot
use Rattle.command_spec.specs.declared.form.VolumeVerb.{VolumeVerb}
use Rattle.command_spec.specs.declared.form.VolumeVerb.TheVariants as volume
use Rattle.virsh_text.specs.Objects.{IsOfDomain, IsOfPool}
use Rattle.virsh_text.specs.Texts.{IsTextOf}

-- ---- the same command and values

pub same_command : (c e : Command) (o : Option Flag) (values : List Value) (r : Result (Option (List ℕ)) NoMemory) → c ≡ e → IfOk r (IsTextOf (Prints e o values [])) → IfOk r (IsTextOf (Prints c o values []))
same_command c e o values r is h = subst (λ (x : Command). IfOk r (IsTextOf (Prints x o values []))) (sym is) h

pub same_values : (c : Command) (o : Option Flag) (values others : List Value) (r : Result (Option (List ℕ)) NoMemory) → values ≡ others → IfOk r (IsTextOf (Prints c o others [])) → IfOk r (IsTextOf (Prints c o values []))
same_values c o values others r are h = subst (λ (x : List Value). IfOk r (IsTextOf (Prints c o x []))) (sym are) h

-- ---- of what a text does not depend on

by_ok : (c e : Command) (o : Option Flag) (values : List Value) (r : Result (Option (List ℕ)) NoMemory) → ((t : Option (List ℕ)) → IsTextOf (Prints c None values []) t → IsTextOf (Prints e o values []) t)
    → IfOk r (IsTextOf (Prints c None values [])) → IfOk r (IsTextOf (Prints e o values []))
by_ok c e o values (Ok t) same h = same t h
by_ok c e o values (Err f) same h = tt

file_same : (verb : FileVerb) (path : List ℕ) (o : Option Flag) (values : List Value) (t : Option (List ℕ)) → IsTextOf (Prints (command.File verb []) None values []) t → IsTextOf (Prints (command.File verb path) o values []) t
file_same file.NetDefine path o values t h = h
file_same file.PoolDefine path o values t h = h
file_same verb path o values t h = h

pub file_free : (verb : FileVerb) (path : List ℕ) (o : Option Flag) (values : List Value) (r : Result (Option (List ℕ)) NoMemory) → IfOk r (IsTextOf (Prints (command.File verb []) None values [])) → IfOk r (IsTextOf (Prints (command.File verb path) o values []))
file_free verb path o values r h = by_ok (command.File verb []) (command.File verb path) o values r (file_same verb path o values) h

snapshot_same : (verb : SnapshotVerb) (name s : List ℕ) (o : Option Flag) (values : List Value) (t : Option (List ℕ)) → IsTextOf (Prints (command.Snapshot verb [] s) None values []) t → IsTextOf (Prints (command.Snapshot verb name s) o values []) t
snapshot_same snapshot.Parent name s o values t h = h
snapshot_same snapshot.DumpXml name s o values t h = h
snapshot_same snapshot.Delete name s o values t h = h
snapshot_same snapshot.Revert name s o values t h = h

pub snapshot_free : (verb : SnapshotVerb) (name s : List ℕ) (o : Option Flag) (values : List Value) (r : Result (Option (List ℕ)) NoMemory) → IfOk r (IsTextOf (Prints (command.Snapshot verb [] s) None values [])) → IfOk r (IsTextOf (Prints (command.Snapshot verb name s) o values []))
snapshot_free verb name s o values r h = by_ok (command.Snapshot verb [] s) (command.Snapshot verb name s) o values r (snapshot_same verb name s o values) h

network_same : (verb : NetworkVerb) (name : List ℕ) (o : Option Flag) (values : List Value) (t : Option (List ℕ)) → IsTextOf (Prints (command.Network verb []) None values []) t → IsTextOf (Prints (command.Network verb name) o values []) t
network_same network.DumpXml name o values t h = h
network_same network.Leases name o values t h = h
network_same verb name o values t h = h

pub network_free : (verb : NetworkVerb) (name : List ℕ) (o : Option Flag) (values : List Value) (r : Result (Option (List ℕ)) NoMemory) → IfOk r (IsTextOf (Prints (command.Network verb []) None values [])) → IfOk r (IsTextOf (Prints (command.Network verb name) o values []))
network_free verb name o values r h = by_ok (command.Network verb []) (command.Network verb name) o values r (network_same verb name o values) h

pool_same : (verb : PoolVerb) (name : List ℕ) (o : Option Flag) (values : List Value) (t : Option (List ℕ)) → IsTextOf (Prints (command.Pool verb []) None values []) t → IsTextOf (Prints (command.Pool verb name) o values []) t
pool_same pool.DumpXml name o values t h = h
pool_same pool.VolList name o values t h = h
pool_same verb name o values t h = h

pub pool_free : (verb : PoolVerb) (name : List ℕ) (o : Option Flag) (values : List Value) (r : Result (Option (List ℕ)) NoMemory) → IfOk r (IsTextOf (Prints (command.Pool verb []) None values [])) → IfOk r (IsTextOf (Prints (command.Pool verb name) o values []))
pool_free verb name o values r h = by_ok (command.Pool verb []) (command.Pool verb name) o values r (pool_same verb name o values) h

volume_same : (verb : VolumeVerb) (name v : List ℕ) (o : Option Flag) (values : List Value) (t : Option (List ℕ)) → IsTextOf (Prints (command.Volume verb [] v) None values []) t → IsTextOf (Prints (command.Volume verb name v) o values []) t
volume_same volume.Delete name v o values t h = h
volume_same volume.DumpXml name v o values t h = h

pub volume_free : (verb : VolumeVerb) (name v : List ℕ) (o : Option Flag) (values : List Value) (r : Result (Option (List ℕ)) NoMemory) → IfOk r (IsTextOf (Prints (command.Volume verb [] v) None values [])) → IfOk r (IsTextOf (Prints (command.Volume verb name v) o values []))
volume_free verb name v o values r h = by_ok (command.Volume verb [] v) (command.Volume verb name v) o values r (volume_same verb name v o values) h

-- ---- nothing is said of a number that was set, of a key, or of a registration

number_text : (verb : NumberVerb) (name : List ℕ) (n : ℕ) (o : Option Flag) (d : DomainRef) (answer : Value) (t : Option (List ℕ))
    → IsTextOf (Prints (command.SetMem [] 0) o (value.Domain d ∷ answer ∷ []) []) t → IsTextOf (Prints (command.Number verb name n) o (value.Domain d ∷ answer ∷ []) []) t
number_text number.Event name n o d value.Nothing t h = h
number_text verb name n o d value.Nothing t h = h
number_text verb name n o d answer t h = h

pub number_said : (verb : NumberVerb) (name : List ℕ) (n : ℕ) (o : Option Flag) (d : DomainRef) (answer : Value) (r : Result (Option (List ℕ)) NoMemory)
    → IfOk r (IsTextOf (Prints (command.SetMem [] 0) o (value.Domain d ∷ answer ∷ []) [])) → IfOk r (IsTextOf (Prints (command.Number verb name n) o (value.Domain d ∷ answer ∷ []) []))
number_said verb name n o d answer (Ok t) h = number_text verb name n o d answer t h
number_said verb name n o d answer (Err e) h = tt

pub said_number : (c : Command) (verb : NumberVerb) (name : List ℕ) (n : ℕ) (o : Option Flag) (d : DomainRef) (answer : Value) (r : Result (Option (List ℕ)) NoMemory) → c ≡ command.Number verb name n
    → IfOk r (IsTextOf (Prints (command.SetMem [] 0) o (value.Domain d ∷ answer ∷ []) [])) → IfOk r (IsTextOf (Prints c o (value.Domain d ∷ answer ∷ []) []))
said_number c verb name n o d answer r is h = same_command c (command.Number verb name n) o (value.Domain d ∷ answer ∷ []) r is (number_said verb name n o d answer r h)

-- ---- a domain, and what was answered then

number_shape : (verb : NumberVerb) (name : List ℕ) (n : ℕ) (o : Option Flag) (values : List Value) (t : List ℕ) → Prints (command.Number verb name n) o values [] t → (d : DomainRef) × (values ≡ value.Domain d ∷ value.Nothing ∷ [])
number_shape number.Event name n o (value.Domain d ∷ value.Nothing ∷ []) t p = (d, refl)
number_shape verb name n o (value.Domain d ∷ value.Nothing ∷ []) t p = (d, refl)
number_shape verb name n o values t p = absurd p

memory_shape : (name : List ℕ) (n : ℕ) (o : Option Flag) (values : List Value) (t : List ℕ) → Prints (command.SetMem name n) o values [] t → (d : DomainRef) × (values ≡ value.Domain d ∷ value.Nothing ∷ [])
memory_shape name n o (value.Domain d ∷ value.Nothing ∷ []) t p = (d, refl)
memory_shape name n o values t p = absurd p

file_shape : (verb : DomainFileVerb) (name path : List ℕ) (o : Option Flag) (values : List Value) (t : List ℕ) → Prints (command.DomainFile verb name path) o values [] t → (d : DomainRef) × (a : Value) × (values ≡ value.Domain d ∷ a ∷ [])
file_shape verb name path o (value.Domain d ∷ value.Nothing ∷ []) t p = (d, value.Nothing, refl)
file_shape verb name path o (value.Domain d ∷ value.Name n ∷ []) t p = (d, value.Name n, refl)
file_shape verb name path o values t p = absurd p

snapshot_shape : (verb : SnapshotVerb) (name s : List ℕ) (o : Option Flag) (values : List Value) (t : List ℕ) → Prints (command.Snapshot verb name s) o values [] t → (d : DomainRef) × (a : Value) × (values ≡ value.Domain d ∷ a ∷ [])
snapshot_shape snapshot.Parent name s o (value.Domain d ∷ value.Parent x ∷ []) t p = (d, value.Parent x, refl)
snapshot_shape snapshot.DumpXml name s o (value.Domain d ∷ value.Text x ∷ []) t p = (d, value.Text x, refl)
snapshot_shape snapshot.Delete name s o (value.Domain d ∷ value.Nothing ∷ []) t p = (d, value.Nothing, refl)
snapshot_shape snapshot.Revert name s o (value.Domain d ∷ value.Nothing ∷ []) t p = (d, value.Nothing, refl)
snapshot_shape verb name s o values t p = absurd p

pub no_domain : (c : Command) (o : Option Flag) (values : List Value) → IsOfDomain c → ((d : DomainRef) (a : Value) → values ≡ value.Domain d ∷ a ∷ [] → ⊥) → (t : List ℕ) → Prints c o values [] t → ⊥
no_domain (command.Number verb name n) o values of never t p = let s = number_shape verb name n o values t p in never s.0 value.Nothing s.1
no_domain (command.SetMem name n) o values of never t p = let s = memory_shape name n o values t p in never s.0 value.Nothing s.1
no_domain (command.DomainFile verb name path) o values of never t p = let s = file_shape verb name path o values t p in never s.0 s.1 s.2
no_domain (command.Snapshot verb name sn) o values of never t p = let s = snapshot_shape verb name sn o values t p in never s.0 s.1 s.2
no_domain c o values of never t p = absurd of

-- ---- a network

network_shape : (verb : NetworkVerb) (name : List ℕ) (o : Option Flag) (values : List Value) (t : List ℕ) → Prints (command.Network verb name) o values [] t → (n : NetworkRef) × (a : Value) × (values ≡ value.Network n ∷ a ∷ [])
network_shape network.DumpXml name o (value.Network n ∷ value.Text x ∷ []) t p = (n, value.Text x, refl)
network_shape network.Leases name o (value.Network n ∷ value.Leases x ∷ []) t p = (n, value.Leases x, refl)
network_shape verb name o (value.Network n ∷ value.Nothing ∷ []) t p = (n, value.Nothing, refl)
network_shape verb name o values t p = absurd p

pub no_network : (verb : NetworkVerb) (name : List ℕ) (o : Option Flag) (values : List Value) → ((n : NetworkRef) (a : Value) → values ≡ value.Network n ∷ a ∷ [] → ⊥) → (t : List ℕ) → Prints (command.Network verb name) o values [] t → ⊥
no_network verb name o values never t p = let s = network_shape verb name o values t p in never s.0 s.1 s.2

-- ---- a pool

pool_shape : (verb : PoolVerb) (name : List ℕ) (o : Option Flag) (values : List Value) (t : List ℕ) → Prints (command.Pool verb name) o values [] t → (n : PoolRef) × (a : Value) × (values ≡ value.Pool n ∷ a ∷ [])
pool_shape pool.DumpXml name o (value.Pool n ∷ value.Text x ∷ []) t p = (n, value.Text x, refl)
pool_shape pool.VolList name o (value.Pool n ∷ value.Names x ∷ []) t p = (n, value.Names x, refl)
pool_shape verb name o (value.Pool n ∷ value.Nothing ∷ []) t p = (n, value.Nothing, refl)
pool_shape verb name o values t p = absurd p

made_shape : (name path : List ℕ) (o : Option Flag) (values : List Value) (t : List ℕ) → Prints (command.VolCreate name path) o values [] t → (n : PoolRef) × (a : Value) × (values ≡ value.Pool n ∷ a ∷ [])
made_shape name path o (value.Pool n ∷ value.Name x ∷ []) t p = (n, value.Name x, refl)
made_shape name path o values t p = absurd p

volume_shape : (verb : VolumeVerb) (name v : List ℕ) (o : Option Flag) (values : List Value) (t : List ℕ) → Prints (command.Volume verb name v) o values [] t → (n : PoolRef) × (a : Value) × (values ≡ value.Pool n ∷ a ∷ [])
volume_shape volume.Delete name v o (value.Pool n ∷ value.Nothing ∷ []) t p = (n, value.Nothing, refl)
volume_shape volume.DumpXml name v o (value.Pool n ∷ value.Text x ∷ []) t p = (n, value.Text x, refl)
volume_shape verb name v o values t p = absurd p

pub no_pool : (c : Command) (o : Option Flag) (values : List Value) → IsOfPool c → ((n : PoolRef) (a : Value) → values ≡ value.Pool n ∷ a ∷ [] → ⊥) → (t : List ℕ) → Prints c o values [] t → ⊥
no_pool (command.Pool verb name) o values of never t p = let s = pool_shape verb name o values t p in never s.0 s.1 s.2
no_pool (command.VolCreate name path) o values of never t p = let s = made_shape name path o values t p in never s.0 s.1 s.2
no_pool (command.Volume verb name v) o values of never t p = let s = volume_shape verb name v o values t p in never s.0 s.1 s.2
no_pool c o values of never t p = absurd of
