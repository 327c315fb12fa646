-- What commands print of the one answer that follows a lookup. No public clause cites this.
use Rattle.std.specs.Prelude.{◌≡◌, ℕ, List, [], ◌∷◌, map, None}
use Rattle.std.specs.List.{flat_map}
use Rattle.virt_types.specs.declared.reference.NetworkRef.{NetworkRef}
use Rattle.virt_types.specs.declared.reference.PoolRef.{PoolRef}
use Rattle.virt_types.specs.declared.value.JobInfo.{JobInfo}
use Rattle.virt_types.specs.declared.value.Value.{Value}
use Rattle.virt_types.specs.declared.value.Value.TheVariants as value
use Rattle.command_spec.specs.Output.{Prints}
use Rattle.command_spec.specs.Printed.{job_text}
use Rattle.command_spec.specs.declared.command.Command.{Command}
use Rattle.command_spec.specs.declared.command.Command.TheVariants as command
use Rattle.command_spec.specs.declared.form.NetworkVerb.{NetworkVerb}
use Rattle.command_spec.specs.declared.form.PoolVerb.{PoolVerb}
use Rattle.virt_types.specs.declared.reference.DomainRef.{DomainRef}
use Rattle.command_spec.specs.declared.form.SnapshotVerb.{SnapshotVerb}
use Rattle.command_spec.specs.declared.form.VolumeVerb.{VolumeVerb}

abbrev pub SnapshotPrints : SnapshotVerb → List ℕ → DomainRef → Value → List ℕ → Type 0
SnapshotPrints verb s d answer text = Prints (command.Snapshot verb [] s) None (value.Domain d ∷ answer ∷ []) [] text

abbrev pub NetworkPrints : NetworkVerb → NetworkRef → Value → List ℕ → Type 0
NetworkPrints verb n answer text = Prints (command.Network verb []) None (value.Network n ∷ answer ∷ []) [] text

abbrev pub PoolPrints : PoolVerb → PoolRef → Value → List ℕ → Type 0
PoolPrints verb p answer text = Prints (command.Pool verb []) None (value.Pool p ∷ answer ∷ []) [] text

abbrev pub VolumePrints : VolumeVerb → List ℕ → PoolRef → Value → List ℕ → Type 0
VolumePrints verb v p answer text = Prints (command.Volume verb [] v) None (value.Pool p ∷ answer ∷ []) [] text

-- jobs, each in its line
pub record JobsPrint (values : List Value) (text : List ℕ) : Type 0 where
  pub jobs : List JobInfo
  pub values_are : values ≡ map value.Job jobs
  pub text_is : text ≡ flat_map job_text jobs

-- commands that look up a domain, and ask one thing of it
abbrev pub IsOfDomain : Command → Type 0
IsOfDomain (command.Number verb name n) = Unit {0}
IsOfDomain (command.SetMem name memory) = Unit {0}
IsOfDomain (command.DomainFile verb name path) = Unit {0}
IsOfDomain (command.Snapshot verb name s) = Unit {0}
IsOfDomain asked = ⊥

-- commands that look up a pool, and ask one thing of it
abbrev pub IsOfPool : Command → Type 0
IsOfPool (command.Pool verb name) = Unit {0}
IsOfPool (command.VolCreate pool path) = Unit {0}
IsOfPool (command.Volume verb pool v) = Unit {0}
IsOfPool asked = ⊥

-- commands that look up a domain, and ask as much of it as they need
abbrev pub IsLookedUp : Command → Type 0
IsLookedUp (command.Domain verb name) = Unit {0}
IsLookedUp (command.Image verb name image) = Unit {0}
IsLookedUp asked = ⊥
