-- What a command prints on standard output, where each of its calls was answered by a value.
use Rattle.std.specs.Prelude.{◌≡◌, ℕ, List, [], ◌∷◌, ◌++◌, map, Option, None, Some, is_some, codes}
use Rattle.std.specs.List.{flat_map}
use Rattle.virt_types.specs.Numbers.{state_word}
use Rattle.virt_types.specs.declared.value.JobInfo.{JobInfo}
use Rattle.virt_types.specs.declared.value.Note.{Note}
use Rattle.virt_types.specs.declared.value.Value.{Value}
use Rattle.virt_types.specs.declared.value.Value.TheVariants as value
use Rattle.command_spec.specs.Columns.{line}
use Rattle.command_spec.specs.Actions.{domain_action, domain_file_text, done, file_text, image_action, network_action, pool_action, restored_text, snapshot_deleted_text, volume_text}
use Rattle.command_spec.specs.Printed.{IsTable, info_text, job_text, leases_text, memory_text, names_text, networks_text, notes_text, parent_text, pools_text}
use Rattle.command_spec.specs.declared.command.Command.{Command}
use Rattle.command_spec.specs.declared.command.Command.TheVariants as command
use Rattle.command_spec.specs.declared.form.DomainVerb.{DomainVerb}
use Rattle.command_spec.specs.declared.form.DomainVerb.TheVariants as domain
use Rattle.command_spec.specs.declared.form.FileVerb.TheVariants as file
use Rattle.command_spec.specs.declared.form.Flag.{Flag}
use Rattle.command_spec.specs.declared.form.NetworkVerb.TheVariants as network
use Rattle.command_spec.specs.declared.form.NumberVerb.TheVariants as number
use Rattle.command_spec.specs.declared.form.PlainVerb.TheVariants as plain
use Rattle.command_spec.specs.declared.form.PoolVerb.TheVariants as pool
use Rattle.command_spec.specs.declared.form.SnapshotVerb.TheVariants as snapshot
use Rattle.command_spec.specs.declared.form.VolumeVerb.TheVariants as volume

-- the line of what was done, where there is one
abbrev pub action_text : List ℕ → List ℕ → Option (List ℕ) → List ℕ
action_text kind name None = []
action_text kind name (Some action) = done kind name action

-- a command for a domain: by what its last call was answered
abbrev pub DomainPrints : DomainVerb → Option Flag → Value → List Value → List ℕ → Type 0
DomainPrints domain.Info option (value.Domain d) (value.Info info ∷ value.Autostart on ∷ []) text = text ≡ info_text d info on
DomainPrints domain.State option (value.Domain d) (value.Info info ∷ []) text = text ≡ line (state_word info.state)
DomainPrints domain.DumpXml option (value.Domain d) (value.Text xml ∷ []) text = text ≡ xml
DomainPrints domain.JobInfo option (value.Domain d) (value.Job job ∷ []) text = text ≡ job_text job
DomainPrints domain.MemStat option (value.Domain d) (value.Memory n ∷ []) text = text ≡ memory_text n
DomainPrints domain.SnapshotList option (value.Domain d) (value.Names names ∷ []) text = text ≡ names_text names
DomainPrints verb option (value.Domain d) (value.Nothing ∷ []) text = text ≡ action_text (codes "Domain") d.name (domain_action verb option)
DomainPrints verb option found values text = ⊥

-- an image was written: with `--verbose` the differing jobs that were shown meanwhile come first
pub record ImagePrints (kind name action : List ℕ) (values : List Value) (text : List ℕ) : Type 0 where
  pub jobs : List JobInfo
  pub values_are : values ≡ map value.Job jobs ++ value.Nothing ∷ []
  pub text_is : text ≡ flat_map job_text jobs ++ done kind name action

-- the values are those of the command's calls, in order; where it is about something by its name, the first call looks that up.
-- The notes are those that came after a registration
abbrev pub Prints : Command → Option Flag → List Value → List Note → List ℕ → Type 0
Prints (command.Plain plain.List) option (value.Domains rows ∷ []) notes text = IsTable (is_some option) rows text
Prints (command.Plain plain.NetList) option (value.Names active ∷ value.Names inactive ∷ []) notes text = text ≡ networks_text active inactive
Prints (command.Plain plain.PoolList) option (value.Pools rows ∷ []) notes text = text ≡ pools_text rows
Prints (command.File file.NetDefine path) option (value.Network n ∷ []) notes text = text ≡ file_text file.NetDefine n.name
Prints (command.File file.PoolDefine path) option (value.Pool p ∷ []) notes text = text ≡ file_text file.PoolDefine p.name
Prints (command.File verb path) option (value.Domain d ∷ []) notes text = text ≡ file_text verb d.name
Prints (command.Restore image) option (value.Nothing ∷ []) notes text = text ≡ restored_text
Prints (command.Domain verb name) option (found ∷ values) notes text = DomainPrints verb option found values text
Prints (command.Number number.Event name n) option (value.Domain d ∷ value.Nothing ∷ []) notes text = text ≡ notes_text notes
Prints (command.Number verb name n) option (value.Domain d ∷ value.Nothing ∷ []) notes text = text ≡ []
Prints (command.SetMem name n) option (value.Domain d ∷ value.Nothing ∷ []) notes text = text ≡ []
Prints (command.DomainFile verb name path) option (value.Domain d ∷ value.Nothing ∷ []) notes text = text ≡ domain_file_text verb []
Prints (command.DomainFile verb name path) option (value.Domain d ∷ value.Name made ∷ []) notes text = text ≡ domain_file_text verb made
Prints (command.Image verb name image) option (value.Domain d ∷ values) notes text = ImagePrints (codes "Domain") d.name (image_action verb) values text
Prints (command.Snapshot snapshot.Parent name s) option (value.Domain d ∷ value.Parent parent ∷ []) notes text = text ≡ parent_text parent
Prints (command.Snapshot snapshot.DumpXml name s) option (value.Domain d ∷ value.Text xml ∷ []) notes text = text ≡ xml
Prints (command.Snapshot snapshot.Delete name s) option (value.Domain d ∷ value.Nothing ∷ []) notes text = text ≡ snapshot_deleted_text s
Prints (command.Snapshot snapshot.Revert name s) option (value.Domain d ∷ value.Nothing ∷ []) notes text = text ≡ []
Prints (command.Network network.DumpXml name) option (value.Network n ∷ value.Text xml ∷ []) notes text = text ≡ xml
Prints (command.Network network.Leases name) option (value.Network n ∷ value.Leases rows ∷ []) notes text = text ≡ leases_text rows
Prints (command.Network verb name) option (value.Network n ∷ value.Nothing ∷ []) notes text = text ≡ action_text (codes "Network") n.name (network_action verb)
Prints (command.Pool pool.DumpXml name) option (value.Pool p ∷ value.Text xml ∷ []) notes text = text ≡ xml
Prints (command.Pool pool.VolList name) option (value.Pool p ∷ value.Names names ∷ []) notes text = text ≡ names_text names
Prints (command.Pool verb name) option (value.Pool p ∷ value.Nothing ∷ []) notes text = text ≡ action_text (codes "Pool") p.name (pool_action verb)
Prints (command.VolCreate name path) option (value.Pool p ∷ value.Name made ∷ []) notes text = text ≡ volume_text made (codes "created")
Prints (command.Volume volume.Delete name v) option (value.Pool p ∷ value.Nothing ∷ []) notes text = text ≡ volume_text v (codes "deleted")
Prints (command.Volume volume.DumpXml name v) option (value.Pool p ∷ value.Text xml ∷ []) notes text = text ≡ xml
Prints asked option values notes text = ⊥
