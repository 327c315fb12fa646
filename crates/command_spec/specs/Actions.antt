-- The one line that virsh prints where a command was done.
use Rattle.std.specs.Prelude.{ℕ, List, [], ◌++◌, codes, Option, None, Some}
use Rattle.command_spec.specs.Columns.{line, ◌then◌}
use Rattle.command_spec.specs.declared.form.DomainFileVerb.{DomainFileVerb}
use Rattle.command_spec.specs.declared.form.DomainFileVerb.TheVariants as text
use Rattle.command_spec.specs.declared.form.DomainVerb.{DomainVerb}
use Rattle.command_spec.specs.declared.form.DomainVerb.TheVariants as domain
use Rattle.command_spec.specs.declared.form.FileVerb.{FileVerb}
use Rattle.command_spec.specs.declared.form.FileVerb.TheVariants as file
use Rattle.command_spec.specs.declared.form.Flag.{Flag}
use Rattle.command_spec.specs.declared.form.ImageVerb.{ImageVerb}
use Rattle.command_spec.specs.declared.form.ImageVerb.TheVariants as image
use Rattle.command_spec.specs.declared.form.NetworkVerb.{NetworkVerb}
use Rattle.command_spec.specs.declared.form.NetworkVerb.TheVariants as network
use Rattle.command_spec.specs.declared.form.PoolVerb.{PoolVerb}
use Rattle.command_spec.specs.declared.form.PoolVerb.TheVariants as pool

-- what was done with what, by its name
abbrev pub done : List ℕ → List ℕ → List ℕ → List ℕ
done kind name action = line (kind then name then action)

-- a domain; of autostart, whether the option `--disable` is given
abbrev pub marked : Option Flag → List ℕ
marked None = codes "marked"
marked (Some flag) = codes "unmarked"

-- nothing is printed by the other commands for a domain
abbrev pub domain_action : DomainVerb → Option Flag → Option (List ℕ)
domain_action domain.Start option = Some (codes "started")
domain_action domain.Shutdown option = Some (codes "being shut down")
domain_action domain.Reboot option = Some (codes "being rebooted")
domain_action domain.Suspend option = Some (codes "suspended")
domain_action domain.Resume option = Some (codes "resumed")
domain_action domain.Destroy option = Some (codes "destroyed")
domain_action domain.Undefine option = Some (codes "undefined")
domain_action domain.Autostart option = Some (marked option)
domain_action _ option = None

abbrev pub image_action : ImageVerb → List ℕ
image_action image.Save = codes "saved"
image_action image.Dump = codes "dumped"

-- a definition, by the name that the daemon gives it
abbrev pub file_text : FileVerb → List ℕ → List ℕ
file_text file.Define name = done (codes "Domain") name (codes "defined")
file_text file.Create name = done (codes "Domain") name (codes "created")
file_text file.NetDefine name = done (codes "Network") name (codes "defined")
file_text file.PoolDefine name = done (codes "Pool") name (codes "defined")

abbrev pub network_action : NetworkVerb → Option (List ℕ)
network_action network.Start = Some (codes "started")
network_action network.Destroy = Some (codes "destroyed")
network_action network.Undefine = Some (codes "undefined")
network_action network.Autostart = Some (codes "marked")
network_action _ = None

abbrev pub pool_action : PoolVerb → Option (List ℕ)
pool_action pool.Start = Some (codes "started")
pool_action pool.Destroy = Some (codes "destroyed")
pool_action pool.Undefine = Some (codes "undefined")
pool_action pool.Autostart = Some (codes "marked")
pool_action _ = None

-- a device; a snapshot is given its name by the daemon
abbrev pub domain_file_text : DomainFileVerb → List ℕ → List ℕ
domain_file_text text.AttachDevice name = line (codes "Device attached")
domain_file_text text.DetachDevice name = line (codes "Device detached")
domain_file_text text.SnapshotCreate name = done (codes "Domain snapshot") name (codes "created")

abbrev pub restored_text : List ℕ
restored_text = line (codes "Domain restored")

abbrev pub snapshot_deleted_text : List ℕ → List ℕ
snapshot_deleted_text snapshot = done (codes "Domain snapshot") snapshot (codes "deleted")

abbrev pub volume_text : List ℕ → List ℕ → List ℕ
volume_text volume action = done (codes "Vol") volume action
