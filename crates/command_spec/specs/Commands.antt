-- The commands of virsh by their words, and the options that they may have.
use Rattle.std.specs.Prelude.{ℕ, List, codes, find, Option, None, Some}
use Rattle.std.specs.Str.{bytes_eq}
use Rattle.command_spec.specs.declared.form.Flag.{Flag}
use Rattle.command_spec.specs.declared.form.Flag.TheVariants as flag
use Rattle.command_spec.specs.declared.form.Form.{Form}
use Rattle.command_spec.specs.declared.form.Form.TheVariants as form
use Rattle.command_spec.specs.declared.form.DomainFileVerb.TheVariants as text
use Rattle.command_spec.specs.declared.form.DomainVerb.TheVariants as domain
use Rattle.command_spec.specs.declared.form.FileVerb.TheVariants as file
use Rattle.command_spec.specs.declared.form.ImageVerb.TheVariants as image
use Rattle.command_spec.specs.declared.form.NetworkVerb.TheVariants as network
use Rattle.command_spec.specs.declared.form.NumberVerb.TheVariants as number
use Rattle.command_spec.specs.declared.form.PlainVerb.TheVariants as plain
use Rattle.command_spec.specs.declared.form.PoolVerb.TheVariants as pool
use Rattle.command_spec.specs.declared.form.SnapshotVerb.TheVariants as snapshot
use Rattle.command_spec.specs.declared.form.VolumeVerb.TheVariants as volume
use Rattle.command_spec.specs.declared.form.TheConstants.{COMMANDS}

-- the word of each command, as virsh has it (guest-kick and events are this project's own)
abbrev pub command_word : Form → List ℕ
command_word (form.Plain plain.List) = codes "list"
command_word (form.Domain domain.Info) = codes "dominfo"
command_word (form.Domain domain.State) = codes "domstate"
command_word (form.File file.Define) = codes "define"
command_word (form.File file.Create) = codes "create"
command_word (form.Domain domain.Start) = codes "start"
command_word (form.Domain domain.Shutdown) = codes "shutdown"
command_word (form.Domain domain.Reboot) = codes "reboot"
command_word (form.Domain domain.Suspend) = codes "suspend"
command_word (form.Domain domain.Resume) = codes "resume"
command_word (form.Domain domain.Destroy) = codes "destroy"
command_word (form.Domain domain.Undefine) = codes "undefine"
command_word (form.Domain domain.Autostart) = codes "autostart"
command_word form.SetMem = codes "setmem"
command_word (form.Number number.SetVcpus) = codes "setvcpus"
command_word (form.DomainFile text.AttachDevice) = codes "attach-device"
command_word (form.DomainFile text.DetachDevice) = codes "detach-device"
command_word (form.Domain domain.DumpXml) = codes "dumpxml"
command_word (form.Image image.Save) = codes "save"
command_word (form.Image image.Dump) = codes "dump"
command_word form.Restore = codes "restore"
command_word (form.Domain domain.JobInfo) = codes "domjobinfo"
command_word (form.Domain domain.JobAbort) = codes "domjobabort"
command_word (form.Domain domain.MemStat) = codes "dommemstat"
command_word (form.Number number.Kick) = codes "guest-kick"
command_word (form.Number number.Event) = codes "event"
command_word form.Events = codes "events"
command_word (form.DomainFile text.SnapshotCreate) = codes "snapshot-create"
command_word (form.Domain domain.SnapshotList) = codes "snapshot-list"
command_word (form.Snapshot snapshot.Parent) = codes "snapshot-parent"
command_word (form.Snapshot snapshot.DumpXml) = codes "snapshot-dumpxml"
command_word (form.Snapshot snapshot.Delete) = codes "snapshot-delete"
command_word (form.Snapshot snapshot.Revert) = codes "snapshot-revert"
command_word (form.Plain plain.NetList) = codes "net-list"
command_word (form.File file.NetDefine) = codes "net-define"
command_word (form.Network network.Start) = codes "net-start"
command_word (form.Network network.Destroy) = codes "net-destroy"
command_word (form.Network network.Undefine) = codes "net-undefine"
command_word (form.Network network.Autostart) = codes "net-autostart"
command_word (form.Network network.DumpXml) = codes "net-dumpxml"
command_word (form.Network network.Leases) = codes "net-leases"
command_word (form.Plain plain.PoolList) = codes "pool-list"
command_word (form.File file.PoolDefine) = codes "pool-define"
command_word (form.Pool pool.Start) = codes "pool-start"
command_word (form.Pool pool.Destroy) = codes "pool-destroy"
command_word (form.Pool pool.Undefine) = codes "pool-undefine"
command_word (form.Pool pool.Autostart) = codes "pool-autostart"
command_word (form.Pool pool.DumpXml) = codes "pool-dumpxml"
command_word form.VolCreate = codes "vol-create"
command_word (form.Pool pool.VolList) = codes "vol-list"
command_word (form.Volume volume.Delete) = codes "vol-delete"
command_word (form.Volume volume.DumpXml) = codes "vol-dumpxml"

-- the option that a command may have
abbrev pub option_of : Form → Option Flag
option_of (form.Plain plain.List) = Some flag.All
option_of (form.Domain domain.Autostart) = Some flag.Disable
option_of (form.Domain domain.DumpXml) = Some flag.Inactive
option_of (form.Image verb) = Some flag.Verbose
option_of (form.Snapshot snapshot.Delete) = Some flag.Children
option_of _ = None

abbrev pub flag_word : Flag → List ℕ
flag_word flag.All = codes "--all"
flag_word flag.Disable = codes "--disable"
flag_word flag.Inactive = codes "--inactive"
flag_word flag.Verbose = codes "--verbose"
flag_word flag.Children = codes "--children"

-- the command with this word
unfoldable pub form_of : List ℕ → Option Form
form_of word = find (λ f. bytes_eq (command_word f) word) COMMANDS
