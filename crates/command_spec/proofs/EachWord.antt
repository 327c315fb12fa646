-- The words of the commands differ.
use Rattle.std.proofs.Common.{refl}
use Rattle.command_spec.specs.Commands.{form_of}
use Rattle.command_spec.specs.Laws.{HasItsWord}
use Rattle.command_spec.specs.declared.form.Form.TheVariants as form
use Rattle.command_spec.specs.declared.form.DomainFileVerb.TheVariants as text
use Rattle.command_spec.specs.declared.form.DomainVerb.TheVariants as domain
use Rattle.command_spec.specs.declared.form.FileVerb.TheVariants as file
use Rattle.command_spec.specs.declared.form.ImageVerb.TheVariants as image
use Rattle.command_spec.specs.declared.form.NetworkVerb.TheVariants as network
use Rattle.command_spec.specs.declared.form.NumberVerb.TheVariants as number
use Rattle.command_spec.specs.declared.form.PlainVerb.TheVariants as plain
use Rattle.command_spec.specs.declared.form.PoolVerb.TheVariants as pool
use Rattle.command_spec.specs.declared.form.SnapshotVerb.TheVariants as snapshot
use Rattle.command_spec.specs.declared.form.VolumeVerb.TheVariants as volume

pub has_its_word : HasItsWord
unfolding form_of
has_its_word (form.Plain plain.List) = refl
has_its_word (form.Domain domain.Info) = refl
has_its_word (form.Domain domain.State) = refl
has_its_word (form.File file.Define) = refl
has_its_word (form.File file.Create) = refl
has_its_word (form.Domain domain.Start) = refl
has_its_word (form.Domain domain.Shutdown) = refl
has_its_word (form.Domain domain.Reboot) = refl
has_its_word (form.Domain domain.Suspend) = refl
has_its_word (form.Domain domain.Resume) = refl
has_its_word (form.Domain domain.Destroy) = refl
has_its_word (form.Domain domain.Undefine) = refl
has_its_word (form.Domain domain.Autostart) = refl
has_its_word form.SetMem = refl
has_its_word (form.Number number.SetVcpus) = refl
has_its_word (form.DomainFile text.AttachDevice) = refl
has_its_word (form.DomainFile text.DetachDevice) = refl
has_its_word (form.Domain domain.DumpXml) = refl
has_its_word (form.Image image.Save) = refl
has_its_word (form.Image image.Dump) = refl
has_its_word form.Restore = refl
has_its_word (form.Domain domain.JobInfo) = refl
has_its_word (form.Domain domain.JobAbort) = refl
has_its_word (form.Domain domain.MemStat) = refl
has_its_word (form.Number number.Kick) = refl
has_its_word (form.Number number.Event) = refl
has_its_word form.Events = refl
has_its_word (form.DomainFile text.SnapshotCreate) = refl
has_its_word (form.Domain domain.SnapshotList) = refl
has_its_word (form.Snapshot snapshot.Parent) = refl
has_its_word (form.Snapshot snapshot.DumpXml) = refl
has_its_word (form.Snapshot snapshot.Delete) = refl
has_its_word (form.Snapshot snapshot.Revert) = refl
has_its_word (form.Plain plain.NetList) = refl
has_its_word (form.File file.NetDefine) = refl
has_its_word (form.Network network.Start) = refl
has_its_word (form.Network network.Destroy) = refl
has_its_word (form.Network network.Undefine) = refl
has_its_word (form.Network network.Autostart) = refl
has_its_word (form.Network network.DumpXml) = refl
has_its_word (form.Network network.Leases) = refl
has_its_word (form.Plain plain.PoolList) = refl
has_its_word (form.File file.PoolDefine) = refl
has_its_word (form.Pool pool.Start) = refl
has_its_word (form.Pool pool.Destroy) = refl
has_its_word (form.Pool pool.Undefine) = refl
has_its_word (form.Pool pool.Autostart) = refl
has_its_word (form.Pool pool.DumpXml) = refl
has_its_word form.VolCreate = refl
has_its_word (form.Pool pool.VolList) = refl
has_its_word (form.Volume volume.Delete) = refl
has_its_word (form.Volume volume.DumpXml) = refl
