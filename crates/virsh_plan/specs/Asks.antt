-- What is asked of a domain, a network or a pool that a command names, once it is looked up.
use Rattle.std.specs.Prelude.{ℕ, ℤ, pos, List, [], ◌∷◌, Option, None, Some}
use Rattle.virt_types.specs.declared.object_request.DomainRequest.{DomainRequest}
use Rattle.virt_types.specs.declared.object_request.DomainRequest.TheVariants as ask
use Rattle.virt_types.specs.declared.object_request.NetworkRequest.{NetworkRequest}
use Rattle.virt_types.specs.declared.object_request.NetworkRequest.TheVariants as ask_network
use Rattle.virt_types.specs.declared.object_request.PoolRequest.{PoolRequest}
use Rattle.virt_types.specs.declared.object_request.PoolRequest.TheVariants as ask_pool
use Rattle.command_spec.specs.declared.form.DomainFileVerb.{DomainFileVerb}
use Rattle.command_spec.specs.declared.form.DomainFileVerb.TheVariants as text
use Rattle.command_spec.specs.declared.form.DomainVerb.{DomainVerb}
use Rattle.command_spec.specs.declared.form.DomainVerb.TheVariants as domain
use Rattle.command_spec.specs.declared.form.Flag.{Flag}
use Rattle.command_spec.specs.declared.form.ImageVerb.{ImageVerb}
use Rattle.command_spec.specs.declared.form.ImageVerb.TheVariants as image
use Rattle.command_spec.specs.declared.form.NetworkVerb.{NetworkVerb}
use Rattle.command_spec.specs.declared.form.NetworkVerb.TheVariants as network
use Rattle.command_spec.specs.declared.form.NumberVerb.{NumberVerb}
use Rattle.command_spec.specs.declared.form.NumberVerb.TheVariants as number
use Rattle.command_spec.specs.declared.form.PoolVerb.{PoolVerb}
use Rattle.command_spec.specs.declared.form.PoolVerb.TheVariants as pool
use Rattle.command_spec.specs.declared.form.SnapshotVerb.{SnapshotVerb}
use Rattle.command_spec.specs.declared.form.SnapshotVerb.TheVariants as snapshot
use Rattle.command_spec.specs.declared.form.VolumeVerb.{VolumeVerb}
use Rattle.command_spec.specs.declared.form.VolumeVerb.TheVariants as volume

-- ---- what the options say

-- `--inactive`: the bit for the stored definition (VIR_DOMAIN_XML_INACTIVE)
abbrev pub stored_bit : Option Flag → ℕ
stored_bit None = 0
stored_bit (Some flag) = 2

-- `--disable`
abbrev pub autostart_number : Option Flag → ℤ
autostart_number None = pos 1
autostart_number (Some flag) = pos 0

-- `--children`
abbrev pub children_number : Option Flag → ℤ
children_number None = pos 0
children_number (Some flag) = pos 1

-- ---- a domain

-- in order: only dominfo asks for more than one thing
abbrev pub domain_asks : DomainVerb → Option Flag → List DomainRequest
domain_asks domain.Info option = ask.GetInfo ∷ ask.GetAutostart ∷ []
domain_asks domain.State option = ask.GetInfo ∷ []
domain_asks domain.Start option = ask.Create ∷ []
domain_asks domain.Shutdown option = ask.Shutdown ∷ []
domain_asks domain.Reboot option = ask.Reboot 0 ∷ []
domain_asks domain.Suspend option = ask.Suspend ∷ []
domain_asks domain.Resume option = ask.Resume ∷ []
domain_asks domain.Destroy option = ask.Destroy ∷ []
domain_asks domain.Undefine option = ask.Undefine ∷ []
domain_asks domain.Autostart option = ask.SetAutostart (autostart_number option) ∷ []
domain_asks domain.DumpXml option = ask.GetXmlDesc (stored_bit option) ∷ []
domain_asks domain.JobInfo option = ask.JobInfo ∷ []
domain_asks domain.JobAbort option = ask.JobAbort ∷ []
domain_asks domain.MemStat option = ask.MemoryStats ∷ []
domain_asks domain.SnapshotList option = ask.SnapList ∷ []

abbrev pub number_ask : NumberVerb → ℕ → DomainRequest
number_ask number.SetVcpus n = ask.SetVcpus n
number_ask number.Kick n = ask.Kick (pos n)
number_ask number.Event n = ask.EventRegister

-- the text is that of the command's file
abbrev pub text_ask : DomainFileVerb → List ℕ → DomainRequest
text_ask text.AttachDevice xml = ask.AttachDevice xml
text_ask text.DetachDevice xml = ask.DetachDevice xml
text_ask text.SnapshotCreate xml = ask.SnapCreate xml

abbrev pub image_ask : ImageVerb → List ℕ → DomainRequest
image_ask image.Save name = ask.Save name
image_ask image.Dump name = ask.CoreDump name 0

abbrev pub snapshot_ask : SnapshotVerb → Option Flag → List ℕ → DomainRequest
snapshot_ask snapshot.Parent option name = ask.SnapParent name
snapshot_ask snapshot.DumpXml option name = ask.SnapXml name
snapshot_ask snapshot.Delete option name = ask.SnapDelete name (children_number option)
snapshot_ask snapshot.Revert option name = ask.SnapRevert name

-- ---- a network

abbrev pub network_ask : NetworkVerb → NetworkRequest
network_ask network.Start = ask_network.Create
network_ask network.Destroy = ask_network.Destroy
network_ask network.Undefine = ask_network.Undefine
network_ask network.Autostart = ask_network.SetAutostart (pos 1)
network_ask network.DumpXml = ask_network.GetXmlDesc 0
network_ask network.Leases = ask_network.Leases

-- ---- a pool, and a volume of it

abbrev pub pool_ask : PoolVerb → PoolRequest
pool_ask pool.Start = ask_pool.Create
pool_ask pool.Destroy = ask_pool.Destroy
pool_ask pool.Undefine = ask_pool.Undefine
pool_ask pool.Autostart = ask_pool.SetAutostart (pos 1)
pool_ask pool.DumpXml = ask_pool.Xml
pool_ask pool.VolList = ask_pool.VolList

abbrev pub volume_ask : VolumeVerb → List ℕ → PoolRequest
volume_ask volume.Delete name = ask_pool.VolDelete name
volume_ask volume.DumpXml name = ask_pool.VolXml name
