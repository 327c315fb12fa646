-- The words for the values of the domain format's lists, for reading and for printing.
use Rattle.std.specs.Prelude.{ℕ, List, [], ◌∷◌, codes, find, Option}
use Rattle.std.specs.Str.{bytes_eq}
use Rattle.types_base.specs.declared.domain_def.DomainType.{DomainType}
use Rattle.types_base.specs.declared.domain_def.DomainType.TheVariants as domain
use Rattle.types_base.specs.declared.domain_def.BootDevice.{BootDevice}
use Rattle.types_base.specs.declared.domain_def.BootDevice.TheVariants as boot
use Rattle.types_base.specs.declared.domain_def.LifecycleAction.{LifecycleAction}
use Rattle.types_base.specs.declared.domain_def.LifecycleAction.TheVariants as action
use Rattle.types_base.specs.declared.domain_def.CrashAction.{CrashAction}
use Rattle.types_base.specs.declared.domain_def.CrashAction.TheVariants as crash
use Rattle.types_base.specs.declared.device_def.DiskType.{DiskType}
use Rattle.types_base.specs.declared.device_def.DiskType.TheVariants as disk
use Rattle.types_base.specs.declared.device_def.DiskDevice.{DiskDevice}
use Rattle.types_base.specs.declared.device_def.DiskDevice.TheVariants as device
use Rattle.types_base.specs.declared.device_def.InterfaceType.{InterfaceType}
use Rattle.types_base.specs.declared.device_def.InterfaceType.TheVariants as interface

-- the value of a list that a word stands for
abbrev pub meant : {A : Type 0} → (A → List ℕ) → List A → List ℕ → Option A
meant word_of values word = find (λ v. bytes_eq (word_of v) word) values

abbrev pub domain_type_word : DomainType → List ℕ
domain_type_word domain.Kvm = codes "kvm"
domain_type_word domain.Qemu = codes "qemu"

unfoldable pub domain_type_of : List ℕ → Option DomainType
domain_type_of word = meant domain_type_word (domain.Kvm ∷ domain.Qemu ∷ []) word

abbrev pub boot_device_word : BootDevice → List ℕ
boot_device_word boot.Hd = codes "hd"
boot_device_word boot.Cdrom = codes "cdrom"
boot_device_word boot.Network = codes "network"
boot_device_word boot.Fd = codes "fd"

unfoldable pub boot_device_of : List ℕ → Option BootDevice
boot_device_of word = meant boot_device_word (boot.Hd ∷ boot.Cdrom ∷ boot.Network ∷ boot.Fd ∷ []) word

abbrev pub lifecycle_action_word : LifecycleAction → List ℕ
lifecycle_action_word action.Destroy = codes "destroy"
lifecycle_action_word action.Restart = codes "restart"
lifecycle_action_word action.Preserve = codes "preserve"
lifecycle_action_word action.RenameRestart = codes "rename-restart"

unfoldable pub lifecycle_action_of : List ℕ → Option LifecycleAction
lifecycle_action_of word =
    meant lifecycle_action_word (action.Destroy ∷ action.Restart ∷ action.Preserve ∷ action.RenameRestart ∷ []) word

abbrev pub crash_action_word : CrashAction → List ℕ
crash_action_word crash.Destroy = codes "destroy"
crash_action_word crash.Restart = codes "restart"
crash_action_word crash.Preserve = codes "preserve"
crash_action_word crash.RenameRestart = codes "rename-restart"
crash_action_word crash.CoredumpDestroy = codes "coredump-destroy"
crash_action_word crash.CoredumpRestart = codes "coredump-restart"

unfoldable pub crash_action_of : List ℕ → Option CrashAction
crash_action_of word =
    meant crash_action_word
    (crash.Destroy ∷ crash.Restart ∷ crash.Preserve ∷ crash.RenameRestart ∷ crash.CoredumpDestroy ∷ crash.CoredumpRestart ∷ [])
    word

abbrev pub disk_type_word : DiskType → List ℕ
disk_type_word disk.File = codes "file"
disk_type_word disk.Block = codes "block"
disk_type_word disk.Volume = codes "volume"

unfoldable pub disk_type_of : List ℕ → Option DiskType
disk_type_of word = meant disk_type_word (disk.File ∷ disk.Block ∷ disk.Volume ∷ []) word

abbrev pub disk_device_word : DiskDevice → List ℕ
disk_device_word device.Disk = codes "disk"
disk_device_word device.Cdrom = codes "cdrom"
disk_device_word device.Lun = codes "lun"
disk_device_word device.Floppy = codes "floppy"

unfoldable pub disk_device_of : List ℕ → Option DiskDevice
disk_device_of word = meant disk_device_word (device.Disk ∷ device.Cdrom ∷ device.Lun ∷ device.Floppy ∷ []) word

abbrev pub interface_type_word : InterfaceType → List ℕ
interface_type_word interface.Network = codes "network"
interface_type_word interface.Bridge = codes "bridge"
interface_type_word interface.User = codes "user"

unfoldable pub interface_type_of : List ℕ → Option InterfaceType
interface_type_of word = meant interface_type_word (interface.Network ∷ interface.Bridge ∷ interface.User ∷ []) word
