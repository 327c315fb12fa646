-- Two values of many fields are the same where each group of their fields is.
use Rattle.std.specs.Prelude.{◌≡◌}
use Rattle.virt_types.specs.Below.types_base.declared.domain_def.DomainDef.{DomainDef}
use Rattle.virt_types.specs.declared.operation.Op.{Op}

pub record AreNamedAlike (a b : DomainDef) : Type 0 where
  pub kind : a.kind ≡ b.kind
  pub name : a.name ≡ b.name
  pub uuid : a.uuid ≡ b.uuid
  pub title : a.title ≡ b.title
  pub description : a.description ≡ b.description

pub record AreSizedAlike (a b : DomainDef) : Type 0 where
  pub guest : a.guest ≡ b.guest
  pub memory : a.memory ≡ b.memory
  pub current_memory : a.current_memory ≡ b.current_memory
  pub vcpus : a.vcpus ≡ b.vcpus
  pub current_vcpus : a.current_vcpus ≡ b.current_vcpus

pub record AreBootedAlike (a b : DomainDef) : Type 0 where
  pub os : a.os ≡ b.os
  pub on_poweroff : a.on_poweroff ≡ b.on_poweroff
  pub on_reboot : a.on_reboot ≡ b.on_reboot
  pub on_crash : a.on_crash ≡ b.on_crash

pub record AreBuiltAlike (a b : DomainDef) : Type 0 where
  pub emulator : a.emulator ≡ b.emulator
  pub disks : a.disks ≡ b.disks
  pub interfaces : a.interfaces ≡ b.interfaces

pub record AreShownAlike (a b : DomainDef) : Type 0 where
  pub serials : a.serials ≡ b.serials
  pub consoles : a.consoles ≡ b.consoles
  pub graphics : a.graphics ≡ b.graphics
  pub memballoon : a.memballoon ≡ b.memballoon

pub record AreBegunAlike (a b : Op) : Type 0 where
  pub kind : a.kind ≡ b.kind
  pub who : a.who ≡ b.who
  pub boot : a.boot ≡ b.boot
  pub new_boot : a.new_boot ≡ b.new_boot
  pub was_running : a.was_running ≡ b.was_running

pub record HaveComeAlike (a b : Op) : Type 0 where
  pub phase : a.phase ≡ b.phase
  pub abort : a.abort ≡ b.abort
  pub still : a.still ≡ b.still
  pub remaining : a.remaining ≡ b.remaining
  pub refusal : a.refusal ≡ b.refusal
  pub limit : a.limit ≡ b.limit
  pub rests : a.rests ≡ b.rests
