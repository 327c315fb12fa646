-- The one domain of `virtd demo`.
use Rattle.std.specs.Prelude.{ℕ, List, [], ◌∷◌, codes, Some, None}
use Rattle.session_spec.specs.DefinitionText.{text_of}
use Rattle.virt_types.specs.Below.types_base.declared.domain_def.CrashAction.TheVariants as crash
use Rattle.virt_types.specs.Below.types_base.declared.domain_def.DomainDef.{DomainDef}
use Rattle.virt_types.specs.Below.types_base.declared.domain_def.DomainType.TheVariants as type
use Rattle.virt_types.specs.Below.types_base.declared.domain_def.LifecycleAction.TheVariants as action
use Rattle.virt_types.specs.declared.request.Request.{Request}
use Rattle.virt_types.specs.declared.request.Request.TheVariants as request

-- 00000000-0000-4000-8000-000000000001
abbrev pub demo_uuid : List ℕ
demo_uuid = 0 ∷ 0 ∷ 0 ∷ 0 ∷ 0 ∷ 0 ∷ 0x40 ∷ 0 ∷ 0x80 ∷ 0 ∷ 0 ∷ 0 ∷ 0 ∷ 0 ∷ 0 ∷ 1 ∷ []

-- 1 GiB of memory, one processor, no devices
unfoldable pub demo_def : DomainDef
demo_def = record {
  kind = type.Qemu;
  name = codes "demo";
  uuid = Some demo_uuid;
  title = None;
  description = None;
  guest = record { text = []; entries = [] };
  memory = 1048576;
  current_memory = 1048576;
  vcpus = 1;
  current_vcpus = 1;
  os = record { kind = codes "hvm"; arch = None; machine = None; boot = [] };
  on_poweroff = action.Destroy;
  on_reboot = action.Restart;
  on_crash = crash.Destroy;
  emulator = None;
  disks = [];
  interfaces = [];
  serials = [];
  consoles = [];
  graphics = [];
  memballoon = None;
}

-- what the daemon is asked for it, before it serves anybody
abbrev pub demo_requests : List Request
demo_requests = request.DomainDefineXml (text_of demo_def) ∷ []
