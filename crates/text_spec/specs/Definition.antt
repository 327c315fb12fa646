-- The definition that a tree is: by the tables, and where its own text, once it is filled in, is
-- within the limits of a text.
use Rattle.std.specs.Prelude.{Bool, Result, Ok, Err, if◌then◌else◌}
use Rattle.types_base.specs.declared.device_def.DeviceDef.{DeviceDef}
use Rattle.types_base.specs.declared.domain_def.DomainDef.{DomainDef}
use Rattle.text_spec.specs.declared.definition.DefFault.{DefFault}
use Rattle.text_spec.specs.declared.definition.DefKind.TheVariants as kind
use Rattle.text_spec.specs.DeviceList.{device_in}
use Rattle.text_spec.specs.DevicePrinted.{device_fits}
use Rattle.text_spec.specs.DomainPrinted.{domain_fits}
use Rattle.text_spec.specs.DomainText.{domain_in}
use Rattle.text_spec.specs.Table.{fault_of_root}
use Rattle.text_spec.specs.Tree.{Tree}

-- what was read, where its own text fits
abbrev pub not_too_long : {A : Type 0} → DefFault → (A → Bool) → Result A DefFault → Result A DefFault
not_too_long told fits (Err f) = Err f
not_too_long told fits (Ok v) = if fits v then Ok v else Err told

unfoldable pub device_read : Tree → Result DeviceDef DefFault
device_read t = not_too_long (fault_of_root kind.TooLong t) device_fits (device_in t)

unfoldable pub domain_read : Tree → Result DomainDef DefFault
domain_read t = not_too_long (fault_of_root kind.TooLong t) domain_fits (domain_in t)
