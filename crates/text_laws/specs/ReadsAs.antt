-- The definition that a whole text reads as, and the definitions that reading can give.
use Rattle.std.specs.Prelude.{◌≡◌, ℕ, List, true, Ok}
use Rattle.types_base.specs.declared.device_def.DeviceDef.{DeviceDef}
use Rattle.types_base.specs.declared.domain_def.DomainDef.{DomainDef}
use Rattle.text_spec.specs.Definition.{device_read, domain_read}
use Rattle.text_spec.specs.DevicePrinted.{device_fits}
use Rattle.text_spec.specs.DomainPrinted.{domain_fits}
use Rattle.text_spec.specs.Text.{read_of}
use Rattle.text_spec.specs.Tree.{Tree}
use Rattle.text_laws.specs.Given.{IsDomain, IsDevice}
use Rattle.text_laws.specs.Texts.{IsDomainText, IsDeviceText}

pub record ReadsAsDomain (text : List ℕ) (d : DomainDef) : Type 0 where
  pub tree : Tree
  pub is_tree : read_of text ≡ Ok tree
  pub is_domain : domain_read tree ≡ Ok d

pub record ReadsAsDevice (text : List ℕ) (d : DeviceDef) : Type 0 where
  pub tree : Tree
  pub is_tree : read_of text ≡ Ok tree
  pub is_device : device_read tree ≡ Ok d

-- a domain within its ranges and of texts that a text may hold, whose own text is within the limits
-- of a text once it is filled in, and so as it is
pub record IsSound (d : DomainDef) : Type 0 where
  pub values : IsDomain d
  pub texts : IsDomainText d
  pub fitting : domain_fits d ≡ true

-- the same of a device
pub record IsSoundDevice (d : DeviceDef) : Type 0 where
  pub values : IsDevice d
  pub texts : IsDeviceText d
  pub fitting : device_fits d ≡ true
