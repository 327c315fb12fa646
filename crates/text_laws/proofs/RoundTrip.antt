-- Definitions that are printed as texts and read again.
use Rattle.std.proofs.Common.{◌≡◌, length, true, Ok, arith}
use Rattle.std.specs.Prelude.{nat_le}
use Rattle.std.proofs.lemmas.Bool.Decides.{nat_tests}
use Rattle.types_base.specs.declared.device_def.DeviceDef.{DeviceDef}
use Rattle.types_base.specs.declared.domain_def.DomainDef.{DomainDef}
use Rattle.text_spec.specs.DevicePrinted.{device_tree}
use Rattle.text_spec.specs.DomainPrinted.{domain_tree}
use Rattle.text_spec.specs.Spelling.{fits}
use Rattle.text_spec.specs.Text.{read_of, most_bytes, most_levels, most_elements}
use Rattle.text_spec.specs.Tree.{Tree}
use Rattle.text_spec.specs.Writable.{IsTree, IsWritable, size}
use Rattle.text_spec.specs.Written.{written}
use Rattle.text_spec.specs.Definition.{device_read, domain_read}
use Rattle.text_laws.specs.Given.{IsDomain, IsDevice}
use Rattle.text_laws.specs.Texts.{IsDomainText, IsDeviceText}
use Rattle.text_laws.specs.ReadsAs.{ReadsAsDomain, ReadsAsDevice, IsSound, IsSoundDevice}
use Rattle.text_laws.proofs.Devices.{device_back}
use Rattle.text_laws.proofs.DomainFaults.{domain_read_back}
use Rattle.text_laws.proofs.Filled.{domain_unfilled_fits, device_unfilled_fits}
use Rattle.text_laws.proofs.Parts.{both_of}
use Rattle.text_laws.proofs.Printed.{domain_formed, device_formed}

writable : (t : Tree) → IsTree most_levels t → fits t ≡ true → IsWritable t
unfolding fits
writable t is e =
    let parts = both_of (nat_le (length (written t)) most_bytes) (nat_le (size t) most_elements) e in
    record { tree = is; elements = grind (arith, nat_tests, parts.1); bytes = grind (arith, nat_tests, parts.0) }

pub domain_writable : (d : DomainDef) → IsDomain d → IsDomainText d → fits (domain_tree d) ≡ true → IsWritable (domain_tree d)
domain_writable d own is e = writable (domain_tree d) (domain_formed 28 d own is) e

pub device_writable : (d : DeviceDef) → IsDevice d → IsDeviceText d → fits (device_tree d) ≡ true → IsWritable (device_tree d)
device_writable d own is e = writable (device_tree d) (device_formed 30 d own is) e

pub domain_again : ((t : Tree) → IsWritable t → read_of (written t) ≡ Ok t) → (d : DomainDef) → IsSound d → ReadsAsDomain (written (domain_tree d)) d
unfolding domain_read
domain_again back d is = record {
  tree = domain_tree d;
  is_tree = back (domain_tree d) (domain_writable d is.values is.texts (domain_unfilled_fits d is.fitting));
  is_domain = rw (domain_read_back d is.values, is.fitting);
}

pub device_again : ((t : Tree) → IsWritable t → read_of (written t) ≡ Ok t) → (d : DeviceDef) → IsSoundDevice d → ReadsAsDevice (written (device_tree d)) d
unfolding device_read
device_again back d is = record {
  tree = device_tree d;
  is_tree = back (device_tree d) (device_writable d is.values is.texts (device_unfilled_fits d is.fitting));
  is_device = rw (device_back d is.values, is.fitting);
}
