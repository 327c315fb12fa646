-- A definition from its parts is the one that the table gives.
use Rattle.std.proofs.Common.{◌≡◌, refl, Some, None, Option}
use Rattle.text_spec.specs.declared.vocabulary.ElementName.TheVariants as element
use Rattle.text_spec.specs.DomainValue.{domain_of, os_of}
use Rattle.text_spec.specs.Look.{first_of}
use Rattle.text_spec.specs.Tree.{Tree}
use Rattle.domain_xml.specs.Parts.{head_of, devices_of, devices_in, put_together}

by_devices : (t : Tree) (d : Option Tree) → first_of element.Devices t ≡ d → put_together t (head_of t) (os_of t) (devices_in d) ≡ domain_of t
unfolding head_of devices_of devices_in domain_of
by_devices t None is = rw is refl
by_devices t (Some d) is = rw is refl

pub together : (t : Tree) → put_together t (head_of t) (os_of t) (devices_in (first_of element.Devices t)) ≡ domain_of t
together t = by_devices t (first_of element.Devices t) refl
