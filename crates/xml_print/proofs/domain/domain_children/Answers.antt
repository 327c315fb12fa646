use Rattle.std.proofs.Common.{◌++◌, ◌∙◌, sym, ap, append_assoc}
use Rattle.text_spec.specs.DomainPrinted.{front_trees, middle_trees, gathered, device_trees}
use Rattle.text_spec.specs.declared.vocabulary.ElementName.TheVariants as element
use Rattle.xml_print.specs.Absent.{domain_as}
use Rattle.xml_print.proofs.Interfaces.{middle_as}
use Rattle.xml_print.proofs.domain.domain_children.Goals as goal

pub returns : goal.returns
returns c =
    let d = c.args.def.now in
    let a = c.args.absent in
    let front = front_trees (domain_as a d) in
    let devices = gathered element.Devices (device_trees (domain_as a d)) in
    c.in_ok-add_devices.ensures
    ∙ ap (λ ts. ts ++ devices) (c.in_ok-add_middle.ensures ∙ ap (λ ts. ts ++ middle_trees d) c.in_ok-children.ensures)
    ∙ append_assoc front (middle_trees d) devices
    ∙ ap (λ m. front ++ (m ++ devices)) (sym (middle_as a d))
