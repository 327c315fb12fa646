-- Interfaces that are spelled one by one, and what is spelled of every definition alike.
use Rattle.std.proofs.Common.{◌≡◌, List, [], ◌∷◌, ◌++◌, length, refl, ap, sym, ◌∙◌, append-nil, arith}
use Rattle.std.specs.Prelude.{map}
use Rattle.virt_types.specs.Below.types_base.declared.device_def.Interface.{Interface}
use Rattle.virt_types.specs.Below.types_base.declared.domain_def.DomainDef.{DomainDef}
use Rattle.text_spec.specs.DevicePrinted.{interface_tree}
use Rattle.text_spec.specs.DomainPrinted.{middle_trees}
use Rattle.text_spec.specs.Tree.{Tree}
use Rattle.xml_print.specs.declared.absent.Absent.{Absent}
use Rattle.xml_print.specs.declared.absent.Absent.TheVariants as absent
use Rattle.xml_print.specs.Absent.{interface_as, interfaces_as, domain_as}

pub all_as : (a : Absent) (is : List Interface) → map (λ i. interface_tree (interface_as a i)) is ≡ map interface_tree (interfaces_as a is)
all_as absent.Omitted [] = refl
all_as absent.Omitted (i ∷ is) = ap (λ ts. interface_tree i ∷ ts) (all_as absent.Omitted is)
all_as absent.StoodIn [] = refl
all_as absent.StoodIn (i ∷ is) = ap (λ ts. interface_tree (interface_as absent.StoodIn i) ∷ ts) (all_as absent.StoodIn is)

pub middle_as : (a : Absent) (d : DomainDef) → middle_trees (domain_as a d) ≡ middle_trees d
unfolding middle_trees
middle_as a d = refl

-- all are spelled where none is left
pub none_left : (a : Absent) (out now : List Tree) (rest is : List Interface) → length rest ≡ 0
    → now ++ map (λ i. interface_tree (interface_as a i)) rest ≡ out ++ map (λ i. interface_tree (interface_as a i)) is
    → now ≡ out ++ map interface_tree (interfaces_as a is)
none_left a out now [] is none e = sym (append-nil now) ∙ e ∙ ap (λ ts. out ++ ts) (all_as a is)
none_left a out now (i ∷ rest) is none e = absurd (omega (arith, none))
