-- No mark lowers the number of boots, and a new chapter keeps it.
use Rattle.std.proofs.Common.{◌≤◌, sym, subst, le_refl}
use Rattle.turn_cell.specs.Meaning.{NewBaseKeeps, NoMarkLowers}
use Rattle.domain_spec.specs.declared.standing.Standing.{Standing}
use Rattle.domain_spec.specs.Fold.{at_base, standing}
use Rattle.domain_spec.specs.Reading.{boots_of}
use Rattle.domain_spec.proofs.LawProofs.{standing-append}
use Rattle.domain_spec.proofs.PhaseBoots.{boots_rise}
use Rattle.domain_core.specs.Meaning.{meaning}

pub no_mark_lowers : NoMarkLowers meaning
no_mark_lowers b xs ys =
    subst (λ (s : Standing). boots_of (standing (at_base b) xs).state ≤ boots_of s.state) (sym (standing-append (at_base b) xs ys))
    (boots_rise (standing (at_base b) xs) ys)

pub new_base_keeps : NewBaseKeeps meaning
new_base_keeps c = le_refl _
