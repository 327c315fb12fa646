-- What is read of a tree fits a text.
use Rattle.std.proofs.Common.{◌≡◌, Bool, true, false, refl, cond, sym, ◌∙◌, ap}
use Rattle.std.specs.Prelude.{Result, Ok, Err}
use Rattle.types_base.specs.declared.domain_def.DomainDef.{DomainDef}
use Rattle.text_spec.specs.declared.definition.DefFault.{DefFault}
use Rattle.text_spec.specs.Definition.{domain_read, not_too_long}
use Rattle.text_spec.specs.DomainPrinted.{domain_fits}
use Rattle.text_spec.specs.DomainText.{domain_in}
use Rattle.text_spec.specs.Table.{fault_of_root}
use Rattle.text_spec.specs.declared.definition.DefKind.TheVariants as kind
use Rattle.text_spec.specs.Tree.{Tree}

chosen : (v d : DomainDef) (told : DefFault) (b : Bool) → domain_fits v ≡ b → cond b (Ok v) (Err told) ≡ Ok d → domain_fits d ≡ true
chosen v d told true is e = let same : v ≡ d = cc in ap domain_fits (sym same) ∙ is
chosen v d told false is e = cc

kept : (told : DefFault) (read : Result DomainDef DefFault) (d : DomainDef) → not_too_long told domain_fits read ≡ Ok d → domain_fits d ≡ true
kept told (Ok v) d e = chosen v d told (domain_fits v) refl e
kept told (Err f) d e = cc

pub read_fitting : (t : Tree) (d : DomainDef) → domain_read t ≡ Ok d → domain_fits d ≡ true
unfolding domain_read
read_fitting t d e = kept (fault_of_root kind.TooLong t) (domain_in t) d e
