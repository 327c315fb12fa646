-- What reads is within the limit of texts.
use Rattle.std.proofs.Common.{◌≡◌, ◌≤◌, Bool, true, false, List, ℕ, arith, refl, length}
use Rattle.std.specs.Prelude.{Result, Ok, Err, nat_lt}
use Rattle.std.proofs.lemmas.Bool.Decides.{nat_tests}
use Rattle.text_spec.specs.Text.{most_bytes, read_of}
use Rattle.text_spec.specs.Tree.{Tree}
use Rattle.text_spec.specs.declared.fault.TextFault.{TextFault}
use Rattle.text_spec.specs.declared.fault.TextKind.TheVariants as kind
use Rattle.session_spec.specs.DefinitionText.{definition_in, of_text}
use Rattle.types_base.specs.declared.domain_def.DomainDef.{DomainDef}

no_reading : (r : Result Tree TextFault) (f : TextFault) (d : DomainDef) → r ≡ Err f → of_text r ≡ Ok d → ⊥
no_reading (Ok t) f d is e = cc
no_reading (Err g) f d is e = cc

too_long : (text : List ℕ) → nat_lt most_bytes (length text) ≡ true → read_of text ≡ Err (record { at = most_bytes; kind = kind.TooLong })
unfolding read_of
too_long text e = rw e refl

by_length : (text : List ℕ) (d : DomainDef) (b : Bool) → nat_lt most_bytes (length text) ≡ b → definition_in text ≡ Ok d → length text ≤ most_bytes
by_length text d true e is = absurd (no_reading (read_of text) _ d (too_long text e) is)
by_length text d false e is = grind (arith, nat_tests, e)

-- a text that is a definition is short
pub reads_short : (text : List ℕ) (d : DomainDef) → definition_in text ≡ Ok d → length text ≤ most_bytes
reads_short text d is = by_length text d (nat_lt most_bytes (length text)) refl is
