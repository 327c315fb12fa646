-- The definition that a text is, and the text of a definition.
use Rattle.std.specs.Prelude.{ℕ, List, Result, Ok, Err}
use Rattle.session_spec.specs.Refused.{at_place}
use Rattle.text_spec.specs.Definition.{domain_read}
use Rattle.text_spec.specs.DomainPrinted.{domain_tree}
use Rattle.text_spec.specs.Text.{read_of}
use Rattle.text_spec.specs.Tree.{Tree}
use Rattle.text_spec.specs.Written.{written}
use Rattle.text_spec.specs.declared.definition.DefFault.{DefFault}
use Rattle.text_spec.specs.declared.fault.TextFault.{TextFault}
use Rattle.virt_types.specs.Below.types_base.declared.domain_def.DomainDef.{DomainDef}

-- the definition that a text is, or what the refusal keeps: the place where it leaves the grammar, or
-- the path of the element at which its tree is no definition
abbrev pub of_tree : Result DomainDef DefFault → Result DomainDef (List ℕ)
of_tree (Ok def) = Ok def
of_tree (Err bad) = Err bad.path

-- the same of a text that was read as a tree, or not
abbrev pub of_text : Result Tree TextFault → Result DomainDef (List ℕ)
of_text (Ok tree) = of_tree (domain_read tree)
of_text (Err bad) = Err (at_place bad.at)

-- the same of a text
abbrev pub definition_in : List ℕ → Result DomainDef (List ℕ)
definition_in text = of_text (read_of text)

-- the text of a definition
abbrev pub text_of : DomainDef → List ℕ
text_of def = written (domain_tree def)
