-- What becomes of the texts of a call that is judged.
use Rattle.std.specs.Prelude.{Option, None, Some, Result, Ok, Err}
use Rattle.domain_spec.specs.Types.{Refusal}
use Rattle.domain_spec.specs.Types.reply
use Rattle.core_rules.specs.declared.ends.CallEnd.{CallEnd}
use Rattle.core_rules.specs.declared.ends.Texts.{Texts}
use Rattle.core_rules.specs.Led.{Says}

-- the call ends with the refusal of its tests, or its texts are still there
abbrev pub Judged : Result Texts CallEnd → Option Refusal → Type 0
Judged (Ok texts) None = Unit {0}
Judged (Err end) (Some r) = Says end (reply.No r)
Judged result r = ⊥
