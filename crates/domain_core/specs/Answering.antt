-- What the ask that is waited for may be answered, by that ask alone.
use Rattle.std.specs.Prelude.{◌≡◌, Bool, true, false}
use Rattle.domain_spec.specs.Types.{Answer, Ask}
use Rattle.domain_spec.specs.Types.ask
use Rattle.domain_spec.specs.Asks.{is_ended_answer, is_lost_answer}
use Rattle.domain_spec.specs.Cell.{Cell, standing_of}
use Rattle.domain_spec.specs.Lawful.{IsUnsent}
use Rattle.core_step_laws.specs.Made.{AsksThis, makes}

-- a command may be answered anything once the guest is made, and until then as one that is not sent; what makes a
-- guest finds none that ended; and what asks anybody else finds neither that nor a link that was lost
abbrev pub MayAnswer : Bool → Ask → Answer → Type 0
MayAnswer true (ask.Command c) x = IsUnsent x
MayAnswer false (ask.Command c) x = Unit {0}
MayAnswer unmade (ask.Make def boot) x = is_ended_answer x ≡ false
MayAnswer unmade other x = (is_ended_answer x ≡ false) × (is_lost_answer x ≡ false)

-- what the open call asked last may be answered so
abbrev pub MayGoBack : Cell → Answer → Type 0
MayGoBack c x = (y : Ask) × AsksThis c (standing_of c).job y × MayAnswer (makes (standing_of c).operation) y x
