-- Requests that a packet can carry.
use Rattle.std.specs.Prelude.{◌≤◌, ◌+◌, length}
use Rattle.virt_types.specs.declared.request.Request.{Request}
use Rattle.wire_spec.specs.declared.message.TheConstants.{HEADER_LENGTH, MOST_BYTES}
use Rattle.procedure_spec.specs.Arguments.{HasArguments, IsArguments, argument_items, arguments}
use Rattle.procedure_spec.specs.declared.arguments.Arguments.{Arguments}

-- its arguments have a spelling, which is not too long for a packet
pub record IsSendable (asked : Request) : Type 0 where
  pub has : HasArguments asked
  pub fits : HEADER_LENGTH + length (arguments asked) ≤ MOST_BYTES

-- arguments that are no longer than a text of 65,536 bytes and a few words. No public clause cites this
pub record IsSmall (args : Arguments) : Type 0 where
  pub is : IsArguments args
  pub short : length (argument_items args) ≤ 65600
