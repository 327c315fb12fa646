-- An operation rests between two calls.
use Rattle.std.specs.Prelude.{Option, Some, None, true, false}
use Rattle.domain_spec.specs.Types.{Who}
use Rattle.domain_spec.specs.declared.mark.HeldOperation.{HeldOperation}

-- the operation in the hands of the caller that takes it up
abbrev pub taken_up : Option HeldOperation → Who → Option HeldOperation
taken_up None who = None
taken_up (Some op) who = Some (record op { who = who; rests = false })

-- the operation as it waits for such a caller
abbrev pub rested : Option HeldOperation → Option HeldOperation
rested None = None
rested (Some op) = Some (record op { rests = true })
