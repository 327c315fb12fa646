-- What the phase asks that takes a snapshot of a guest.
use Rattle.std.specs.Prelude.{List, [], ◌++◌, Bool, false, true, Option, None, Some}
use Rattle.domain_spec.specs.Types.{Domain, Live, Op, Phase}
use Rattle.domain_spec.specs.Types.command
use Rattle.domain_spec.specs.Types.phase
use Rattle.domain_spec.specs.declared.planned.PlannedAsk.{PlannedAsk}
use Rattle.domain_spec.specs.Asks.{undone_by}
use Rattle.domain_spec.specs.Call.{tell, tell_if}
use Rattle.domain_spec.specs.PhaseAsks.{resumes}

-- the copy is taken, and the guest goes on where it stood still for it; nothing undoes it
abbrev pub take_plan : Bool → List PlannedAsk
take_plan goes_on = undone_by [] (tell command.CopyTake ++ tell_if goes_on command.Cont)

-- no other phase of this part asks anything
abbrev pub plan_at : Live → Op → Phase → List PlannedAsk
plan_at l op phase.Take = take_plan (resumes l op)
plan_at l op other = []

-- nor does one without a guest
abbrev pub due_plan_on : Option Live → Option Op → List PlannedAsk
due_plan_on (Some l) (Some op) = plan_at l op op.phase
due_plan_on live op = []

-- what the due phase of this domain asks
abbrev pub due_plan : Domain → List PlannedAsk
due_plan d = due_plan_on d.live d.op

-- the phase asks nothing
abbrev pub is_idle : Phase → Bool
is_idle phase.Nothing = true
is_idle other = false

-- the due phase is there, and asks nothing
abbrev pub is_nothing : Option Op → Bool
is_nothing None = false
is_nothing (Some op) = is_idle op.phase
