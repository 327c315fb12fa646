-- What becomes of a phase that was refused, in five kinds. No public clause cites it.
use Rattle.std.specs.Prelude.{[], Bool, Option, None, Some, if◌then◌else◌}
use Rattle.domain_spec.specs.Types.{Domain, Live, Op, Phase, Refusal, State}
use Rattle.domain_spec.specs.Types.phase
use Rattle.domain_spec.specs.Types.reply
use Rattle.domain_spec.specs.Types.state
use Rattle.domain_spec.specs.declared.step.PhaseStep.{PhaseStep}
use Rattle.domain_spec.specs.CopyResult.{over}
use Rattle.core_rules.specs.declared.refusing.Refused.{Refused}
use Rattle.core_rules.specs.declared.refusing.Refused.TheVariants as so
use Rattle.core_rules.specs.Ends.{gives_up_in, rests_in, start_failed_in}
use Rattle.core_rules.specs.Led.{led_in}

-- on a guest, in a new boot or not
abbrev pub kind_on_guest : Bool → Phase → Refused
kind_on_guest new_boot phase.Make = so.StartFails
kind_on_guest new_boot phase.Run = so.StartFails
kind_on_guest new_boot phase.MigrateLoad = so.StartFails
kind_on_guest new_boot phase.Load = if new_boot then so.StartFails else so.Over
kind_on_guest new_boot phase.Poll = so.GivesUp
kind_on_guest new_boot phase.Take = so.GivesUp
kind_on_guest new_boot phase.Quit = so.GivesUp
kind_on_guest new_boot phase.MigrateTake = so.GivesUp
kind_on_guest new_boot phase.Cancel = so.Led
kind_on_guest new_boot phase.MigrateCancel = so.Led
kind_on_guest new_boot phase.MigrateQuit = so.Rests
kind_on_guest new_boot phase.MigrateBack = so.Rests
kind_on_guest new_boot phase.MigrateRun = so.Rests
kind_on_guest new_boot phase.MigrateDrop = so.Rests
kind_on_guest new_boot other = so.Over

-- without a guest
abbrev pub kind_on_none : Phase → Refused
kind_on_none phase.Take = so.GivesUp
kind_on_none phase.Cancel = so.Led
kind_on_none other = so.Over

-- with or without a guest
abbrev pub kind_on : Option Live → Op → Refused
kind_on None op = kind_on_none op.phase
kind_on (Some l) op = kind_on_guest op.new_boot op.phase

-- with or without an operation
abbrev pub kind_by : Domain → Option Op → Refused
kind_by d None = so.Over
kind_by d (Some op) = kind_on d.live op

-- in this state
unfoldable pub refused_kind : State → Refused
refused_kind (state.Vacant boots) = so.Over
refused_kind (state.Held d) = kind_by d d.op

-- what a phase leaves that was refused, by the kind
abbrev pub refused_so : Refused → State → Refusal → PhaseStep
refused_so so.Over s r = over s [] (reply.No r)
refused_so so.Led s r = over s [] (led_in s)
refused_so so.GivesUp s r = gives_up_in s r
refused_so so.Rests s r = rests_in s r
refused_so so.StartFails s r = start_failed_in s r
