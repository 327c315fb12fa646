-- What is kept of a call, or of a phase, between its two turns.
use Rattle.std.specs.Prelude.{◌≡◌, ◌⊎◌, ◌≤◌, ◌<◌, List, [], false, Option, None, Some}
use Rattle.domain_spec.specs.Types.{Answer, State}
use Rattle.domain_spec.specs.declared.open.OpenJob.{OpenJob}
use Rattle.domain_spec.specs.declared.open.OpenOperation.{OpenOperation}
use Rattle.domain_spec.specs.declared.planned.PlannedAsk.{PlannedAsk}
use Rattle.domain_spec.specs.declared.standing.Standing.{Standing}
use Rattle.core_plan.specs.Along.{Asked}
use Rattle.core_plan.specs.Copying.{writes_second}
use Rattle.core_plan.specs.Away.{IsAway}
use Rattle.core_plan.specs.PhaseAway.{IsPhaseAway}
use Rattle.core_plan.specs.Below.core_dispatch.Fits.{FitsCall, FitsPhase}
use Rattle.core_flight.specs.declared.away.Away.{Away}
use Rattle.core_flight.specs.declared.out.Out.{Out}
use Rattle.core_flight.specs.declared.out.Out.TheVariants as out
use Rattle.core_flight.specs.declared.phase_out.PhaseOut.{PhaseOut}

-- what was set aside is enough for what listeners are told of a Done, and of the end of a boot
pub record HasRooms (w : Away) : Type 0 where
  pub told_empty : w.told.list ≡ []
  pub told_room : 3 ≤ w.told.room
  pub end_empty : w.end.list ≡ []
  pub end_room : 0 < w.end.room

-- a call waits for an answer, and all is there that its Done needs
pub record IsKept (s : Standing) (j : OpenJob) (w : Away) : Type 0 where
  pub away : IsAway s.state s.operation j w.course
  pub parts : FitsCall w.parts s.state j.call j.boot
  pub rooms : HasRooms w

-- what was set aside is enough for what listeners are told of a Phase, and of the end of its boot
pub record HasPhaseRooms (w : PhaseOut) : Type 0 where
  pub told_empty : w.told.list ≡ []
  pub told_room : 3 ≤ w.told.room
  pub end_empty : w.end.list ≡ []
  pub end_room : 0 < w.end.room

-- until the first answer there is room for the copy that it may bring, where an image is to be written
abbrev pub HasCopyRoom : List Answer → List PlannedAsk → Option (Unit {0}) → Type 0
HasCopyRoom [] plan None = writes_second plan ≡ false
HasCopyRoom answers plan copy = Unit {0}

-- a phase waits for an answer, and all is there that its Phase needs
pub record IsPhaseKept (s : Standing) (o : OpenOperation) (j : OpenJob) (w : PhaseOut) : Type 0 where
  pub away : IsPhaseAway s.state o j w.course
  pub parts : FitsPhase w.parts s.state o
  pub rooms : HasPhaseRooms w
  pub copy : HasCopyRoom w.course.answers w.course.plan w.copy

-- the due phase of the operation that is open waits for an answer
abbrev pub IsPhaseOut : Standing → Option OpenOperation → OpenJob → PhaseOut → Type 0
IsPhaseOut s None j w = ⊥
IsPhaseOut s (Some o) j w = IsPhaseKept s o j w

-- between two turns a call, or a phase, is open exactly where it is away
abbrev pub IsOut : Standing → Option OpenJob → Option Out → Type 0
IsOut s None None = Unit {0}
IsOut s (Some j) (Some (out.Call w)) = IsKept s j w
IsOut s (Some j) (Some (out.Phase w)) = IsPhaseOut s s.operation j w
IsOut s j w = ⊥

-- its course
abbrev pub course_out : Out → Asked
course_out (out.Call w) = w.course
course_out (out.Phase w) = w.course

-- the due phase of the operation that is open waits with this course
abbrev pub IsPhaseWaiting : State → Option OpenOperation → OpenJob → Asked → Type 0
IsPhaseWaiting s None j a = ⊥
IsPhaseWaiting s (Some o) j a = IsPhaseAway s o j a

-- what contracts see of that: the course of the call, or of the phase, that is away
abbrev pub WaitsWith : Standing → Option OpenJob → Option Asked → Type 0
WaitsWith s None None = Unit {0}
WaitsWith s (Some j) (Some a) = IsAway s.state s.operation j a ⊎ IsPhaseWaiting s.state s.operation j a
WaitsWith s j a = ⊥
