-- Words of core_step_laws that are passed on: crates above name them here.
pub use Rattle.core_step_laws.specs.Answered.{IsAnsweredTo}
pub use Rattle.core_step_laws.specs.Heard.{EarsTold}
pub use Rattle.core_step_laws.specs.Made.{AsksThis, made_boot}
pub use Rattle.core_step_laws.specs.MarkedAnswered.{BackLeaves}
pub use Rattle.core_step_laws.specs.MarkedLooked.{IsDoneAtOnce, IsLetIn}
pub use Rattle.core_step_laws.specs.MarkedOperations.{HasStarted, HasTakenUp, IsEndedNow, IsPhasedAtOnce, OperationLeaves, PhaseLeaves, live_in}
pub use Rattle.core_step_laws.specs.Own.{jobs_in}
pub use Rattle.core_step_laws.specs.OwnOperations.{IsLookedFor}
pub use Rattle.core_step_laws.specs.Queued.{queue_by, queue_of, waiting_by}
pub use Rattle.core_step_laws.specs.Registered.{HasTaken, IsWatched, taken_then, with_its, without_its}
pub use Rattle.core_step_laws.specs.Shares.{AreApart, whose}
pub use Rattle.core_step_laws.specs.Staying.{AsideStays, RestStays}
pub use Rattle.core_step_laws.specs.Steady.{IsSteady}
pub use Rattle.core_step_laws.specs.Told.{told, told_then}
