-- Lemmas of core_step_laws that are passed on: crates above name them here.
pub use Rattle.core_step_laws.proofs.Asked.{IsAnswered, answered_by}
pub use Rattle.core_step_laws.proofs.Backs.{answers_keep}
pub use Rattle.core_step_laws.proofs.Begins.{beginnings_keep, takings_up_keep}
pub use Rattle.core_step_laws.proofs.Closing.{IsFree, free_on}
pub use Rattle.core_step_laws.proofs.Entering.{IsEntered, IsEnteredDone, done_at_once, entered, entered_done, opened}
pub use Rattle.core_step_laws.proofs.Hearing.{hearings_keep}
pub use Rattle.core_step_laws.proofs.Jobs.{on_base, same_by}
pub use Rattle.core_step_laws.proofs.Leaves.{chapters_keep, leavers_keep, refusals_keep}
pub use Rattle.core_step_laws.proofs.Looks.{looks_keep}
pub use Rattle.core_step_laws.proofs.MarkedBacks.{answers_leave}
pub use Rattle.core_step_laws.proofs.MarkedBegins.{beginnings_leave, takings_up_leave}
pub use Rattle.core_step_laws.proofs.MarkedLooks.{admit_is, looks_leave, starved_after}
pub use Rattle.core_step_laws.proofs.MarkedPhases.{ends_leave, phases_leave}
pub use Rattle.core_step_laws.proofs.Marks.{marks_are_own}
pub use Rattle.core_step_laws.proofs.Others.{others_ask_on}
pub use Rattle.core_step_laws.proofs.Owning.{own_here, refusals_are_own, some_leave_none}
pub use Rattle.core_step_laws.proofs.Phases.{ends_keep, phases_keep}
pub use Rattle.core_step_laws.proofs.Queueing.{operation_queues_tell, queues_tell}
pub use Rattle.core_step_laws.proofs.Telling.{shares_tell}
pub use Rattle.core_step_laws.proofs.Walking.{IsDoneIn, IsOpenAs, done_in, open_keeps}
pub use Rattle.core_step_laws.proofs.Watching.{takes_keep, unwatches_keep, watches_keep}
