-- Lemmas of core_plan that are passed on: crates above name them here.
pub use Rattle.core_log.proofs.Below.core_plan.Courses.{has_room, made_more, made_so}
pub use Rattle.core_log.proofs.Below.core_plan.Finishing.{next_ask}
pub use Rattle.core_log.proofs.Below.core_plan.Following.{in_later, plans_follow}
pub use Rattle.core_log.proofs.Below.core_plan.Planning.{asked_planned, still_planned}
pub use Rattle.core_log.proofs.Below.core_plan.StoredPlans.{stored_plans}
pub use Rattle.core_log.proofs.Below.core_plan.TidyCalls.{opened_tidy}
pub use Rattle.core_log.proofs.Below.core_plan.TidyMarks.{every_mark}
pub use Rattle.core_log.proofs.Below.core_plan.Writing.{in_written}
