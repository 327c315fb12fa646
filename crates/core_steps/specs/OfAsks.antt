-- Words of core_plan that are passed on: crates above name them here.
pub use Rattle.core_log.specs.Below.core_plan.Along.{Asked, answered, made_along}
pub use Rattle.core_log.specs.Below.core_plan.Away.{IsAway, IsUnsent}
pub use Rattle.core_log.specs.Below.core_plan.Copying.{written}
pub use Rattle.core_log.specs.Below.core_plan.Starving.{next_in}
pub use Rattle.core_log.specs.Below.core_plan.Tidy.{IsTidy, planned}
