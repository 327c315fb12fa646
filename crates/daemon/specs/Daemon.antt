-- What contracts see of a daemon.
use Rattle.driver_service.specs.Below.driver.Cells.{DriverView}
use Rattle.driver_service.specs.Below.held_tasks.OfRows.{DriverRow}

-- its driver, and the row of the first passes of its cells
pub record DaemonView (G : Type 0) : Type 0 where
  pub driver : DriverView
  pub row : DriverRow G
