pub mod Giving
pub mod Hearing
pub mod Known
pub mod Missing
pub mod Noting
