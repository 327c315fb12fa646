pub mod Indexes
pub mod Chronicles
pub mod Leasing
pub mod Tabling
pub mod Calling
pub mod Turning
