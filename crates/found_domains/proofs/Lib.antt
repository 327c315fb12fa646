pub mod Taken
pub mod Named
pub mod Kept
pub mod Apart
pub mod Counted
