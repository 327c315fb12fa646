pub mod Apart
pub mod Finding
pub mod Keeping
pub mod Marking
pub mod Pending
pub mod Turning
