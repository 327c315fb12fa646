pub mod QueueWaiting
pub mod Resting
pub mod Table
pub mod Waiting
