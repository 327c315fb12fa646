pub mod Targets
pub mod Asks
pub mod Plan
pub mod Within
pub mod Sendable
