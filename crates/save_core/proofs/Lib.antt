pub mod Both
pub mod Loads
pub mod Polls
pub mod Places
pub mod PlainPlans
pub mod NothingLeft
pub mod Done
pub mod CallLaws
