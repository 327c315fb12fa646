pub mod Requests
pub mod Outcomes
pub mod Going
pub mod Rejoined
pub mod OpenedRow
pub mod Splitting
pub mod Below
