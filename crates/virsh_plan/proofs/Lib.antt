pub mod Small
pub mod Few
