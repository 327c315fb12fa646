pub mod Causes
pub mod Counting
pub mod Exchanges
pub mod Hearing
pub mod Views
