pub mod Free
pub mod Home
