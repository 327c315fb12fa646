pub mod Meaning
pub mod Rule
pub mod Known
pub mod Steps
pub mod Passes
pub mod Lending
pub mod Turning
