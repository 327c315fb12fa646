pub mod Checks
pub mod Cores
pub mod Ends
pub mod Led
pub mod Next
pub mod Place
pub mod Reasons
pub mod Refusing
