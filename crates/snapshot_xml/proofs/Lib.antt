pub mod Names
pub mod Again
pub mod Sound
