pub mod Apart
pub mod Cutting
pub mod Each
pub mod Hearing
pub mod Lawful
pub mod Places
pub mod Pushing
pub mod WholeProofs
