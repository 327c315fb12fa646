pub mod Callers
pub mod Distinct
pub mod Places
pub mod Tables
