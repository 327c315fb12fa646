pub mod Hearing
pub mod Machine
pub mod Reacting
pub mod Script
