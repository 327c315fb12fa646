pub mod Answer
pub mod Calling
pub mod Ends
pub mod Inflow
pub mod Inlets
pub mod Messages
pub mod Notes
