pub mod Calling
pub mod Chronicles
pub mod Reasons
pub mod Tabling
pub mod Turning
pub mod VolumeSums
