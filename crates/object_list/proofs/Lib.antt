pub mod FreeBits
pub mod Indexes
pub mod Rows
pub mod Tables
pub mod Chronicles
pub mod Turning
pub mod Naming
pub mod Openings
