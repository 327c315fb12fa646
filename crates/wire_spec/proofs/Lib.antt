pub mod Bytes
pub mod Items
pub mod Made
pub mod Seen
pub mod Steps
pub mod Strings
pub mod Wholes
