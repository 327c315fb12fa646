pub mod Daemon
pub mod Starting
pub mod Closing
pub mod Serving
pub mod Below
