pub mod Files
pub mod Taking
pub mod Found
pub mod Below
