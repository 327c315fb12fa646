pub mod Owing
pub mod OwingLaws
pub mod Taking
