pub mod PoolText
pub mod VolumeText
pub mod ReadsAs
