pub mod SnapshotText
pub mod ReadsAs
pub mod Parts
