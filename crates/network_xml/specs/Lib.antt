pub mod Addresses
pub mod NetworkText
pub mod NetworkPrinted
pub mod ReadsAs
