pub mod Packets
pub mod Split
pub mod Xdr
pub mod XdrAnswer
pub mod XdrReading
