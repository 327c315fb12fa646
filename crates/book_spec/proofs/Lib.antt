pub mod HoldProofs
pub mod Positions
pub mod SlotProofs
pub mod StayProofs
