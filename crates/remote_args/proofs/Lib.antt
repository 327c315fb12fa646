pub mod EntryLists
pub mod Holding
pub mod Written
