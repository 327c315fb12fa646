pub mod Handed
pub mod Said
pub mod Outside
pub mod Printing
pub mod Calls
pub mod Listening
pub mod Ends
pub mod Top
