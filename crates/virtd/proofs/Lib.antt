pub mod DemoName
pub mod DemoSound
pub mod NoFiles
pub mod Printing
pub mod Words
