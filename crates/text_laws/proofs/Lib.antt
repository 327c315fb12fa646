pub mod Parts
pub mod Allowed
mod Values
mod Asides
mod Trimmed
mod Grown
mod Whole
mod Lookups
mod Disks
pub mod Macs
mod Rows
mod Interfaces
mod Devices
pub mod Figures
mod Segments
mod DomainElements
mod DomainValues
mod DomainFaults
pub mod Plain
pub mod Lengths
pub mod Bare
mod Names
mod Tagged
mod Printed
mod RoundTrip
mod Filled
mod Found
mod ReadTexts
mod Ranges
pub mod ReadMacs
mod ReadRows
mod ReadDevices
mod ReadValues
mod ReadSound
mod Free
mod Apart
mod FilledSound
