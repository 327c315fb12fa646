mod Blanks
mod Elements
mod Escapes
mod Nested
mod Scalars
pub mod Seen
mod Tags
mod Texts
mod Whole
mod Words
