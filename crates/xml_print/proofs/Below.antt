-- Libraries below this one that are passed on: crates above name them here.
pub use Rattle.xml_tables.proofs.Below.text_laws as text_laws
