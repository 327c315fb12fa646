-- Libraries below this one that are passed on: crates above name them here.
pub use Rattle.text_laws.proofs as text_laws
