-- A lemma of driver_store that is passed on: crates above name it here.
pub use Rattle.driver_store.proofs.Putting.{zip_length}
