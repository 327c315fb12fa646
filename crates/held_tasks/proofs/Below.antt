-- Libraries below this one that are passed on: crates above name them here.
pub use Rattle.row_desk.proofs as row_desk
