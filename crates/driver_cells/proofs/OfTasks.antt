-- Lemmas of domain_tasks that are passed on: crates above name them here.
pub use Rattle.domain_tasks.proofs.Marks.{left_among, stands_last}
