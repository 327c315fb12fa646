-- Words of domain_core that are passed on: crates above name them here.
pub use Rattle.domain_tasks.specs.Below.domain_core.Celled.{CellShare, Celled, new_cell}
pub use Rattle.domain_tasks.specs.Below.domain_core.Keeping.{no_mark_lowers}
pub use Rattle.domain_tasks.specs.Below.domain_core.Meaning.{history_of, meaning, nothing_kept}
