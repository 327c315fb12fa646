-- Words of domain_core that are passed on: crates above name them here.
pub use Rattle.domain_core.specs.Celled.{CellShare}
pub use Rattle.domain_core.specs.Keeping.{no_mark_lowers}
pub use Rattle.domain_core.specs.OfShares.{told}
pub use Rattle.domain_core.specs.OfTurns.{IsToldAtEnd}
pub use Rattle.domain_core.specs.Tickets.{IsAnsweredAs, IsCounted, IsLinkAsked, comes}
