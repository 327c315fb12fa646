-- Libraries below this one that are passed on: crates above name them here.
pub use Rattle.store_asks.specs.Below.def_keeper as def_keeper
pub use Rattle.domain_requests.specs as domain_requests
pub use Rattle.reply_texts.specs as reply_texts
pub use Rattle.domain_requests.specs.Below.session_spec as session_spec
pub use Rattle.store_asks.specs as store_asks
