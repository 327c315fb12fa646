-- Words of types_base that are passed on.
pub use Rattle.types_base.specs.Refusal.{kept_cut, refusal_message, refusal_number}
