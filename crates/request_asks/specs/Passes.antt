-- What is known of a pass of the store, as outcomes speak of it.
use Rattle.std.specs.Prelude.{◌≡◌}
use Rattle.def_keeper.specs.declared.mark.StoreBase.{StoreBase}
use Rattle.def_keeper.specs.declared.mark.StoreMark.{StoreMark}
use Rattle.outcome_spec.specs.Rows.{Known, KnownRow}
use Rattle.outcome_spec.specs.Below.store_asks.Turning.{StorePass}

-- its number, what it has seen, its own marks, and whether no ticket is left
abbrev pub known : StorePass → Known StoreBase StoreMark
known p = record { number = p.number; seen = p.seen; mine = p.mine; spent = p.spent }

-- so it is of each row whose pass of the store was the first one before, and is the second one after
abbrev pub OfRows : StorePass → StorePass → (KnownRow → KnownRow → Type 0) → Type 0
OfRows before after IsSo = (old new : KnownRow) → old.store ≡ known before → new.store ≡ known after → IsSo old new
