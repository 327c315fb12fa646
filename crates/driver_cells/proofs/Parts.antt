-- Rows whose passes have the parts that they had.
use Rattle.std.proofs.Common.{refl, ◌∙◌}
use Rattle.driver_cells.specs.Known.{DriverRow}
use Rattle.driver_cells.specs.Parts.{KeepsParts}

module _ {G : Type 0} where
  pub parts_itself : (row : DriverRow G) → KeepsParts row row
  parts_itself row = record { list = refl; store = refl; domains = refl }

  -- and then so again
  pub parts_through : (a b c : DriverRow G) → KeepsParts a b → KeepsParts b c → KeepsParts a c
  parts_through a b c one other = record { list = other.list ∙ one.list; store = other.store ∙ one.store; domains = other.domains ∙ one.domains }
