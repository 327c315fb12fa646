-- A row of which the store's pass may have taken a turn, and then the whole row goes on.
use Rattle.std.proofs.Common.{◌≡◌, List, ap, ◌∙◌, subst, map}
use Rattle.atomic_table.specs.Seated.{TableId}
use Rattle.held_tasks.proofs.OfRows.{later_through}
use Rattle.held_tasks.specs.OfRows.{DriverRow, IsReadyRow, KeepsParts, known, known_row, parts_of}
use Rattle.held_tasks.proofs.OfOutcomes.{level_stays}
use Rattle.held_tasks.specs.OfOutcomes.{HasGone, IsLater, level}
use Rattle.pass_rows.specs.Rows.{IsOf}
use Rattle.held_tasks.specs.OfDesks.{StorePass}

module _ {G : Type 0} where
  -- by way of the store's pass
  pub gone_on : (before had after : DriverRow G) → had ≡ record before { store = had.store } → IsLater level (known before.store) (known had.store) → HasGone (known_row had) (known_row after)
      → HasGone (known_row before) (known_row after)
  gone_on before had after row store gone =
      let on : HasGone (known_row (record before { store = had.store })) (known_row after) = subst (λ (r : DriverRow G). HasGone (known_row r) (known_row after)) row gone in
      record {
        list = on.list;
        store = later_through level level_stays (known before.store) (known had.store) (known after.store) store on.store;
        domains = on.domains;
      }

  -- its passes have the parts that they had
  pub parts_on : (before had after : DriverRow G) → had ≡ record before { store = had.store } → had.store.parts ≡ before.store.parts → KeepsParts had after → KeepsParts before after
  parts_on before had after row store on = record {
    list = on.list ∙ ap (λ (r : DriverRow G). r.list.parts) row;
    store = on.store ∙ store;
    domains = on.domains ∙ ap (λ (r : DriverRow G). map parts_of r.domains) row;
  }

  -- the row is of the same cells, and ready
  pub still_own : (list store : TableId) (domains : List TableId) (before : DriverRow G) (p : StorePass) → p.cell ≡ before.store.cell → IsOf list store domains before → IsOf list store domains (record before { store = p })
  still_own list store domains before p cell own = record { list_is = own.list_is; store_is = cell ∙ own.store_is; domains_are = own.domains_are }

  pub still_ready : (before : DriverRow G) (p : StorePass) → IsReadyRow before → IsReadyRow (record before { store = p })
  still_ready before p ready = record { list = ready.list; domains = ready.domains; slots = ready.slots }
