use Rattle.std.proofs.Common.{inr, refl, sym, true, ap, ◌∙◌}
use Rattle.driver_cells.specs.Known.{known_row}
use Rattle.driver_cells.proofs.Stopping.{no_room, ran_out}
use Rattle.driver_lists.proofs.Storing.{StorePass, has_gone, no_mark, store_goes_at, store_is_spent, store_row_goes, store_spent, store_went}
use Rattle.driver_lists.proofs.titling.tell_titles.Goals as goal

pub returns-in-Err-clause-outcome : goal.returns-in-Err-clause-outcome
returns-in-Err-clause-outcome g c =
    inr (ran_out (known_row c.of-row.result) c.stopped.result.reply (store_is_spent c.of-row.result _ c.into_pass.result c.of-row.ensures (c.new-store.ensures ∙ c.in-Err.ensures.spent)) c.stopped.ensures.tells)

pub returns-in-Err-rows-clause-outcome : goal.returns-in-Err-rows-clause-outcome
returns-in-Err-rows-clause-outcome g c = inr (no_room (known_row c.of-row-2.result) c.stopped-in-Err-rows.result.reply c.stopped-in-Err-rows.ensures.tells)

pub returns-in-Err-clause-gone : goal.returns-in-Err-clause-gone
returns-in-Err-clause-gone g c = has_gone c.args.row c.of-row.result (store_row_goes c.args.row c.of-row.result _ _ c.into_parts-list.ensures c.of-row.ensures refl
    (store_spent c.into_parts-list.result.1 c.new-store.result (c.new-store.ensures ∙ c.in-Err.ensures.spent ∙ ap (λ (p : StorePass). record p { spent = true }) c.into_pass.ensures)))

pub returns-in-Ok-rows-clause-gone : goal.returns-in-Ok-rows-clause-gone
returns-in-Ok-rows-clause-gone g c = has_gone c.args.row c.of-row-2.result (store_row_goes c.args.row c.of-row-2.result _ _ c.into_parts-list.ensures c.of-row-2.ensures refl
    (store_goes_at c.into_parts-list.result.1 c.new-store-2.result c.into_pass.result c.in-Ok.read.0 (sym c.into_pass.ensures) c.new-store-2.ensures (store_went _ c.in-Ok.read.1 c.in-Ok.read.2 c.into_pass.result c.in-Ok.read.0 c.in-Ok.ensures.read)))

pub returns-in-Err-rows-clause-gone : goal.returns-in-Err-rows-clause-gone
returns-in-Err-rows-clause-gone g c = has_gone c.args.row c.of-row-2.result (store_row_goes c.args.row c.of-row-2.result _ _ c.into_parts-list.ensures c.of-row-2.ensures refl
    (store_goes_at c.into_parts-list.result.1 c.new-store-2.result c.into_pass.result c.in-Ok.read.0 (sym c.into_pass.ensures) c.new-store-2.ensures (store_went _ c.in-Ok.read.1 c.in-Ok.read.2 c.into_pass.result c.in-Ok.read.0 c.in-Ok.ensures.read)))

pub returns-in-Err-clause-unmarked : goal.returns-in-Err-clause-unmarked
returns-in-Err-clause-unmarked g c = no_mark c.args.row c.of-row.result (store_row_goes c.args.row c.of-row.result _ _ c.into_parts-list.ensures c.of-row.ensures refl
    (store_spent c.into_parts-list.result.1 c.new-store.result (c.new-store.ensures ∙ c.in-Err.ensures.spent ∙ ap (λ (p : StorePass). record p { spent = true }) c.into_pass.ensures)))

pub returns-in-Ok-rows-clause-unmarked : goal.returns-in-Ok-rows-clause-unmarked
returns-in-Ok-rows-clause-unmarked g c = no_mark c.args.row c.of-row-2.result (store_row_goes c.args.row c.of-row-2.result _ _ c.into_parts-list.ensures c.of-row-2.ensures refl
    (store_goes_at c.into_parts-list.result.1 c.new-store-2.result c.into_pass.result c.in-Ok.read.0 (sym c.into_pass.ensures) c.new-store-2.ensures (store_went _ c.in-Ok.read.1 c.in-Ok.read.2 c.into_pass.result c.in-Ok.read.0 c.in-Ok.ensures.read)))

pub returns-in-Err-rows-clause-unmarked : goal.returns-in-Err-rows-clause-unmarked
returns-in-Err-rows-clause-unmarked g c = no_mark c.args.row c.of-row-2.result (store_row_goes c.args.row c.of-row-2.result _ _ c.into_parts-list.ensures c.of-row-2.ensures refl
    (store_goes_at c.into_parts-list.result.1 c.new-store-2.result c.into_pass.result c.in-Ok.read.0 (sym c.into_pass.ensures) c.new-store-2.ensures (store_went _ c.in-Ok.read.1 c.in-Ok.read.2 c.into_pass.result c.in-Ok.read.0 c.in-Ok.ensures.read)))
