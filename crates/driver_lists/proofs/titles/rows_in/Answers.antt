use Rattle.std.proofs.Common.{◌≡◌, Bor, List, map, subst, sym, ap, ◌∙◌}
use Rattle.std.proofs.lemmas.Result.{IfOk-weaker}
use Rattle.std.proofs.lemmas.Simd.{map-map}
use Rattle.def_map.specs.Map.{found}
use Rattle.store_spec.specs.declared.entry.Entry.{Entry}
use Rattle.driver_cells.specs.OfOutcomes.{AreTitles, title_row}
use Rattle.driver_lists.proofs.TitleRows.{are_titles}
use Rattle.driver_lists.proofs.titles.rows_in.Goals as goal

pub returns : goal.returns
returns c =
    let entries : List Entry = map (λ e. e.now) c.in_ok-entries.entries.items in
    let lent : map (λ (e : Bor Entry). title_row e.now) c.as_slice.result.now ≡ map title_row entries = ap (map (λ (e : Bor Entry). title_row e.now)) c.as_slice.ensures.value ∙ sym (map-map title_row (λ (e : Bor Entry). e.now) c.in_ok-entries.entries.items) in
    IfOk-weaker c.rows_of.result (λ rows. rows.items ≡ map (λ (e : Bor Entry). title_row e.now) c.as_slice.result.now) (λ rows. AreTitles (found c.args.map.now) rows.items)
    (λ rows is. subst (AreTitles (found c.args.map.now)) (sym (is ∙ lent)) (are_titles (found c.args.map.now) entries c.in_ok-entries.ensures))
    c.rows_of.ensures
