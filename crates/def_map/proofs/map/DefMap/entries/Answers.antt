use Rattle.std.proofs.Common.{◌≡◌, List, bytes_eq, map, subst, ap, ◌∙◌}
use Rattle.std.specs.Cmp.Lexicographic.{slice_cmp}
use Rattle.std.specs.List.{IsDistinct}
use Rattle.std.specs.List.Sorted.{IsPermutation}
use Rattle.std.specs.Map.{keys_of}
use Rattle.std.specs.Ordering.{is_lt, nat_cmp}
use Rattle.std.proofs.lemmas.List.Sorted.{IsPermutation-map}
use Rattle.store_spec.specs.declared.entry.Entry.{Entry}
use Rattle.def_map.specs.Listed.{AreEntries}
use Rattle.def_map.specs.Map.{MapRows, found}
use Rattle.def_map.specs.Rows.{rows_in}
use Rattle.def_map.specs.Walk.{picked}
use Rattle.def_map.proofs.Elements.{sorted_map}
use Rattle.def_map.proofs.Picking.{are_entries, rows_apart}
use Rattle.def_map.proofs.map.DefMap.entries.Goals as goal

pub returns : goal.returns
returns c =
    let rows : rows_in c.rows.result.now.entries ≡ c.self.inside.entries = c.rows.ensures in
    let apart : IsDistinct bytes_eq (keys_of c.self.inside.entries) = subst (λ r. IsDistinct bytes_eq (keys_of r)) rows (rows_apart c.rows.result.now.entries c.picked.ensures.unique) in
    let picks : map (λ e. e.now) c.in_ok-entries.entries.items ≡ picked c.args.kind c.self.inside.entries = c.in_ok-entries.ensures.picked ∙ ap (picked c.args.kind) rows in
    let same : IsPermutation (picked c.args.kind c.self.inside.entries) (map (λ e. e.now) c.risen.result.items) = subst (λ (es : List Entry). IsPermutation es (map (λ e. e.now) c.risen.result.items)) picks (IsPermutation-map (λ e. e.now) c.in_ok-entries.entries.items c.risen.result.items c.risen.ensures.same) in
    subst (λ (m : MapRows). AreEntries c.args.kind (found m) (map (λ e. e.now) c.risen.result.items)) c.self.view_is
    (are_entries (record { entries = c.self.inside.entries; names = c.self.inside.names }) apart c.self.invariant c.args.kind (map (λ e. e.now) c.risen.result.items) same
    (sorted_map (λ e. e.now) (λ (one other : Entry). is_lt (slice_cmp nat_cmp one.name other.name)) c.risen.result.items c.risen.ensures.rising))
