-- Why one row after the other can be cut off a row.
use Rattle.std.proofs.Common.{◌≡◌, ℕ, suc, ◌+◌, ◌-◌, ◌<◌, ◌≤◌, List, [], ◌∷◌, ◌++◌, Some, length, map, refl, sym, ap, ◌∙◌, subst, arith}
use Rattle.std.specs.List.{All, AllByRecursion as AllOf, AllZip}
use Rattle.std.proofs.lemmas.List.{length-map, length-append}
use Rattle.std.proofs.lemmas.List.Elements.{All-from_recursion, recursion_from_All, All-map, All-nil, All-pop, All-push, All-same, All-weaker}
use Rattle.atomic_table.specs.Seated.{TableId}
use Rattle.turn_cell.specs.Meaning.{Meaning}
use Rattle.turn_cell.specs.Passes.{Passed, IsCutOff}
use Rattle.pass_rows.specs.Cutting.{cell_of, fewer, HasParts}
use Rattle.pass_rows.specs.Resting.{IsIdle}
use Rattle.pass_rows.specs.Rows.{PassRow, IsOf, HasRowParts, IsCutOffRow, IsIdleRow, IsSplit, fewer_row}

module _ {B M S : Type 0} where
  fewer_none : (p : Passed B M S) → fewer 0 p ≡ p
  fewer_none p = let e : p.parts - 0 ≡ p.parts = omega arith in λ i. record p { parts = e i }

  fewer_more : (k : ℕ) (p : Passed B M S) → fewer 1 (fewer k p) ≡ fewer (k + 1) p
  fewer_more k p = let e : p.parts - k - 1 ≡ p.parts - (k + 1) = omega arith in λ i. record p { parts = e i }

  all_none : (ps : List (Passed B M S)) → map (fewer 0) ps ≡ ps
  all_none [] = refl
  all_none (p ∷ ps) = λ i. fewer_none p i ∷ all_none ps i

  all_more : (k : ℕ) (ps : List (Passed B M S)) → map (fewer 1) (map (fewer k) ps) ≡ map (fewer (k + 1)) ps
  all_more k [] = refl
  all_more k (p ∷ ps) = λ i. fewer_more k p i ∷ all_more k ps i

  all_cells : (k : ℕ) (ps : List (Passed B M S)) → map cell_of (map (fewer k) ps) ≡ map cell_of ps
  all_cells k [] = refl
  all_cells k (p ∷ ps) = ap (λ (cs : List TableId). p.cell ∷ cs) (all_cells k ps)

  all_parts : (k n : ℕ) (ps : List (Passed B M S)) → k + 2 ≤ n → All (HasParts n) ps → All (HasParts 2) (map (fewer k) ps)
  all_parts k n ps fits all =
      All-map (HasParts 2) (fewer k) ps (All-weaker (HasParts n) (λ (p : Passed B M S). HasParts 2 (fewer k p)) (λ p has. omega arith) ps all)

module _ {T B M S : Type 0} (K : Meaning T B M S) where
  cut_off : (k : ℕ) (p new : Passed B M S) → IsCutOff K (fewer k p) new → IsCutOff K p new
  cut_off k p new off = record { number = off.number; ended = off.ended; marks = off.marks; rest = off.rest }

  all_cut_off : (k : ℕ) (ps new : List (Passed B M S)) → AllZip (IsCutOff K) (map (fewer k) ps) new → AllZip (IsCutOff K) ps new
  all_cut_off k [] [] all = tt
  all_cut_off k [] (q ∷ qs) all = absurd all
  all_cut_off k (p ∷ ps) [] all = absurd all
  all_cut_off k (p ∷ ps) (q ∷ qs) all = (cut_off k p q all.0, all_cut_off k ps qs all.1)

module _ {BL ML SL BS MS SS BD MD SD G : Type 0} where
  pub row_none : (row : PassRow BL ML SL BS MS SS BD MD SD G) → row ≡ fewer_row 0 row
  row_none row = λ i. record row { list = sym (fewer_none row.list) i; store = sym (fewer_none row.store) i; domains = sym (all_none row.domains) i }

  row_more : (k : ℕ) (row : PassRow BL ML SL BS MS SS BD MD SD G) → fewer_row 1 (fewer_row k row) ≡ fewer_row (k + 1) row
  row_more k row = λ i. record row { list = fewer_more k row.list i; store = fewer_more k row.store i; domains = all_more k row.domains i }

  pub still_of : (list store : TableId) (domains : List TableId) (k : ℕ) (row now : PassRow BL ML SL BS MS SS BD MD SD G) → now ≡ fewer_row k row → IsOf list store domains row → IsOf list store domains now
  still_of list store domains k row now is own =
      subst (IsOf list store domains) (sym is) (record { list_is = own.list_is; store_is = own.store_is; domains_are = all_cells k row.domains ∙ own.domains_are })

  pub still_parts : (k n : ℕ) (row now : PassRow BL ML SL BS MS SS BD MD SD G) → now ≡ fewer_row k row → k + 2 ≤ n → HasRowParts n row → HasRowParts 2 now
  still_parts k n row now is fits has =
      let list : n ≤ row.list.parts = has.list_has in
      let store : n ≤ row.store.parts = has.store_has in
      subst (HasRowParts 2) (sym is) (record { list_has = omega arith; store_has = omega arith; domains_have = all_parts k n row.domains fits has.domains_have })

  pub still_wide : (k : ℕ) (row now : PassRow BL ML SL BS MS SS BD MD SD G) → now ≡ fewer_row k row → length now.domains ≡ length row.domains
  still_wide k row now is = ap (λ (r : PassRow BL ML SL BS MS SS BD MD SD G). length r.domains) is ∙ length-map row.domains (fewer k)

  pub one_fewer : (k n : ℕ) (row now after : PassRow BL ML SL BS MS SS BD MD SD G) → now ≡ fewer_row k row → after ≡ fewer_row 1 now → n ≡ k + 1 → after ≡ fewer_row n row
  one_fewer k n row now after is cut count = cut ∙ (ap (fewer_row 1) is ∙ (row_more k row ∙ ap (λ (m : ℕ). fewer_row m row) (sym count)))

module _ {TL BL ML SL TS BS MS SS TD BD MD SD G : Type 0} (L : Meaning TL BL ML SL) (S : Meaning TS BS MS SS) (D : Meaning TD BD MD SD) where
  row_cut_off : (k : ℕ) (row now new : PassRow BL ML SL BS MS SS BD MD SD G) → now ≡ fewer_row k row → IsCutOffRow L S D now new → IsCutOffRow L S D row new
  row_cut_off k row now new is off =
      let at : IsCutOffRow L S D (fewer_row k row) new = subst (λ (r : PassRow BL ML SL BS MS SS BD MD SD G). IsCutOffRow L S D r new) is off in
      record { list = cut_off L k row.list new.list at.list; store = cut_off S k row.store new.store at.store; domains = all_cut_off D k row.domains new.domains at.domains; unkept = at.unkept }

  pub one_more_row : (k : ℕ) (row now new : PassRow BL ML SL BS MS SS BD MD SD G) (done left : List (PassRow BL ML SL BS MS SS BD MD SD G)) → now ≡ fewer_row k row → IsCutOffRow L S D now new → All (IsCutOffRow L S D row) done → left ≡ done ++ new ∷ [] → All (IsCutOffRow L S D row) left
  one_more_row k row now new done left is off all put =
      All-same (IsCutOffRow L S D row) left (done ++ new ∷ []) put (All-push (IsCutOffRow L S D row) done new all (row_cut_off k row now new is off))

module _ {T B M S : Type 0} (K : Meaning T B M S) where
  cells_of_cut : (ps new : List (Passed B M S)) → AllZip (IsCutOff K) ps new → map cell_of new ≡ map cell_of ps
  cells_of_cut [] [] all = refl
  cells_of_cut [] (q ∷ qs) all = absurd all
  cells_of_cut (p ∷ ps) [] all = absurd all
  cells_of_cut (p ∷ ps) (q ∷ qs) all = λ i. (ap (λ (x : Passed B M S). x.cell) all.0.rest) i ∷ cells_of_cut ps qs all.1 i

  idle_cut : (p new : Passed B M S) → IsCutOff K p new → IsIdle K p → IsIdle K new
  idle_cut p new off idle = record { fresh = ap (λ (x : Passed B M S). x.spent) off.rest ∙ idle.fresh; empty = ap (λ (x : Passed B M S). x.share) off.rest }

  all_idle_cut : (ps new : List (Passed B M S)) → AllZip (IsCutOff K) ps new → AllOf (IsIdle K) ps → AllOf (IsIdle K) new
  all_idle_cut [] [] all idle = tt
  all_idle_cut [] (q ∷ qs) all idle = absurd all
  all_idle_cut (p ∷ ps) [] all idle = absurd all
  all_idle_cut (p ∷ ps) (q ∷ qs) all idle = (idle_cut p q all.0 idle.0, all_idle_cut ps qs all.1 idle.1)

module _ {TL BL ML SL TS BS MS SS TD BD MD SD G : Type 0} (L : Meaning TL BL ML SL) (S : Meaning TS BS MS SS) (D : Meaning TD BD MD SD) where
  of_cut_row : (list store : TableId) (domains : List TableId) (row new : PassRow BL ML SL BS MS SS BD MD SD G) → IsOf list store domains row → IsCutOffRow L S D row new → IsOf list store domains new
  of_cut_row list store domains row new own off = record {
    list_is = ap (λ (x : Passed BL ML SL). x.cell) off.list.rest ∙ own.list_is;
    store_is = ap (λ (x : Passed BS MS SS). x.cell) off.store.rest ∙ own.store_is;
    domains_are = cells_of_cut D row.domains new.domains off.domains ∙ own.domains_are;
  }

  -- all rows are of the cells that the one was of
  pub all_of : (list store : TableId) (domains : List TableId) (count : ℕ) (row : PassRow BL ML SL BS MS SS BD MD SD G) (rows : List (PassRow BL ML SL BS MS SS BD MD SD G)) → IsOf list store domains row → IsSplit L S D count row rows → All (IsOf list store domains) rows
  all_of list store domains count row rows own h =
      All-same (IsOf list store domains) rows (h.new ++ fewer_row (count - 1) row ∷ []) h.rows_are
      (All-push (IsOf list store domains) h.new (fewer_row (count - 1) row)
      (All-weaker (IsCutOffRow L S D row) (IsOf list store domains) (λ new off. of_cut_row list store domains row new own off) h.new h.new_are)
      (still_of list store domains (count - 1) row (fewer_row (count - 1) row) refl own))

  idle_cut_row : (row new : PassRow BL ML SL BS MS SS BD MD SD G) → IsIdleRow L S D row → IsCutOffRow L S D row new → IsIdleRow L S D new
  idle_cut_row row new idle off = record {
    list = idle_cut L row.list new.list off.list idle.list;
    store = idle_cut S row.store new.store off.store idle.store;
    domains = All-from_recursion (IsIdle D) new.domains (all_idle_cut D row.domains new.domains off.domains (recursion_from_All (IsIdle D) row.domains idle.domains));
  }

  idle_fewer : (k : ℕ) (row : PassRow BL ML SL BS MS SS BD MD SD G) → IsIdleRow L S D row → IsIdleRow L S D (fewer_row k row)
  idle_fewer k row idle = record {
    list = record { fresh = idle.list.fresh; empty = idle.list.empty };
    store = record { fresh = idle.store.fresh; empty = idle.store.empty };
    domains = All-map (IsIdle D) (fewer k) row.domains (All-weaker (IsIdle D) (λ (p : Passed BD MD SD). IsIdle D (fewer k p)) (λ p i. record { fresh = i.fresh; empty = i.empty }) row.domains idle.domains);
  }

  -- all rows are idle where the one was
  pub all_idle : (count : ℕ) (row : PassRow BL ML SL BS MS SS BD MD SD G) (rows : List (PassRow BL ML SL BS MS SS BD MD SD G)) → IsSplit L S D count row rows → IsIdleRow L S D row → All (IsIdleRow L S D) rows
  all_idle count row rows h idle =
      All-same (IsIdleRow L S D) rows (h.new ++ fewer_row (count - 1) row ∷ []) h.rows_are
      (All-push (IsIdleRow L S D) h.new (fewer_row (count - 1) row)
      (All-weaker (IsCutOffRow L S D row) (IsIdleRow L S D) (λ new off. idle_cut_row row new idle off) h.new h.new_are)
      (idle_fewer (count - 1) row idle))

  -- the same, where another maker of guests is in the row by then
  pub all_of_split : (list store : TableId) (domains : List TableId) (count : ℕ) (row first : PassRow BL ML SL BS MS SS BD MD SD G) (maker : G) (rows : List (PassRow BL ML SL BS MS SS BD MD SD G)) → first ≡ row → IsOf list store domains row → IsSplit L S D count (record first { guests = maker }) rows → All (IsOf list store domains) rows
  all_of_split list store domains count row first maker rows same own h =
      let own' : IsOf list store domains first = subst (IsOf list store domains) (sym same) own in
      all_of list store domains count (record first { guests = maker }) rows (record { list_is = own'.list_is; store_is = own'.store_is; domains_are = own'.domains_are }) h

  pub all_idle_split : (count : ℕ) (row first : PassRow BL ML SL BS MS SS BD MD SD G) (maker : G) (rows : List (PassRow BL ML SL BS MS SS BD MD SD G)) → first ≡ row → IsSplit L S D count (record first { guests = maker }) rows → IsIdleRow L S D row → All (IsIdleRow L S D) rows
  all_idle_split count row first maker rows same h idle =
      let idle' : IsIdleRow L S D first = subst (IsIdleRow L S D) (sym same) idle in
      all_idle count (record first { guests = maker }) rows h (record { list = idle'.list; store = idle'.store; domains = idle'.domains })

-- the last room is wide enough, and so are the others
pub last_fits : (width : ℕ) (old rest : List ℕ) (last : ℕ) → old ≡ rest ++ last ∷ [] → All (λ (room : ℕ). width ≤ room) old → All (λ (room : ℕ). width ≤ room) rest × (width ≤ last)
last_fits width old rest last is all = let both = All-pop (λ (room : ℕ). width ≤ room) old rest (Some last) is all in (both.0, both.1)
