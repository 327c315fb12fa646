-- The row with which a driver was opened is all of its rows.
use Rattle.std.proofs.Common.{◌≡◌, ◌++◌, ◌^◌, ◌<◌, zero, suc, ℕ, List, [], ◌∷◌, ap, arith, drop, length, take}
use Rattle.std.specs.List.{AllZip}
use Rattle.files_disk.specs.Telling.{Told}
use Rattle.def_keeper.specs.Keeper.{Keeping}
use Rattle.turn_cell.specs.Passes.{Passed}
use Rattle.driver_open.specs.Cells.{IsFirstRow}
use Rattle.driver_open.specs.OfCells.{Celled}
use Rattle.driver_open.specs.OfFound.{FoundDomain}
use Rattle.driver_open.specs.OfObjects.{DomainPass}
use Rattle.driver_open.specs.OfRows.{DriverRow}
use Rattle.driver_open.specs.Slots.{IsFirstOf, cells_of}
use Rattle.driver_close.specs.Closed.{IsWhole, all_parts}

one_pass : (cells : List Celled) (passes : List DomainPass) → AllZip IsFirstOf cells passes → (slot : ℕ) → slot < length passes → all_parts (take 1 (drop slot passes) ++ []) ≡ 2 ^ 62
one_pass cells [] all slot lt = absurd (omega (arith, lt))
one_pass [] (p ∷ ps) all slot lt = absurd all
one_pass (c ∷ cs) (p ∷ ps) all zero lt = omega (arith, ap (λ (x : DomainPass). x.parts) all.0)
one_pass (c ∷ cs) (p ∷ ps) all (suc slot) lt = one_pass cs ps all.1 slot (omega (arith, lt))

module _ {F G : Type 0} (told : F → Told) (found : List FoundDomain) (kept : Keeping F) (row : DriverRow G) (first : IsFirstRow told found kept row) where
  -- its row has all parts
  pub one_row_is_whole : IsWhole (row ∷ [])
  one_row_is_whole = record {
    list = omega (arith, ap (λ (p : Passed _ _ _). p.parts) first.list);
    store = omega (arith, ap (λ (p : Passed _ _ _). p.parts) first.store);
    domains = λ slot lt. one_pass (cells_of found) row.domains first.domains slot (omega (arith, lt, first.slots));
  }
