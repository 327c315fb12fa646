-- The rows that a daemon closes its driver with are all of the driver's rows.
use Rattle.std.proofs.Common.{◌≡◌, ◌∙◌, ◌+◌, ◌++◌, ◌≤◌, ◌^◌, ℕ, List, [], ◌∷◌, Option, arith, ap, length, length-append, map, subst, sym}
use Rattle.std.specs.List.{All}
use Rattle.std.proofs.lemmas.List.{nil_from_length}
use Rattle.std.proofs.lemmas.List.Elements.{All-cons, All-nil}
use Rattle.six_rows.specs.Six.{all_six}
use Rattle.daemon.proofs.Keeping.{keeps_itself}
use Rattle.driver_service.specs.Below.driver.Cells.{BecomesMany, DriverView, IsRowOf}
use Rattle.driver_service.specs.Below.driver_close.Closed.{IsWhole}
use Rattle.driver_service.proofs.Below.driver_close.OneRow.{one_still_whole}
use Rattle.driver_service.proofs.Below.driver_close.Parts.{split_whole, still_whole}
use Rattle.files_disk.specs.Telling.{Told}
use Rattle.driver_service.specs.Below.held_tasks.OfRows.{DriverRow, IsReadyRow, KeepsParts, parts_of}
use Rattle.pass_rows.specs.Cutting.{cell_of}
use Rattle.pass_rows.specs.Rows.{HasRowParts, KeepsPasses}
use Rattle.six_rows.specs.Below.row_session.declared.connection.SixRows.{SixRows}
use Rattle.virt_types.specs.Limits.{most_domains}

module _ {G : Type 0} where
  -- what a daemon keeps of its row, it keeps where the row called the driver
  pub stands_still : {P Q : Type 0} (d : DriverView) (row now : DriverRow G) → IsRowOf d row × IsReadyRow row × IsWhole (row ∷ []) × P × Q → KeepsParts row now → IsRowOf d now → IsReadyRow now → IsRowOf d now × IsReadyRow now × IsWhole (now ∷ []) × P × Q
  stands_still d row now (was_own, was_ready, whole, empty, room) keeps own ready = (own, ready, one_still_whole row now keeps whole, empty, room)

  -- the same passes
  pub passes_keep : (row now : DriverRow G) → KeepsPasses row now → KeepsParts row now
  passes_keep row now same = record {
    list = ap (λ (r : DriverRow G). r.list.parts) same;
    store = ap (λ (r : DriverRow G). r.store.parts) same;
    domains = ap (λ (r : DriverRow G). map parts_of r.domains) same;
  }

  pub passes_own : (d : DriverView) (row now : DriverRow G) → KeepsPasses row now → IsRowOf d row → IsRowOf d now
  passes_own d row now same own = record {
    list_is = ap (λ (r : DriverRow G). r.list.cell) same ∙ own.list_is;
    store_is = ap (λ (r : DriverRow G). r.store.cell) same ∙ own.store_is;
    domains_are = ap (λ (r : DriverRow G). map cell_of r.domains) same ∙ own.domains_are;
  }

  pub passes_ready : (row now : DriverRow G) → KeepsPasses row now → IsReadyRow row → IsReadyRow now
  passes_ready row now same ready =
      let with_another_maker : IsReadyRow (record row { guests = now.guests }) = record { list = ready.list; domains = ready.domains; slots = ready.slots } in
      subst (λ (r : DriverRow G). IsReadyRow r) (sym same) with_another_maker

  -- a row that was put into an empty list
  pub put_alone : (before after : List (DriverRow G)) (row : DriverRow G) → before ≡ [] → after ≡ before ++ row ∷ [] → after ≡ row ∷ []
  put_alone before after row empty put = put ∙ ap (λ (l : List (DriverRow G)). l ++ row ∷ []) empty

  -- what holds of it holds of all that are there
  pub alone_all : (P : DriverRow G → Type 0) (rows : List (DriverRow G)) (row : DriverRow G) → rows ≡ row ∷ [] → P row → All P rows
  alone_all P rows row alone holds = subst (λ (l : List (DriverRow G)). All P l) (sym alone) (All-cons P row [] holds (All-nil P))

  -- six rows that were put back, of which the fifth is another
  pub put_back : (six now : SixRows (DriverRow G)) (then : List (DriverRow G)) → now ≡ record six { fifth = now.fifth } → then ≡ all_six now → then ≡ all_six (record six { fifth = now.fifth })
  put_back six now then others put = put ∙ ap (λ (s : SixRows (DriverRow G)). all_six s) others

  -- the last six rows are all where there are six
  none_left : (rows left : List (DriverRow G)) (six : SixRows (DriverRow G)) → length rows ≡ 6 → rows ≡ left ++ all_six six → left ≡ []
  none_left rows left six long is =
      let taken = ap length is ∙ length-append left (all_six six) in
      nil_from_length left (omega (arith, long, taken))

  pub six_are_all : (rows left : List (DriverRow G)) (six : SixRows (DriverRow G)) → length rows ≡ 6 → rows ≡ left ++ all_six six → rows ≡ all_six six
  six_are_all rows left six long is = is ∙ ap (λ (l : List (DriverRow G)). l ++ all_six six) (none_left rows left six long is)

  -- and so are those that are put back
  pub six_put_back : (rows left then : List (DriverRow G)) (six now : SixRows (DriverRow G)) → length rows ≡ 6 → rows ≡ left ++ all_six six → then ≡ left ++ all_six now → then ≡ all_six now
  six_put_back rows left then six now long is put = put ∙ ap (λ (l : List (DriverRow G)). l ++ all_six now) (none_left rows left six long is)

  -- what holds of six rows holds of them once the fifth is another of which it holds
  six_all : (P : DriverRow G → Type 0) (six : SixRows (DriverRow G)) (now : DriverRow G) → All P (all_six six) → P now → All P (all_six (record six { fifth = now }))
  six_all P six now all new =
      let last = six.sixth ∷ [] in
      let fifth = now ∷ last in
      let fourth = six.fourth ∷ fifth in
      let third = six.third ∷ fourth in
      let second = six.second ∷ third in
      All-cons P six.first second (all 0 six.first (omega arith))
      (All-cons P six.second third (all 1 six.first (omega arith))
      (All-cons P six.third fourth (all 2 six.first (omega arith))
      (All-cons P six.fourth fifth (all 3 six.first (omega arith))
      (All-cons P now last new
      (All-cons P six.sixth [] (all 5 six.first (omega arith)) (All-nil P))))))

  pub put_back_all : (P : DriverRow G → Type 0) (rows then : List (DriverRow G)) (six : SixRows (DriverRow G)) (fifth : DriverRow G)
      → rows ≡ all_six six → then ≡ all_six (record six { fifth = fifth }) → All P rows → P fifth → All P then
  put_back_all P rows then six fifth taken put all new =
      subst (λ (l : List (DriverRow G)). All P l) (sym put) (six_all P six fifth (subst (λ (l : List (DriverRow G)). All P l) taken all) new)

  module _ {F : Type 0} (told : F → Told) (maker : G → ℕ) (row : DriverRow G) (rows : List (DriverRow G)) (many : BecomesMany told maker 6 row rows) where
    -- the six that were made are all rows, also where the fifth called the driver
    pub put_back_whole : (then : List (DriverRow G)) (six : SixRows (DriverRow G)) (fifth : DriverRow G) → rows ≡ all_six six → then ≡ all_six (record six { fifth = fifth })
        → KeepsParts six.fifth fifth → HasRowParts 6 row → length row.domains ≡ most_domains → IsWhole (row ∷ []) → IsWhole then
    put_back_whole then six fifth taken put keeps has slots whole =
        let were : IsWhole (all_six six) = subst (λ (l : List (DriverRow G)). IsWhole l) taken (split_whole told maker 6 row rows many has slots whole) in
        let are : IsWhole (all_six (record six { fifth = fifth })) = still_whole (all_six six) (all_six (record six { fifth = fifth }))
        (keeps_itself six.first, (keeps_itself six.second, (keeps_itself six.third, (keeps_itself six.fourth, (keeps, (keeps_itself six.sixth, tt)))))) were in
        subst (λ (l : List (DriverRow G)). IsWhole l) (sym put) are
