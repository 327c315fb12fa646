-- The rows of sessions that are served at once, before and after.
use Rattle.std.proofs.Common.{◌≡◌, ◌++◌, ℕ, List, [], ◌∷◌, Option, arith, subst, sym}
use Rattle.std.proofs.lemmas.List.Elements.{All-append, All-cons, All-head, All-nil, All-tail}
use Rattle.std.specs.List.{All, AllZip}
use Rattle.driver_crossing.specs.Below.driver.Cells.{DriverView, IsRowOf}
use Rattle.driver_sessions.proofs.Keeping.{keeps_itself, session_keeps}
use Rattle.driver_sessions.specs.Serving.{IsServed, MayServe}
use Rattle.six_rows.specs.Six.{all_six}
use Rattle.driver_sessions.specs.Seats.{Seat, rows_of}
use Rattle.driver_sessions.specs.declared.session.Served.{Served}
use Rattle.driver_sessions.specs.declared.session.Session.{Session}
use Rattle.files_disk.specs.Telling.{Told}
use Rattle.driver_crossing.specs.Below.held_tasks.OfRows.{DriverRow, IsReadyRow, KeepsParts}
use Rattle.six_rows.specs.Below.row_session.declared.connection.SixRows.{SixRows}
use Rattle.service_spec.specs.Activities.{hand}
use Rattle.virt_types.specs.declared.ask.GuestEvent.{GuestEvent}

-- ---- two lists, one after the other

module _ {A : Type 0} (P : A → Type 0) where
  all_front : (xs ys : List A) → All P (xs ++ ys) → All P xs
  all_front [] ys all = All-nil P
  all_front (x ∷ xs) ys all = All-cons P x xs (All-head P x (xs ++ ys) all) (all_front xs ys (All-tail P x (xs ++ ys) all))

  all_back : (xs ys : List A) → All P (xs ++ ys) → All P ys
  all_back [] ys all = all
  all_back (x ∷ xs) ys all = all_back xs ys (All-tail P x (xs ++ ys) all)

zip_append : {A B : Type 0} (R : A → B → Type 0) (xs : List A) (us : List B) (ys : List A) (vs : List B) → AllZip R xs us → AllZip R ys vs → AllZip R (xs ++ ys) (us ++ vs)
zip_append R [] [] ys vs front back = back
zip_append R [] (u ∷ us) ys vs front back = absurd front
zip_append R (x ∷ xs) [] ys vs front back = absurd front
zip_append R (x ∷ xs) (u ∷ us) ys vs front back = (front.0, zip_append R xs us ys vs front.1 back)

-- what holds of what is inside holds of the value that it is seen as
pub as_seen : {A B : Type 0} (R : A → B → Type 0) (inside one : A) (other : B) → inside ≡ one → R inside other → R one other
as_seen R inside one other seen holds = subst (λ (a : _). R a other) seen holds

-- ---- six rows

module _ {W : Type 0} (P : W → Type 0) where
  fifth_has : (six : SixRows W) → All P (all_six six) → P six.fifth
  fifth_has six all = all 4 six.first (omega arith)

  -- what holds of six rows holds of them once the fifth is another of which it holds
  six_have : (six now : SixRows W) → now ≡ record six { fifth = now.fifth } → All P (all_six six) → P now.fifth → All P (all_six now)
  six_have six now others all new =
      let last = six.sixth ∷ [] in
      let fifth = now.fifth ∷ last in
      let fourth = six.fourth ∷ fifth in
      let third = six.third ∷ fourth in
      let second = six.second ∷ third in
      let each : All P (all_six (record six { fifth = now.fifth })) = All-cons P six.first second (all 0 six.first (omega arith))
      (All-cons P six.second third (all 1 six.first (omega arith))
      (All-cons P six.third fourth (all 2 six.first (omega arith))
      (All-cons P six.fourth fifth (all 3 six.first (omega arith))
      (All-cons P now.fifth last new
      (All-cons P six.sixth [] (all 5 six.first (omega arith)) (All-nil P)))))) in
      subst (λ (s : SixRows W). All P (all_six s)) (sym others) each

six_keep : {G : Type 0} (six now : SixRows (DriverRow G)) → now ≡ record six { fifth = now.fifth } → KeepsParts six.fifth now.fifth → AllZip KeepsParts (all_six six) (all_six now)
six_keep six now others keeps =
    subst (λ (s : SixRows (DriverRow _)). AllZip KeepsParts (all_six six) (all_six s)) (sym others)
    (keeps_itself six.first, (keeps_itself six.second, (keeps_itself six.third, (keeps_itself six.fourth, (keeps, (keeps_itself six.sixth, tt))))))

-- ---- the rows of all sessions

module _ {G C : Type 0} where
  -- rows that are ready serve each session
  pub may_serve : (d : DriverView) (all : List (Seat G C)) → All (IsRowOf d) (rows_of all) → All IsReadyRow (rows_of all) → All (λ one. MayServe d one.rows) all
  may_serve d [] own ready = All-nil (λ one. MayServe d one.rows)
  may_serve d (a ∷ all) own ready =
      let others = rows_of all in
      let six = all_six a.rows in
      All-cons (λ one. MayServe d one.rows) a all
      (record { own = fifth_has (IsRowOf d) a.rows (all_back (IsRowOf d) others six own); ready = fifth_has IsReadyRow a.rows (all_back IsReadyRow others six ready) })
      (may_serve d all (all_front (IsRowOf d) others six own) (all_front IsReadyRow others six ready))

module _ {F G E S O N T : Type 0} (told : F → Told) (store_faults : F → ℕ) (maker : G → ℕ) (ends faults : E → ℕ) (unheard : E → Option (List GuestEvent)) (left : S → Option (List ℕ)) (source_faults : S → ℕ) (held : O → Option (List ℕ)) (sink_faults : O → ℕ) (drawn : N → Option (List ℕ)) (d : DriverView) where
  abbrev Serves : Seat G (Session S O N T) → Seat G (Served S O N T) → Type 0
  Serves = IsServed told store_faults maker ends faults unheard left source_faults held sink_faults drawn d

  -- the rows keep their parts
  pub rows_keep : (seated : List (Seat G (Session S O N T))) (over : List (Seat G (Served S O N T))) → AllZip Serves seated over → AllZip KeepsParts (rows_of seated) (rows_of over)
  rows_keep [] [] each = tt
  rows_keep [] (b ∷ over) each = absurd each
  rows_keep (a ∷ seated) [] each = absurd each
  rows_keep (a ∷ seated) (b ∷ over) each =
      let keeps = session_keeps told store_faults maker ends faults unheard a.holder.number (hand a.rows.fifth (drawn a.holder.random)) (left a.holder.source) (left b.holder.session.source)
      (held a.holder.sink) (held b.holder.session.sink) b.holder.end (hand b.rows.fifth (drawn b.holder.session.random)) each.0.served in
      zip_append KeepsParts (rows_of seated) (rows_of over) (all_six a.rows) (all_six b.rows) (rows_keep seated over each.1) (six_keep a.rows b.rows each.0.others keeps)

  -- what holds of all rows before, and of the fifth after, holds of all rows after
  pub rows_have : (P : DriverRow G → Type 0) → ((six : SixRows (DriverRow G)) → MayServe d six → P six.fifth) → (seated : List (Seat G (Session S O N T))) (over : List (Seat G (Served S O N T))) → AllZip Serves seated over
      → All P (rows_of seated) → All P (rows_of over)
  rows_have P fifth [] [] each all = All-nil P
  rows_have P fifth [] (b ∷ over) each all = absurd each
  rows_have P fifth (a ∷ seated) [] each all = absurd each
  rows_have P fifth (a ∷ seated) (b ∷ over) each all =
      let others = rows_of seated in
      let six = all_six a.rows in
      All-append P (rows_of over) (all_six b.rows)
      (rows_have P fifth seated over each.1 (all_front P others six all))
      (six_have P a.rows b.rows each.0.others (all_back P others six all) (fifth b.rows each.0.may_serve))

  module _ (rows back : List (DriverRow G)) (seated : List (Seat G (Session S O N T))) (over : List (Seat G (Served S O N T))) (rows_are : rows ≡ rows_of seated) (each : AllZip Serves seated over) (back_are : back ≡ rows_of over) where
    -- the rows that come back keep their parts, in order
    pub rows_kept : AllZip KeepsParts rows back
    rows_kept =
        subst (λ (l : List (DriverRow G)). AllZip KeepsParts l back) (sym rows_are)
        (subst (λ (l : List (DriverRow G)). AllZip KeepsParts (rows_of seated) l) (sym back_are) (rows_keep seated over each))

    -- and what holds of all rows, and of those that served a session, holds of them
    pub rows_had : (P : DriverRow G → Type 0) → ((six : SixRows (DriverRow G)) → MayServe d six → P six.fifth) → All P rows → All P back
    rows_had P fifth all =
        subst (λ (l : List (DriverRow G)). All P l) (sym back_are) (rows_have P fifth seated over each (subst (λ (l : List (DriverRow G)). All P l) rows_are all))
