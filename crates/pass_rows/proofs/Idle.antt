-- When rows are idle.
use Rattle.std.proofs.Common.{◌≡◌, ◌↔◌, ℕ, ◌+◌, ◌<◌, ◌≤◌, IsTrue, Bool, true, List, length, take, get_or, refl, sym, subst}
use Rattle.std.proofs.lemmas.List.{take_all}
use Rattle.std.proofs.lemmas.List.Elements.{All-more, All-same}
use Rattle.std.specs.List.{All}
use Rattle.turn_cell.specs.Meaning.{Meaning}
use Rattle.pass_rows.specs.Resting.{IsIdle}
use Rattle.pass_rows.specs.Rows.{PassRow, IsIdleRow}

module _ {TL BL ML SL TS BS MS SS TD BD MD SD G : Type 0} (L : Meaning TL BL ML SL) (S : Meaning TS BS MS SS) (D : Meaning TD BD MD SD) where
  -- where the two passes are, it depends on those of the slots alone
  pub row_is : (row seen : PassRow BL ML SL BS MS SS BD MD SD G) (are : Bool) → IsIdle L row.list → IsIdle S row.store → (IsTrue are ↔ All (IsIdle D) row.domains) → row ≡ seen → IsTrue are ↔ IsIdleRow L S D seen
  row_is row seen are list store domains same =
      subst (λ (r : PassRow BL ML SL BS MS SS BD MD SD G). IsTrue are ↔ IsIdleRow L S D r) same
      ((λ yes. record { list = list; store = store; domains = domains.0 yes }), (λ idle. domains.1 idle.domains))

module _ {X : Type 0} (P : X → Type 0) where
  -- the loop goes on
  pub one_more : (xs : List X) (i : ℕ) (x : X) → i < length xs → All P (take i xs) → x ≡ get_or xs i x → P x → All P (take (i + 1) xs)
  one_more xs i x in' all is p = All-more P xs i x in' all (subst P is p)

  -- the loop is through
  pub all_are : (xs now : List X) (i : ℕ) → length xs ≤ i → All P (take i xs) → xs ≡ now → IsTrue true ↔ All P now
  all_are xs now i end all same = ((λ yes. All-same P now xs (sym same) (subst (All P) (take_all i xs end) all)), (λ idle. refl))
