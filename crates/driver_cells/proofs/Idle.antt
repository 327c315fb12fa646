-- A row that is ready and not idle has a pass that is spent.
use Rattle.std.proofs.Common.{◌≡◌, ◌⊎◌, ℕ, zero, suc, Bool, true, false, List, [], ◌∷◌, map, slice_get, Some, inl, inr, ⊎_elim, refl, arith}
use Rattle.std.specs.List.{All}
use Rattle.std.proofs.lemmas.List.Elements.{All-cons, All-nil}
use Rattle.domain_tasks.specs.Below.domain_core.Meaning.{meaning}
use Rattle.domain_tasks.specs.OfObjects.{DomainPass}
use Rattle.object_list.specs.Keeping.{meaning as list_meaning}
use Rattle.domain_tasks.specs.Below.def_keeper.Turns.{meaning as store_meaning}
use Rattle.files_disk.specs.Telling.{Told}
use Rattle.domain_tasks.specs.OfOutcomes.{DomainPass as KnownPass, HasSpent}
use Rattle.pass_rows.specs.Resting.{IsIdle}
use Rattle.pass_rows.specs.Rows.{IsIdleRow}
use Rattle.turn_cell.specs.Meaning.{Meaning}
use Rattle.turn_cell.specs.Passes.{Passed}
use Rattle.driver_cells.specs.Known.{DriverRow, known, known_row}
use Rattle.driver_cells.specs.Ready.{IsReadyRow, KeepsNothing}

either : (b : Bool) → (b ≡ true) ⊎ (b ≡ false)
either true = inl refl
either false = inr refl

module _ {T B M S : Type 0} (K : Meaning T B M S) where
  by_state : (p : Passed B M S) → p.share ≡ K.nothing → (p.spent ≡ true) ⊎ (p.spent ≡ false) → (p.spent ≡ true) ⊎ IsIdle K p
  by_state p free (inl spent) = inl spent
  by_state p free (inr fresh) = inr (record { fresh = fresh; empty = free })

  pub spent_or_idle : (p : Passed B M S) → (p.spent ≡ true) ⊎ (p.share ≡ K.nothing) → (p.spent ≡ true) ⊎ IsIdle K p
  spent_or_idle p (inl spent) = inl spent
  spent_or_idle p (inr free) = by_state p free (either p.spent)

-- a spent pass among these
abbrev SpentIn : List DomainPass → ℕ → Type 0
SpentIn ps slot = (q : KnownPass) × (slice_get (map known ps) slot ≡ Some q) × (q.spent ≡ true)

abbrev SpentAmong : List DomainPass → Type 0
SpentAmong ps = (slot : ℕ) × SpentIn ps slot

one_further : (p : DomainPass) (ps : List DomainPass) → SpentAmong ps → SpentAmong (p ∷ ps)
one_further p ps (slot, it) = (suc slot, it)

find_spent : (ps : List DomainPass) → All KeepsNothing ps → SpentAmong ps ⊎ All (IsIdle meaning) ps
find_spent [] all = inr (All-nil (IsIdle meaning))
find_spent (p ∷ ps) all = ⊎_elim
    (λ (spent : p.spent ≡ true). inl (zero, (known p, refl, spent)))
    (λ (idle : IsIdle meaning p). ⊎_elim
    (λ (among : SpentAmong ps). inl (one_further p ps among))
    (λ (rest : All (IsIdle meaning) ps). inr (All-cons (IsIdle meaning) p ps idle rest))
    (find_spent ps (λ k d lt. all (suc k) d (omega (arith, lt)))))
    (spent_or_idle meaning p (all zero p (omega arith)))

module _ {F G : Type 0} (told : F → Told) where
  pub has_spent : (row : DriverRow G) → IsReadyRow row → (IsIdleRow list_meaning (store_meaning told) meaning row → ⊥) → HasSpent (known_row row)
  has_spent row ready not_idle = ⊎_elim
      (λ (spent : row.list.spent ≡ true). inl spent)
      (λ (list : IsIdle list_meaning row.list). ⊎_elim
      (λ (spent : row.store.spent ≡ true). inr (inl spent))
      (λ (store : IsIdle (store_meaning told) row.store). ⊎_elim
      (λ (among : SpentAmong row.domains). inr (inr among))
      (λ (domains : All (IsIdle meaning) row.domains). absurd (not_idle (record { list = list; store = store; domains = domains })))
      (find_spent row.domains ready.domains))
      (spent_or_idle (store_meaning told) row.store (inr refl)))
      (spent_or_idle list_meaning row.list ready.list)
