-- Passes that go on, as outcomes speak of them.
use Rattle.std.proofs.Common.{◌≡◌, ℕ, List, true, refl, sym, ◌∙◌, subst}
use Rattle.history_spec.proofs.Beginnings.{NoMarkLowers, begins_itself, begins_through, prefix_itself, prefix_through}
use Rattle.domain_tasks.specs.OfOutcomes.{IsLater, Known}
use Rattle.turn_cell.specs.Meaning.{Meaning}
use Rattle.turn_cell.specs.Passes.{Passed}
use Rattle.turn_cell.specs.Turning.{Went}
use Rattle.driver_cells.specs.Known.{known}

module _ {B M : Type 0} (rising : B → List M → ℕ) where
  pub later_itself : (p : Known B M) → IsLater rising p p
  later_itself p = record { number = refl; seen = begins_itself rising p.seen; mine = prefix_itself p.mine; spent = λ e. e }

  pub later_through : NoMarkLowers rising → (a b c : Known B M) → IsLater rising a b → IsLater rising b c → IsLater rising a c
  later_through lowers a b c p q = record {
    number = q.number ∙ p.number;
    seen = begins_through rising lowers a.seen b.seen c.seen p.seen q.seen;
    mine = prefix_through a.mine b.mine c.mine p.mine q.mine;
    spent = λ e. q.spent (p.spent e);
  }

module _ {B M S : Type 0} (rising : B → List M → ℕ) where
  -- no ticket was left
  pub later_spent : (before after : Passed B M S) → after ≡ record before { spent = true } → IsLater rising (known before) (known after)
  later_spent before after is =
      subst (λ (p : Passed B M S). IsLater rising (known before) (known p)) (sym is)
      (record { number = refl; seen = begins_itself rising before.seen; mine = prefix_itself before.mine; spent = λ e. refl })

module _ {T B M S : Type 0} (K : Meaning T B M S) where
  -- after turns
  pub later_went : (turns : ℕ) (more : List (ℕ × M)) (before after : Passed B M S) → Went K turns more before after → IsLater K.rising (known before) (known after)
  later_went turns more before after w = record { number = w.same.number; seen = w.seen; mine = (more, sym w.mine); spent = λ e. w.spent ∙ e }
