-- What callers know at the ends of a turn.
use Rattle.std.proofs.Common.{◌≡◌, ℕ, Option, sym, ap, ◌∙◌, subst}
use Rattle.atomic_table.specs.Table.{Me}
use Rattle.atomic_table.specs.Seated.{TableId}
use Rattle.history_spec.specs.Chapter.{GoesOn, added}
use Rattle.history_spec.specs.Pass.{AreOf}
use Rattle.turn_cell.specs.Meaning.{Meaning}
use Rattle.turn_cell.specs.declared.view.View.{View}
use Rattle.turn_cell.specs.Passes.{Turned, passed, ticket_of, found_or, IsTurn, SameShare, Leaves}

module _ {T B M S : Type 0} (K : Meaning T B M S) where
  abbrev Mine : Type 0
  Mine = Me (Option T) (View T B M S)

  abbrev turned : TableId → Mine → T → Turned T B M S
  turned cell me value = record { pass = passed cell me.0; ticket = ticket_of me.0.stage; entry = found_or value me.0.stage; value = value }

  pub may_leave : (cell : TableId) (me : Mine) (value : T) (turn : Turned T B M S) → turned cell me value ≡ turn → IsTurn me
      → GoesOn (K.next_base turn.entry) (K.history turn.entry) (K.history turn.value) → AreOf K.whose turn.pass.number (added (K.history turn.entry) (K.history turn.value)) → SameShare K turn.pass.number turn.entry turn.value → Leaves K me value
  may_leave cell me value turn seen is goes are others =
      let entry : turn.entry ≡ is.found = sym (ap (λ (t : Turned T B M S). t.entry) seen) ∙ ap (found_or value) is.stage in
      let now : turn.value ≡ value = sym (ap (λ (t : Turned T B M S). t.value) seen) in
      let number : turn.pass.number ≡ me.0.knows.number = sym (ap (λ (t : Turned T B M S). t.pass.number) seen) in
      record {
        turn = is;
        goes_on = subst (λ (z : T × T). GoesOn (K.next_base z.0) (K.history z.0) (K.history z.1)) (λ i. (entry i, now i)) goes;
        marks = subst (λ (z : ℕ × T × T). AreOf K.whose z.0 (added (K.history z.1) (K.history z.2))) (λ i. (number i, entry i, now i)) are;
        others = subst (λ (z : ℕ × T × T). SameShare K z.0 z.1 z.2) (λ i. (number i, entry i, now i)) others;
      }
