-- Domains that are closed from the last slot to the first.
use Rattle.std.proofs.Common.{◌≡◌, ◌∙◌, ◌++◌, ◌+◌, ◌<◌, ◌≤◌, ℕ, List, [], ◌∷◌, Some, append_assoc, append-nil, ap, arith, length, length-append, map, reverse, subst, sym}
use Rattle.std.specs.List.{All, AllZip}
use Rattle.std.proofs.lemmas.List.{length-map, map_push, reverse-append, same_from_push}
use Rattle.std.proofs.lemmas.List.Elements.{All-pop}
use Rattle.atomic_table.specs.Seated.{TableId}
use Rattle.history_spec.specs.declared.history.History.{History}
use Rattle.domain_spec.specs.declared.mark.Mark.{Mark}
use Rattle.domain_spec.specs.declared.standing.Base.{Base}
use Rattle.driver_open.specs.OfObjects.{DomainPass}
use Rattle.pass_rows.specs.Cutting.{cell_of}
use Rattle.driver_close.specs.Last.{IsLast, LeavesOne}

abbrev DomainHistory : Type 0
DomainHistory = History Base (Mark ℕ)

-- these passes and cells are left, and these are the histories of the others, that of the last slot first
pub record AreClosing (all passes : List DomainPass) (ids : List TableId) (histories : List (History Base (Mark ℕ))) : Type 0 where
  pub own : map cell_of passes ≡ ids
  pub last : All IsLast passes
  pub done : List DomainPass
  pub all_are : all ≡ passes ++ done
  pub closed : AllZip LeavesOne done (reverse histories)

pub none_closed : (passes : List DomainPass) (ids : List TableId) (histories : List DomainHistory) → map cell_of passes ≡ ids → All IsLast passes → histories ≡ [] → AreClosing passes passes ids histories
none_closed passes ids histories own last empty = record {
  own = own;
  last = last;
  done = [];
  all_are = sym (append-nil passes);
  closed = subst (λ (hs : List DomainHistory). AllZip LeavesOne [] (reverse hs)) (sym empty) tt;
}

pub all_closed : (all : List DomainPass) (ids : List TableId) (histories : List DomainHistory) → AreClosing all [] ids histories → AllZip LeavesOne all (reverse histories)
all_closed all ids histories now = subst (λ (ps : List DomainPass). AllZip LeavesOne ps (reverse histories)) (sym now.all_are) now.closed

module _ (all old passes : List DomainPass) (ids rest : List TableId) (histories : List DomainHistory) (pass : DomainPass) (now : AreClosing all old ids histories) (popped : old ≡ passes ++ pass ∷ []) where
  pub some_cell : 0 < length ids
  some_cell = omega (arith, ap length now.own, length-map old cell_of, ap length popped, length-append passes (pass ∷ []))

  pub is_last : IsLast pass
  is_last = (All-pop IsLast old passes (Some pass) popped now.last).1

  module _ (id : TableId) (ids_are : ids ≡ rest ++ id ∷ []) where
    cells_are : (map cell_of passes ≡ rest) × (pass.cell ≡ id)
    cells_are = same_from_push (map cell_of passes) rest (cell_of pass) id (sym (map_push cell_of passes pass) ∙ (ap (map cell_of) (sym popped) ∙ (now.own ∙ ids_are)))

    pub is_own : pass.cell ≡ id
    is_own = cells_are.1

    pub one_closed : (history : DomainHistory) (more : List DomainHistory) → LeavesOne pass history → more ≡ histories ++ history ∷ [] → AreClosing all passes rest more
    one_closed history more leaves is = record {
      own = cells_are.0;
      last = (All-pop IsLast old passes (Some pass) popped now.last).0;
      done = pass ∷ now.done;
      all_are = now.all_are ∙ (ap (λ (ps : List DomainPass). ps ++ now.done) popped ∙ append_assoc passes (pass ∷ []) now.done);
      closed = subst (λ (hs : List DomainHistory). AllZip LeavesOne (pass ∷ now.done) hs) (sym (ap reverse is ∙ reverse-append histories (history ∷ []))) (leaves, now.closed);
    }

-- the histories of those that are left fit still
pub room_left : (old passes : List DomainPass) (pass : DomainPass) (histories more : List DomainHistory) (history : DomainHistory) (room room_now : ℕ) → old ≡ passes ++ pass ∷ [] → more ≡ histories ++ history ∷ [] → room_now ≡ room
    → length old + length histories ≤ room → length passes + length more ≤ room_now
room_left old passes pass histories more history room room_now popped pushed same fits =
    omega (arith, ap (λ (l : List DomainPass). length l) popped, length-append passes (pass ∷ []), ap (λ (l : List DomainHistory). length l) pushed, length-append histories (history ∷ []), same, fits)
