-- Rows that go on.
use Rattle.std.proofs.Common.{◌≡◌, ◌≤◌, ◌<◌, ℕ, zero, suc, List, [], ◌∷◌, Option, Some, length, refl, sym, subst, ◌∙◌, arith}
use Rattle.std.specs.Prelude.{slice_get}
use Rattle.domain_spec.specs.Chapter.{rising_number}
use Rattle.history_spec.specs.Begins.{IsPrefix}
use Rattle.history_spec.proofs.Beginnings.{NoMarkLowers, begins_itself, begins_through, prefix_itself, prefix_length, prefix_through}
use Rattle.outcome_spec.specs.Marks.{HasLeft}
use Rattle.outcome_spec.specs.Rows.{AreLater, DomainPass, HasGone, IsLater, Known, KnownRow, level}
use Rattle.outcome_spec.proofs.Going.{boots_stay, level_stays}
use Rattle.outcome_spec.proofs.LawProofs.{within}
use Rattle.row_courses.specs.Apart.{AreApart, IsApart}

module _ {B M : Type 0} (rising : B → List M → ℕ) where
  later_itself : (p : Known B M) → IsLater rising p p
  later_itself p = record { number = refl; seen = begins_itself rising p.seen; mine = prefix_itself p.mine; spent = λ e. e }

  later_through : NoMarkLowers rising → (a b c : Known B M) → IsLater rising a b → IsLater rising b c → IsLater rising a c
  later_through lowers a b c p q = record {
    number = q.number ∙ p.number;
    seen = begins_through rising lowers a.seen b.seen c.seen p.seen q.seen;
    mine = prefix_through a.mine b.mine c.mine p.mine q.mine;
    spent = λ e. q.spent (p.spent e);
  }

are_later_itself : (ps : List DomainPass) → AreLater ps ps
are_later_itself [] = tt
are_later_itself (p ∷ ps) = (later_itself rising_number p, are_later_itself ps)

are_later_through : (ps qs rs : List DomainPass) → AreLater ps qs → AreLater qs rs → AreLater ps rs
are_later_through [] [] [] h k = tt
are_later_through (p ∷ ps) (q ∷ qs) (r ∷ rs) h k = (later_through rising_number boots_stay p q r h.0 k.0, are_later_through ps qs rs h.1 k.1)
are_later_through [] [] (r ∷ rs) h k = absurd k
are_later_through [] (q ∷ qs) rs h k = absurd h
are_later_through (p ∷ ps) [] rs h k = absurd h
are_later_through (p ∷ ps) (q ∷ qs) [] h k = absurd k

pub gone_itself : (row : KnownRow) → HasGone row row
gone_itself row = record { list = later_itself level row.list; store = later_itself level row.store; domains = are_later_itself row.domains }

pub gone_through : (a b c : KnownRow) → HasGone a b → HasGone b c → HasGone a c
gone_through a b c h k = record {
  list = later_through level level_stays a.list b.list c.list h.list k.list;
  store = later_through level level_stays a.store b.store c.store h.store k.store;
  domains = are_later_through a.domains b.domains c.domains h.domains k.domains;
}

-- ---- marks of two calls
apart_by : {B M : Type 0} (first then later last : Known B M) → IsPrefix then.mine later.mine → IsApart first then later last
apart_by first then later last front = λ m n one other.
    let in_it = within first then m one in
    let le = prefix_length then.mine later.mine front in
    let new = other.new in
    omega (arith, in_it, le, new)

at_slot : (ps qs : List DomainPass) (slot : ℕ) (p q : DomainPass) → AreLater ps qs → slice_get ps slot ≡ Some p → slice_get qs slot ≡ Some q → IsLater rising_number p q
at_slot [] [] slot p q on e f = absurd cc
at_slot [] (y ∷ qs) slot p q on e f = absurd on
at_slot (x ∷ ps) [] slot p q on e f = absurd on
at_slot (x ∷ ps) (y ∷ qs) zero p q on e f =
    let one : x ≡ p = cc in
    let other : y ≡ q = cc in
    subst (λ (z : DomainPass). IsLater rising_number z q) one (subst (λ (z : DomainPass). IsLater rising_number x z) other on.0)
at_slot (x ∷ ps) (y ∷ qs) (suc n) p q on e f = at_slot ps qs n p q on.1 e f

pub apart_rows : (first then later last : KnownRow) → HasGone then later → AreApart first then later last
apart_rows first then later last on = record {
  list = apart_by first.list then.list later.list last.list on.list.mine;
  store = apart_by first.store then.store later.store last.store on.store.mine;
  domains = λ slot p q r s at_first at_then at_later at_last. apart_by p q r s (at_slot then.domains later.domains slot q r on.domains at_then at_later).mine;
  fresh = on;
}
