-- Rows that go on: each pass saw more, or is the same.
use Rattle.std.proofs.Common.{◌≡◌, ◌++◌, List, [], ◌∷◌, map, sym, subst}
use Rattle.domain_tasks.specs.OfObjects.{DomainPass}
use Rattle.domain_spec.specs.Chapter.{rising_number}
use Rattle.domain_tasks.specs.OfOutcomes.{AreLater, DomainPass as KnownPass, HasGone, IsLater, KnownRow, level}
use Rattle.domain_tasks.proofs.OfOutcomes.{boots_stay, level_stays}
use Rattle.driver_cells.specs.Known.{DriverRow, known, known_row}
use Rattle.driver_cells.proofs.Passing.{later_itself, later_through}

pub are_later_itself : (ps : List DomainPass) → AreLater (map known ps) (map known ps)
are_later_itself [] = tt
are_later_itself (p ∷ ps) = (later_itself rising_number (known p), are_later_itself ps)

are_later_at : (first : List DomainPass) (old new : DomainPass) (rest : List DomainPass) → IsLater rising_number (known old) (known new) → AreLater (map known (first ++ old ∷ rest)) (map known (first ++ new ∷ rest))
are_later_at [] old new rest on = (on, are_later_itself rest)
are_later_at (p ∷ first) old new rest on = (later_itself rising_number (known p), are_later_at first old new rest on)

-- one of the domains' passes went on
pub are_later : (before after first rest : List DomainPass) (old new : DomainPass) → before ≡ first ++ old ∷ rest → after ≡ first ++ new ∷ rest → IsLater rising_number (known old) (known new) → AreLater (map known before) (map known after)
are_later before after first rest old new was is on =
    subst (λ (x : List DomainPass × List DomainPass). AreLater (map known x.0) (map known x.1)) (λ i. (sym was i, sym is i)) (are_later_at first old new rest on)

pub are_same : (before after : List DomainPass) → after ≡ before → AreLater (map known before) (map known after)
are_same before after same = subst (λ (l : List DomainPass). AreLater (map known before) (map known l)) (sym same) (are_later_itself before)

-- the row stayed as it was
pub gone_itself : {G : Type 0} (row : DriverRow G) → HasGone (known_row row) (known_row row)
gone_itself row = record { list = later_itself level (known row.list); store = later_itself level (known row.store); domains = are_later_itself row.domains }

-- it went on twice
are_later_through : (ps qs rs : List KnownPass) → AreLater ps qs → AreLater qs rs → AreLater ps rs
are_later_through [] [] [] one other = tt
are_later_through (p ∷ ps) (q ∷ qs) (r ∷ rs) one other = (later_through rising_number boots_stay p q r one.0 other.0, are_later_through ps qs rs one.1 other.1)
are_later_through [] [] (r ∷ rs) one other = absurd other
are_later_through [] (q ∷ qs) rs one other = absurd one
are_later_through (p ∷ ps) [] rs one other = absurd one
are_later_through (p ∷ ps) (q ∷ qs) [] one other = absurd other

pub gone_through : (a b c : KnownRow) → HasGone a b → HasGone b c → HasGone a c
gone_through a b c one other = record {
  list = later_through level level_stays a.list b.list c.list one.list other.list;
  store = later_through level level_stays a.store b.store c.store one.store other.store;
  domains = are_later_through a.domains b.domains c.domains one.domains other.domains;
}
