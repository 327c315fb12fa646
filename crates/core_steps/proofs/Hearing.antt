-- Ears are lent and taken back.
use Rattle.std.proofs.Common.{◌≡◌, ◌≤◌, ◌<◌, ℕ, ◌+◌, List, [], length, nat_lt, Bool, true, false, Option, None, Some, if◌then◌else◌, refl, sym, ap, ◌∙◌, subst, arith}
use Rattle.std.proofs.lemmas.Bool.Decides.{nat_tests}
use Rattle.domain_spec.specs.Types.{DomainDef, State}
use Rattle.domain_spec.specs.declared.open.OpenJob.{OpenJob}
use Rattle.domain_spec.specs.Cell.{HeldEvent, LentEars}
use Rattle.domain_spec.specs.Chapter.{first_base}
use Rattle.domain_spec.specs.Fold.{at_base, standing}
use Rattle.domain_spec.specs.Laws.{IsCounted}
use Rattle.domain_spec.specs.Reading.{live_boot}
use Rattle.core_log.specs.Below.core_plan.Along.{Asked}
use Rattle.core_log.specs.Below.core_flight.Ledger.{Chaptered, standing_in}
use Rattle.core_log.specs.Record.{Recorded, force_of}
use Rattle.core_steps.specs.Looking.{with_room}
use Rattle.core_steps.specs.Rooms.{IsKept, marks_needed, rooms_lent, rooms_needed}
use Rattle.core_steps.specs.Turning.{FitsJob}
use Rattle.core_steps.specs.Guests.{boot_to_hear}

-- whether a boot is to be heard

live_if : (b : Bool) (live : Option ℕ) (boot : ℕ) → (if b then live else None) ≡ Some boot → b ≡ true
live_if true live boot e = refl
live_if false live boot e = cc

below_64 : (n : ℕ) → nat_lt n 64 ≡ true → n < 64
below_64 n e = grind (arith, nat_tests)

pub is_heard : (s : State) (held : List HeldEvent) (ears : Option LentEars) (boot : ℕ) → boot_to_hear s held ears ≡ Some boot → (ears ≡ None) × (length held < 64)
is_heard s held None boot e = (refl, below_64 (length held) (live_if (nat_lt (length held) 64) (live_boot s) boot e))
is_heard s held (Some ears) boot e = cc

-- where there is no memory only room was made

spare_more : (a b c : ℕ) → a ≤ b → b ≤ c → a ≤ c
spare_more a b c h g = omega (arith, h, g)

pub stays_kept : (r : Recorded) (spare : ℕ) (held : List HeldEvent) (ears : Option LentEars) (rooms : ℕ) → IsKept r held ears rooms → r.spare ≤ spare → IsKept (with_room r spare) held ears rooms
stays_kept r spare held ears rooms k le = record {
  fits = k.fits;
  few_held = k.few_held;
  counted = k.counted;
  has_rooms = record { marks = spare_more (marks_needed r.course + rooms) r.spare spare k.has_rooms.marks le; enough = k.has_rooms.enough; few = k.has_rooms.few };
}

-- ears that are lent

one_lent : (n : ℕ) → n < 64 → n + 1 ≤ 64
one_lent n h = omega (arith, h)

pub lent_kept : (r : Recorded) (spare : ℕ) (held : List HeldEvent) (ears : Option LentEars) (n boot rooms now : ℕ) → IsKept r held ears rooms → length held < 64 → marks_needed r.course + now ≤ spare
    → length held + rooms_needed r.course + 1 ≤ now → now ≤ 128 → IsKept (with_room r spare) held (Some (record { number = n; boot = boot; told = false })) now
lent_kept r spare held ears n boot rooms now k few marks enough most = record {
  fits = k.fits;
  few_held = one_lent (length held) few;
  counted = k.counted;
  has_rooms = record { marks = marks; enough = enough; few = most };
}

-- ears that are back

back_few : (n lent : ℕ) → n + lent ≤ 64 → n + 0 ≤ 64
back_few n lent h = omega (arith, h)

back_enough : (n needed lent rooms : ℕ) → n + needed + lent ≤ rooms → n + needed + 0 ≤ rooms
back_enough n needed lent rooms h = omega (arith, h)

pub back_kept : (r : Recorded) (held : List HeldEvent) (ears : Option LentEars) (rooms : ℕ) → IsKept r held ears rooms → IsKept r held None rooms
back_kept r held ears rooms k = record {
  fits = k.fits;
  few_held = back_few (length held) (rooms_lent ears) k.few_held;
  counted = k.counted;
  has_rooms = record { marks = k.has_rooms.marks; enough = back_enough (length held) (rooms_needed r.course) (rooms_lent ears) rooms k.has_rooms.enough; few = k.has_rooms.few };
}

-- a domain as the store was opened

counted_first : (stored : Option DomainDef) (autostart : Bool) → IsCounted (at_base (first_base stored autostart))
counted_first None autostart = tt
counted_first (Some d) autostart = tt

fits_first : (h : Chaptered) (stored : Option DomainDef) (autostart : Bool) → h ≡ record { chapter = 0; base = first_base stored autostart; marks = [] } → (standing_in h).job ≡ None
unfolding standing_in
fits_first h stored autostart e = ap (λ (x : Chaptered). (standing (at_base x.base) x.marks).job) e

no_more : (a : Option Asked) (spare : ℕ) → a ≡ None → marks_needed a + 0 ≤ spare
no_more None spare e = omega arith
no_more (Some a) spare e = cc

none_needed : (a : Option Asked) → a ≡ None → length {A = HeldEvent} [] + rooms_needed a + rooms_lent None ≤ 0
none_needed None e = omega arith
none_needed (Some a) e = cc

pub opened_kept : (r : Recorded) (stored : Option DomainDef) (autostart : Bool) → r.history ≡ record { chapter = 0; base = first_base stored autostart; marks = [] } → r.course ≡ None → IsKept r [] None 0
opened_kept r stored autostart e f = record {
  fits = subst (λ (j : Option OpenJob). FitsJob j []) (sym (fits_first r.history stored autostart e)) refl;
  few_held = omega arith;
  counted = subst (λ (x : Chaptered). IsCounted (at_base x.base)) (sym e) (counted_first stored autostart);
  has_rooms = record { marks = no_more r.course r.spare f; enough = none_needed r.course f; few = omega arith };
}
