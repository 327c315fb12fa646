-- The next chapter, and room for more marks.
use Rattle.std.specs.Prelude.{Ok, Err, OnErr, OnOk}
use Rattle.std.proofs.Common.{◌≡◌, Result, ℕ, Bool, true, false, ◌+◌, ◌-◌, ◌≤◌, List, [], ◌∷◌, length, Option, sym, subst, arith}
use Rattle.domain_spec.specs.Types.{DomainDef}
use Rattle.domain_spec.specs.declared.standing.Base.{Base}
use Rattle.domain_spec.specs.declared.standing.Standing.{Standing}
use Rattle.domain_spec.specs.Chapter.{first_base, next_base}
use Rattle.domain_spec.specs.ChapterLaws.{Agree}
use Rattle.domain_spec.proofs.ChapterProofs.{registrations_agree}
use Rattle.event_queue.specs.Listening.{Listening, registrations}
use Rattle.core_flight.specs.Ledger.{Chaptered, Ledgered, standing_in}
use Rattle.core_log.specs.Record.{IsHeld, open_ends, recorded}
use Rattle.core_log.proofs.Counting.{ends_more, one_unless}

one_at_most : (b : Bool) → one_unless b ≤ 1
one_at_most true = omega arith
one_at_most false = omega arith

-- no more may end than there are
pub ends_most : (ls : List Listening) → open_ends (registrations ls) ≤ length ls
ends_most [] = omega arith
ends_most (l ∷ ls) =
    let more = ends_more l.kept (registrations ls) in
    let one = one_at_most l.kept.is_lost in
    let rest = ends_most ls in
    omega (arith, more, one, rest)

agree_new : (number : ℕ) (b : Base) → Agree b.registrations (standing_in (record { chapter = number; base = b; marks = [] }))
unfolding standing_in
agree_new number b = registrations_agree.first b

held_begun : (old new : Ledgered) (ls : List Listening) (number : ℕ) (s : Standing) (room : ℕ) → IsHeld old ls
    → new.history ≡ record { chapter = number; base = next_base s (registrations ls); marks = [] } → room + length ls ≤ new.spare → IsHeld new ls
held_begun old new ls number s room held is enough =
    let most = ends_most ls in
    record {
      agree = subst (λ (h : Chaptered). Agree (registrations ls) (standing_in h)) (sym is) (agree_new number (next_base s (registrations ls)));
      apart = held.apart;
      room = held.room;
      ends = omega (arith, most, enough);
    }

pub held_rotated : {A E : Type 0} (old new : Ledgered) (ls : List Listening) (number : ℕ) (s : Standing) (room : ℕ) (r : Result A E) → IsHeld old ls
    → OnOk r (new.history ≡ record { chapter = number; base = next_base s (registrations ls); marks = [] }) → OnOk r (room + length ls ≤ new.spare) → OnErr r (new ≡ old) → IsHeld new ls
held_rotated old new ls number s room (Ok x) held is enough err = held_begun old new ls number s room held is enough
held_rotated old new ls number s room (Err x) held is enough err = subst (λ (l : Ledgered). IsHeld l ls) (sym err) held

room_for : (room n e spare : ℕ) → e ≤ n → room + n ≤ spare → room ≤ spare - e
room_for room n e spare le enough = omega (arith, le, enough)

pub enough : {A E : Type 0} (new : Ledgered) (ls : List Listening) (room : ℕ) (r : Result A E) → OnOk r (room + length ls ≤ new.spare) → OnOk r (room ≤ (recorded new ls).spare)
enough new ls room (Ok x) h = room_for room (length ls) (open_ends (registrations ls)) new.spare (ends_most ls) h
enough new ls room (Err x) h = tt

more_for : (e m n : ℕ) → m ≤ n → m - e ≤ n - e
more_for e m n le = omega (arith, le)

pub held_reserved : (old new : Ledgered) (ls : List Listening) → IsHeld old ls → new.history ≡ old.history → old.spare ≤ new.spare → IsHeld new ls × ((recorded old ls).spare ≤ (recorded new ls).spare)
held_reserved old new ls held is stays =
    let ends = held.ends in (
      record {
        agree = subst (λ (h : Chaptered). Agree (registrations ls) (standing_in h)) (sym is) held.agree;
        apart = held.apart;
        room = held.room;
        ends = omega (arith, ends, stays);
      },
      more_for (open_ends (registrations ls)) old.spare new.spare stays,
    )

held_none : (l : Ledgered) (number : ℕ) (stored : Option DomainDef) (autostart : Bool) → (h : Chaptered) → h ≡ record { chapter = number; base = first_base stored autostart; marks = [] } → Agree [] (standing_in h)
held_none l number stored autostart h e = subst (λ (x : Chaptered). Agree [] (standing_in x)) (sym e) (agree_new number (first_base stored autostart))

pub held_opened : (l : Ledgered) (stored : Option DomainDef) (autostart : Bool) → l.history ≡ record { chapter = 0; base = first_base stored autostart; marks = [] } → IsHeld l []
held_opened l stored autostart e = record { agree = held_none l 0 stored autostart l.history e; apart = tt; room = tt; ends = omega arith }
