-- The listeners are those of the history, whatever marks come.
use Rattle.std.proofs.Common.{◌≡◌, ℕ, ◌+◌, ◌≤◌, List, [], ◌∷◌, ◌++◌, map, None, refl, sym, ap, ◌∙◌, subst, append_assoc, arith}
use Rattle.domain_spec.specs.Types.{Transition}
use Rattle.domain_spec.specs.declared.mark.Mark.{Mark}
use Rattle.domain_spec.specs.declared.standing.Registration.{Registration}
use Rattle.domain_spec.specs.declared.standing.Standing.{Standing}
use Rattle.domain_spec.specs.ChapterLaws.{Agree}
use Rattle.domain_spec.specs.Fold.{at_base, standing, transitions_of}
use Rattle.domain_spec.specs.Legal.{IsLegal}
use Rattle.domain_spec.specs.Registrations.{registrations_at}
use Rattle.domain_spec.specs.Turns.{AllHaveRoom, AreCut}
use Rattle.domain_spec.proofs.LawProofs.{standing-append}
use Rattle.event_queue.specs.Listening.{AreApart, Listening, hears, registrations}
use Rattle.event_queue.proofs.Apart.{apart_heard}
use Rattle.core_flight.specs.Ledger.{Chaptered, Ledgered, now_in, standing_in, with_marks}
use Rattle.core_flight.specs.Told.{told_last}
use Rattle.core_log.specs.Following.{IsFollowed}
use Rattle.core_log.specs.Record.{HasMarked, IsHeld, Tells, cuts_after, open_ends, recorded, with_cuts}
use Rattle.core_log.proofs.Cuts.{IsPlain, TellLast, Told, agree_at, last_added, legal_ending, told_marks, told_none}

pub in_history : (h : Chaptered) → standing_in h ≡ standing (at_base h.base) h.marks
unfolding standing_in
in_history h = refl

-- what is in force with these marks more
pub in_more : (h : Chaptered) (marks : List (Mark ℕ)) → standing_in (with_marks h marks) ≡ standing (standing_in h) marks
unfolding standing_in
in_more h marks = standing-append (at_base h.base) h.marks marks

pub more_more : (h : Chaptered) (xs ys : List (Mark ℕ)) → with_marks (with_marks h xs) ys ≡ with_marks h (xs ++ ys)
more_more h xs ys = ap (λ (ms : List (Mark ℕ)). record { chapter = h.chapter; base = h.base; marks = ms }) (append_assoc h.marks xs ys)

-- of a legal history the marks that were added are legal where they came
pub added_legal : (h g : Chaptered) (marks : List (Mark ℕ)) → g ≡ with_marks h marks → IsLegal (at_base g.base) g.marks → IsLegal (standing_in h) marks
added_legal h g marks e legal =
    subst (λ (s : Standing). IsLegal s marks) (sym (in_history h))
    (legal_ending (at_base h.base) h.marks marks (subst (λ (x : Chaptered). IsLegal (at_base x.base) x.marks) e legal))

-- marks of which the last alone tells something

told_in : (old mid : Ledgered) (ls : List Listening) (marks : List (Mark ℕ)) → IsHeld old ls → mid.history ≡ with_marks old.history marks → TellLast marks → (now_in mid).lost ≡ None
    → Told (standing_in old.history) ls marks (told_last marks)
told_in old mid ls marks held is last lost =
    told_marks (standing_in old.history) ls marks held.agree held.apart held.room last
    (sym (ap (λ (s : Standing). s.lost) (ap standing_in is ∙ in_more old.history marks)) ∙ lost)

told_at : (old mid : Ledgered) (marks : List (Mark ℕ)) → mid.history ≡ with_marks old.history marks → TellLast marks → told_last mid.history.marks ≡ told_last marks
told_at old mid marks is last = ap (λ (h : Chaptered). told_last h.marks) is ∙ last_added old.history.marks marks last

pub may_tell : (old mid : Ledgered) (ls : List Listening) (marks : List (Mark ℕ)) → IsHeld old ls → mid.history ≡ with_marks old.history marks → TellLast marks → (now_in mid).lost ≡ None
    → IsLegal (standing_in mid.history) (cuts_after (registrations ls) (told_last mid.history.marks))
may_tell old mid ls marks held is last lost =
    subst (λ (ts : List Transition). IsLegal (standing_in mid.history) (cuts_after (registrations ls) ts)) (sym (told_at old mid marks is last))
    (subst (λ (s : Standing). IsLegal s (cuts_after (registrations ls) (told_last marks))) (sym (ap standing_in is ∙ in_more old.history marks))
    (told_in old mid ls marks held is last lost).legal)

followed : (old mid new : Ledgered) (ls ms : List Listening) (marks : List (Mark ℕ)) → mid.history ≡ with_marks old.history marks → TellLast marks → IsFollowed mid new ls ms
    → new.history ≡ with_marks old.history (with_cuts ls marks)
followed old mid new ls ms marks is last by =
    by.history
    ∙ ap (λ (ts : List Transition). with_marks mid.history (cuts_after (registrations ls) ts)) (told_at old mid marks is last)
    ∙ ap (λ (h : Chaptered). with_marks h (cuts_after (registrations ls) (told_last marks))) is
    ∙ more_more old.history marks (cuts_after (registrations ls) (told_last marks))

heard_by : (old mid new : Ledgered) (ls ms : List Listening) (marks : List (Mark ℕ)) → mid.history ≡ with_marks old.history marks → TellLast marks → IsFollowed mid new ls ms → ms ≡ map (hears (told_last marks)) ls
heard_by old mid new ls ms marks is last by = by.listeners ∙ ap (λ (ts : List Transition). map (hears ts) ls) (told_at old mid marks is last)

pub tells : (old mid new : Ledgered) (ls ms : List Listening) (marks : List (Mark ℕ)) → IsHeld old ls → mid.history ≡ with_marks old.history marks → TellLast marks → (now_in mid).lost ≡ None
    → IsFollowed mid new ls ms → Tells (recorded old ls) (recorded new ms) marks
tells old mid new ls ms marks held is last lost by =
    let it : Told (standing_in old.history) ls marks (told_last marks) = told_in old mid ls marks held is last lost in
    record {
      marked = record {
        history = followed old mid new ls ms marks is last by;
        kept = ap registrations (heard_by old mid new ls ms marks is last by) ∙ it.kept;
        legal = added_legal old.history new.history (with_cuts ls marks) (followed old mid new ls ms marks is last by) by.legal;
        cuts = it.cuts;
      };
      listeners = heard_by old mid new ls ms marks is last by;
    }

pub agree_more : (h g : Chaptered) (rs ss : List Registration) (marks : List (Mark ℕ)) → Agree rs (standing_in h) → g ≡ with_marks h marks → ss ≡ registrations_at rs marks → Agree ss (standing_in g)
agree_more h g rs ss marks agree is e =
    subst (λ (xs : List Registration). Agree xs (standing_in g)) (sym e)
    (subst (λ (s : Standing). Agree (registrations_at rs marks) s) (sym (ap standing_in is ∙ in_more h marks)) (agree_at (standing_in h) rs marks agree))

more_room : (n a b c d : ℕ) → a ≤ n → c + a ≡ n + b → b ≤ c
more_room n a b c d le e = omega (arith, le, e)

pub held_told : (old mid new : Ledgered) (ls ms : List Listening) (marks : List (Mark ℕ)) → IsHeld old ls → mid.history ≡ with_marks old.history marks → TellLast marks → (now_in mid).lost ≡ None
    → open_ends (registrations ls) ≤ mid.spare → IsFollowed mid new ls ms → IsHeld new ms
held_told old mid new ls ms marks held is last lost room by =
    let it : Told (standing_in old.history) ls marks (told_last marks) = told_in old mid ls marks held is last lost in
    let e : ms ≡ map (hears (told_last marks)) ls = heard_by old mid new ls ms marks is last by in
    record {
      agree =
          agree_more old.history new.history (registrations ls) (registrations ms) (with_cuts ls marks) held.agree (followed old mid new ls ms marks is last by)
          (ap registrations e ∙ it.kept);
      apart = subst (λ (xs : List Listening). AreApart xs) (sym e) (apart_heard ls (told_last marks) held.apart);
      room = subst (λ (xs : List Listening). AllHaveRoom (registrations xs)) (sym e) it.room;
      ends = more_room mid.spare (open_ends (registrations ls)) (open_ends (registrations ms)) new.spare 0 room by.spare;
    }

-- marks that tell nothing

abbrev pub AreQuiet : List (Mark ℕ) → Type 0
AreQuiet [] = Unit {0}
AreQuiet (m ∷ ms) = IsPlain m × (transitions_of m ≡ []) × AreQuiet ms

pub quiet_kept : (rs : List Registration) (marks : List (Mark ℕ)) → AreQuiet marks → registrations_at rs marks ≡ rs
quiet_kept rs [] quiet = refl
quiet_kept rs (m ∷ ms) quiet =
    ap (λ (xs : List Registration). registrations_at xs ms) (told_none m rs quiet.0 quiet.1) ∙ quiet_kept rs ms quiet.2

pub quiet_cuts : (rs : List Registration) (marks : List (Mark ℕ)) → AllHaveRoom rs → AreQuiet marks → AreCut rs marks
quiet_cuts rs [] room quiet = room
quiet_cuts rs (m ∷ ms) room quiet =
    quiet.0.cut rs ms room (subst (λ (xs : List Registration). AreCut xs ms) (sym (told_none m rs quiet.0 quiet.1)) (quiet_cuts rs ms room quiet.2))

pub marked_quiet : (old new : Ledgered) (ls : List Listening) (marks : List (Mark ℕ)) → IsHeld old ls → AreQuiet marks → new.history ≡ with_marks old.history marks
    → IsLegal (at_base new.history.base) new.history.marks → HasMarked (recorded old ls) (recorded new ls) marks
marked_quiet old new ls marks held quiet is legal = record {
  history = is;
  kept = sym (quiet_kept (registrations ls) marks quiet);
  legal = added_legal old.history new.history marks is legal;
  cuts = quiet_cuts (registrations ls) marks held.room quiet;
}

pub held_quiet : (old new : Ledgered) (ls : List Listening) (marks : List (Mark ℕ)) → IsHeld old ls → AreQuiet marks → new.history ≡ with_marks old.history marks
    → open_ends (registrations ls) ≤ new.spare → IsHeld new ls
held_quiet old new ls marks held quiet is ends = record {
  agree = agree_more old.history new.history (registrations ls) (registrations ls) marks held.agree is (sym (quiet_kept (registrations ls) marks quiet));
  apart = held.apart;
  room = held.room;
  ends = ends;
}
