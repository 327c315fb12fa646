-- Why the cuts after a mark are due and lawful, and what they leave for the registrations.
use Rattle.std.proofs.Common.{◌≡◌, ℕ, List, [], ◌∷◌, ◌++◌, map, length, Bool, true, false, ◌||◌, Option, None, refl, sym, ap, ◌∙◌, subst, append-nil}
use Rattle.std.specs.List.{list_any}
use Rattle.domain_spec.specs.Types.{Answer, Ask, Call, EndReason, GuestEvent, Job, Phase, RefusalCode, Reply, Transition, Who}
use Rattle.domain_spec.specs.declared.mark.HeldJobs.{HeldJobs}
use Rattle.domain_spec.specs.declared.mark.Mark.{Mark}
use Rattle.domain_spec.specs.declared.step.Outcome.{Outcome}
use Rattle.domain_spec.specs.declared.mark.Mark.TheVariants as mark
use Rattle.domain_spec.specs.declared.standing.Client.{Client}
use Rattle.domain_spec.specs.declared.standing.Registration.{Registration}
use Rattle.domain_spec.specs.declared.standing.Standing.{Standing}
use Rattle.domain_spec.specs.ChapterLaws.{Agree}
use Rattle.domain_spec.specs.Fold.{after, clients_after, standing, transitions_of, with_more}
use Rattle.domain_spec.specs.Legal.{IsLegal}
use Rattle.domain_spec.specs.Registrations.{is_numbered, registrations_after, registrations_at, with_pending}
use Rattle.domain_spec.specs.Turns.{AllHaveRoom, AreCut}
use Rattle.domain_spec.proofs.ChapterProofs.{registrations_agree}
use Rattle.event_queue.specs.CutLaws.{AreCutThen, AreDifferent}
use Rattle.event_queue.specs.Listening.{AreApart, Listening, has_client, hears, is_of, registrations}
use Rattle.event_queue.specs.Telling.{told}
use Rattle.event_queue.proofs.Cutting.{cuts_due_then, pend_is}
use Rattle.event_queue.proofs.Lawful.{cuts_are_lawful}
use Rattle.core_flight.specs.Told.{told_last}
use Rattle.core_log.specs.Record.{cuts_after}

-- a mark that belongs to no client
pub record IsPlain (m : Mark ℕ) : Type 0 where
  pub clients : (cs : List Client) → clients_after cs m ≡ map (with_more (length (transitions_of m))) cs
  pub registrations : (rs : List Registration) → registrations_after rs m ≡ map (with_pending (transitions_of m)) rs
  pub cut : (rs : List Registration) (ms : List (Mark ℕ)) → AllHaveRoom rs → AreCut (registrations_after rs m) ms → AreCut rs (m ∷ ms)

pub plain_admit : (n : ℕ) (who : Who) (j : Job) (c : Call) (boot : Option ℕ) → IsPlain (mark.Admit n who j c boot)
plain_admit n who j c boot = record { clients = λ cs. refl; registrations = λ rs. refl; cut = λ rs ms room h. (room, h) }

pub plain_done : (n : ℕ) (who : Who) (c : Call) (boot : Option ℕ) (asks : List Ask) (answers : List Answer) (r : Reply) (events : List Transition) → IsPlain (mark.Done n who c boot asks answers r events)
plain_done n who c boot asks answers r events = record { clients = λ cs. refl; registrations = λ rs. refl; cut = λ rs ms room h. (room, h) }

pub plain_refused : (n : ℕ) (who : Who) (c : Call) (why : RefusalCode) (held : HeldJobs) → IsPlain (mark.Refused n who c why held)
plain_refused n who c why held = record { clients = λ cs. refl; registrations = λ rs. refl; cut = λ rs ms room h. (room, h) }

pub plain_exit : (boot : ℕ) (why : EndReason) (events : List Transition) → IsPlain (mark.Exit boot why events)
plain_exit boot why events = record { clients = λ cs. refl; registrations = λ rs. refl; cut = λ rs ms room h. (room, h) }

pub plain_event : (boot : ℕ) (e : GuestEvent) (events : List Transition) → IsPlain (mark.Event boot e events)
plain_event boot e events = record { clients = λ cs. refl; registrations = λ rs. refl; cut = λ rs ms room h. (room, h) }

pub plain_start : (n : ℕ) (who : Who) (c : Call) (boot : Option ℕ) → IsPlain (mark.Start n who c boot)
plain_start n who c boot = record { clients = λ cs. refl; registrations = λ rs. refl; cut = λ rs ms room h. (room, h) }

pub plain_take_up : (n : ℕ) (who : Who) (c : Call) → IsPlain (mark.TakeUp n who c)
plain_take_up n who c = record { clients = λ cs. refl; registrations = λ rs. refl; cut = λ rs ms room h. (room, h) }

pub plain_phase : (n : ℕ) (who : Who) (p : Phase) (asks : List Ask) (answers : List Answer) (o : Outcome) (events : List Transition) → IsPlain (mark.Phase n who p asks answers o events)
plain_phase n who p asks answers o events = record { clients = λ cs. refl; registrations = λ rs. refl; cut = λ rs ms room h. (room, h) }

pub plain_end : (n : ℕ) (who : Who) (r : Reply) → IsPlain (mark.End n who r)
plain_end n who r = record { clients = λ cs. refl; registrations = λ rs. refl; cut = λ rs ms room h. (room, h) }

-- of these marks, which belong to no client, none but the last tells anything
abbrev pub TellLast : List (Mark ℕ) → Type 0
TellLast [] = ⊥
TellLast (m ∷ []) = IsPlain m
TellLast (m ∷ k ∷ ms) = IsPlain m × (transitions_of m ≡ []) × TellLast (k ∷ ms)

-- no two registrations are one client's

same_any : (ls : List Listening) (client : ℕ) → list_any (is_numbered client) (registrations ls) ≡ has_client ls client
same_any [] client = refl
same_any (l ∷ ls) client = ap (λ (b : Bool). is_of client l || b) (same_any ls client)

pub different : (ls : List Listening) → AreApart ls → AreDifferent (registrations ls)
different [] apart = tt
different (l ∷ ls) apart = (same_any ls l.kept.client ∙ apart.0, different ls apart.1)

-- what is kept where they heard this

pub heard_kept : (ls : List Listening) (events : List Transition) → registrations (map (hears events) ls) ≡ map (told events) (registrations ls)
heard_kept [] events = refl
heard_kept (l ∷ ls) events = ap (λ (rs : List Registration). told events l.kept ∷ rs) (heard_kept ls events)

pend_none_of : (r : Registration) (lost : Bool) → r.is_lost ≡ lost → with_pending [] r ≡ r
pend_none_of r true e = pend_is r [] true e
pend_none_of r false e = pend_is r [] false e ∙ ap (λ (ts : List Transition). record r { pending = ts }) (append-nil r.pending)

pub pend_none : (rs : List Registration) → map (with_pending []) rs ≡ rs
pend_none [] = refl
pend_none (r ∷ rs) = ap (λ (x : Registration). x ∷ map (with_pending []) rs) (pend_none_of r r.is_lost refl) ∙ ap (λ (xs : List Registration). r ∷ xs) (pend_none rs)

-- what a mark leaves that tells nothing
pub told_none : (m : Mark ℕ) (rs : List Registration) → IsPlain m → transitions_of m ≡ [] → registrations_after rs m ≡ rs
told_none m rs plain e = plain.registrations rs ∙ ap (λ (ts : List Transition). map (with_pending ts) rs) e ∙ pend_none rs

-- the cuts after marks of which the last alone tells something
pub record Told (s : Standing) (ls : List Listening) (marks : List (Mark ℕ)) (events : List Transition) : Type 0 where
  pub legal : IsLegal (standing s marks) (cuts_after (registrations ls) events)
  pub cuts : AreCut (registrations ls) (marks ++ cuts_after (registrations ls) events)
  pub kept : registrations (map (hears events) ls) ≡ registrations_at (registrations ls) (marks ++ cuts_after (registrations ls) events)
  pub room : AllHaveRoom (registrations (map (hears events) ls))

told_one : (s : Standing) (ls : List Listening) (m : Mark ℕ) → Agree (registrations ls) s → AreApart ls → AllHaveRoom (registrations ls) → IsPlain m → (after s m).lost ≡ None → Told s ls (m ∷ []) (transitions_of m)
told_one s ls m agree apart room plain lost =
    let rs : List Registration = registrations ls in
    let events : List Transition = transitions_of m in
    let due : AreCutThen rs events = cuts_due_then rs events (different ls apart) room in
    record {
      legal = cuts_are_lawful s rs m events agree (different ls apart) room (plain.clients s.clients) lost;
      cuts = plain.cut rs (cuts_after rs events) room (subst (λ (xs : List Registration). AreCut xs (cuts_after rs events)) (sym (plain.registrations rs)) due.due);
      kept = heard_kept ls events ∙ sym due.left ∙ ap (λ (xs : List Registration). registrations_at xs (cuts_after rs events)) (sym (plain.registrations rs));
      room = subst (λ (xs : List Registration). AllHaveRoom xs) (sym (heard_kept ls events)) due.room;
    }

pub told_marks : (s : Standing) (ls : List Listening) (marks : List (Mark ℕ)) → Agree (registrations ls) s → AreApart ls → AllHaveRoom (registrations ls) → TellLast marks → (standing s marks).lost ≡ None → Told s ls marks (told_last marks)
told_marks s ls [] agree apart room last lost = absurd last
told_marks s ls (m ∷ []) agree apart room last lost = told_one s ls m agree apart room last lost
told_marks s ls (m ∷ k ∷ ms) agree apart room last lost =
    let rs : List Registration = registrations ls in
    let stay : registrations_after rs m ≡ rs = told_none m rs last.0 last.1 in
    let agree_on : Agree rs (after s m) = subst (λ (xs : List Registration). Agree xs (after s m)) stay (registrations_agree.marked s rs m agree) in
    let rest : Told (after s m) ls (k ∷ ms) (told_last (k ∷ ms)) = told_marks (after s m) ls (k ∷ ms) agree_on apart room last.2 lost in
    let more : List (Mark ℕ) = (k ∷ ms) ++ cuts_after rs (told_last (k ∷ ms)) in
    record {
      legal = rest.legal;
      cuts = last.0.cut rs more room (subst (λ (xs : List Registration). AreCut xs more) (sym stay) rest.cuts);
      kept = rest.kept ∙ ap (λ (xs : List Registration). registrations_at xs more) (sym stay);
      room = rest.room;
    }

-- what is kept agrees with the history after each mark
pub agree_at : (s : Standing) (rs : List Registration) (marks : List (Mark ℕ)) → Agree rs s → Agree (registrations_at rs marks) (standing s marks)
agree_at s rs [] agree = agree
agree_at s rs (m ∷ marks) agree = agree_at (after s m) (registrations_after rs m) marks (registrations_agree.marked s rs m agree)

-- the last mark of a history is the last of those that were added

last_of : (before : List (Mark ℕ)) (m : Mark ℕ) (ms : List (Mark ℕ)) → told_last (before ++ m ∷ ms) ≡ told_last (m ∷ ms)
last_of [] m ms = refl
last_of (x ∷ []) m ms = refl
last_of (x ∷ y ∷ before) m ms = last_of (y ∷ before) m ms

pub last_added : (before marks : List (Mark ℕ)) → TellLast marks → told_last (before ++ marks) ≡ told_last marks
last_added before [] last = absurd last
last_added before (m ∷ ms) last = last_of before m ms

-- the end of a legal history is legal
pub legal_ending : (s : Standing) (first rest : List (Mark ℕ)) → IsLegal s (first ++ rest) → IsLegal (standing s first) rest
legal_ending s [] rest h = h
legal_ending s (m ∷ first) rest h = legal_ending (after s m) first rest h.1
