-- A client that registers, takes what pends, or leaves.
use Rattle.std.specs.Prelude.{Ok, Err, OnErr, OnOk}
use Rattle.std.proofs.Common.{◌≡◌, Result, ℕ, ◌+◌, ◌-◌, ◌≤◌, ◌<◌, ◌==◌, List, [], ◌∷◌, ◌++◌, map, filter, find, length, Bool, true, false, not, ◌&&◌, ◌||◌, is_some, nat_le, Option, None, Some, option_map, if◌then◌else◌, refl, sym, ap, ◌∙◌, subst, arith}
use Rattle.std.specs.List.{list_any}
use Rattle.std.proofs.lemmas.Bool.Decides.{nat_tests}
use Rattle.std.proofs.lemmas.List.{map-append}
use Rattle.domain_spec.specs.declared.mark.Mark.{Mark}
use Rattle.domain_spec.specs.declared.mark.Mark.TheVariants as mark
use Rattle.domain_spec.specs.declared.standing.Client.{Client}
use Rattle.domain_spec.specs.declared.standing.Registration.{Registration}
use Rattle.domain_spec.specs.declared.standing.Standing.{Standing}
use Rattle.domain_spec.specs.ChapterLaws.{Agree, as_before}
use Rattle.domain_spec.specs.Fold.{at_base, is_client, registered}
use Rattle.domain_spec.specs.Legal.{IsLawful, IsLegal, IsUnwatched, MarksLoss, client_named}
use Rattle.domain_spec.specs.Registrations.{HasRoom, is_numbered, registrations_taken, taken_from, tells_loss}
use Rattle.domain_spec.specs.Turns.{AllHaveRoom}
use Rattle.domain_spec.proofs.ChapterProofs.{registrations_agree}
use Rattle.event_queue.specs.Listening.{AreApart, Listening, dropped_by, emptied, emptied_by, has_client, is_lost, is_of, left_by, listening_of, loss_told, new_listening, registrations, taken_by}
use Rattle.event_queue.proofs.Apart.{apart_emptied, apart_left, apart_more}
use Rattle.core_flight.specs.Ledger.{Ledgered, now_in, standing_in, with_marks}
use Rattle.core_log.specs.Record.{HasMarked, IsHeld, IsQuietOf, open_ends, recorded}
use Rattle.core_log.proofs.Counting.{ends_more, one_unless}
use Rattle.core_log.proofs.Held.{added_legal, agree_more}

or_parts : (b c : Bool) → (b || c) ≡ false → (b ≡ false) × (c ≡ false)
or_parts true c e = cc
or_parts false c e = (refl, e)

abbrev as_client : Registration → Client
as_client r = record { number = r.number; client = r.client; before = r.taken + length r.pending; total = r.taken + length r.pending }

any_listed : (lost : Bool) (r : Registration) (cs : List Client) (client : ℕ) → is_numbered client r ≡ false → list_any (is_client client) cs ≡ false → list_any (is_client client) (if lost then cs else as_client r ∷ cs) ≡ false
any_listed true r cs client e f = f
any_listed false r cs client e f = ap (λ (b : Bool). b || list_any (is_client client) cs) e ∙ f

any_registered : (ls : List Listening) (client : ℕ) → has_client ls client ≡ false → list_any (is_client client) (registered (registrations ls)) ≡ false
any_registered [] client e = refl
any_registered (l ∷ ls) client e =
    let h = or_parts (is_of client l) (has_client ls client) e in
    any_listed l.kept.is_lost l.kept (registered (registrations ls)) client h.0 (any_registered ls client h.1)

any_before : (cs : List Client) (client : ℕ) → list_any (is_client client) (map as_before cs) ≡ list_any (is_client client) cs
any_before [] client = refl
any_before (c ∷ cs) client = ap (λ (b : Bool). is_client client c || b) (any_before cs client)

no_loss : (s : Standing) (m : Mark ℕ) → s.lost ≡ None → MarksLoss s.lost m
no_loss s m e = subst (λ (o : Option ℕ). MarksLoss o m) (sym e) tt

pub watch_lawful : (l : Ledgered) (ls : List Listening) (n client : ℕ) → IsHeld l ls → has_client ls client ≡ false → (now_in l).lost ≡ None → IsLawful (now_in l) (mark.Watch n client)
watch_lawful l ls n client held free lost = record {
  in_order =
      sym (any_before (now_in l).clients client) ∙ ap (λ (cs : List Client). list_any (is_client client) cs) (sym held.agree) ∙ any_registered ls client free;
  loss = no_loss (now_in l) (mark.Watch n client) lost;
}

-- one more

kept_more : (ls : List Listening) (l : Listening) → registrations (ls ++ l ∷ []) ≡ registrations ls ++ l.kept ∷ []
kept_more ls l = map-append (λ (x : Listening). x.kept) ls (l ∷ [])

room_more : (rs : List Registration) (r : Registration) → AllHaveRoom rs → HasRoom r → AllHaveRoom (rs ++ r ∷ [])
room_more [] r all h = (h, tt)
room_more (s ∷ rs) r all h = (all.0, room_more rs r all.1 h)

new_room : (n client : ℕ) → HasRoom (new_listening n client).kept
new_room n client = record { pending = omega arith; came = omega arith }

add_one : (a b c : ℕ) → b ≡ c + 1 → a + b ≡ (a + c) + 1
add_one a b c e = omega (arith, e)

ends_added : (rs : List Registration) (n client : ℕ) → open_ends (rs ++ (new_listening n client).kept ∷ []) ≡ open_ends rs + 1
ends_added [] n client = refl
ends_added (r ∷ rs) n client =
    ends_more r (rs ++ (new_listening n client).kept ∷ [])
    ∙ add_one (one_unless r.is_lost) (open_ends (rs ++ (new_listening n client).kept ∷ [])) (open_ends rs) (ends_added rs n client)
    ∙ ap (λ (k : ℕ). k + 1) (sym (ends_more r rs))

pub watched : (old new : Ledgered) (ls ms : List Listening) (n client : ℕ) → IsHeld old ls → ms ≡ ls ++ new_listening n client ∷ [] → new.history ≡ with_marks old.history (mark.Watch n client ∷ [])
    → IsLegal (at_base new.history.base) new.history.marks → HasMarked (recorded old ls) (recorded new ms) (mark.Watch n client ∷ [])
watched old new ls ms n client held more is legal = record {
  history = is;
  kept = ap registrations more ∙ kept_more ls (new_listening n client);
  legal = added_legal old.history new.history (mark.Watch n client ∷ []) is legal;
  cuts = (held.room, room_more (registrations ls) (new_listening n client).kept held.room (new_room n client));
}

one_end : (a b c d : ℕ) → 2 + a ≤ c → d + 1 ≡ c → b ≡ a + 1 → b ≤ d
one_end a b c d le e f = omega (arith, le, e, f)

pub ends_watched : (ls ms : List Listening) (n client : ℕ) → ms ≡ ls ++ new_listening n client ∷ [] → open_ends (registrations ms) ≡ open_ends (registrations ls) + 1
ends_watched ls ms n client more =
    ap (λ (xs : List Listening). open_ends (registrations xs)) more ∙ ap open_ends (kept_more ls (new_listening n client)) ∙ ends_added (registrations ls) n client

pub held_watched : (old new : Ledgered) (ls ms : List Listening) (n client : ℕ) → IsHeld old ls → has_client ls client ≡ false → ms ≡ ls ++ new_listening n client ∷ []
    → new.history ≡ with_marks old.history (mark.Watch n client ∷ []) → 2 + open_ends (registrations ls) ≤ old.spare → new.spare + 1 ≡ old.spare → IsHeld new ms
held_watched old new ls ms n client held free more is room spare = record {
  agree = agree_more old.history new.history (registrations ls) (registrations ms) (mark.Watch n client ∷ []) held.agree is (ap registrations more ∙ kept_more ls (new_listening n client));
  apart = subst (λ (xs : List Listening). AreApart xs) (sym more) (apart_more ls (new_listening n client) held.apart free);
  room =
      subst (λ (xs : List Listening). AllHaveRoom (registrations xs)) (sym more)
      (subst (λ (rs : List Registration). AllHaveRoom rs) (sym (kept_more ls (new_listening n client))) (room_more (registrations ls) (new_listening n client).kept held.room (new_room n client)));
  ends = one_end (open_ends (registrations ls)) (open_ends (registrations ms)) old.spare new.spare room spare (ends_watched ls ms n client more);
}

two_less : (a b c d : ℕ) → 2 + a ≤ c → d + 1 ≡ c → b ≡ a + 1 → (d - b) + 2 ≡ c - a
two_less a b c d le e f = omega (arith, le, e, f)

pub watch_spare : (old new : Ledgered) (ls ms : List Listening) (n client : ℕ) → ms ≡ ls ++ new_listening n client ∷ [] → 2 + open_ends (registrations ls) ≤ old.spare → new.spare + 1 ≡ old.spare
    → (recorded new ms).spare + 2 ≡ (recorded old ls).spare
watch_spare old new ls ms n client more room spare = two_less (open_ends (registrations ls)) (open_ends (registrations ms)) old.spare new.spare room spare (ends_watched ls ms n client more)

-- one leaves

found_listed : (lost : Bool) (r : Registration) (cs : List Client) (client : ℕ) (found : Option Client) → is_numbered client r ≡ false → find (is_client client) cs ≡ found → find (is_client client) (if lost then cs else as_client r ∷ cs) ≡ found
found_listed true r cs client found e f = f
found_listed false r cs client found e f = ap (λ (b : Bool). if b then Some (as_client r) else find (is_client client) cs) e ∙ f

found_here : (lost : Bool) (r : Registration) (cs : List Client) (client : ℕ) → lost ≡ false → is_numbered client r ≡ true → find (is_client client) (if lost then cs else as_client r ∷ cs) ≡ Some (as_client r)
found_here true r cs client is e = cc
found_here false r cs client is e = ap (λ (b : Bool). if b then Some (as_client r) else find (is_client client) cs) e

found_by : (b : Bool) (m : Listening) (ls : List Listening) (l : Listening) (client : ℕ) → is_of client m ≡ b → (if b then Some m else listening_of ls client) ≡ Some l → l.kept.is_lost ≡ false
    → (listening_of ls client ≡ Some l → find (is_client client) (registered (registrations ls)) ≡ Some (as_client l.kept))
    → find (is_client client) (registered (registrations (m ∷ ls))) ≡ Some (as_client l.kept)
found_by true m ls l client is found awake rest =
    let same : m ≡ l = cc in
    found_here m.kept.is_lost m.kept (registered (registrations ls)) client (ap (λ (x : Listening). x.kept.is_lost) same ∙ awake) is ∙ ap (λ (x : Listening). Some (as_client x.kept)) same
found_by false m ls l client is found awake rest =
    found_listed m.kept.is_lost m.kept (registered (registrations ls)) client (Some (as_client l.kept)) is (rest found)

found_client : (ls : List Listening) (l : Listening) (client : ℕ) → listening_of ls client ≡ Some l → l.kept.is_lost ≡ false → find (is_client client) (registered (registrations ls)) ≡ Some (as_client l.kept)
found_client [] l client found awake = cc
found_client (m ∷ ls) l client found awake = found_by (is_of client m) m ls l client refl found awake (λ e. found_client ls l client e awake)

before_if : (b : Bool) (c : Client) (f g : Option Client) → f ≡ option_map as_before g → (if b then Some (as_before c) else f) ≡ option_map as_before (if b then Some c else g)
before_if true c f g e = refl
before_if false c f g e = e

found_before : (cs : List Client) (client : ℕ) → find (is_client client) (map as_before cs) ≡ option_map as_before (find (is_client client) cs)
found_before [] client = refl
found_before (c ∷ cs) client = before_if (is_client client c) c _ _ (found_before cs client)

unwatched_by : (found : Option Client) (c : Client) (n : ℕ) → option_map as_before found ≡ Some c → c.number ≡ n → IsUnwatched found n
unwatched_by None c n e f = cc
unwatched_by (Some d) c n e f = let same : as_before d ≡ c = cc in sym (ap (λ (x : Client). x.number) same ∙ f)

quiet_lawful : (l : Ledgered) (ls : List Listening) (found : Option Listening) (n client : ℕ) → IsHeld l ls → listening_of ls client ≡ found → IsQuietOf found n → (now_in l).lost ≡ None → IsLawful (now_in l) (mark.Unwatch n client)
quiet_lawful l ls None n client held is quiet lost = absurd quiet
quiet_lawful l ls (Some it) n client held is quiet lost = record {
  in_order =
      unwatched_by (client_named (now_in l).clients client) (as_client it.kept) n
      (sym (found_before (now_in l).clients client) ∙ ap (λ (cs : List Client). find (is_client client) cs) (sym held.agree) ∙ found_client ls it client is quiet.1.1) quiet.0;
  loss = no_loss (now_in l) (mark.Unwatch n client) lost;
}

pub unwatch_lawful : (l : Ledgered) (ls : List Listening) (n client : ℕ) → IsHeld l ls → IsQuietOf (listening_of ls client) n → (now_in l).lost ≡ None → IsLawful (now_in l) (mark.Unwatch n client)
unwatch_lawful l ls n client held quiet lost = quiet_lawful l ls (listening_of ls client) n client held refl quiet lost

not_one : (m n : ℕ) → (m == n) ≡ true → m ≡ n
not_one m n e = grind (arith, nat_tests, e)

filter_if : (b : Bool) (r : Registration) (rs ss : List Registration) → b ≡ false → rs ≡ ss → r ∷ rs ≡ (if not b then r ∷ ss else ss)
filter_if true r rs ss e f = cc
filter_if false r rs ss e f = ap (λ (xs : List Registration). r ∷ xs) f

none_filtered : (ls : List Listening) (client : ℕ) → has_client ls client ≡ false → registrations ls ≡ filter (λ r. not (is_numbered client r)) (registrations ls)
none_filtered [] client e = refl
none_filtered (l ∷ ls) client e =
    let h = or_parts (is_of client l) (has_client ls client) e in
    filter_if (is_of client l) l.kept (registrations ls) (filter (λ r. not (is_numbered client r)) (registrations ls)) h.0 (none_filtered ls client h.1)

left_if : (b : Bool) (l : Listening) (ls rest : List Listening) (client : ℕ) → is_of client l ≡ b → has_client ls l.kept.client ≡ false
    → registrations rest ≡ filter (λ r. not (is_numbered client r)) (registrations ls)
    → registrations (if b then ls else l ∷ rest) ≡ (if not b then l.kept ∷ filter (λ r. not (is_numbered client r)) (registrations ls) else filter (λ r. not (is_numbered client r)) (registrations ls))
left_if true l ls rest client is none e = none_filtered ls client (ap (λ (n : ℕ). has_client ls n) (sym (not_one l.kept.client client is)) ∙ none)
left_if false l ls rest client is none e = ap (λ (xs : List Registration). l.kept ∷ xs) e

left_kept : (ls : List Listening) (client : ℕ) → AreApart ls → registrations (left_by ls client) ≡ filter (λ r. not (is_numbered client r)) (registrations ls)
left_kept [] client apart = refl
left_kept (l ∷ ls) client apart = left_if (is_of client l) l ls (left_by ls client) client refl apart.0 (left_kept ls client apart.1)

room_if : (b : Bool) (l : Listening) (ls rest : List Listening) → AllHaveRoom (registrations (l ∷ ls)) → AllHaveRoom (registrations rest) → AllHaveRoom (registrations (if b then ls else l ∷ rest))
room_if true l ls rest all h = all.1
room_if false l ls rest all h = (all.0, h)

room_left : (ls : List Listening) (client : ℕ) → AllHaveRoom (registrations ls) → AllHaveRoom (registrations (left_by ls client))
room_left [] client all = tt
room_left (l ∷ ls) client all = room_if (is_of client l) l ls (left_by ls client) all (room_left ls client all.1)

ends_by : (b : Bool) (m : Listening) (ls rest : List Listening) (l : Listening) (client : ℕ) → (if b then Some m else listening_of ls client) ≡ Some l → l.kept.is_lost ≡ false
    → (listening_of ls client ≡ Some l → open_ends (registrations rest) + 1 ≡ open_ends (registrations ls)) → open_ends (registrations (if b then ls else m ∷ rest)) + 1 ≡ open_ends (registrations (m ∷ ls))
ends_by true m ls rest l client found awake e =
    let same : m ≡ l = cc in
    let here : m.kept.is_lost ≡ false = ap (λ (x : Listening). x.kept.is_lost) same ∙ awake in
    let more = ends_more m.kept (registrations ls) in
    let one : one_unless m.kept.is_lost ≡ 1 = ap one_unless here in
    omega (arith, more, one)
ends_by false m ls rest l client found awake e =
    let less = e found in
    let before = ends_more m.kept (registrations ls) in
    let after = ends_more m.kept (registrations rest) in
    omega (arith, less, before, after)

ends_left : (ls : List Listening) (l : Listening) (client : ℕ) → listening_of ls client ≡ Some l → l.kept.is_lost ≡ false → open_ends (registrations (left_by ls client)) + 1 ≡ open_ends (registrations ls)
ends_left [] l client found awake = cc
ends_left (m ∷ ls) l client found awake = ends_by (is_of client m) m ls (left_by ls client) l client found awake (λ e. ends_left ls l client e awake)

quiet_ends : (ls : List Listening) (found : Option Listening) (n client : ℕ) → listening_of ls client ≡ found → IsQuietOf found n → open_ends (registrations (left_by ls client)) + 1 ≡ open_ends (registrations ls)
quiet_ends ls None n client is quiet = absurd quiet
quiet_ends ls (Some l) n client is quiet = ends_left ls l client is quiet.1.1

pub ends_unwatched : (ls : List Listening) (n client : ℕ) → IsQuietOf (listening_of ls client) n → open_ends (registrations (left_by ls client)) + 1 ≡ open_ends (registrations ls)
ends_unwatched ls n client quiet = quiet_ends ls (listening_of ls client) n client refl quiet

pub unwatched : (old new : Ledgered) (ls ms : List Listening) (n client : ℕ) → IsHeld old ls → ms ≡ left_by ls client → new.history ≡ with_marks old.history (mark.Unwatch n client ∷ [])
    → IsLegal (at_base new.history.base) new.history.marks → HasMarked (recorded old ls) (recorded new ms) (mark.Unwatch n client ∷ [])
unwatched old new ls ms n client held left is legal = record {
  history = is;
  kept = ap registrations left ∙ left_kept ls client held.apart;
  legal = added_legal old.history new.history (mark.Unwatch n client ∷ []) is legal;
  cuts = (held.room, subst (λ (rs : List Registration). AllHaveRoom rs) (left_kept ls client held.apart) (room_left ls client held.room));
}

end_less : (a b c d : ℕ) → a ≤ c → d + 1 ≡ c → b + 1 ≡ a → b ≤ d
end_less a b c d le e f = omega (arith, le, e, f)

pub held_unwatched : (old new : Ledgered) (ls ms : List Listening) (n client : ℕ) → IsHeld old ls → IsQuietOf (listening_of ls client) n → ms ≡ left_by ls client
    → new.history ≡ with_marks old.history (mark.Unwatch n client ∷ []) → new.spare + 1 ≡ old.spare → IsHeld new ms
held_unwatched old new ls ms n client held quiet left is spare = record {
  agree = agree_more old.history new.history (registrations ls) (registrations ms) (mark.Unwatch n client ∷ []) held.agree is (ap registrations left ∙ left_kept ls client held.apart);
  apart = subst (λ (xs : List Listening). AreApart xs) (sym left) (apart_left ls client held.apart);
  room = subst (λ (xs : List Listening). AllHaveRoom (registrations xs)) (sym left) (room_left ls client held.room);
  ends =
      subst (λ (xs : List Listening). open_ends (registrations xs) ≤ new.spare) (sym left)
      (end_less (open_ends (registrations ls)) (open_ends (registrations (left_by ls client))) old.spare new.spare held.ends spare (ends_unwatched ls n client quiet));
}

some_room : (a b c : ℕ) → a ≤ c → b + 1 ≡ a → 0 < c
some_room a b c le e = omega (arith, le, e)

pub unwatch_room : (l : Ledgered) (ls : List Listening) (n client : ℕ) → IsHeld l ls → IsQuietOf (listening_of ls client) n → 0 < l.spare
unwatch_room l ls n client held quiet = some_room (open_ends (registrations ls)) (open_ends (registrations (left_by ls client))) l.spare held.ends (ends_unwatched ls n client quiet)

same_left : (a b c d : ℕ) → a ≤ c → d + 1 ≡ c → b + 1 ≡ a → d - b ≡ c - a
same_left a b c d le e f = omega (arith, le, e, f)

pub unwatch_spare : (old new : Ledgered) (ls ms : List Listening) (n client : ℕ) → IsHeld old ls → IsQuietOf (listening_of ls client) n → ms ≡ left_by ls client → new.spare + 1 ≡ old.spare
    → new.spare - open_ends (registrations ms) ≡ old.spare - open_ends (registrations ls)
unwatch_spare old new ls ms n client held quiet left spare =
    ap (λ (xs : List Listening). new.spare - open_ends (registrations xs)) left
    ∙ same_left (open_ends (registrations ls)) (open_ends (registrations (left_by ls client))) old.spare new.spare held.ends spare (ends_unwatched ls n client quiet)

-- what pends is taken

taken_told : (t : Bool) (l : Listening) (rs : List Registration) → tells_loss l.kept ≡ t → registrations (if is_some (if t then Some l.lost else None) then [] else emptied l ∷ []) ++ rs ≡ taken_from l.kept ++ rs
taken_told true l rs e = ap (λ (b : Bool). (if b then [] else (emptied l).kept ∷ []) ++ rs) (sym e)
taken_told false l rs e = ap (λ (b : Bool). (if b then [] else (emptied l).kept ∷ []) ++ rs) (sym e)

here_if : (t : Bool) (l : Listening) (ls : List Listening) → registrations (if is_some (if t then Some l.lost else None) then ls else emptied l ∷ ls) ≡ registrations (if is_some (if t then Some l.lost else None) then [] else emptied l ∷ []) ++ registrations ls
here_if true l ls = refl
here_if false l ls = refl

past_if : (c : Bool) (l : Listening) (xs ys : List Listening) → registrations (if c then l ∷ xs else l ∷ ys) ≡ l.kept ∷ registrations (if c then xs else ys)
past_if true l xs ys = refl
past_if false l xs ys = refl

taken_if : (b : Bool) (l : Listening) (ls : List Listening) (client : ℕ) → is_of client l ≡ b → registrations (taken_by ls client) ≡ registrations_taken (registrations ls) client
    → registrations (if is_some (loss_told (if b then Some l else listening_of ls client)) then (if b then ls else l ∷ left_by ls client) else (if b then emptied l ∷ ls else l ∷ emptied_by ls client))
    ≡ (if b then taken_from l.kept ++ registrations ls else l.kept ∷ registrations_taken (registrations ls) client)
taken_if true l ls client is e = here_if (tells_loss l.kept) l ls ∙ taken_told (tells_loss l.kept) l (registrations ls) refl
taken_if false l ls client is e = past_if (is_some (loss_told (listening_of ls client))) l (left_by ls client) (emptied_by ls client) ∙ ap (λ (rs : List Registration). l.kept ∷ rs) e

pub taken_kept : (ls : List Listening) (client : ℕ) → registrations (taken_by ls client) ≡ registrations_taken (registrations ls) client
taken_kept [] client = refl
taken_kept (l ∷ ls) client = taken_if (is_of client l) l ls client refl (taken_kept ls client)

emptied_room : (r : Registration) → HasRoom r → HasRoom (record r { taken = r.taken + length r.pending; pending = [] })
emptied_room r h = let came = h.came in record { pending = omega arith; came = omega (arith, came) }

room_from : (t : Bool) (r : Registration) (rs : List Registration) → HasRoom r → AllHaveRoom rs → AllHaveRoom ((if t then [] else (record r { taken = r.taken + length r.pending; pending = [] }) ∷ []) ++ rs)
room_from true r rs h all = all
room_from false r rs h all = (emptied_room r h, all)

room_taken_if : (b : Bool) (r : Registration) (rs rest : List Registration) → AllHaveRoom (r ∷ rs) → AllHaveRoom rest → AllHaveRoom (if b then taken_from r ++ rs else r ∷ rest)
room_taken_if true r rs rest all h = room_from (tells_loss r) r rs all.0 all.1
room_taken_if false r rs rest all h = (all.0, h)

pub room_taken : (rs : List Registration) (client : ℕ) → AllHaveRoom rs → AllHaveRoom (registrations_taken rs client)
room_taken [] client all = tt
room_taken (r ∷ rs) client all = room_taken_if (is_numbered client r) r rs (registrations_taken rs client) all (room_taken rs client all.1)

told_lost : (b c : Bool) → (b && c) ≡ true → b ≡ true
told_lost true c e = refl
told_lost false c e = cc

zero_more : (n : ℕ) → n ≡ 0 + n
zero_more n = omega arith

ends_from : (t : Bool) (r : Registration) (rs : List Registration) → tells_loss r ≡ t → open_ends ((if t then [] else (record r { taken = r.taken + length r.pending; pending = [] }) ∷ []) ++ rs) ≡ one_unless r.is_lost + open_ends rs
ends_from true r rs e = zero_more (open_ends rs) ∙ ap (λ (b : Bool). one_unless b + open_ends rs) (sym (told_lost r.is_lost (nat_le (length r.pending) 0) e))
ends_from false r rs e = ends_more (record r { taken = r.taken + length r.pending; pending = [] }) rs

ends_taken_if : (b : Bool) (r : Registration) (rs rest : List Registration) → open_ends rest ≡ open_ends rs → open_ends (if b then taken_from r ++ rs else r ∷ rest) ≡ one_unless r.is_lost + open_ends rs
ends_taken_if true r rs rest e = ends_from (tells_loss r) r rs refl
ends_taken_if false r rs rest e = ends_more r rest ∙ ap (λ (n : ℕ). one_unless r.is_lost + n) e

pub ends_taken : (rs : List Registration) (client : ℕ) → open_ends (registrations_taken rs client) ≡ open_ends rs
ends_taken [] client = refl
ends_taken (r ∷ rs) client = ends_taken_if (is_numbered client r) r rs (registrations_taken rs client) (ends_taken rs client) ∙ sym (ends_more r rs)

apart_either : (b : Bool) (xs ys : List Listening) → AreApart xs → AreApart ys → AreApart (if b then xs else ys)
apart_either true xs ys h g = h
apart_either false xs ys h g = g

pub held_taken : (l : Ledgered) (ls : List Listening) (client : ℕ) → IsHeld l ls → IsHeld l (taken_by ls client)
held_taken l ls client held = record {
  agree = subst (λ (rs : List Registration). Agree rs (standing_in l.history)) (sym (taken_kept ls client)) (registrations_agree.taken (standing_in l.history) (registrations ls) client held.agree);
  apart = apart_either (is_some (loss_told (listening_of ls client))) (left_by ls client) (emptied_by ls client) (apart_left ls client held.apart) (apart_emptied ls client held.apart);
  room = subst (λ (rs : List Registration). AllHaveRoom rs) (sym (taken_kept ls client)) (room_taken (registrations ls) client held.room);
  ends = subst (λ (n : ℕ). n ≤ l.spare) (sym (ap open_ends (taken_kept ls client) ∙ ends_taken (registrations ls) client)) held.ends;
}

-- what pends is let go of, and a loss that is due

absent_if : (b : Bool) (r : Registration) (rs rest : List Registration) → b ≡ false → rest ≡ rs → (if b then taken_from r ++ rs else r ∷ rest) ≡ r ∷ rs
absent_if true r rs rest e f = cc
absent_if false r rs rest e f = ap (λ (xs : List Registration). r ∷ xs) f

absent : (ls : List Listening) (client : ℕ) → has_client ls client ≡ false → registrations_taken (registrations ls) client ≡ registrations ls
absent [] client e = refl
absent (l ∷ ls) client e =
    let h = or_parts (is_of client l) (has_client ls client) e in
    absent_if (is_of client l) l.kept (registrations ls) (registrations_taken (registrations ls) client) h.0 (absent ls client h.1)

abbrev emptied_of : Registration → Registration
emptied_of r = record r { taken = r.taken + length r.pending; pending = [] }

none_more : (n : ℕ) → n ≡ n + 0
none_more n = omega arith

again : (lost : Bool) (r : Registration) (rs : List Registration) (client : ℕ) → r.is_lost ≡ lost → is_numbered client r ≡ true → (if lost then rs else emptied_of r ∷ rs) ≡ registrations_taken (emptied_of r ∷ rs) client
again true r rs client e is =
    ap (λ (b : Bool). (if b then [] else (record (emptied_of r) { taken = (r.taken + length r.pending) + 0; pending = [] }) ∷ []) ++ rs) (sym (ap (λ (b : Bool). b && nat_le 0 0) e))
    ∙ ap (λ (b : Bool). if b then taken_from (emptied_of r) ++ rs else emptied_of r ∷ registrations_taken rs client) (sym is)
again false r rs client e is =
    ap (λ (n : ℕ). (record (emptied_of r) { taken = n; pending = [] }) ∷ rs) (none_more (r.taken + length r.pending))
    ∙ ap (λ (b : Bool). (if b then [] else (record (emptied_of r) { taken = (r.taken + length r.pending) + 0; pending = [] }) ∷ []) ++ rs) (sym (ap (λ (b : Bool). b && nat_le 0 0) e))
    ∙ ap (λ (b : Bool). if b then taken_from (emptied_of r) ++ rs else emptied_of r ∷ registrations_taken rs client) (sym is)

drop_here : (lost told : Bool) (r : Registration) (rs : List Registration) (client : ℕ) → r.is_lost ≡ lost → tells_loss r ≡ told → is_numbered client r ≡ true → registrations_taken rs client ≡ rs
    → (if lost then rs else emptied_of r ∷ rs) ≡ registrations_taken ((if told then [] else emptied_of r ∷ []) ++ rs) client
drop_here true true r rs client e f is none = sym none
drop_here true false r rs client e f is none = again true r rs client e is
drop_here false true r rs client e f is none = let lost = told_lost r.is_lost (nat_le (length r.pending) 0) f in cc
drop_here false false r rs client e f is none = again false r rs client e is

kept_if : (b : Bool) (l : Listening) (ls : List Listening) → registrations (if b then ls else emptied l ∷ ls) ≡ (if b then registrations ls else emptied_of l.kept ∷ registrations ls)
kept_if true l ls = refl
kept_if false l ls = refl

drop_if : (b : Bool) (l : Listening) (ls rest : List Listening) (client : ℕ) → is_of client l ≡ b → has_client ls l.kept.client ≡ false
    → registrations (if is_lost (listening_of ls client) then left_by ls client else emptied_by ls client) ≡ registrations_taken (registrations_taken (registrations ls) client) client
    → registrations (if is_lost (if b then Some l else listening_of ls client) then (if b then ls else l ∷ left_by ls client) else (if b then emptied l ∷ ls else l ∷ emptied_by ls client))
    ≡ registrations_taken (if b then taken_from l.kept ++ registrations ls else l.kept ∷ registrations_taken (registrations ls) client) client
drop_if true l ls rest client is none e =
    kept_if l.kept.is_lost l ls
    ∙ drop_here l.kept.is_lost (tells_loss l.kept) l.kept (registrations ls) client refl refl is (absent ls client (ap (λ (n : ℕ). has_client ls n) (sym (not_one l.kept.client client is)) ∙ none))
drop_if false l ls rest client is none e =
    past_if (is_lost (listening_of ls client)) l (left_by ls client) (emptied_by ls client)
    ∙ ap (λ (rs : List Registration). l.kept ∷ rs) e
    ∙ ap (λ (b : Bool). if b then taken_from l.kept ++ registrations_taken (registrations ls) client else l.kept ∷ registrations_taken (registrations_taken (registrations ls) client) client) (sym is)

pub dropped_kept : (ls : List Listening) (client : ℕ) → AreApart ls → registrations (dropped_by ls client) ≡ registrations_taken (registrations_taken (registrations ls) client) client
dropped_kept [] client apart = refl
dropped_kept (l ∷ ls) client apart = drop_if (is_of client l) l ls ls client refl apart.0 (dropped_kept ls client apart.1)

pub held_dropped : (l : Ledgered) (ls : List Listening) (client : ℕ) → IsHeld l ls → IsHeld l (dropped_by ls client)
held_dropped l ls client held =
    let rs : List Registration = registrations ls in
    let same = dropped_kept ls client held.apart in
    record {
      agree =
          subst (λ (xs : List Registration). Agree xs (standing_in l.history)) (sym same)
          (registrations_agree.taken (standing_in l.history) (registrations_taken rs client) client (registrations_agree.taken (standing_in l.history) rs client held.agree));
      apart = apart_either (is_lost (listening_of ls client)) (left_by ls client) (emptied_by ls client) (apart_left ls client held.apart) (apart_emptied ls client held.apart);
      room = subst (λ (xs : List Registration). AllHaveRoom xs) (sym same) (room_taken (registrations_taken rs client) client (room_taken rs client held.room));
      ends = subst (λ (n : ℕ). n ≤ l.spare) (sym (ap open_ends same ∙ ends_taken (registrations_taken rs client) client ∙ ends_taken rs client)) held.ends;
    }

-- whether there was memory or not

pub taken_ok : {A E : Type 0} (ls ms : List Listening) (client : ℕ) (r : Result A E) → OnOk r (ms ≡ taken_by ls client) → OnOk r (registrations ms ≡ registrations_taken (registrations ls) client)
taken_ok ls ms client (Ok x) e = ap registrations e ∙ taken_kept ls client
taken_ok ls ms client (Err x) e = tt

pub taken_spare : {A E : Type 0} (spare : ℕ) (ls ms : List Listening) (client : ℕ) (r : Result A E) → OnOk r (ms ≡ taken_by ls client) → OnErr r (ms ≡ ls) → spare - open_ends (registrations ms) ≡ spare - open_ends (registrations ls)
taken_spare spare ls ms client (Ok x) e f = ap (λ (n : ℕ). spare - n) (ap open_ends (ap registrations e ∙ taken_kept ls client) ∙ ends_taken (registrations ls) client)
taken_spare spare ls ms client (Err x) e f = ap (λ (xs : List Listening). spare - open_ends (registrations xs)) f

pub taken_held : {A E : Type 0} (l : Ledgered) (ls ms : List Listening) (client : ℕ) (r : Result A E) → IsHeld l ls → OnOk r (ms ≡ taken_by ls client) → OnErr r (ms ≡ ls) → IsHeld l ms
taken_held l ls ms client (Ok x) held e f = subst (λ (xs : List Listening). IsHeld l xs) (sym e) (held_taken l ls client held)
taken_held l ls ms client (Err x) held e f = subst (λ (xs : List Listening). IsHeld l xs) (sym f) held

pub dropped_spare : (spare : ℕ) (ls ms : List Listening) (client : ℕ) → AreApart ls → ms ≡ dropped_by ls client → spare - open_ends (registrations ms) ≡ spare - open_ends (registrations ls)
dropped_spare spare ls ms client apart e =
    ap (λ (n : ℕ). spare - n)
    (ap open_ends (ap registrations e ∙ dropped_kept ls client apart) ∙ ends_taken (registrations_taken (registrations ls) client) client ∙ ends_taken (registrations ls) client)
