-- Why the marks of the cuts that are due are lawful.
use Rattle.std.proofs.Common.{◌≡◌, ℕ, ◌+◌, ◌-◌, ◌<◌, ◌≤◌, ◌^◌, ◌⊎◌, inl, inr, List, [], ◌∷◌, ◌++◌, filter, find, map, length, Bool, true, false, not, ◌&&◌, ◌||◌, ◌==◌, nat_le, nat_lt, min, Option, None, Some, if◌then◌else◌, refl, sym, ap, ◌∙◌, subst, arith}
use Rattle.std.specs.List.{list_any}
use Rattle.std.proofs.lemmas.Bool.Decides.{nat_tests}
use Rattle.std.proofs.lemmas.List.{append_assoc, length-append}
use Rattle.domain_spec.specs.Types.{Transition}
use Rattle.domain_spec.specs.declared.mark.Mark.{Mark}
use Rattle.domain_spec.specs.declared.mark.Mark.TheVariants as mark
use Rattle.domain_spec.specs.declared.standing.Client.{Client}
use Rattle.domain_spec.specs.declared.standing.Registration.{Registration}
use Rattle.domain_spec.specs.declared.standing.Standing.{Standing}
use Rattle.domain_spec.specs.ChapterLaws.{Agree, as_before}
use Rattle.domain_spec.specs.Fold.{after, is_client, registered, with_more, without_client}
use Rattle.domain_spec.specs.Legal.{IsCut, IsCutOf, IsLegal, MarksLoss, client_named}
use Rattle.domain_spec.specs.Registrations.{HasRoom, is_numbered, with_pending}
use Rattle.domain_spec.specs.Turns.{AllHaveRoom}
use Rattle.event_queue.specs.CutLaws.{AreDifferent, CutsAreLawful}
use Rattle.event_queue.specs.Telling.{cuts_due, is_over, most_of}
use Rattle.event_queue.proofs.Cutting.{IsNone, and_parts, none_pend, or_parts, other, over_lost, pend_client, pend_different, pend_is, same, taken_most}

-- this client is the registration's, and the last mark brought it past what it may keep, if anything did
record IsClientOf (r : Registration) (c : Client) : Type 0 where
  client : c.client ≡ r.client
  total : c.total ≡ r.taken + length r.pending
  before : c.before ≤ r.taken + most_of r
  taken : r.taken ≤ 2 ^ 62

-- clients are those of these registrations, in their order
abbrev ArePairs : List Registration → List Client → Type 0
ArePairs [] [] = Unit {0}
ArePairs (r ∷ rs) (c ∷ cs) = IsClientOf r c × ArePairs rs cs
ArePairs rs cs = ⊥

-- those that were not cut
abbrev open_of : List Registration → List Registration
open_of rs = filter (λ r. not r.is_lost) rs

-- a registration as a client that has come to what it keeps
abbrev client_of : Registration → Client
client_of r = record { number = r.number; client = r.client; before = r.taken + length r.pending; total = r.taken + length r.pending }

registered_if : (b : Bool) (r : Registration) (cs : List Client) (rs : List Registration) → cs ≡ map client_of rs
    → (if b then cs else client_of r ∷ cs) ≡ map client_of (if not b then r ∷ rs else rs)
registered_if true r cs rs e = e
registered_if false r cs rs e = ap (λ (xs : List Client). client_of r ∷ xs) e

registered_open : (rs : List Registration) → registered rs ≡ map client_of (open_of rs)
registered_open [] = refl
registered_open (r ∷ rs) = registered_if r.is_lost r (registered rs) (open_of rs) (registered_open rs)

-- a registration that was cut is not cut again
lost_stays : (r : Registration) (events : List Transition) → r.is_lost ≡ true → is_over (with_pending events r) ≡ false
lost_stays r events e = ap is_over (pend_is r events true e) ∙ ap (λ (b : Bool). not b && nat_lt (most_of r) (length r.pending)) e

cuts_if : (lost : Bool) (r : Registration) (events : List Transition) (rs os : List Registration) → r.is_lost ≡ lost → cuts_due (map (with_pending events) rs) ≡ cuts_due (map (with_pending events) os)
    → cuts_due (with_pending events r ∷ map (with_pending events) rs) ≡ cuts_due (map (with_pending events) (if not lost then r ∷ os else os))
cuts_if true r events rs os e h =
    ap (λ (b : Bool). if b then mark.Cut (with_pending events r).client ((with_pending events r).taken + most_of (with_pending events r)) (with_pending events r).taken ∷ cuts_due (map (with_pending events) rs) else cuts_due (map (with_pending events) rs)) (lost_stays r events e) ∙ h
cuts_if false r events rs os e h =
    ap (λ (ms : List (Mark ℕ)). if is_over (with_pending events r) then mark.Cut (with_pending events r).client ((with_pending events r).taken + most_of (with_pending events r)) (with_pending events r).taken ∷ ms else ms) h

cuts_open : (rs : List Registration) (events : List Transition) → cuts_due (map (with_pending events) rs) ≡ cuts_due (map (with_pending events) (open_of rs))
cuts_open [] events = refl
cuts_open (r ∷ rs) events = cuts_if r.is_lost r events rs (open_of rs) refl (cuts_open rs events)

none_if : (b : Bool) (r : Registration) (os : List Registration) (client : ℕ) → is_numbered client r ≡ false → IsNone client os → IsNone client (if not b then r ∷ os else os)
none_if true r os client e h = h
none_if false r os client e h = ap (λ (b : Bool). b || list_any (is_numbered client) os) e ∙ h

none_open : (rs : List Registration) (client : ℕ) → IsNone client rs → IsNone client (open_of rs)
none_open [] client e = refl
none_open (r ∷ rs) client e =
    let h = or_parts (is_numbered client r) (list_any (is_numbered client) rs) e in
    none_if r.is_lost r (open_of rs) client h.0 (none_open rs client h.1)

different_if : (b : Bool) (r : Registration) (os : List Registration) → IsNone r.client os → AreDifferent os → AreDifferent (if not b then r ∷ os else os)
different_if true r os e h = h
different_if false r os e h = (e, h)

different_open : (rs : List Registration) → AreDifferent rs → AreDifferent (open_of rs)
different_open [] differ = tt
different_open (r ∷ rs) differ = different_if r.is_lost r (open_of rs) (none_open rs r.client differ.0) (different_open rs differ.1)

-- all of these go on, and have room
abbrev AllOpen : List Registration → Type 0
AllOpen [] = Unit {0}
AllOpen (r ∷ rs) = (r.is_lost ≡ false) × HasRoom r × AllOpen rs

open_if : (b : Bool) (r : Registration) (os : List Registration) → r.is_lost ≡ b → HasRoom r → AllOpen os → AllOpen (if not b then r ∷ os else os)
open_if true r os e room h = h
open_if false r os e room h = (e, room, h)

all_open : (rs : List Registration) → AllHaveRoom rs → AllOpen (open_of rs)
all_open [] all = tt
all_open (r ∷ rs) all = open_if r.is_lost r (open_of rs) refl all.0 (all_open rs all.1)

-- the clients after the mark are those of the registrations

total_is : (a b : Client) → a ≡ b → (a.client ≡ b.client) × (a.total ≡ b.total)
total_is a b e = (ap (λ (c : Client). c.client) e, ap (λ (c : Client). c.total) e)

most_is : (r : Registration) → HasRoom r → r.taken + length r.pending ≤ r.taken + most_of r
most_is r h = let p = h.pending in let c = h.came in grind (arith, nat_tests, p, c)

client_pends : (r : Registration) (c : Client) (events : List Transition) → r.is_lost ≡ false → HasRoom r → client_of r ≡ as_before c → IsClientOf (with_pending events r) (with_more (length events) c)
client_pends r c events open_still room e =
    let is = total_is (client_of r) (as_before c) e in
    let count = length-append r.pending events in
    subst (λ (x : Registration). IsClientOf x (with_more (length events) c)) (sym (pend_is r events false open_still))
    (record {
      client = sym is.0;
      total = let t = is.1 in omega (arith, t, count);
      before = let t = is.1 in let m = most_is r room in omega (arith, t, m);
      taken = taken_most r room;
    })

pairs_pend : (os : List Registration) (cs : List Client) (events : List Transition) → AllOpen os → map client_of os ≡ map as_before cs
    → ArePairs (map (with_pending events) os) (map (with_more (length events)) cs)
pairs_pend [] [] events all e = tt
pairs_pend [] (c ∷ cs) events all e = cc
pairs_pend (r ∷ os) [] events all e = cc
pairs_pend (r ∷ os) (c ∷ cs) events all e =
    let first : client_of r ≡ as_before c = cc in
    let rest : map client_of os ≡ map as_before cs = cc in
    (client_pends r c events all.0 all.1 first, pairs_pend os cs events all.2 rest)

-- one cut after the other

-- no client of these has this number
abbrev NoClient : ℕ → List Client → Type 0
NoClient client cs = list_any (is_client client) cs ≡ false

no_pair : (rs : List Registration) (cs : List Client) (client : ℕ) → ArePairs rs cs → IsNone client rs → NoClient client cs
no_pair [] [] client pairs e = refl
no_pair [] (c ∷ cs) client pairs e = absurd pairs
no_pair (r ∷ rs) [] client pairs e = absurd pairs
no_pair (r ∷ rs) (c ∷ cs) client pairs e =
    let h = or_parts (is_numbered client r) (list_any (is_numbered client) rs) e in
    ap (λ (n : ℕ). (n == client) || list_any (is_client client) cs) pairs.0.client
    ∙ ap (λ (b : Bool). b || list_any (is_client client) cs) h.0 ∙ no_pair rs cs client pairs.1 h.1

-- the clients in front are others than those of the registrations
abbrev AreOthers : List Client → List Registration → Type 0
AreOthers front [] = Unit {0}
AreOthers front (r ∷ rs) = NoClient r.client front × AreOthers front rs

no_more : (front : List Client) (c : Client) (client : ℕ) → NoClient client front → is_client client c ≡ false → NoClient client (front ++ c ∷ [])
no_more [] c client e f = ap (λ (b : Bool). b || false) f
no_more (d ∷ front) c client e f =
    let h = or_parts (is_client client d) (list_any (is_client client) front) e in
    ap (λ (b : Bool). b || list_any (is_client client) (front ++ c ∷ [])) h.0 ∙ no_more front c client h.1 f

others_more : (front : List Client) (c : Client) (rs : List Registration) (n : ℕ) → c.client ≡ n → IsNone n rs → AreOthers front rs → AreOthers (front ++ c ∷ []) rs
others_more front c [] n e none others = tt
others_more front c (r ∷ rs) n e none others =
    let h = or_parts (is_numbered n r) (list_any (is_numbered n) rs) none in
    let apart : is_client r.client c ≡ false = ap (λ (k : ℕ). k == r.client) e ∙ other r.client n h.0 in
    (no_more front c r.client others.0 apart, others_more front c rs n e h.1 others.1)

found_skip : (b : Bool) (d c : Client) (rest : Option Client) → b ≡ false → (if b then Some d else rest) ≡ rest
found_skip true d c rest e = cc
found_skip false d c rest e = refl

client_found : (front cs : List Client) (c : Client) (n : ℕ) → NoClient n front → c.client ≡ n → find (is_client n) (front ++ c ∷ cs) ≡ Some c
client_found [] cs c n none e =
    ap (λ (b : Bool). if b then Some c else find (is_client n) cs) (ap (λ (k : ℕ). k == n) e ∙ same n)
client_found (d ∷ front) cs c n none e =
    let h = or_parts (is_client n d) (list_any (is_client n) front) none in
    found_skip (is_client n d) d c (find (is_client n) (front ++ c ∷ cs)) h.0 ∙ client_found front cs c n h.1 e

kept_if : (b : Bool) (d : Client) (cs : List Client) → b ≡ false → (if not b then d ∷ cs else cs) ≡ d ∷ cs
kept_if true d cs e = cc
kept_if false d cs e = refl

gone_if : (b : Bool) (d : Client) (cs : List Client) → b ≡ true → (if not b then d ∷ cs else cs) ≡ cs
gone_if true d cs e = refl
gone_if false d cs e = cc

without_none : (cs : List Client) (n : ℕ) → NoClient n cs → without_client cs n ≡ cs
without_none [] n e = refl
without_none (d ∷ cs) n e =
    let h = or_parts (is_client n d) (list_any (is_client n) cs) e in
    kept_if (is_client n d) d (without_client cs n) h.0 ∙ ap (λ (xs : List Client). d ∷ xs) (without_none cs n h.1)

without_one : (front cs : List Client) (c : Client) (n : ℕ) → NoClient n front → c.client ≡ n → NoClient n cs → without_client (front ++ c ∷ cs) n ≡ front ++ cs
without_one [] cs c n none e last = gone_if (is_client n c) c (without_client cs n) (ap (λ (k : ℕ). k == n) e ∙ same n) ∙ without_none cs n last
without_one (d ∷ front) cs c n none e last =
    let h = or_parts (is_client n d) (list_any (is_client n) front) none in
    kept_if (is_client n d) d (without_client (front ++ c ∷ cs) n) h.0 ∙ ap (λ (xs : List Client). d ∷ xs) (without_one front cs c n h.1 e last)

full_by : (taken : ℕ) (b : Bool) → nat_le (taken + 256) (2 ^ 62) ≡ b → taken ≤ 2 ^ 62
    → (taken + (min (taken + 256) (2 ^ 62) - taken) ≡ taken + 256) ⊎ (taken + (min (taken + 256) (2 ^ 62) - taken) ≡ 2 ^ 62)
full_by taken true e le = inl (grind (arith, nat_tests, e, le))
full_by taken false e le = inr (grind (arith, nat_tests, e, le))

cut_of : (r : Registration) (c : Client) → IsClientOf r c → is_over r ≡ true → IsCutOf c (r.taken + most_of r) r.taken
cut_of r c h over =
    let much = (and_parts (not r.is_lost) (nat_lt (most_of r) (length r.pending)) over).1 in
    let total = h.total in
    record {
      not_before = h.before;
      passed = grind (arith, nat_tests, much, total);
      full = full_by r.taken (nat_le (r.taken + 256) (2 ^ 62)) refl h.taken;
      all = omega arith;
    }

-- the cuts of these are lawful, where the clients after those in front are theirs
abbrev AreLawful : List Registration → Type 0
AreLawful rs = (front cs : List Client) (s : Standing) → s.lost ≡ None → s.clients ≡ front ++ cs → ArePairs rs cs → AreOthers front rs → AreDifferent rs → IsLegal s (cuts_due rs)

cut_first : (over : Bool) (r : Registration) (rs : List Registration) (front cs : List Client) (c : Client) (s : Standing) → is_over r ≡ over → s.lost ≡ None → s.clients ≡ front ++ c ∷ cs
    → IsClientOf r c → ArePairs rs cs → AreOthers front (r ∷ rs) → AreDifferent (r ∷ rs) → AreLawful rs → IsLegal s (cuts_due (r ∷ rs))
cut_first true r rs front cs c s over lost clients is pairs others differ rest =
    let m : Mark ℕ = mark.Cut r.client (r.taken + most_of r) r.taken in
    let found : client_named s.clients r.client ≡ Some c = ap (λ (xs : List Client). find (is_client r.client) xs) clients ∙ client_found front cs c r.client others.0 is.client in
    let left : without_client s.clients r.client ≡ front ++ cs =
    ap (λ (xs : List Client). without_client xs r.client) clients ∙ without_one front cs c r.client others.0 is.client (no_pair rs cs r.client pairs differ.0) in
    subst (λ (ms : List (Mark ℕ)). IsLegal s ms) (sym (ap (λ (b : Bool). if b then m ∷ cuts_due rs else cuts_due rs) over)) (
      record {
        in_order = subst (λ (o : Option Client). IsCut o (r.taken + most_of r) r.taken) (sym found) (cut_of r c is over);
        loss = subst (λ (o : Option ℕ). MarksLoss o m) (sym lost) tt;
      },
      rest front cs (after s m) lost left pairs others.1 differ.1,
    )
cut_first false r rs front cs c s over lost clients is pairs others differ rest =
    subst (λ (ms : List (Mark ℕ)). IsLegal s ms) (sym (ap (λ (b : Bool). if b then mark.Cut r.client (r.taken + most_of r) r.taken ∷ cuts_due rs else cuts_due rs) over))
    (rest (front ++ c ∷ []) cs s lost (clients ∙ sym (append_assoc front (c ∷ []) cs)) pairs (others_more front c rs r.client is.client differ.0 others.1) differ.1)

cuts_lawful : (rs : List Registration) → AreLawful rs
cuts_lawful [] front cs s lost clients pairs others differ = tt
cuts_lawful (r ∷ rs) front [] s lost clients pairs others differ = absurd pairs
cuts_lawful (r ∷ rs) front (c ∷ cs) s lost clients pairs others differ =
    cut_first (is_over r) r rs front cs c s refl lost clients pairs.0 pairs.1 others differ (cuts_lawful rs)

no_others : (rs : List Registration) → AreOthers [] rs
no_others [] = tt
no_others (r ∷ rs) = (refl, no_others rs)

pub cuts_are_lawful : CutsAreLawful
cuts_are_lawful s rs m events agree differ room clients lost =
    let open_ones : List Registration = open_of rs in
    let pairs = pairs_pend open_ones s.clients events (all_open rs room) (sym (registered_open rs) ∙ agree) in
    subst (λ (ms : List (Mark ℕ)). IsLegal (after s m) ms) (sym (cuts_open rs events))
    (cuts_lawful (map (with_pending events) open_ones) [] (map (with_more (length events)) s.clients) (after s m) lost clients pairs
    (no_others (map (with_pending events) open_ones)) (pend_different open_ones events (different_open rs differ)))
