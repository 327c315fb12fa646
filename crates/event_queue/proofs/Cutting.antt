-- Why just the cuts that are due are marked, and what they leave.
use Rattle.std.proofs.Common.{◌≡◌, ℕ, ◌+◌, ◌-◌, ◌≤◌, ◌^◌, List, [], ◌∷◌, ◌++◌, map, find, take, length, Bool, true, false, not, ◌&&◌, ◌||◌, ◌==◌, nat_lt, min, Option, None, Some, if◌then◌else◌, refl, sym, ap, ◌∙◌, subst, arith}
use Rattle.std.specs.List.{list_any}
use Rattle.std.proofs.lemmas.Bool.Decides.{nat_tests}
use Rattle.std.proofs.lemmas.List.{append-nil, append_assoc, length-take, map-append}
use Rattle.domain_spec.specs.Types.{Transition}
use Rattle.domain_spec.specs.declared.mark.Mark.{Mark}
use Rattle.domain_spec.specs.declared.mark.Mark.TheVariants as mark
use Rattle.domain_spec.specs.declared.standing.Registration.{Registration}
use Rattle.domain_spec.specs.Registrations.{HasRoom, cut_after, is_numbered, registrations_after, registrations_at, with_pending}
use Rattle.domain_spec.specs.Turns.{AllHaveRoom, AreCut, Took}
use Rattle.event_queue.specs.CutLaws.{AreCutThen, AreDifferent, CutsAreDue}
use Rattle.event_queue.specs.Telling.{cut_if_over, cuts_due, is_over, most_of, told}

pub or_parts : (b c : Bool) → (b || c) ≡ false → (b ≡ false) × (c ≡ false)
or_parts true c e = cc
or_parts false c e = (refl, e)

pub and_parts : (b c : Bool) → (b && c) ≡ true → (b ≡ true) × (c ≡ true)
and_parts true c e = (refl, e)
and_parts false c e = cc

not_lost : (b : Bool) → not b ≡ true → b ≡ false
not_lost true e = cc
not_lost false e = refl

pub other : (m n : ℕ) → (m == n) ≡ false → (n == m) ≡ false
other m n e = grind (arith, nat_tests, e)

pub same : (n : ℕ) → (n == n) ≡ true
same n = grind (arith, nat_tests)

-- no registration of these is this client's
abbrev pub IsNone : ℕ → List Registration → Type 0
IsNone client rs = list_any (is_numbered client) rs ≡ false

none_more : (rs : List Registration) (r : Registration) (client : ℕ) → IsNone client rs → is_numbered client r ≡ false → IsNone client (rs ++ r ∷ [])
none_more [] r client e f = ap (λ (b : Bool). b || false) f
none_more (s ∷ rs) r client e f =
    let h = or_parts (is_numbered client s) (list_any (is_numbered client) rs) e in
    ap (λ (b : Bool). b || list_any (is_numbered client) (rs ++ r ∷ [])) h.0 ∙ none_more rs r client h.1 f

-- the later ones are other clients' than those before
abbrev AreFresh : List Registration → List Registration → Type 0
AreFresh done [] = Unit {0}
AreFresh done (r ∷ rs) = IsNone r.client done × AreFresh done rs

fresh_more : (done rs : List Registration) (r : Registration) → AreFresh done rs → IsNone r.client rs → AreFresh (done ++ r ∷ []) rs
fresh_more done [] r fresh e = tt
fresh_more done (s ∷ rs) r fresh e =
    let h = or_parts (is_numbered r.client s) (list_any (is_numbered r.client) rs) e in
    (none_more done r s.client fresh.0 (other s.client r.client h.0), fresh_more done rs r fresh.1 h.1)

-- the registration is found after the others
found_if : (b : Bool) (p : Registration → Bool) (r : Registration) (rest : Option Registration) → p r ≡ b → b ≡ true → (if p r then Some r else rest) ≡ Some r
found_if true p r rest e f = ap (λ (b : Bool). if b then Some r else rest) e
found_if false p r rest e f = cc

passed_if : (b c : Bool) (r : Registration) (rest : Option Registration) → b ≡ false → (if b && c then Some r else rest) ≡ rest
passed_if true c r rest e = cc
passed_if false c r rest e = refl

found_past : (done rs : List Registration) (r : Registration) → IsNone r.client done → r.is_lost ≡ false
    → find (λ x. is_numbered r.client x && not x.is_lost) (done ++ r ∷ rs) ≡ Some r
found_past [] rs r none is =
    ap (λ (b : Bool). if b && not r.is_lost then Some r else find (λ x. is_numbered r.client x && not x.is_lost) rs) (same r.client)
    ∙ ap (λ (b : Bool). if not b then Some r else find (λ x. is_numbered r.client x && not x.is_lost) rs) is
found_past (d ∷ done) rs r none is =
    let h = or_parts (is_numbered r.client d) (list_any (is_numbered r.client) done) none in
    passed_if (is_numbered r.client d) (not d.is_lost) d (find (λ x. is_numbered r.client x && not x.is_lost) (done ++ r ∷ rs)) h.0 ∙ found_past done rs r h.1 is

-- a cut changes no other registration
uncut_if : (b c : Bool) (r s : Registration) → b ≡ false → (if b && c then s else r) ≡ r
uncut_if true c r s e = cc
uncut_if false c r s e = refl

others_stay : (rs : List Registration) (client total : ℕ) → IsNone client rs → map (cut_after client total) rs ≡ rs
others_stay [] client total e = refl
others_stay (r ∷ rs) client total e =
    let h = or_parts (is_numbered client r) (list_any (is_numbered client) rs) e in
    ap (λ (x : Registration). x ∷ map (cut_after client total) rs) (uncut_if (is_numbered client r) (not r.is_lost) r _ h.0)
    ∙ ap (λ (xs : List Registration). r ∷ xs) (others_stay rs client total h.1)

less : (n m : ℕ) → (n + m) - n ≡ m
less n m = omega arith

is_cut : (r : Registration) → r.is_lost ≡ false → is_over r ≡ true → cut_after r.client (r.taken + most_of r) r ≡ cut_if_over r
is_cut r is over =
    ap (λ (b : Bool). if b && not r.is_lost then record r { pending = take ((r.taken + most_of r) - r.taken) r.pending; is_lost = true } else r) (same r.client)
    ∙ ap (λ (b : Bool). if not b then record r { pending = take ((r.taken + most_of r) - r.taken) r.pending; is_lost = true } else r) is
    ∙ ap (λ (n : ℕ). record r { pending = take n r.pending; is_lost = true }) (less r.taken (most_of r))
    ∙ ap (λ (b : Bool). if b then record r { pending = take (most_of r) r.pending; is_lost = true } else r) (sym over)

cut_among : (done rs : List Registration) (r : Registration) → IsNone r.client done → IsNone r.client rs → r.is_lost ≡ false → is_over r ≡ true
    → map (cut_after r.client (r.taken + most_of r)) (done ++ r ∷ rs) ≡ (done ++ cut_if_over r ∷ []) ++ rs
cut_among done rs r none last is over =
    map-append (cut_after r.client (r.taken + most_of r)) done (r ∷ rs)
    ∙ ap (λ (xs : List Registration). xs ++ map (cut_after r.client (r.taken + most_of r)) (r ∷ rs)) (others_stay done r.client (r.taken + most_of r) none)
    ∙ ap (λ (x : Registration). done ++ x ∷ map (cut_after r.client (r.taken + most_of r)) rs) (is_cut r is over)
    ∙ ap (λ (xs : List Registration). done ++ cut_if_over r ∷ xs) (others_stay rs r.client (r.taken + most_of r) last)
    ∙ sym (append_assoc done (cut_if_over r ∷ []) rs)

-- room

room_more : (rs : List Registration) (r : Registration) → AllHaveRoom rs → HasRoom r → AllHaveRoom (rs ++ r ∷ [])
room_more [] r all h = (h, tt)
room_more (s ∷ rs) r all h = (all.0, room_more rs r all.1 h)

-- a registration that was cut before, or that had room, has room once it is cut where that is due
abbrev IsReady : Registration → Type 0
IsReady r = (is_over r ≡ false → HasRoom r) × (r.taken ≤ 2 ^ 62)

cut_room : (r : Registration) (over : Bool) → is_over r ≡ over → IsReady r → HasRoom (cut_if_over r)
cut_room r true e ready =
    let count = length-take (most_of r) r.pending in
    subst (λ (x : Registration). HasRoom x) (ap (λ (b : Bool). if b then record r { pending = take (most_of r) r.pending; is_lost = true } else r) (sym e))
    (record { pending = omega (arith, count, ready.1); came = omega (arith, count, ready.1) })
cut_room r false e ready = subst (λ (x : Registration). HasRoom x) (ap (λ (b : Bool). if b then record r { pending = take (most_of r) r.pending; is_lost = true } else r) (sym e)) (ready.0 e)

abbrev AllReady : List Registration → Type 0
AllReady [] = Unit {0}
AllReady (r ∷ rs) = IsReady r × AllReady rs

pub over_lost : (r : Registration) → is_over r ≡ true → r.is_lost ≡ false
over_lost r e = not_lost r.is_lost (and_parts (not r.is_lost) (nat_lt (most_of r) (length r.pending)) e).0

cut_client : (r : Registration) (over : Bool) → is_over r ≡ over → (cut_if_over r).client ≡ r.client
cut_client r true e = ap (λ (b : Bool). (if b then record r { pending = take (most_of r) r.pending; is_lost = true } else r).client) e
cut_client r false e = ap (λ (b : Bool). (if b then record r { pending = take (most_of r) r.pending; is_lost = true } else r).client) e

-- the cuts of those that follow, where the ones before have room
record AreLeft (done rs : List Registration) : Type 0 where
  due : AreCut (done ++ rs) (cuts_due rs)
  left : registrations_at (done ++ rs) (cuts_due rs) ≡ done ++ map cut_if_over rs

left_by : (over : Bool) (r : Registration) (rs done : List Registration) → is_over r ≡ over → AllHaveRoom done → AllReady (r ∷ rs) → AreFresh done (r ∷ rs) → AreDifferent (r ∷ rs)
    → AreLeft (done ++ cut_if_over r ∷ []) rs → AreLeft done (r ∷ rs)
left_by true r rs done e all ready fresh differ rest =
    let is : r.is_lost ≡ false = over_lost r e in
    let total : ℕ = r.taken + most_of r in
    let after : map (cut_after r.client total) (done ++ r ∷ rs) ≡ (done ++ cut_if_over r ∷ []) ++ rs = cut_among done rs r fresh.0 differ.0 is e in
    let marks : cuts_due (r ∷ rs) ≡ mark.Cut r.client total r.taken ∷ cuts_due rs = ap (λ (b : Bool). if b then mark.Cut r.client total r.taken ∷ cuts_due rs else cuts_due rs) e in
    record {
      due =
          subst (λ (ms : List (Mark ℕ)). AreCut (done ++ r ∷ rs) ms) (sym marks) (
            subst (λ (o : Option Registration). Took o r.taken) (sym (found_past done rs r fresh.0 is)) refl,
            subst (λ (xs : List Registration). AreCut xs (cuts_due rs)) (sym after) rest.due,
          );
      left =
          ap (λ (ms : List (Mark ℕ)). registrations_at (done ++ r ∷ rs) ms) marks
          ∙ ap (λ (xs : List Registration). registrations_at xs (cuts_due rs)) after ∙ rest.left ∙ append_assoc done (cut_if_over r ∷ []) (map cut_if_over rs);
    }
left_by false r rs done e all ready fresh differ rest =
    let stays : cut_if_over r ≡ r = ap (λ (b : Bool). if b then record r { pending = take (most_of r) r.pending; is_lost = true } else r) e in
    let marks : cuts_due (r ∷ rs) ≡ cuts_due rs = ap (λ (b : Bool). if b then mark.Cut r.client (r.taken + most_of r) r.taken ∷ cuts_due rs else cuts_due rs) e in
    let all_of : done ++ r ∷ rs ≡ (done ++ cut_if_over r ∷ []) ++ rs = ap (λ (x : Registration). done ++ x ∷ rs) (sym stays) ∙ sym (append_assoc done (cut_if_over r ∷ []) rs) in
    record {
      due =
          subst (λ (ms : List (Mark ℕ)). AreCut (done ++ r ∷ rs) ms) (sym marks)
          (subst (λ (xs : List Registration). AreCut xs (cuts_due rs)) (sym all_of) rest.due);
      left =
          ap (λ (ms : List (Mark ℕ)). registrations_at (done ++ r ∷ rs) ms) marks
          ∙ ap (λ (xs : List Registration). registrations_at xs (cuts_due rs)) all_of ∙ rest.left ∙ append_assoc done (cut_if_over r ∷ []) (map cut_if_over rs);
    }

all_left : (rs done : List Registration) → AllHaveRoom done → AllReady rs → AreFresh done rs → AreDifferent rs → AreLeft done rs
all_left [] done all ready fresh differ =
    record { due = subst (λ (xs : List Registration). AllHaveRoom xs) (sym (append-nil done)) all; left = refl }
all_left (r ∷ rs) done all ready fresh differ =
    let client : (cut_if_over r).client ≡ r.client = cut_client r (is_over r) refl in
    left_by (is_over r) r rs done refl all ready fresh differ
    (all_left rs (done ++ cut_if_over r ∷ []) (room_more done (cut_if_over r) all (cut_room r (is_over r) refl ready.0)) ready.1
    (fresh_more done rs (cut_if_over r) fresh.1 (subst (λ (n : ℕ). IsNone n rs) (sym client) differ.0)) differ.1)

-- what these were before more came

pub pend_is : (r : Registration) (events : List Transition) (lost : Bool) → r.is_lost ≡ lost → with_pending events r ≡ (if lost then r else record r { pending = r.pending ++ events })
pend_is r events lost e = ap (λ (b : Bool). if b then r else record r { pending = r.pending ++ events }) e

pub within : (r : Registration) (count : ℕ) → r.is_lost ≡ false → (not r.is_lost && nat_lt (most_of r) count) ≡ false → nat_lt (most_of r) count ≡ false
within r count is e = sym (ap (λ (b : Bool). not b && nat_lt (most_of r) count) is) ∙ e

pend_room : (r : Registration) (events : List Transition) → r.is_lost ≡ false → is_over (record r { pending = r.pending ++ events }) ≡ false → HasRoom r
    → HasRoom (record r { pending = r.pending ++ events })
pend_room r events is e h =
    let few : nat_lt (most_of r) (length (r.pending ++ events)) ≡ false = within r (length (r.pending ++ events)) is e in
    let came = h.came in
    record { pending = grind (arith, nat_tests, few, came); came = grind (arith, nat_tests, few, came) }

pub taken_most : (r : Registration) → HasRoom r → r.taken ≤ 2 ^ 62
taken_most r h = let came = h.came in omega (arith, came)

pend_ready : (r : Registration) (events : List Transition) (lost : Bool) → r.is_lost ≡ lost → HasRoom r → IsReady (with_pending events r)
pend_ready r events true e h = subst (λ (x : Registration). IsReady x) (sym (pend_is r events true e)) (λ not_over. h, taken_most r h)
pend_ready r events false e h = subst (λ (x : Registration). IsReady x) (sym (pend_is r events false e)) (λ not_over. pend_room r events e not_over h, taken_most r h)

all_ready : (rs : List Registration) (events : List Transition) → AllHaveRoom rs → AllReady (map (with_pending events) rs)
all_ready [] events all = tt
all_ready (r ∷ rs) events all = (pend_ready r events r.is_lost refl all.0, all_ready rs events all.1)

pub pend_client : (r : Registration) (events : List Transition) (lost : Bool) → r.is_lost ≡ lost → (with_pending events r).client ≡ r.client
pend_client r events true e = ap (λ (x : Registration). x.client) (pend_is r events true e)
pend_client r events false e = ap (λ (x : Registration). x.client) (pend_is r events false e)

pub none_pend : (rs : List Registration) (events : List Transition) (client : ℕ) → list_any (is_numbered client) (map (with_pending events) rs) ≡ list_any (is_numbered client) rs
none_pend [] events client = refl
none_pend (r ∷ rs) events client =
    ap (λ (n : ℕ). (n == client) || list_any (is_numbered client) (map (with_pending events) rs)) (pend_client r events r.is_lost refl)
    ∙ ap (λ (b : Bool). is_numbered client r || b) (none_pend rs events client)

pub pend_different : (rs : List Registration) (events : List Transition) → AreDifferent rs → AreDifferent (map (with_pending events) rs)
pend_different [] events differ = tt
pend_different (r ∷ rs) events differ = (
  ap (λ (n : ℕ). list_any (is_numbered n) (map (with_pending events) rs)) (pend_client r events r.is_lost refl) ∙ none_pend rs events r.client ∙ differ.0,
  pend_different rs events differ.1,
)

fresh_first : (rs : List Registration) → AreFresh [] rs
fresh_first [] = tt
fresh_first (r ∷ rs) = (refl, fresh_first rs)

told_all : (rs : List Registration) (events : List Transition) → map cut_if_over (map (with_pending events) rs) ≡ map (told events) rs
told_all [] events = refl
told_all (r ∷ rs) events = ap (λ (xs : List Registration). told events r ∷ xs) (told_all rs events)

told_room : (rs : List Registration) (events : List Transition) → AllHaveRoom rs → AllHaveRoom (map (told events) rs)
told_room [] events all = tt
told_room (r ∷ rs) events all =
    (cut_room (with_pending events r) (is_over (with_pending events r)) refl (pend_ready r events r.is_lost refl all.0), told_room rs events all.1)

pub cuts_due_then : CutsAreDue
cuts_due_then rs events differ all =
    let next : List Registration = map (with_pending events) rs in
    let h = all_left next [] tt (all_ready rs events all) (fresh_first next) (pend_different rs events differ) in
    record { due = h.due; left = h.left ∙ told_all rs events; room = told_room rs events all }
