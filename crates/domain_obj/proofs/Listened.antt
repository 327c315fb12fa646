-- The listener of a client, and its registration.
use Rattle.std.proofs.Common.{◌≡◌, ℕ, ◌+◌, ◌||◌, zero, suc, List, [], ◌∷◌, find, length, slice_get, refl, sym, ap, ◌∙◌, subst, Bool, true, false, if◌then◌else◌, Option, None, Some, option_map}
use Rattle.std.specs.List.{list_any}
use Rattle.std.proofs.lemmas.Bool.{eqb-true}
use Rattle.domain_spec.specs.Types.{Transition}
use Rattle.domain_spec.specs.declared.standing.Registration.{Registration}
use Rattle.domain_spec.specs.Registrations.{is_numbered, tells_loss}
use Rattle.domain_core.specs.Below.core_owed.Owing.{AreApart}
use Rattle.domain_core.specs.Below.event_queue.declared.taken.Taken.TheVariants as taken
use Rattle.domain_core.specs.Below.event_queue.Listening.{HandsOut, Listening, dropped_by, emptied, emptied_by, has_client, is_lost, is_of, left_by, listening_of, loss_told, pending_of, registrations}

-- the same among the registrations

kept_if : (b : Bool) (l : Listening) (rest : Option Registration) (more : Option Listening) → rest ≡ option_map (λ (x : Listening). x.kept) more
    → (if b then Some l.kept else rest) ≡ option_map (λ (x : Listening). x.kept) (if b then Some l else more)
kept_if true l rest more e = refl
kept_if false l rest more e = e

pub kept_found : (ls : List Listening) (client : ℕ) → find (is_numbered client) (registrations ls) ≡ option_map (λ (x : Listening). x.kept) (listening_of ls client)
kept_found [] client = refl
kept_found (l ∷ ls) client = kept_if (is_of client l) l (find (is_numbered client) (registrations ls)) (listening_of ls client) (kept_found ls client)

-- a listener of a client with this registration
pub record IsListener (ls : List Listening) (client : ℕ) (r : Registration) : Type 0 where
  pub one : Listening
  pub found : listening_of ls client ≡ Some one
  pub kept : one.kept ≡ r

listener_if : (ls : List Listening) (client : ℕ) (o : Option Listening) (r : Registration) → listening_of ls client ≡ o → option_map (λ (x : Listening). x.kept) o ≡ Some r → IsListener ls client r
listener_if ls client None r is e = cc
listener_if ls client (Some l) r is e = record { one = l; found = is; kept = cc }

pub listener_of : (ls : List Listening) (client : ℕ) (r : Registration) → find (is_numbered client) (registrations ls) ≡ Some r → IsListener ls client r
listener_of ls client r found = listener_if ls client (listening_of ls client) r refl (sym (kept_found ls client) ∙ found)

pub has_kept : (ls : List Listening) (client : ℕ) → has_client ls client ≡ list_any (is_numbered client) (registrations ls)
has_kept [] client = refl
has_kept (l ∷ ls) client = ap (λ (b : Bool). is_of client l || b) (has_kept ls client)

-- what was handed out

told_if : (b : Bool) (lost : ℕ) → (if b then Some lost else None) ≡ None → b ≡ false
told_if true lost e = cc
told_if false lost e = refl

lost_if : (b : Bool) (lost count : ℕ) → (if b then Some lost else None) ≡ Some count → b ≡ true
lost_if true lost count e = refl
lost_if false lost count e = cc

pub events_handed : (ls : List Listening) (client : ℕ) (r : Registration) (events : List Transition) → IsListener ls client r → HandsOut (listening_of ls client) (taken.Events events) → (tells_loss r ≡ false) × (events ≡ r.pending)
events_handed ls client r events l h =
    let told : loss_told (Some l.one) ≡ None = ap loss_told (sym l.found) ∙ h.0 in (
      sym (ap tells_loss l.kept) ∙ told_if (tells_loss l.one.kept) l.one.lost told,
      h.1 ∙ ap pending_of l.found ∙ ap (λ (x : Registration). x.pending) l.kept,
    )

pub loss_handed : (ls : List Listening) (client count : ℕ) (r : Registration) → IsListener ls client r → HandsOut (listening_of ls client) (taken.Lost count) → tells_loss r ≡ true
loss_handed ls client count r l h =
    let told : loss_told (Some l.one) ≡ Some count = ap loss_told (sym l.found) ∙ h in
    sym (ap tells_loss l.kept) ∙ lost_if (tells_loss l.one.kept) l.one.lost count told

-- what was dropped

gone_if : (b : Bool) (l : Listening) (ls : List Listening) (client : ℕ) → is_of client l ≡ b → list_any (is_numbered l.kept.client) (registrations ls) ≡ false → has_client (left_by ls client) client ≡ false
    → has_client (if b then ls else l ∷ left_by ls client) client ≡ false
gone_if true l ls client is none rest = has_kept ls client ∙ subst (λ (k : ℕ). list_any (is_numbered k) (registrations ls) ≡ false) (eqb-true l.kept.client client is) none
gone_if false l ls client is none rest = ap (λ (b : Bool). b || has_client (left_by ls client) client) is ∙ rest

gone_left : (ls : List Listening) (client : ℕ) → AreApart (registrations ls) → has_client (left_by ls client) client ≡ false
gone_left [] client apart = refl
gone_left (l ∷ ls) client apart = gone_if (is_of client l) l ls client refl apart.0 (gone_left ls client apart.1)

emptied_if : (b : Bool) (m l : Listening) (ls : List Listening) (client : ℕ) → is_of client m ≡ b → (if b then Some m else listening_of ls client) ≡ Some l
    → (listening_of ls client ≡ Some l → listening_of (emptied_by ls client) client ≡ Some (emptied l)) → listening_of (if b then emptied m ∷ ls else m ∷ emptied_by ls client) client ≡ Some (emptied l)
emptied_if true m l ls client is e rest =
    let same : m ≡ l = cc in
    ap (λ (b : Bool). if b then Some (emptied m) else listening_of ls client) is ∙ ap (λ (x : Listening). Some (emptied x)) same
emptied_if false m l ls client is e rest = ap (λ (b : Bool). if b then Some m else listening_of (emptied_by ls client) client) is ∙ rest e

emptied_found : (ls : List Listening) (client : ℕ) (l : Listening) → listening_of ls client ≡ Some l → listening_of (emptied_by ls client) client ≡ Some (emptied l)
emptied_found [] client l e = cc
emptied_found (m ∷ ls) client l e = emptied_if (is_of client m) m l ls client refl e (λ more. emptied_found ls client l more)

pub dropped_if : (lost : Bool) (l : Listening) (ls : List Listening) (client : ℕ) → listening_of ls client ≡ Some l → l.kept.is_lost ≡ lost → dropped_by ls client ≡ (if lost then left_by ls client else emptied_by ls client)
dropped_if lost l ls client found is = ap (λ (b : Bool). if b then left_by ls client else emptied_by ls client) (ap is_lost found ∙ is)

pub dropped_gone : (ls : List Listening) (client : ℕ) (r : Registration) → AreApart (registrations ls) → IsListener ls client r → r.is_lost ≡ true → has_client (dropped_by ls client) client ≡ false
dropped_gone ls client r apart l lost =
    ap (λ (ms : List Listening). has_client ms client) (dropped_if true l.one ls client l.found (ap (λ (x : Registration). x.is_lost) l.kept ∙ lost)) ∙ gone_left ls client apart

pub dropped_found : (ls : List Listening) (client : ℕ) (r : Registration) → IsListener ls client r → r.is_lost ≡ false
    → find (is_numbered client) (registrations (dropped_by ls client)) ≡ Some (record r { taken = r.taken + length r.pending; pending = [] })
dropped_found ls client r l kept =
    kept_found (dropped_by ls client) client
    ∙ ap (λ (ms : List Listening). option_map (λ (x : Listening). x.kept) (listening_of ms client)) (dropped_if false l.one ls client l.found (ap (λ (x : Registration). x.is_lost) l.kept ∙ kept))
    ∙ ap (λ (o : Option Listening). option_map (λ (x : Listening). x.kept) o) (emptied_found ls client l.one l.found)
    ∙ ap (λ (x : Registration). Some (record x { taken = x.taken + length x.pending; pending = [] })) l.kept

-- its place

place_if : (b : Bool) (x r : Registration) (rs : List Registration) (rest : Option Registration) → (if b then Some x else rest) ≡ Some r → (rest ≡ Some r → (place : ℕ) × (slice_get rs place ≡ Some r)) → (place : ℕ) × (slice_get (x ∷ rs) place ≡ Some r)
place_if true x r rs rest e more = (zero, e)
place_if false x r rs rest e more = let there = more e in (suc there.0, there.1)

pub found_place : (rs : List Registration) (client : ℕ) (r : Registration) → find (is_numbered client) rs ≡ Some r → (place : ℕ) × (slice_get rs place ≡ Some r)
found_place [] client r e = cc
found_place (x ∷ rs) client r e = place_if (is_numbered client x) x r rs (find (is_numbered client) rs) e (λ more. found_place rs client r more)
