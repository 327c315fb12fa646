-- Which registration is a client's.
use Rattle.std.proofs.Common.{◌≡◌, ℕ, zero, suc, ◌==◌, List, [], ◌∷◌, ◌||◌, slice_get, Bool, true, false, Option, None, Some, if◌then◌else◌, refl, sym, ap, ◌∙◌, subst, arith}
use Rattle.std.proofs.lemmas.Bool.Decides.{nat_tests}
use Rattle.std.specs.List.{list_any}
use Rattle.domain_spec.specs.declared.core_step.CoreStep.TheVariants as step
use Rattle.domain_spec.specs.declared.standing.Registration.{Registration}
use Rattle.domain_spec.specs.CanTake.{CanTake, IsQuiet, IsRegistration}
use Rattle.domain_spec.specs.Cell.{HeldEvent, LentEars, Queue}
use Rattle.domain_spec.specs.Registrations.{is_numbered}
use Rattle.event_queue.specs.Listening.{AreApart, Listening, emptied, emptied_by, has_client, is_of, listening_of, registrations}
use Rattle.core_log.specs.Record.{IsQuietOf, Recorded}
use Rattle.core_steps.specs.Turning.{cell_of}
use Rattle.core_steps.specs.ClientLaws.{LeaversAreQuiet, TakersAreRegistered}
use Rattle.core_steps.specs.Clients.{IsRegisteredBy}

pub same_number : (m n : ℕ) → (m == n) ≡ true → m ≡ n
same_number m n e = grind (arith, nat_tests, e)

own_number : (n : ℕ) → (n == n) ≡ true
own_number n = grind (arith, nat_tests)

pub same_any : (ls : List Listening) (client : ℕ) → list_any (is_numbered client) (registrations ls) ≡ has_client ls client
same_any [] client = refl
same_any (l ∷ ls) client = ap (λ (b : Bool). is_of client l || b) (same_any ls client)

-- a registration that is found is at a place

pub record IsAt (ls : List Listening) (client : ℕ) (l : Listening) : Type 0 where
  pub client_is : l.kept.client ≡ client
  pub place : ℕ
  pub there : slice_get (registrations ls) place ≡ Some l.kept

found_if : (b : Bool) (l k : Listening) (ls : List Listening) (client : ℕ) → is_of client l ≡ b → (if b then Some l else listening_of ls client) ≡ Some k → (listening_of ls client ≡ Some k → IsAt ls client k) → IsAt (l ∷ ls) client k
found_if true l k ls client is e rest =
    let same : l ≡ k = cc in
    record { client_is = ap (λ (x : Listening). x.kept.client) (sym same) ∙ same_number l.kept.client client is; place = zero; there = ap (λ (x : Listening). Some x.kept) same }
found_if false l k ls client is e rest = let at = rest e in record { client_is = at.client_is; place = suc at.place; there = at.there }

pub found : (ls : List Listening) (client : ℕ) (k : Listening) → listening_of ls client ≡ Some k → IsAt ls client k
found [] client k e = cc
found (l ∷ ls) client k e = found_if (is_of client l) l k ls client refl e (λ x. found ls client k x)

-- so a client takes, and leaves, by its own registration

own_by : (o : Option Listening) (r : Recorded) (q : Queue) (held : List HeldEvent) (ears : Option LentEars) (n client : ℕ) → listening_of r.listeners client ≡ o → IsRegisteredBy o n → CanTake (cell_of r q held ears) (step.Take n client)
own_by None r q held ears n client e h = absurd h
own_by (Some l) r q held ears n client e h = let at = found r.listeners client l e in (l.kept, (h, at.client_is, at.place, at.there))

pub own_can : (r : Recorded) (q : Queue) (held : List HeldEvent) (ears : Option LentEars) (n client : ℕ) → IsRegisteredBy (listening_of r.listeners client) n → CanTake (cell_of r q held ears) (step.Take n client)
own_can r q held ears n client h = own_by (listening_of r.listeners client) r q held ears n client refl h

quiet_by : (o : Option Listening) (r : Recorded) (q : Queue) (held : List HeldEvent) (ears : Option LentEars) (n client : ℕ) → listening_of r.listeners client ≡ o → IsQuietOf o n → CanTake (cell_of r q held ears) (step.Unwatch n client)
quiet_by None r q held ears n client e h = absurd h
quiet_by (Some l) r q held ears n client e h = let at = found r.listeners client l e in (l.kept, (h.0, at.client_is, at.place, at.there), h.1)

pub quiet_can : (r : Recorded) (q : Queue) (held : List HeldEvent) (ears : Option LentEars) (n client : ℕ) → IsQuietOf (listening_of r.listeners client) n → CanTake (cell_of r q held ears) (step.Unwatch n client)
quiet_can r q held ears n client h = quiet_by (listening_of r.listeners client) r q held ears n client refl h

-- and one that is at a place is found, since no other is of its client

any_more : (a b : Bool) → b ≡ true → (a || b) ≡ true
any_more true b e = refl
any_more false b e = e

has_at : (ls : List Listening) (client place : ℕ) (r : Registration) → slice_get (registrations ls) place ≡ Some r → r.client ≡ client → has_client ls client ≡ true
has_at [] client place r e is = cc
has_at (l ∷ ls) client zero r e is =
    let same : l.kept ≡ r = cc in
    ap (λ (b : Bool). b || has_client ls client) (ap (λ (x : Registration). x.client == client) same ∙ ap (λ (n : ℕ). n == client) is ∙ own_number client)
has_at (l ∷ ls) client (suc place) r e is = any_more (is_of client l) (has_client ls client) (has_at ls client place r e is)

passed_if : (b : Bool) (l k : Listening) (ls : List Listening) (client : ℕ) → is_of client l ≡ b → has_client ls l.kept.client ≡ false → has_client ls client ≡ true → listening_of ls client ≡ Some k → (if b then Some l else listening_of ls client) ≡ Some k
passed_if true l k ls client is none some e = let same : has_client ls client ≡ false = ap (λ (n : ℕ). has_client ls n) (sym (same_number l.kept.client client is)) ∙ none in cc
passed_if false l k ls client is none some e = e

here_if : (b : Bool) (l : Listening) (o : Option Listening) → b ≡ true → (if b then Some l else o) ≡ Some l
here_if true l o e = refl
here_if false l o e = cc

pub own_found : (ls : List Listening) (n client place : ℕ) (r : Registration) → AreApart ls → slice_get (registrations ls) place ≡ Some r → r.number ≡ n → r.client ≡ client
    → (l : Listening) × (listening_of ls client ≡ Some l) × (l.kept ≡ r)
own_found [] n client place r apart e number is = cc
own_found (l ∷ ls) n client zero r apart e number is =
    let same : l.kept ≡ r = cc in (
      l,
      here_if (is_of client l) l (listening_of ls client) (ap (λ (x : Registration). x.client == client) same ∙ ap (λ (m : ℕ). m == client) is ∙ own_number client),
      same,
    )
own_found (l ∷ ls) n client (suc place) r apart e number is =
    let later = own_found ls n client place r apart.1 e number is in
    (later.0, passed_if (is_of client l) l later.0 ls client refl apart.0 (has_at ls client place r e is) later.1, later.2)

pub takers_are : TakersAreRegistered
takers_are r q held ears n client apart can =
    let there = own_found r.listeners n client can.1.2 can.0 apart can.1.3 can.1.0 can.1.1 in (
      subst (λ (o : Option Listening). IsRegisteredBy o n) (sym there.1) (ap (λ (x : Registration). x.number) there.2 ∙ can.1.0),
      has_at r.listeners client can.1.2 can.0 can.1.3 can.1.1,
    )

pub leavers_are : LeaversAreQuiet
leavers_are r q held ears n client apart can =
    let there = own_found r.listeners n client can.1.2 can.0 apart can.1.3 can.1.0 can.1.1 in
    subst (λ (o : Option Listening). IsQuietOf o n) (sym there.1)
    (subst (λ (x : Registration). (x.number ≡ n) × IsQuiet x) (sym there.2) (can.1.0, can.2))

-- an emptied registration is found again

past_if : (b : Bool) (l : Listening) (o : Option Listening) → b ≡ false → (if b then Some l else o) ≡ o
past_if true l o e = cc
past_if false l o e = refl

emptied_if : (b : Bool) (l k : Listening) (ls : List Listening) (client : ℕ) → is_of client l ≡ b → (if b then Some l else listening_of ls client) ≡ Some k
    → (listening_of ls client ≡ Some k → listening_of (emptied_by ls client) client ≡ Some (emptied k)) → listening_of (if b then emptied l ∷ ls else l ∷ emptied_by ls client) client ≡ Some (emptied k)
emptied_if true l k ls client is e rest =
    let same : l ≡ k = cc in here_if (is_of client l) (emptied l) (listening_of ls client) is ∙ ap (λ (x : Listening). Some (emptied x)) same
emptied_if false l k ls client is e rest = past_if (is_of client l) l (listening_of (emptied_by ls client) client) is ∙ rest e

pub emptied_found : (ls : List Listening) (client : ℕ) (k : Listening) → listening_of ls client ≡ Some k → listening_of (emptied_by ls client) client ≡ Some (emptied k)
emptied_found [] client k e = cc
emptied_found (l ∷ ls) client k e = emptied_if (is_of client l) l k ls client refl e (λ x. emptied_found ls client k x)
