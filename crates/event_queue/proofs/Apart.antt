-- Registrations stay of different clients, and what changes one of them by its place.
use Rattle.std.proofs.Common.{◌≡◌, ℕ, zero, suc, ◌+◌, ◌<◌, List, [], ◌∷◌, ◌++◌, map, drop, take, length, Bool, true, false, not, ◌||◌, Option, None, Some, if◌then◌else◌, get_or, set, position, ◌==◌, refl, sym, ap, ◌∙◌, arith}
use Rattle.std.specs.List.{list_any}
use Rattle.std.proofs.lemmas.Bool.Decides.{nat_tests}
use Rattle.domain_spec.specs.Types.{Transition}
use Rattle.domain_spec.specs.Registrations.{with_pending}
use Rattle.event_queue.specs.Listening.{AreApart, Listening, emptied, emptied_by, has_client, hears, is_of, left_by}
use Rattle.event_queue.specs.Telling.{is_over}

or_false : (b c : Bool) → b ≡ false → c ≡ false → (b || c) ≡ false
or_false true c e f = cc
or_false false c e f = f

parts_false : (b c : Bool) → (b || c) ≡ false → (b ≡ false) × (c ≡ false)
parts_false true c e = cc
parts_false false c e = (refl, e)

-- one more

has_more : (ls : List Listening) (l : Listening) (client : ℕ) → has_client ls client ≡ false → is_of client l ≡ false → has_client (ls ++ l ∷ []) client ≡ false
has_more [] l client e f = or_false (is_of client l) false f refl
has_more (m ∷ ls) l client e f =
    let h = parts_false (is_of client m) (has_client ls client) e in
    or_false (is_of client m) (has_client (ls ++ l ∷ []) client) h.0 (has_more ls l client h.1 f)

other : (m n : ℕ) → (m == n) ≡ false → (n == m) ≡ false
other m n e = grind (arith, nat_tests, e)

pub apart_more : (ls : List Listening) (l : Listening) → AreApart ls → has_client ls l.kept.client ≡ false → AreApart (ls ++ l ∷ [])
apart_more [] l apart e = (refl, tt)
apart_more (m ∷ ls) l apart e =
    let h = parts_false (is_of l.kept.client m) (has_client ls l.kept.client) e in
    (has_more ls l m.kept.client apart.0 (other m.kept.client l.kept.client h.0), apart_more ls l apart.1 h.1)

-- one that heard something is the same client's

client_if : (b : Bool) (x y : Listening) → x.kept.client ≡ y.kept.client → (if b then x else y).kept.client ≡ y.kept.client
client_if true x y e = e
client_if false x y e = refl

kept_client : (lost over : Bool) (l : Listening) (events : List Transition) → l.kept.is_lost ≡ lost → is_over (with_pending events l.kept) ≡ over → (hears events l).kept.client ≡ l.kept.client
kept_client true true l events e f = rw (f, e) refl
kept_client true false l events e f = rw (f, e) refl
kept_client false true l events e f = rw (f, e) refl
kept_client false false l events e f = rw (f, e) refl

hears_client : (l : Listening) (events : List Transition) → (hears events l).kept.client ≡ l.kept.client
hears_client l events = kept_client l.kept.is_lost (is_over (with_pending events l.kept)) l events refl refl

has_heard : (ls : List Listening) (events : List Transition) (client : ℕ) → has_client (map (hears events) ls) client ≡ has_client ls client
has_heard [] events client = refl
has_heard (l ∷ ls) events client =
    ap (λ (n : ℕ). (n == client) || has_client (map (hears events) ls) client) (hears_client l events)
    ∙ ap (λ (b : Bool). is_of client l || b) (has_heard ls events client)

pub apart_heard : (ls : List Listening) (events : List Transition) → AreApart ls → AreApart (map (hears events) ls)
apart_heard [] events apart = tt
apart_heard (l ∷ ls) events apart =
    (ap (λ (n : ℕ). has_client (map (hears events) ls) n) (hears_client l events) ∙ has_heard ls events l.kept.client ∙ apart.0, apart_heard ls events apart.1)

-- one that is emptied

emptied_if : (b : Bool) (l : Listening) (ls rest : List Listening) (client : ℕ) → has_client rest client ≡ has_client ls client
    → has_client (if b then emptied l ∷ ls else l ∷ rest) client ≡ has_client (l ∷ ls) client
emptied_if true l ls rest client e = refl
emptied_if false l ls rest client e = ap (λ (b : Bool). is_of client l || b) e

has_emptied : (ls : List Listening) (who client : ℕ) → has_client (emptied_by ls who) client ≡ has_client ls client
has_emptied [] who client = refl
has_emptied (l ∷ ls) who client = emptied_if (is_of who l) l ls (emptied_by ls who) client (has_emptied ls who client)

apart_if : (b : Bool) (l : Listening) (ls rest : List Listening) → AreApart (l ∷ ls) → AreApart rest → has_client rest l.kept.client ≡ has_client ls l.kept.client
    → AreApart (if b then emptied l ∷ ls else l ∷ rest)
apart_if true l ls rest apart h e = apart
apart_if false l ls rest apart h e = (e ∙ apart.0, h)

pub apart_emptied : (ls : List Listening) (client : ℕ) → AreApart ls → AreApart (emptied_by ls client)
apart_emptied [] client apart = tt
apart_emptied (l ∷ ls) client apart =
    apart_if (is_of client l) l ls (emptied_by ls client) apart (apart_emptied ls client apart.1) (has_emptied ls client l.kept.client)

-- one that is gone

left_if : (b : Bool) (l : Listening) (ls rest : List Listening) (client : ℕ) → has_client ls client ≡ false → has_client rest client ≡ false → is_of client l ≡ false
    → has_client (if b then ls else l ∷ rest) client ≡ false
left_if true l ls rest client e f g = e
left_if false l ls rest client e f g = or_false (is_of client l) (has_client rest client) g f

has_left : (ls : List Listening) (who client : ℕ) → has_client ls client ≡ false → has_client (left_by ls who) client ≡ false
has_left [] who client e = refl
has_left (l ∷ ls) who client e =
    let h = parts_false (is_of client l) (has_client ls client) e in
    left_if (is_of who l) l ls (left_by ls who) client h.1 (has_left ls who client h.1) h.0

gone_if : (b : Bool) (l : Listening) (ls rest : List Listening) → AreApart ls → AreApart rest → has_client rest l.kept.client ≡ false → AreApart (if b then ls else l ∷ rest)
gone_if true l ls rest apart h e = apart
gone_if false l ls rest apart h e = (e, h)

pub apart_left : (ls : List Listening) (client : ℕ) → AreApart ls → AreApart (left_by ls client)
apart_left [] client apart = tt
apart_left (l ∷ ls) client apart =
    gone_if (is_of client l) l ls (left_by ls client) apart.1 (apart_left ls client apart.1) (has_left ls client l.kept.client apart.0)
