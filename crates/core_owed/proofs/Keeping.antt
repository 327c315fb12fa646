-- One registration after a mark, and after a taking: what was taken and what pends is what it is owed still.
use Rattle.std.proofs.Common.{rules, ◌≡◌, ◌⊎◌, inl, inr, ◌≤◌, ℕ, ◌+◌, ◌-◌, ◌==◌, ◌&&◌, not, List, [], ◌∷◌, ◌++◌, drop, find, length, slice_get, take, length-append, append_assoc, append-nil, refl, sym, ap, ◌∙◌, subst, arith, Bool, true, false, if◌then◌else◌, Option, Some, eq-eqb, ne_eqb, zero, suc, add-one}
use Rattle.std.proofs.lemmas.Bool.{eqb-true}
use Rattle.std.proofs.Math.Seq.{take-append-add}
use Rattle.domain_spec.specs.Types.{Transition}
use Rattle.domain_spec.specs.declared.mark.Mark.{Mark}
use Rattle.domain_spec.specs.declared.mark.Mark.TheVariants as mark
use Rattle.domain_spec.specs.declared.owed.Owed.{Owed}
use Rattle.domain_spec.specs.declared.standing.Base.{Base}
use Rattle.domain_spec.specs.declared.standing.Registration.{Registration}
use Rattle.domain_spec.specs.ChapterLaws.{IsNotLeft, one_after, one_at, pending_of}
use Rattle.domain_spec.specs.Fold.{transitions_of}
use Rattle.domain_spec.specs.Registrations.{cut_after, is_numbered, with_pending}
use Rattle.domain_spec.proofs.PendingProofs.{pending_is_owed}
use Rattle.core_owed.specs.Owing.{IsByBase, IsByWatch, IsOrigin, IsOwed, Origin, StaysOn, given_with, owed_of}

-- numbers of clients

pub differ : (a b : ℕ) → (a == b) ≡ false → (b == a) ≡ false
differ a b h = ne_eqb b a (λ e. let same = eq-eqb a b (sym e) in cc)

if_found : {A : Type 0} (b : Bool) (x y : A) (rest : Option A) (p : A → Bool) → p x ≡ b → (if b then Some x else rest) ≡ Some y → (rest ≡ Some y → p y ≡ true) → p y ≡ true
if_found true x y rest p is e more = let same : x ≡ y = cc in subst (λ z. p z ≡ true) same is
if_found false x y rest p is e more = more e

pub found_is : {A : Type 0} (p : A → Bool) (xs : List A) (y : A) → find p xs ≡ Some y → p y ≡ true
found_is p [] y e = cc
found_is p (x ∷ xs) y e = if_found (p x) x y (find p xs) p refl e (λ more. found_is p xs y more)

-- after more marks

pub stays_more : (client : ℕ) (marks : List (Mark ℕ)) (m : Mark ℕ) → StaysOn client marks → StaysOn client (m ∷ []) → StaysOn client (marks ++ m ∷ [])
stays_more client [] m h one = one
stays_more client (mark.Watch n other ∷ marks) m h one = (h.0, stays_more client marks m h.1 one)
stays_more client (mark.Unwatch n other ∷ marks) m h one = (h.0, stays_more client marks m h.1 one)
stays_more client (other ∷ marks) m h one = stays_more client marks m h one

not_left : (client : ℕ) (marks : List (Mark ℕ)) → StaysOn client marks → IsNotLeft client marks
not_left client [] h = tt
not_left client (mark.Watch n other ∷ marks) h = not_left client marks h.1
not_left client (mark.Unwatch n other ∷ marks) h = (h.0, not_left client marks h.1)
not_left client (other ∷ marks) h = not_left client marks h

at_more : (r : Registration) (marks : List (Mark ℕ)) (m : Mark ℕ) → one_at r (marks ++ m ∷ []) ≡ one_after (one_at r marks) m
at_more r [] m = refl
at_more r (x ∷ marks) m = at_more (one_after r x) marks m

-- a mark changes neither whose a registration is nor what was taken

record SameKeeper (q r : Registration) : Type 0 where
  number : r.number ≡ q.number
  client : r.client ≡ q.client
  taken : r.taken ≡ q.taken

cut_keeper : (b : Bool) (q r : Registration) → SameKeeper q r → SameKeeper q (if b then r else q)
cut_keeper true q r h = h
cut_keeper false q r h = record { number = refl; client = refl; taken = refl }

told_keeper : (b : Bool) (q r : Registration) → SameKeeper q r → SameKeeper q (if b then q else r)
told_keeper true q r h = record { number = refl; client = refl; taken = refl }
told_keeper false q r h = h

one_keeper : (r : Registration) (m : Mark ℕ) → SameKeeper r (one_after r m)
one_keeper r (mark.Cut client total taken) =
    cut_keeper (is_numbered client r && not r.is_lost) r (record r { pending = take (total - r.taken) r.pending; is_lost = true }) (record { number = refl; client = refl; taken = refl })
one_keeper r other = told_keeper r.is_lost r (record r { pending = r.pending ++ transitions_of other }) (record { number = refl; client = refl; taken = refl })

all_keeper : (r : Registration) (marks : List (Mark ℕ)) → SameKeeper r (one_at r marks)
all_keeper r [] = record { number = refl; client = refl; taken = refl }
all_keeper r (m ∷ marks) =
    let one = one_keeper r m in
    let rest = all_keeper (one_after r m) marks in
    record { number = rest.number ∙ one.number; client = rest.client ∙ one.client; taken = rest.taken ∙ one.taken }

pub same_client : (r : Registration) (m : Mark ℕ) → (one_after r m).client ≡ r.client
same_client r m = (one_keeper r m).client

-- the second is the first, of which these were taken

record IsRest (front : List Transition) (q r : Registration) : Type 0 where
  client : r.client ≡ q.client
  lost : q.is_lost ≡ r.is_lost
  pending : q.pending ≡ front ++ r.pending
  taken : r.taken ≡ q.taken + length front

told_at : (lost : Bool) (events front : List Transition) (q r : Registration) → q.is_lost ≡ lost → IsRest front q r → IsRest front (with_pending events q) (with_pending events r)
told_at true events front q r is h =
    let other = sym h.lost ∙ is in
    record { client = grind (h.client, is, other, rules); lost = grind (h.lost, is, other, rules); pending = grind (h.pending, is, other, rules); taken = grind (h.taken, is, other, rules) }
told_at false events front q r is h =
    let other = sym h.lost ∙ is in
    record {
      client = grind (h.client, is, other, rules);
      lost = grind (h.lost, is, other, rules);
      pending = grind (ap (λ (l : List Transition). l ++ events) h.pending ∙ append_assoc front r.pending events, is, other, rules);
      taken = grind (h.taken, is, other, rules);
    }

told_rest : (events front : List Transition) (q r : Registration) → IsRest front q r → IsRest front (with_pending events q) (with_pending events r)
told_rest events front q r h = told_at q.is_lost events front q r refl h

-- no more was taken than came before a cut
abbrev pub IsCutLater : Mark ℕ → Registration → Type 0
IsCutLater (mark.Cut client total taken) r = is_numbered client r ≡ true → r.is_lost ≡ false → r.taken ≤ total
IsCutLater m r = Unit {0}

cut_at : (mine lost : Bool) (client total : ℕ) (front : List Transition) (q r : Registration) → is_numbered client q ≡ mine → q.is_lost ≡ lost → (is_numbered client r ≡ true → r.is_lost ≡ false → r.taken ≤ total)
    → IsRest front q r → IsRest front (cut_after client total q) (cut_after client total r)
cut_at true false client total front q r is is_not room h =
    let also : is_numbered client r ≡ true = subst (λ (c : ℕ). (c == client) ≡ true) (sym h.client) is in
    let other : r.is_lost ≡ false = sym h.lost ∙ is_not in
    let fits : r.taken ≤ total = room also other in
    let much : total - q.taken ≡ length front + (total - r.taken) = omega (arith, h.taken, fits) in
    record {
      client = grind (h.client, is, also, is_not, other, rules);
      lost = grind (is, also, is_not, other, rules);
      pending =
          grind (ap (take (total - q.taken)) h.pending ∙ (ap (λ n. take n (front ++ r.pending)) much ∙ take-append-add front r.pending (total - r.taken)), is, also, is_not, other, rules);
      taken = grind (h.taken, is, also, is_not, other, rules);
    }
cut_at true true client total front q r is is_lost room h =
    let also : is_numbered client r ≡ true = subst (λ (c : ℕ). (c == client) ≡ true) (sym h.client) is in
    let other : r.is_lost ≡ true = sym h.lost ∙ is_lost in
    record { client = grind (h.client, is, also, is_lost, other, rules); lost = grind (h.lost, is, also, is_lost, other, rules); pending = grind (h.pending, is, also, is_lost, other, rules); taken = grind (h.taken, is, also, is_lost, other, rules) }
cut_at false lost client total front q r is is_lost room h =
    let also : is_numbered client r ≡ false = subst (λ (c : ℕ). (c == client) ≡ false) (sym h.client) is in
    record { client = grind (h.client, is, also, rules); lost = grind (h.lost, is, also, rules); pending = grind (h.pending, is, also, rules); taken = grind (h.taken, is, also, rules) }

rest_after : (front : List Transition) (q r : Registration) (m : Mark ℕ) → IsCutLater m r → IsRest front q r → IsRest front (one_after q m) (one_after r m)
rest_after front q r (mark.Cut client total taken) later h = cut_at (is_numbered client q) q.is_lost client total front q r refl refl later h
rest_after front q r other later h = told_rest (transitions_of other) front q r h

-- places of a longer history

get_more : {A : Type 0} (xs ys : List A) (place : ℕ) (x : A) → slice_get xs place ≡ Some x → slice_get (xs ++ ys) place ≡ Some x
get_more [] ys zero x e = cc
get_more [] ys (suc place) x e = cc
get_more (a ∷ xs) ys zero x e = e
get_more (a ∷ xs) ys (suc place) x e = get_more xs ys place x e

drop_suc : {A : Type 0} (xs ys : List A) (place : ℕ) (x : A) → slice_get xs place ≡ Some x → drop (suc place) (xs ++ ys) ≡ drop (suc place) xs ++ ys
drop_suc [] ys zero x e = cc
drop_suc [] ys (suc place) x e = cc
drop_suc (a ∷ xs) ys zero x e = refl
drop_suc (a ∷ xs) ys (suc place) x e = drop_suc xs ys place x e

drop_more : {A : Type 0} (xs ys : List A) (place : ℕ) (x : A) → slice_get xs place ≡ Some x → drop (place + 1) (xs ++ ys) ≡ drop (place + 1) xs ++ ys
drop_more xs ys place x e = ap (λ n. drop n (xs ++ ys)) (add-one place) ∙ drop_suc xs ys place x e ∙ sym (ap (λ n. drop n xs ++ ys) (add-one place))

-- the origin after one more mark

origin_client : (b : Base) (marks : List (Mark ℕ)) (number client : ℕ) (o : Origin) → IsByWatch marks number client o ⊎ IsByBase b marks number client o → o.at.client ≡ client
origin_client b marks number client o (inl h) = ap (λ (r : Registration). r.client) h.new
origin_client b marks number client o (inr h) = eqb-true o.at.client client (found_is (is_numbered client) b.registrations o.at h.there)

abbrev with_mark : Origin → Mark ℕ → Origin
with_mark o m = record { at = o.at; since = o.since ++ m ∷ [] }

origin_by : (b : Base) (marks : List (Mark ℕ)) (number client : ℕ) (o : Origin) (m : Mark ℕ) → IsByWatch marks number client o ⊎ IsByBase b marks number client o
    → IsByWatch (marks ++ m ∷ []) number client (with_mark o m) ⊎ IsByBase b (marks ++ m ∷ []) number client (with_mark o m)
origin_by b marks number client o m (inl h) =
    inl (record {
      place = h.place;
      watch = get_more marks (m ∷ []) h.place (mark.Watch number client) h.watch;
      since = ap (λ (ms : List (Mark ℕ)). ms ++ m ∷ []) h.since ∙ sym (drop_more marks (m ∷ []) h.place (mark.Watch number client) h.watch);
      new = h.new;
    })
origin_by b marks number client o m (inr h) =
    inr (record { there = h.there; numbered = h.numbered; since = ap (λ (ms : List (Mark ℕ)). ms ++ m ∷ []) h.since })

origin_more : (b : Base) (marks : List (Mark ℕ)) (number client : ℕ) (o : Origin) (m : Mark ℕ) → StaysOn client (m ∷ []) → IsOrigin b marks number client o → IsOrigin b (marks ++ m ∷ []) number client (with_mark o m)
origin_more b marks number client o m stays h = record { by = origin_by b marks number client o m h.by; stays = stays_more client o.since m h.stays stays }

-- what it is owed

kept : (b : Base) (marks : List (Mark ℕ)) (number client : ℕ) (o : Origin) → IsOrigin b marks number client o → owed_of o ≡ pending_of (one_at o.at o.since)
kept b marks number client o h =
    pending_is_owed o.at o.since (subst (λ (k : ℕ). IsNotLeft k o.since) (sym (origin_client b marks number client o h.by)) (not_left client o.since h.stays))

rest_of : (b : Base) (marks : List (Mark ℕ)) (r : Registration) (h : IsOwed b marks r) → IsRest h.front (one_at h.origin.at h.origin.since) r
rest_of b marks r h =
    let o = h.origin in
    let q = one_at o.at o.since in
    let keeper = all_keeper o.at o.since in
    let same : pending_of q ≡ given_with h.front r = sym (kept b marks r.number r.client o h.is_origin) ∙ h.owed in
    record {
      client = sym (keeper.client ∙ origin_client b marks r.number r.client o h.is_origin.by);
      lost = ap (λ (x : Owed). x.is_lost) same;
      pending = ap (λ (x : Owed). x.events) same;
      taken = h.taken ∙ ap (λ n. n + length h.front) (sym keeper.taken);
    }

given_by : (q r : Registration) (front : List Transition) → q.is_lost ≡ r.is_lost → q.pending ≡ front ++ r.pending → pending_of q ≡ given_with front r
given_by q r front lost pending = λ i. record { events = pending i; is_lost = lost i }

pub owed_after : (b : Base) (marks : List (Mark ℕ)) (r : Registration) (m : Mark ℕ) → StaysOn r.client (m ∷ []) → IsCutLater m r → IsOwed b marks r → IsOwed b (marks ++ m ∷ []) (one_after r m)
owed_after b marks r m stays later h =
    let o = h.origin in
    let q = one_at o.at o.since in
    let next = with_mark o m in
    let keeper = one_keeper r m in
    let more : IsOrigin b (marks ++ m ∷ []) r.number r.client next = origin_more b marks r.number r.client o m stays h.is_origin in
    let rest = rest_after h.front q r m later (rest_of b marks r h) in
    record {
      origin = next;
      is_origin =
          subst (λ (n : ℕ). IsOrigin b (marks ++ m ∷ []) n (one_after r m).client next) (sym keeper.number)
          (subst (λ (k : ℕ). IsOrigin b (marks ++ m ∷ []) r.number k next) (sym keeper.client) more);
      front = h.front;
      owed =
          kept b (marks ++ m ∷ []) r.number r.client next more
          ∙ ap pending_of (at_more o.at o.since m)
          ∙ given_by (one_after q m) (one_after r m) h.front rest.lost rest.pending;
      taken = keeper.taken ∙ h.taken;
    }

-- a taking

pub owed_taken : (b : Base) (marks : List (Mark ℕ)) (r : Registration) → IsOwed b marks r → IsOwed b marks (record r { taken = r.taken + length r.pending; pending = [] })
owed_taken b marks r h = record {
  origin = h.origin;
  is_origin = h.is_origin;
  front = h.front ++ r.pending;
  owed = h.owed ∙ ap (λ (l : List Transition). (let x : Owed = record { events = l; is_lost = r.is_lost } in x)) (sym (append-nil (h.front ++ r.pending)));
  taken = omega (arith, h.taken, length-append h.front r.pending);
}
