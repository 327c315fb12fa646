-- All registrations after a mark, and after a taking.
use Rattle.std.proofs.Common.{◌≡◌, inl, inr, ℕ, ◌+◌, not, suc, List, [], ◌∷◌, ◌++◌, drop, filter, find, length, map, slice_get, add-one, append_assoc, append-nil, refl, sym, ap, ◌∙◌, subst, arith, Bool, true, false, if◌then◌else◌, Option, Some, eq-eqb}
use Rattle.std.specs.List.{list_any}
use Rattle.domain_spec.specs.Types.{Transition}
use Rattle.domain_spec.specs.declared.mark.Mark.{Mark}
use Rattle.domain_spec.specs.declared.mark.Mark.TheVariants as mark
use Rattle.domain_spec.specs.declared.standing.Base.{Base}
use Rattle.domain_spec.specs.declared.standing.Registration.{Registration}
use Rattle.domain_spec.specs.Fold.{transitions_of}
use Rattle.domain_spec.specs.Registrations.{cut_after, is_numbered, registrations_after, registrations_at, registrations_taken, taken_from, tells_loss, with_pending}
use Rattle.domain_spec.proofs.PendingProofs.{pending_is_owed}
use Rattle.core_owed.specs.Owing.{AreApart, EachIsOwed, IsOwed, new_registration}
use Rattle.core_owed.proofs.Apart.{AllCutLater, Fits, HasNone, apart_after, neither}
use Rattle.core_owed.proofs.Keeping.{differ, owed_after, owed_taken}

-- nothing more pends after a mark that tells nothing

none_told : (b : Bool) (r : Registration) → (if b then r else record r { pending = r.pending ++ [] }) ≡ r
none_told true r = refl
none_told false r = ap (λ (p : List Transition). record r { pending = p }) (append-nil r.pending)

pub none_pend : (r : Registration) → with_pending [] r ≡ r
none_pend r = none_told r.is_lost r

-- a client comes

get_last : {A : Type 0} (xs : List A) (x : A) → slice_get (xs ++ x ∷ []) (length xs) ≡ Some x
get_last [] x = refl
get_last (a ∷ xs) x = get_last xs x

drop_last : {A : Type 0} (xs : List A) (x : A) → drop (length xs + 1) (xs ++ x ∷ []) ≡ []
drop_last xs x = ap (λ n. drop n (xs ++ x ∷ [])) (add-one (length xs)) ∙ all_dropped xs x where
  all_dropped : {A : Type 0} (xs : List A) (x : A) → drop (suc (length xs)) (xs ++ x ∷ []) ≡ []
  all_dropped [] x = refl
  all_dropped (a ∷ xs) x = all_dropped xs x

new_owed : (b : Base) (marks : List (Mark ℕ)) (number client : ℕ) → IsOwed b (marks ++ mark.Watch number client ∷ []) (new_registration number client)
new_owed b marks number client = record {
  origin = record { at = new_registration number client; since = [] };
  is_origin = record {
    by = inl (record { place = length marks; watch = get_last marks (mark.Watch number client); since = sym (drop_last marks (mark.Watch number client)); new = refl });
    stays = tt;
  };
  front = [];
  owed = refl;
  taken = refl;
}

came : (b : Base) (marks : List (Mark ℕ)) (number client : ℕ) (rs : List Registration) → HasNone rs client → EachIsOwed b marks rs
    → EachIsOwed b (marks ++ mark.Watch number client ∷ []) (rs ++ new_registration number client ∷ [])
came b marks number client [] none h = (new_owed b marks number client, tt)
came b marks number client (r ∷ rs) none h =
    let m = mark.Watch number client in
    let both = neither (is_numbered client r) (list_any (is_numbered client) rs) none in
    let one = owed_after b marks r m (differ r.client client both.0, tt) tt h.0 in
    (subst (λ (x : Registration). IsOwed b (marks ++ m ∷ []) x) (none_pend r) one, came b marks number client rs both.1 h.1)

-- a client leaves

stayed : (b : Base) (marks : List (Mark ℕ)) (keeps : Bool) (r : Registration) (rs : List Registration) → (keeps ≡ true → IsOwed b marks r) → EachIsOwed b marks rs → EachIsOwed b marks (if keeps then r ∷ rs else rs)
stayed b marks true r rs one others = (one refl, others)
stayed b marks false r rs one others = others

not_true : (b : Bool) → not b ≡ true → b ≡ false
not_true true e = cc
not_true false e = refl

left : (b : Base) (marks : List (Mark ℕ)) (number client : ℕ) (rs : List Registration) → EachIsOwed b marks rs → EachIsOwed b (marks ++ mark.Unwatch number client ∷ []) (filter (λ r. not (is_numbered client r)) rs)
left b marks number client [] h = tt
left b marks number client (r ∷ rs) h =
    let m = mark.Unwatch number client in
    stayed b (marks ++ m ∷ []) (not (is_numbered client r)) r (filter (λ r. not (is_numbered client r)) rs)
    (λ e. subst (λ (x : Registration). IsOwed b (marks ++ m ∷ []) x) (none_pend r) (owed_after b marks r m (differ r.client client (not_true (is_numbered client r) e), tt) tt h.0))
    (left b marks number client rs h.1)

-- a client is cut

cut_all : (b : Base) (marks : List (Mark ℕ)) (client total taken : ℕ) (rs : List Registration) → AllCutLater (mark.Cut client total taken) rs → EachIsOwed b marks rs
    → EachIsOwed b (marks ++ mark.Cut client total taken ∷ []) (map (cut_after client total) rs)
cut_all b marks client total taken [] later h = tt
cut_all b marks client total taken (r ∷ rs) later h = (owed_after b marks r (mark.Cut client total taken) tt later.0 h.0, cut_all b marks client total taken rs later.1 h.1)

-- any other mark is told to each

abbrev IsTold : Mark ℕ → Type 0
IsTold (mark.Watch number client) = ⊥
IsTold (mark.Unwatch number client) = ⊥
IsTold (mark.Cut client total taken) = ⊥
IsTold m = Unit {0}

told_one : (b : Base) (marks : List (Mark ℕ)) (r : Registration) (m : Mark ℕ) → IsTold m → IsOwed b marks r → IsOwed b (marks ++ m ∷ []) (with_pending (transitions_of m) r)
told_one b marks r (mark.Watch number client) so h = absurd so
told_one b marks r (mark.Unwatch number client) so h = absurd so
told_one b marks r (mark.Cut client total taken) so h = absurd so
told_one b marks r other so h = owed_after b marks r other tt tt h

told_all : (b : Base) (marks : List (Mark ℕ)) (rs : List Registration) (m : Mark ℕ) → IsTold m → EachIsOwed b marks rs → EachIsOwed b (marks ++ m ∷ []) (map (with_pending (transitions_of m)) rs)
told_all b marks [] m so h = tt
told_all b marks (r ∷ rs) m so h = (told_one b marks r m so h.0, told_all b marks rs m so h.1)

pub each_after : (b : Base) (marks : List (Mark ℕ)) (rs : List Registration) (m : Mark ℕ) → Fits rs m → EachIsOwed b marks rs → EachIsOwed b (marks ++ m ∷ []) (registrations_after rs m)
each_after b marks rs (mark.Watch number client) fits h = came b marks number client rs fits h
each_after b marks rs (mark.Unwatch number client) fits h = left b marks number client rs h
each_after b marks rs (mark.Cut client total taken) fits h = cut_all b marks client total taken rs fits h
each_after b marks rs other fits h = told_all b marks rs other tt h

-- these marks fit, one after the other

abbrev pub AllFit : List Registration → List (Mark ℕ) → Type 0
AllFit rs [] = Unit {0}
AllFit rs (m ∷ marks) = Fits rs m × AllFit (registrations_after rs m) marks

pub each_at : (b : Base) (marks more : List (Mark ℕ)) (rs : List Registration) → AllFit rs more → EachIsOwed b marks rs → EachIsOwed b (marks ++ more) (registrations_at rs more)
each_at b marks [] rs fit h = subst (λ (ms : List (Mark ℕ)). EachIsOwed b ms rs) (sym (append-nil marks)) h
each_at b marks (m ∷ more) rs fit h =
    subst (λ (ms : List (Mark ℕ)). EachIsOwed b ms (registrations_at (registrations_after rs m) more)) (append_assoc marks (m ∷ []) more)
    (each_at b (marks ++ m ∷ []) more (registrations_after rs m) fit.1 (each_after b marks rs m fit.0 h))

pub apart_at : (rs : List Registration) (more : List (Mark ℕ)) → AllFit rs more → AreApart rs → AreApart (registrations_at rs more)
apart_at rs [] fit apart = apart
apart_at rs (m ∷ more) fit apart = apart_at (registrations_after rs m) more fit.1 (apart_after rs m fit.0 apart)

-- a client takes

abbrev emptied : Registration → Registration
emptied r = record r { taken = r.taken + length r.pending; pending = [] }

taken_by : (b : Base) (marks : List (Mark ℕ)) (told : Bool) (r : Registration) (rs : List Registration) → IsOwed b marks r → EachIsOwed b marks rs → EachIsOwed b marks ((if told then [] else emptied r ∷ []) ++ rs)
taken_by b marks true r rs one others = others
taken_by b marks false r rs one others = (owed_taken b marks r one, others)

taken_if : (b : Base) (marks : List (Mark ℕ)) (mine : Bool) (r : Registration) (rs more : List Registration) → IsOwed b marks r → EachIsOwed b marks rs → EachIsOwed b marks more
    → EachIsOwed b marks (if mine then taken_from r ++ rs else r ∷ more)
taken_if b marks true r rs more one others rest = taken_by b marks (tells_loss r) r rs one others
taken_if b marks false r rs more one others rest = (one, rest)

pub each_taken : (b : Base) (marks : List (Mark ℕ)) (rs : List Registration) (client : ℕ) → EachIsOwed b marks rs → EachIsOwed b marks (registrations_taken rs client)
each_taken b marks [] client h = tt
each_taken b marks (r ∷ rs) client h = taken_if b marks (is_numbered client r) r rs (registrations_taken rs client) h.0 h.1 (each_taken b marks rs client h.1)

-- a chapter begins

found_owed : (b : Base) (r : Registration) → find (is_numbered r.client) b.registrations ≡ Some r → IsOwed b [] r
found_owed b r found = record {
  origin = record { at = r; since = [] };
  is_origin = record { by = inr (record { there = found; numbered = refl; since = refl }); stays = tt };
  front = [];
  owed = pending_is_owed r [] tt;
  taken = omega arith;
}

abbrev AllFound : List Registration → List Registration → Type 0
AllFound all [] = Unit {0}
AllFound all (r ∷ rs) = (find (is_numbered r.client) all ≡ Some r) × AllFound all rs

one_found : (b : Bool) (x : Registration) (rest : Option Registration) (r : Registration) → b ≡ false → rest ≡ Some r → (if b then Some x else rest) ≡ Some r
one_found true x rest r e found = cc
one_found false x rest r e found = found

first_found : (b : Bool) (x : Registration) (rest : Option Registration) → b ≡ true → (if b then Some x else rest) ≡ Some x
first_found true x rest e = refl
first_found false x rest e = cc

found_more : (x : Registration) (all rs : List Registration) → HasNone rs x.client → AllFound all rs → AllFound (x ∷ all) rs
found_more x all [] none found = tt
found_more x all (r ∷ rs) none found =
    let both = neither (is_numbered x.client r) (list_any (is_numbered x.client) rs) none in
    (one_found (is_numbered r.client x) x (find (is_numbered r.client) all) r (differ r.client x.client both.0) found.0, found_more x all rs both.1 found.1)

all_found : (all : List Registration) → AreApart all → AllFound all all
all_found [] apart = tt
all_found (x ∷ all) apart =
    (first_found (is_numbered x.client x) x (find (is_numbered x.client) all) (eq-eqb x.client x.client refl), found_more x all all apart.0 (all_found all apart.1))

each_found : (b : Base) (rs : List Registration) → AllFound b.registrations rs → EachIsOwed b [] rs
each_found b [] found = tt
each_found b (r ∷ rs) found = (found_owed b r found.0, each_found b rs found.1)

pub each_begins : (b : Base) → AreApart b.registrations → EachIsOwed b [] b.registrations
each_begins b apart = each_found b b.registrations (all_found b.registrations apart)
