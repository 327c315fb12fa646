-- No two registrations are one client's, after each mark and each taking.
use Rattle.std.proofs.Common.{◌≡◌, ℕ, ◌+◌, ◌-◌, ◌==◌, ◌&&◌, ◌||◌, not, List, [], ◌∷◌, ◌++◌, filter, length, map, take, refl, sym, subst, Bool, true, false, if◌then◌else◌}
use Rattle.std.specs.List.{list_any}
use Rattle.domain_spec.specs.Types.{Transition}
use Rattle.domain_spec.specs.declared.mark.Mark.{Mark}
use Rattle.domain_spec.specs.declared.mark.Mark.TheVariants as mark
use Rattle.domain_spec.specs.declared.standing.Registration.{Registration}
use Rattle.domain_spec.specs.Fold.{transitions_of}
use Rattle.domain_spec.specs.Registrations.{cut_after, is_numbered, registrations_after, registrations_taken, taken_from, tells_loss, with_pending}
use Rattle.core_owed.specs.Owing.{AreApart, new_registration}
use Rattle.core_owed.proofs.Keeping.{IsCutLater, differ}

-- none of these is this client's
abbrev pub HasNone : List Registration → ℕ → Type 0
HasNone rs client = list_any (is_numbered client) rs ≡ false

pub neither : (a b : Bool) → (a || b) ≡ false → (a ≡ false) × (b ≡ false)
neither true b e = cc
neither false b e = (refl, e)

none_both : (a b : Bool) → a ≡ false → b ≡ false → (a || b) ≡ false
none_both true b e f = cc
none_both false b e f = f

-- a mark fits these registrations: a client that comes is not there, and no more was taken than came before a cut
abbrev pub AllCutLater : Mark ℕ → List Registration → Type 0
AllCutLater m [] = Unit {0}
AllCutLater m (r ∷ rs) = IsCutLater m r × AllCutLater m rs

abbrev pub Fits : List Registration → Mark ℕ → Type 0
Fits rs (mark.Watch number client) = HasNone rs client
Fits rs (mark.Cut client total taken) = AllCutLater (mark.Cut client total taken) rs
Fits rs m = Unit {0}

-- changed one by one

none_mapped : (f : Registration → Registration) (rs : List Registration) (client : ℕ) → ((r : Registration) → (f r).client ≡ r.client) → HasNone rs client → HasNone (map f rs) client
none_mapped f [] client same none = refl
none_mapped f (r ∷ rs) client same none =
    let both = neither (is_numbered client r) (list_any (is_numbered client) rs) none in
    none_both (is_numbered client (f r)) (list_any (is_numbered client) (map f rs)) (subst (λ (k : ℕ). (k == client) ≡ false) (sym (same r)) both.0) (none_mapped f rs client same both.1)

apart_mapped : (f : Registration → Registration) (rs : List Registration) → ((r : Registration) → (f r).client ≡ r.client) → AreApart rs → AreApart (map f rs)
apart_mapped f [] same apart = tt
apart_mapped f (r ∷ rs) same apart =
    (subst (λ (k : ℕ). HasNone (map f rs) k) (sym (same r)) (none_mapped f rs r.client same apart.0), apart_mapped f rs same apart.1)

told_client : (b : Bool) (events : List Transition) (r : Registration) → (if b then r else record r { pending = r.pending ++ events }).client ≡ r.client
told_client true events r = refl
told_client false events r = refl

cut_client : (b : Bool) (total : ℕ) (r : Registration) → (if b then record r { pending = take (total - r.taken) r.pending; is_lost = true } else r).client ≡ r.client
cut_client true total r = refl
cut_client false total r = refl

-- one more

none_more : (rs : List Registration) (x : Registration) (client : ℕ) → HasNone rs client → is_numbered client x ≡ false → HasNone (rs ++ x ∷ []) client
none_more [] x client none e = none_both (is_numbered client x) false e refl
none_more (r ∷ rs) x client none e =
    let both = neither (is_numbered client r) (list_any (is_numbered client) rs) none in
    none_both (is_numbered client r) (list_any (is_numbered client) (rs ++ x ∷ [])) both.0 (none_more rs x client both.1 e)

apart_more : (rs : List Registration) (x : Registration) → HasNone rs x.client → AreApart rs → AreApart (rs ++ x ∷ [])
apart_more [] x none apart = (refl, tt)
apart_more (r ∷ rs) x none apart =
    let both = neither (is_numbered x.client r) (list_any (is_numbered x.client) rs) none in
    (none_more rs x r.client apart.0 (differ r.client x.client both.0), apart_more rs x both.1 apart.1)

-- fewer

none_if : (b : Bool) (r : Registration) (rs : List Registration) (client : ℕ) → is_numbered client r ≡ false → HasNone rs client → HasNone (if b then r ∷ rs else rs) client
none_if true r rs client e none = none_both (is_numbered client r) (list_any (is_numbered client) rs) e none
none_if false r rs client e none = none

none_fewer : (p : Registration → Bool) (rs : List Registration) (client : ℕ) → HasNone rs client → HasNone (filter p rs) client
none_fewer p [] client none = refl
none_fewer p (r ∷ rs) client none =
    let both = neither (is_numbered client r) (list_any (is_numbered client) rs) none in
    none_if (p r) r (filter p rs) client both.0 (none_fewer p rs client both.1)

apart_if : (b : Bool) (r : Registration) (rs : List Registration) → HasNone rs r.client → AreApart rs → AreApart (if b then r ∷ rs else rs)
apart_if true r rs none apart = (none, apart)
apart_if false r rs none apart = apart

apart_fewer : (p : Registration → Bool) (rs : List Registration) → AreApart rs → AreApart (filter p rs)
apart_fewer p [] apart = tt
apart_fewer p (r ∷ rs) apart = apart_if (p r) r (filter p rs) (none_fewer p rs r.client apart.0) (apart_fewer p rs apart.1)

-- after a mark

pub apart_after : (rs : List Registration) (m : Mark ℕ) → Fits rs m → AreApart rs → AreApart (registrations_after rs m)
apart_after rs (mark.Watch number client) fits apart = apart_more rs (new_registration number client) fits apart
apart_after rs (mark.Unwatch number client) fits apart = apart_fewer (λ r. not (is_numbered client r)) rs apart
apart_after rs (mark.Cut client total taken) fits apart =
    apart_mapped (cut_after client total) rs (λ r. cut_client (is_numbered client r && not r.is_lost) total r) apart
apart_after rs other fits apart = apart_mapped (with_pending (transitions_of other)) rs (λ r. told_client r.is_lost (transitions_of other) r) apart

-- after a taking

abbrev emptied : Registration → Registration
emptied r = record r { taken = r.taken + length r.pending; pending = [] }

none_from : (b : Bool) (r : Registration) (rs : List Registration) (client : ℕ) → is_numbered client r ≡ false → HasNone rs client → HasNone ((if b then [] else emptied r ∷ []) ++ rs) client
none_from true r rs client e none = none
none_from false r rs client e none = none_both (is_numbered client r) (list_any (is_numbered client) rs) e none

none_by : (b : Bool) (r : Registration) (rs more : List Registration) (client : ℕ) → is_numbered client r ≡ false → HasNone rs client → HasNone more client → HasNone (if b then taken_from r ++ rs else r ∷ more) client
none_by true r rs more client e none also = none_from (tells_loss r) r rs client e none
none_by false r rs more client e none also = none_both (is_numbered client r) (list_any (is_numbered client) more) e also

none_taken : (rs : List Registration) (by client : ℕ) → HasNone rs client → HasNone (registrations_taken rs by) client
none_taken [] by client none = refl
none_taken (r ∷ rs) by client none =
    let both = neither (is_numbered client r) (list_any (is_numbered client) rs) none in
    none_by (is_numbered by r) r rs (registrations_taken rs by) client both.0 both.1 (none_taken rs by client both.1)

apart_from : (b : Bool) (r : Registration) (rs : List Registration) → HasNone rs r.client → AreApart rs → AreApart ((if b then [] else emptied r ∷ []) ++ rs)
apart_from true r rs none apart = apart
apart_from false r rs none apart = (none, apart)

apart_by : (b : Bool) (r : Registration) (rs more : List Registration) → HasNone rs r.client → AreApart rs → HasNone more r.client → AreApart more → AreApart (if b then taken_from r ++ rs else r ∷ more)
apart_by true r rs more none apart also rest = apart_from (tells_loss r) r rs none apart
apart_by false r rs more none apart also rest = (also, rest)

pub apart_taken : (rs : List Registration) (client : ℕ) → AreApart rs → AreApart (registrations_taken rs client)
apart_taken [] client apart = tt
apart_taken (r ∷ rs) client apart =
    apart_by (is_numbered client r) r rs (registrations_taken rs client) apart.0 apart.1 (none_taken rs client r.client apart.0) (apart_taken rs client apart.1)
