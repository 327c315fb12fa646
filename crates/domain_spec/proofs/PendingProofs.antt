-- Why what pends for a registration is what it is owed.
use Rattle.std.proofs.Common.{◌≡◌, ℕ, ◌==◌, ◌&&◌, not, List, [], ◌∷◌, ◌++◌, Bool, true, false, if◌then◌else◌, refl, sym, ap, ◌∙◌, ◌-◌, take, append-nil, eq-eqb, ne_eqb}
use Rattle.std.proofs.lemmas.Bool.{eqb-true}
use Rattle.domain_spec.specs.Types.{Transition}
use Rattle.domain_spec.specs.declared.mark.Mark.{Mark}
use Rattle.domain_spec.specs.declared.mark.Mark.TheVariants as mark
use Rattle.domain_spec.specs.declared.owed.Owed.{Owed}
use Rattle.domain_spec.specs.declared.standing.Registration.{Registration}
use Rattle.domain_spec.specs.ChapterLaws.{IsNotLeft, PendingIsOwed, one_after, one_at, pending_of}
use Rattle.domain_spec.specs.Fold.{transitions_of}
use Rattle.domain_spec.specs.Owed.{owed_cut, owed_from}
use Rattle.domain_spec.specs.Registrations.{cut_after, with_pending}

swap_by : (a b : ℕ) (c : Bool) → (a == b) ≡ c → (b == a) ≡ c
swap_by a b true h = eq-eqb b a (sym (eqb-true a b h))
swap_by a b false h = ne_eqb b a (λ e. let same = eq-eqb a b (sym e) in cc)

-- a registration that was cut stays as it is

uncut : (b : Bool) (x r : Registration) (lost : Bool) → lost ≡ true → (if b && not lost then x else r) ≡ r
uncut true x r true e = refl
uncut true x r false e = cc
uncut false x r lost e = refl

kept_lost : (r : Registration) (events : List Transition) (lost : Bool) → lost ≡ true → (if lost then r else record r { pending = r.pending ++ events }) ≡ r
kept_lost r events true e = refl
kept_lost r events false e = cc

lost_same : (r : Registration) (m : Mark ℕ) → r.is_lost ≡ true → one_after r m ≡ r
lost_same r (mark.Cut client total taken) lost = uncut (r.client == client) _ r r.is_lost lost
lost_same r other lost = kept_lost r (transitions_of other) r.is_lost lost

lost_stays : (r : Registration) (marks : List (Mark ℕ)) → r.is_lost ≡ true → one_at r marks ≡ r
lost_stays r [] lost = refl
lost_stays r (m ∷ marks) lost = ap (λ (x : Registration). one_at x marks) (lost_same r m lost) ∙ lost_stays r marks lost

-- a registration that was not cut

abbrev added : Registration → List Transition → Registration
added r events = record r { pending = r.pending ++ events }

adds : (r : Registration) (events : List Transition) (lost : Bool) → lost ≡ false → (if lost then r else added r events) ≡ added r events
adds r events true e = cc
adds r events false e = refl

nothing_added : (r : Registration) → added r [] ≡ r
nothing_added r = ap (λ (p : List Transition). record r { pending = p }) (append-nil r.pending)

not_by : (b : Bool) (x y z : Owed) → b ≡ false → y ≡ z → (if b then x else y) ≡ z
not_by true x y z is h = cc
not_by false x y z is h = h

is_cut : (b lost : Bool) (x y : Registration) → b ≡ true → lost ≡ false → (if b && not lost then x else y) ≡ x
is_cut true true x y b lost = cc
is_cut true false x y b lost = refl
is_cut false lost x y b e = cc

not_cut : (b lost : Bool) (x y : Registration) → b ≡ false → (if b && not lost then x else y) ≡ y
not_cut true lost x y b = cc
not_cut false lost x y b = refl

abbrev lost_at : Registration → ℕ → Registration
lost_at r total = record r { pending = take (total - r.taken) r.pending; is_lost = true }

cut_by : (b : Bool) (r : Registration) (other total taken : ℕ) (marks : List (Mark ℕ)) → (other == r.client) ≡ b → r.is_lost ≡ false
    → owed_from r.client r.taken r.pending marks ≡ pending_of (one_at r marks)
    → (if b then owed_cut r.pending total r.taken else owed_from r.client r.taken r.pending marks) ≡ pending_of (one_at (cut_after other total r) marks)
cut_by true r other total taken marks is lost h =
    ap pending_of (sym (ap (λ (x : Registration). one_at x marks) (is_cut (r.client == other) r.is_lost (lost_at r total) r (swap_by other r.client true is) lost) ∙ lost_stays (lost_at r total) marks refl))
cut_by false r other total taken marks is lost h =
    h ∙ ap (λ (x : Registration). pending_of (one_at x marks)) (sym (not_cut (r.client == other) r.is_lost (lost_at r total) r (swap_by other r.client false is)))

more : (r : Registration) (events : List Transition) (marks : List (Mark ℕ)) (x : Owed) → r.is_lost ≡ false → x ≡ pending_of (one_at (added r events) marks) → x ≡ pending_of (one_at (with_pending events r) marks)
more r events marks x lost h = h ∙ ap (λ (y : Registration). pending_of (one_at y marks)) (sym (adds r events r.is_lost lost))

owed_pends : (r : Registration) (marks : List (Mark ℕ)) → r.is_lost ≡ false → IsNotLeft r.client marks → owed_from r.client r.taken r.pending marks ≡ pending_of (one_at r marks)
owed_pends r [] lost here = ap (λ (b : Bool). (let x : Owed = record { events = r.pending; is_lost = b } in x)) (sym lost)
owed_pends r (mark.Unwatch n other ∷ marks) lost here =
    not_by (other == r.client) _ (owed_from r.client r.taken r.pending marks) _ here.0
    (more r [] marks _ lost (owed_pends r marks lost here.1 ∙ ap (λ (y : Registration). pending_of (one_at y marks)) (sym (nothing_added r))))
owed_pends r (mark.Cut other total taken ∷ marks) lost here = cut_by (other == r.client) r other total taken marks refl lost (owed_pends r marks lost here)
owed_pends r (mark.Admit number who j c boot ∷ marks) lost here = more r [] marks _ lost (owed_pends (added r []) marks lost here)
owed_pends r (mark.Done number who c boot asks answers reply events ∷ marks) lost here = more r events marks _ lost (owed_pends (added r events) marks lost here)
owed_pends r (mark.Refused number who c why held ∷ marks) lost here = more r [] marks _ lost (owed_pends (added r []) marks lost here)
owed_pends r (mark.Start number who c boot ∷ marks) lost here = more r [] marks _ lost (owed_pends (added r []) marks lost here)
owed_pends r (mark.TakeUp number who c ∷ marks) lost here = more r [] marks _ lost (owed_pends (added r []) marks lost here)
owed_pends r (mark.Phase number who p asks answers next events ∷ marks) lost here = more r events marks _ lost (owed_pends (added r events) marks lost here)
owed_pends r (mark.End number who reply ∷ marks) lost here = more r [] marks _ lost (owed_pends (added r []) marks lost here)
owed_pends r (mark.Exit boot why events ∷ marks) lost here = more r events marks _ lost (owed_pends (added r events) marks lost here)
owed_pends r (mark.Event boot e events ∷ marks) lost here = more r events marks _ lost (owed_pends (added r events) marks lost here)
owed_pends r (mark.Watch number other ∷ marks) lost here = more r [] marks _ lost (owed_pends (added r []) marks lost here)

by_loss : (r : Registration) (marks : List (Mark ℕ)) (lost : Bool) → r.is_lost ≡ lost → IsNotLeft r.client marks
    → (if lost then (let x : Owed = record { events = r.pending; is_lost = true } in x) else owed_from r.client r.taken r.pending marks) ≡ pending_of (one_at r marks)
by_loss r marks true is here = ap (λ (b : Bool). (let x : Owed = record { events = r.pending; is_lost = b } in x)) (sym is) ∙ ap pending_of (sym (lost_stays r marks is))
by_loss r marks false is here = owed_pends r marks is here

pub pending_is_owed : PendingIsOwed
pending_is_owed r marks here = by_loss r marks r.is_lost refl here
