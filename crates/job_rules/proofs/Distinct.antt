-- No caller waits twice.
use Rattle.std.proofs.Common.{◌≡◌, ℕ, ◌+◌, List, [], ◌∷◌, ◌++◌, filter, map, min, Bool, true, false, not, ◌||◌, if◌then◌else◌, refl, sym, ap, ◌∙◌, arith}
use Rattle.std.specs.List.{list_any}
use Rattle.domain_spec.specs.Types.{Who}
use Rattle.domain_spec.specs.Cell.{Waiter}
use Rattle.domain_spec.specs.Kept.{looked, without_caller}
use Rattle.domain_spec.specs.Open.{AreDistinct, is_among, is_same_who}

abbrev callers : List Waiter → List Who
callers ws = map (λ w. w.who) ws

or_parts : (b c : Bool) → (b || c) ≡ false → (b ≡ false) × (c ≡ false)
or_parts true c e = cc
or_parts false c e = (refl, e)

or_false : (b c : Bool) → b ≡ false → c ≡ false → (b || c) ≡ false
or_false true c e f = cc
or_false false c e f = f

same_who-sym : (a b : Who) → is_same_who a b ≡ is_same_who b a
same_who-sym a b = grind arith

-- where one goes

left_if : (b : Bool) (w : Waiter) (ws : List Waiter) (c : Who) → is_same_who c w.who ≡ false → is_among (callers ws) c ≡ false → is_among (callers (if not b then w ∷ ws else ws)) c ≡ false
left_if true w ws c e f = f
left_if false w ws c e f = or_false (is_same_who c w.who) (is_among (callers ws) c) e f

none_left : (ws : List Waiter) (who c : Who) → is_among (callers ws) c ≡ false → is_among (callers (without_caller ws who)) c ≡ false
none_left [] who c e = refl
none_left (w ∷ ws) who c e =
    let h = or_parts (is_same_who c w.who) (is_among (callers ws) c) e in
    left_if (is_same_who w.who who) w (without_caller ws who) c h.0 (none_left ws who c h.1)

apart_if : (b : Bool) (w : Waiter) (ws : List Waiter) → is_among (callers ws) w.who ≡ false → AreDistinct (callers ws) → AreDistinct (callers (if not b then w ∷ ws else ws))
apart_if true w ws e h = h
apart_if false w ws e h = (e, h)

pub distinct_left : (ws : List Waiter) (who : Who) → AreDistinct (callers ws) → AreDistinct (callers (without_caller ws who))
distinct_left [] who apart = tt
distinct_left (w ∷ ws) who apart = apart_if (is_same_who w.who who) w (without_caller ws who) (none_left ws who w.who apart.0) (distinct_left ws who apart.1)

-- where one looks

more_if : (b : Bool) (w : Waiter) (ws rest : List Waiter) (c : Who) → is_same_who c w.who ≡ false → is_among (callers ws) c ≡ false → is_among (callers rest) c ≡ false
    → is_among (callers (if b then record { who = w.who; looks = min (w.looks + 1) 1000 } ∷ ws else w ∷ rest)) c ≡ false
more_if true w ws rest c e f g = or_false (is_same_who c w.who) (is_among (callers ws) c) e f
more_if false w ws rest c e f g = or_false (is_same_who c w.who) (is_among (callers rest) c) e g

none_looked : (ws : List Waiter) (who c : Who) → is_among (callers ws) c ≡ false → is_same_who c who ≡ false → is_among (callers (looked ws who)) c ≡ false
none_looked [] who c e f = or_false (is_same_who c who) false f refl
none_looked (w ∷ ws) who c e f =
    let h = or_parts (is_same_who c w.who) (is_among (callers ws) c) e in
    more_if (is_same_who w.who who) w ws (looked ws who) c h.0 h.1 (none_looked ws who c h.1 f)

looked_if : (b : Bool) (w : Waiter) (ws rest : List Waiter) (who : Who) → is_same_who w.who who ≡ b → is_among (callers ws) w.who ≡ false → AreDistinct (callers ws)
    → (is_same_who w.who who ≡ false → is_among (callers rest) w.who ≡ false) → AreDistinct (callers rest)
    → AreDistinct (callers (if b then record { who = w.who; looks = min (w.looks + 1) 1000 } ∷ ws else w ∷ rest))
looked_if true w ws rest who is e apart none more = (e, apart)
looked_if false w ws rest who is e apart none more = (none is, more)

pub distinct_looked : (ws : List Waiter) (who : Who) → AreDistinct (callers ws) → AreDistinct (callers (looked ws who))
distinct_looked [] who apart = (refl, tt)
distinct_looked (w ∷ ws) who apart =
    looked_if (is_same_who w.who who) w ws (looked ws who) who refl apart.0 apart.1 (λ other. none_looked ws who w.who apart.0 other) (distinct_looked ws who apart.1)
