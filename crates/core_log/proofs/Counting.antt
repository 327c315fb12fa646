-- How many registrations may still end by a mark.
use Rattle.std.proofs.Common.{◌≡◌, ℕ, ◌+◌, ◌≤◌, List, [], ◌∷◌, map, length, take, Bool, true, false, if◌then◌else◌, refl, sym, ap, ◌∙◌, arith}
use Rattle.domain_spec.specs.Types.{Transition}
use Rattle.domain_spec.specs.declared.mark.Mark.{Mark}
use Rattle.domain_spec.specs.declared.mark.Mark.TheVariants as mark
use Rattle.domain_spec.specs.declared.standing.Client.{Client}
use Rattle.domain_spec.specs.declared.standing.Registration.{Registration}
use Rattle.domain_spec.specs.Fold.{registered}
use Rattle.domain_spec.specs.Registrations.{with_pending}
use Rattle.event_queue.specs.Telling.{cut_if_over, is_over, most_of, told}
use Rattle.event_queue.specs.declared.cut.Cut.{Cut}
use Rattle.event_queue.specs.Listening.{Listening, cut_mark, hears, registrations}
use Rattle.event_queue.proofs.Cutting.{over_lost, pend_is}
use Rattle.core_log.specs.Record.{cuts_after, open_ends}
use Rattle.core_log.proofs.Cuts.{heard_kept}
use Rattle.std.proofs.lemmas.List.{length-map}

abbrev pub one_unless : Bool → ℕ
one_unless lost = if lost then 0 else 1

abbrev one_if : Bool → ℕ
one_if over = if over then 1 else 0

listed : (lost : Bool) (c : Client) (cs : List Client) → length (if lost then cs else c ∷ cs) ≡ one_unless lost + length cs
listed true c cs = omega arith
listed false c cs = omega arith

pub ends_more : (r : Registration) (rs : List Registration) → open_ends (r ∷ rs) ≡ one_unless r.is_lost + open_ends rs
ends_more r rs = listed r.is_lost (record { number = r.number; client = r.client; before = r.taken + length r.pending; total = r.taken + length r.pending }) (registered rs)

cut_more : (over : Bool) (m : Mark ℕ) (ms : List (Mark ℕ)) → length (if over then m ∷ ms else ms) ≡ one_if over + length ms
cut_more true m ms = omega arith
cut_more false m ms = omega arith

pend_lost : (r : Registration) (events : List Transition) (lost : Bool) → r.is_lost ≡ lost → (with_pending events r).is_lost ≡ lost
pend_lost r events true e = ap (λ (x : Registration). x.is_lost) (pend_is r events true e) ∙ e
pend_lost r events false e = ap (λ (x : Registration). x.is_lost) (pend_is r events false e) ∙ e

cut_lost : (r : Registration) (over : Bool) → is_over r ≡ over → one_unless (cut_if_over r).is_lost + one_if over ≡ one_unless r.is_lost
cut_lost r true e =
    ap (λ (b : Bool). one_unless (if b then record r { pending = take (most_of r) r.pending; is_lost = true } else r).is_lost + 1) e ∙ ap one_unless (sym (over_lost r e))
cut_lost r false e =
    ap (λ (b : Bool). one_unless (if b then record r { pending = take (most_of r) r.pending; is_lost = true } else r).is_lost + 0) e ∙ (omega arith)

added : (a b c d e f : ℕ) → a + b ≡ c → d + e ≡ f → (a + d) + (b + e) ≡ c + f
added a b c d e f p q = omega (arith, p, q)

-- each that is cut may end no more
pub ends_told : (rs : List Registration) (events : List Transition) → open_ends (map (told events) rs) + length (cuts_after rs events) ≡ open_ends rs
ends_told [] events = refl
ends_told (r ∷ rs) events =
    let w : Registration = with_pending events r in
    let over : Bool = is_over w in
    let first : one_unless (told events r).is_lost + one_if over ≡ one_unless r.is_lost = cut_lost w over refl ∙ ap one_unless (pend_lost r events r.is_lost refl) in
    ap (λ (n : ℕ). n + length (cuts_after (r ∷ rs) events)) (ends_more (told events r) (map (told events) rs))
    ∙ ap (λ (n : ℕ). (one_unless (told events r).is_lost + open_ends (map (told events) rs)) + n) (cut_more over (mark.Cut w.client (w.taken + most_of w) w.taken) (cuts_after rs events))
    ∙ added (one_unless (told events r).is_lost) (one_if over) (one_unless r.is_lost) (open_ends (map (told events) rs)) (length (cuts_after rs events)) (open_ends rs) first (ends_told rs events)
    ∙ sym (ends_more r rs)

-- the cuts that are due fit into the room that is there, and take it

pub due_fits : (cuts : List Cut) (rs : List Registration) (events : List Transition) (spare : ℕ) → map cut_mark cuts ≡ cuts_after rs events → open_ends rs ≤ spare → length cuts ≤ spare
due_fits cuts rs events spare e le =
    let same : length cuts ≡ length (cuts_after rs events) = sym (length-map cuts cut_mark) ∙ ap length e in
    let total = ends_told rs events in
    omega (arith, same, total, le)

pub spare_told : (cuts : List Cut) (ls ms : List Listening) (events : List Transition) (before after : ℕ) → map cut_mark cuts ≡ cuts_after (registrations ls) events → ms ≡ map (hears events) ls → after + length cuts ≡ before
    → after + open_ends (registrations ls) ≡ before + open_ends (registrations ms)
spare_told cuts ls ms events before after e heard spare =
    let same : length cuts ≡ length (cuts_after (registrations ls) events) = sym (length-map cuts cut_mark) ∙ ap length e in
    let total = ends_told (registrations ls) events in
    let left : open_ends (registrations ms) ≡ open_ends (map (told events) (registrations ls)) = ap (λ (xs : List Listening). open_ends (registrations xs)) heard ∙ ap open_ends (heard_kept ls events) in
    omega (arith, same, total, left, spare)
