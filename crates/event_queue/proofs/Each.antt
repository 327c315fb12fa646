-- Why a loop over all registrations does for each what is asked.
use Rattle.std.proofs.Common.{◌≡◌, ℕ, suc, ◌+◌, ◌<◌, ◌≤◌, List, [], ◌∷◌, ◌++◌, map, drop, take, length, Bool, true, false, not, ◌&&◌, nat_lt, if◌then◌else◌, get_or, set, refl, sym, ap, ◌∙◌, arith}
use Rattle.std.proofs.lemmas.List.{append-nil, append_assoc, length-map, length-take-le, map-append}
use Rattle.std.proofs.lemmas.Grind.{take_at_read}
use Rattle.std.proofs.Math.Seq.{drop-cons, get_or-append_seam, set-append_seam}
use Rattle.domain_spec.specs.Types.{Transition}
use Rattle.domain_spec.specs.declared.mark.Mark.{Mark}
use Rattle.domain_spec.specs.declared.mark.Mark.TheVariants as mark
use Rattle.domain_spec.specs.declared.standing.Registration.{Registration}
use Rattle.domain_spec.specs.Registrations.{with_pending}
use Rattle.event_queue.specs.Each.{HeardTo}
use Rattle.event_queue.specs.declared.cut.Cut.{Cut}
use Rattle.event_queue.specs.Listening.{Listening, cut_mark, hears, registrations}
use Rattle.event_queue.specs.Telling.{cuts_due, is_over, most_of}

module _ {A : Type 0} where
  seam_at : (p q : List A) (x : A) (n : ℕ) (d : A) → length p ≡ n → get_or (p ++ x ∷ q) n d ≡ x
  seam_at p q x n d e = ap (λ (k : ℕ). get_or (p ++ x ∷ q) k d) (sym e) ∙ get_or-append_seam p x q d

  set_at : (p q : List A) (x y : A) (n : ℕ) → length p ≡ n → set (p ++ x ∷ q) n y ≡ p ++ y ∷ q
  set_at p q x y n e = ap (λ (k : ℕ). set (p ++ x ∷ q) k y) (sym e) ∙ set-append_seam p x q y

cons_if : (b : Bool) (m : Mark ℕ) (xs ys zs : List (Mark ℕ)) → xs ≡ ys ++ zs → (if b then m ∷ xs else xs) ≡ (if b then m ∷ ys else ys) ++ zs
cons_if true m xs ys zs e = ap (λ (ms : List (Mark ℕ)). m ∷ ms) e
cons_if false m xs ys zs e = e

-- cuts of one more registration
cuts_more : (rs : List Registration) (r : Registration) → cuts_due (rs ++ r ∷ []) ≡ cuts_due rs ++ cuts_due (r ∷ [])
cuts_more [] r = refl
cuts_more (s ∷ rs) r = cons_if (is_over s) (mark.Cut s.client (s.taken + most_of s) s.taken) (cuts_due (rs ++ r ∷ [])) (cuts_due rs) (cuts_due (r ∷ [])) (cuts_more rs r)

-- what came for one more registration
pub one_heard : (events : List Transition) (old now : List Listening) (before cuts : List (Mark ℕ)) (i : ℕ) (d : Listening)
    → i < length old → HeardTo events old now before cuts i
    → HeardTo events old (set now i (hears events (get_or now i d))) before (cuts ++ cuts_due (with_pending events (get_or now i d).kept ∷ [])) (i + 1)
one_heard events old now before cuts i d within h =
    let x : Listening = get_or old i d in
    let done : List Listening = map (hears events) (take i old) in
    let count : length done ≡ i = length-map (take i old) (hears events) ∙ length-take-le i old (omega arith) in
    let rest : drop i old ≡ x ∷ drop (i + 1) old = drop-cons old i d within ∙ ap (λ (n : ℕ). x ∷ drop n old) (let e : suc i ≡ i + 1 = omega arith in e) in
    let is : now ≡ done ++ x ∷ drop (i + 1) old = h.now ∙ ap (λ (ls : List Listening). done ++ ls) rest in
    let here : get_or now i d ≡ x = ap (λ (ls : List Listening). get_or ls i d) is ∙ seam_at done (drop (i + 1) old) x i d count in
    let more : take (i + 1) old ≡ take i old ++ x ∷ [] = (take_at_read old i d within).1 in record {
      now =
          ap (λ (y : Listening). set now i (hears events y)) here
          ∙ ap (λ (ls : List Listening). set ls i (hears events x)) is
          ∙ set_at done (drop (i + 1) old) x (hears events x) i count
          ∙ sym (append_assoc done (hears events x ∷ []) (drop (i + 1) old))
          ∙ ap (λ (ls : List Listening). ls ++ drop (i + 1) old) (sym (map-append (hears events) (take i old) (x ∷ [])) ∙ ap (λ (ls : List Listening). map (hears events) ls) (sym more));
      cuts =
          ap (λ (y : Listening). cuts ++ cuts_due (with_pending events y.kept ∷ [])) here
          ∙ ap (λ (ms : List (Mark ℕ)). ms ++ cuts_due (with_pending events x.kept ∷ [])) h.cuts
          ∙ append_assoc before (cuts_due (map (with_pending events) (registrations (take i old)))) (cuts_due (with_pending events x.kept ∷ []))
          ∙ ap (λ (ms : List (Mark ℕ)). before ++ ms)
          (sym (cuts_more (map (with_pending events) (registrations (take i old))) (with_pending events x.kept))
          ∙ ap (λ (rs : List Registration). cuts_due rs)
          (sym (map-append (with_pending events) (registrations (take i old)) (x.kept ∷ []))
          ∙ ap (λ (rs : List Registration). map (with_pending events) rs) (sym (map-append (λ (l : Listening). l.kept) (take i old) (x ∷ [])) ∙ ap registrations (sym more))));
    }

lost_if : (b : Bool) (n : Bool) → b ≡ true → (not b && n) ≡ true → ⊥
lost_if true n e f = cc
lost_if false n e f = cc

-- a registration that was cut is not cut again
lost_not_over : (l : Listening) (events : List Transition) → l.kept.is_lost ≡ true → is_over (with_pending events l.kept) ≡ true → ⊥
lost_not_over l events is over = lost_if l.kept.is_lost _ is (ap is_over (sym (ap (λ (b : Bool). if b then l.kept else record l.kept { pending = l.kept.pending ++ events }) is)) ∙ over)

-- what a cut says of a registration
abbrev pub said_of : Listening → Cut
said_of l = record { client = l.kept.client; total = l.kept.taken + l.lost; taken = l.kept.taken }

-- the Cut mark of a registration for which more pend than may
over_open : (l : Listening) (events : List Transition) (over : Bool) → l.kept.is_lost ≡ false → nat_lt (most_of l.kept) (length (l.kept.pending ++ events)) ≡ over → over ≡ true
    → cuts_due (with_pending events l.kept ∷ []) ≡ cut_mark (said_of (hears events l)) ∷ []
over_open l events true goes over is = rw (goes, over) refl
over_open l events false goes over is = cc

over_by : (l : Listening) (events : List Transition) (lost : Bool) → l.kept.is_lost ≡ lost → is_over (with_pending events l.kept) ≡ true
    → cuts_due (with_pending events l.kept ∷ []) ≡ cut_mark (said_of (hears events l)) ∷ []
over_by l events true is over = absurd (lost_not_over l events is over)
over_by l events false is over = over_open l events (nat_lt (most_of l.kept) (length (l.kept.pending ++ events))) is refl (rw is at over)

-- the marks with that one after them
pub mark_cut : (old new : List Cut) (l : Listening) (events : List Transition) (c : Cut) → is_over (with_pending events l.kept) ≡ true
    → c ≡ said_of (hears events l) → new ≡ old ++ c ∷ [] → map cut_mark new ≡ map cut_mark old ++ cuts_due (with_pending events l.kept ∷ [])
mark_cut old new l events c over is more =
    ap (λ (cs : List Cut). map cut_mark cs) more ∙ map-append cut_mark old (c ∷ []) ∙ ap (λ (ms : List (Mark ℕ)). map cut_mark old ++ ms) (sym (over_by l events l.kept.is_lost refl over ∙ ap (λ (x : Cut). cut_mark x ∷ []) (sym is)))

pub no_cut : (old : List Cut) (l : Listening) (events : List Transition) → is_over (with_pending events l.kept) ≡ false
    → map cut_mark old ≡ map cut_mark old ++ cuts_due (with_pending events l.kept ∷ [])
no_cut old l events none = rw (none) (sym (append-nil (map cut_mark old)))

-- one more of them heard, as a loop has it
pub heard_more : (events : List Transition) (old now next : List Listening) (before left more : List (Mark ℕ)) (i : ℕ) (d : Listening)
    → i < length old → HeardTo events old now before left i → next ≡ set now i (hears events (get_or now i d))
    → more ≡ left ++ cuts_due (with_pending events (get_or now i d).kept ∷ []) → HeardTo events old next before more (i + 1)
heard_more events old now next before left more i d within h e f =
    let one = one_heard events old now before left i d within h in
    record { now = e ∙ one.now; cuts = f ∙ one.cuts }
