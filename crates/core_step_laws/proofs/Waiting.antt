-- Who waits by a number after a turn of its own.
use Rattle.std.proofs.Common.{◌≡◌, inl, inr, ℕ, ◌≤◌, ◌==◌, List, [], ◌∷◌, ◌++◌, find, Bool, true, false, not, Option, None, Some, option_map, if◌then◌else◌, refl, sym, ap, ◌∙◌, subst, eq-eqb, arith}
use Rattle.std.specs.Prelude.{unwrap_or}
use Rattle.domain_spec.specs.Types.{Call, Who}
use Rattle.domain_spec.specs.declared.mark.Mark.{Mark}
use Rattle.domain_spec.specs.Cell.{Cell, Queue, Waiter, WaitingPass, waits_of}
use Rattle.domain_spec.specs.Kept.{LooksOn, joined_queue, left_queue, looks_of, without_caller, without_pass}
use Rattle.domain_spec.specs.Open.{is_same_who}
use Rattle.core_step_laws.specs.Looked.{MayWait, WaitsOn}

abbrev place_of : ℕ → List WaitingPass → Option WaitingPass
place_of n ps = find (λ p. p.number == n) ps

-- a number that left

gone_if : (n : ℕ) (b : Bool) (p : WaitingPass) (kept : List WaitingPass) → (p.number == n) ≡ b → place_of n kept ≡ None → place_of n (if not b then p ∷ kept else kept) ≡ None
gone_if n true p kept e none = none
gone_if n false p kept e none = ap (λ (b : Bool). if b then Some p else place_of n kept) e ∙ none

gone : (n : ℕ) (ps : List WaitingPass) → place_of n (without_pass ps n) ≡ None
gone n [] = refl
gone n (p ∷ ps) = gone_if n (p.number == n) p (without_pass ps n) refl (gone n ps)

pub left_waits : (q : Queue) (n : ℕ) (who : Who) → waits_of (left_queue q n who).passes n ≡ None
left_waits q n who = ap (λ (p : Option WaitingPass). option_map (λ (x : WaitingPass). x.who) p) (gone n q.passes)

-- a number that waits

came_if : (n : ℕ) (b : Bool) (p x : WaitingPass) (kept : List WaitingPass) → (p.number == n) ≡ b → place_of n (kept ++ x ∷ []) ≡ Some x → place_of n ((if not b then p ∷ kept else kept) ++ x ∷ []) ≡ Some x
came_if n true p x kept e there = there
came_if n false p x kept e there = ap (λ (b : Bool). if b then Some p else place_of n (kept ++ x ∷ [])) e ∙ there

came : (n : ℕ) (x : WaitingPass) (ps : List WaitingPass) → (x.number == n) ≡ true → place_of n (without_pass ps n ++ x ∷ []) ≡ Some x
came n x [] e = ap (λ (b : Bool). if b then Some x else None) e
came n x (p ∷ ps) e = came_if n (p.number == n) p x (without_pass ps n) refl (came n x ps e)

joined_waits : (q : Queue) (n : ℕ) (who : Who) → waits_of (joined_queue q n who).passes n ≡ Some who
joined_waits q n who =
    ap (λ (p : Option WaitingPass). option_map (λ (x : WaitingPass). x.who) p) (came n (record { number = n; who = who }) q.passes (eq-eqb n n refl))

-- a caller that does not wait has looked at nothing

abbrev found : List Waiter → Who → Option Waiter
found ws who = find (λ w. is_same_who w.who who) ws

lost_if : (b : Bool) (w : Waiter) (kept : List Waiter) (who : Who) → is_same_who w.who who ≡ b → found kept who ≡ None → found (if not b then w ∷ kept else kept) who ≡ None
lost_if true w kept who e none = none
lost_if false w kept who e none = ap (λ (b : Bool). if b then Some w else found kept who) e ∙ none

lost : (ws : List Waiter) (who : Who) → found (without_caller ws who) who ≡ None
lost [] who = refl
lost (w ∷ ws) who = lost_if (is_same_who w.who who) w (without_caller ws who) who refl (lost ws who)

left_looks : (q : Queue) (n : ℕ) (who : Who) → looks_of (left_queue q n who).callers who ≡ 0
left_looks q n who = ap (λ (w : Option Waiter). unwrap_or (option_map (λ (x : Waiter). x.looks) w) 0) (lost q.callers who)

-- who looked

by_queue : (p q : Queue) (n : ℕ) → p ≡ q → waits_of p.passes n ≡ waits_of q.passes n
by_queue p q n e = ap (λ (x : Queue). waits_of x.passes n) e

pub queue_left : (p q : Queue) (n : ℕ) (who : Who) → p ≡ left_queue q n who → waits_of p.passes n ≡ None
queue_left p q n who e = by_queue p (left_queue q n who) n e ∙ left_waits q n who

pub queue_joined : (p q : Queue) (n : ℕ) (who : Who) → p ≡ joined_queue q n who → waits_of p.passes n ≡ Some who
queue_joined p q n who e = by_queue p (joined_queue q n who) n e ∙ joined_waits q n who

none_waits : (who : Who) (now : Option Who) → now ≡ None → MayWait who now
none_waits who now e = subst (λ (x : Option Who). MayWait who x) (sym e) tt

it_waits : (who : Who) (now : Option Who) → now ≡ Some who → MayWait who now
it_waits who now e = subst (λ (x : Option Who). MayWait who x) (sym e) refl

pub look_may : (c : Cell) (n : ℕ) (who : Who) (d : Call) (left : List (Mark ℕ)) (p : Queue) → left ≡ [] → LooksOn c n who d left p → MayWait who (waits_of p.passes n)
look_may c n who d [] p none (inl h) = none_waits who (waits_of p.passes n) (queue_left p c.queue n who h)
look_may c n who d [] p none (inr h) = it_waits who (waits_of p.passes n) (queue_joined p c.queue n who h.1)
look_may c n who d (m ∷ left) p none h = cc

counts_none : (looks : ℕ) → looks ≡ 0 → 1 ≤ looks → ⊥
counts_none looks e le = omega arith

pub look_waits : (c : Cell) (n : ℕ) (who : Who) (d : Call) (left : List (Mark ℕ)) (p : Queue) (looks : ℕ) → left ≡ [] → looks ≡ looks_of p.callers who → LooksOn c n who d left p → WaitsOn who looks (waits_of p.passes n)
look_waits c n who d [] p looks none count (inl h) = record {
  at_most = none_waits who (waits_of p.passes n) (queue_left p c.queue n who h);
  counted = λ le. absurd (counts_none looks (count ∙ ap (λ (x : Queue). looks_of x.callers who) h ∙ left_looks c.queue n who) le);
}
look_waits c n who d [] p looks none count (inr h) =
    let there : waits_of p.passes n ≡ Some who = queue_joined p c.queue n who h.1 in
    record { at_most = it_waits who (waits_of p.passes n) there; counted = λ le. there }
look_waits c n who d (m ∷ left) p looks none count h = cc

pub some_left : (c : Cell) (n : ℕ) (who : Who) (d : Call) (m : Mark ℕ) (left : List (Mark ℕ)) (p : Queue) → LooksOn c n who d (m ∷ left) p → waits_of p.passes n ≡ None
some_left c n who d m left p h = queue_left p c.queue n who h
