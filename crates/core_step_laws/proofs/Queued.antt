-- Who waits by another number still waits, and the ears that it has out stay.
use Rattle.std.proofs.Common.{◌≡◌, ◌⊎◌, inl, inr, ℕ, ◌==◌, List, [], ◌∷◌, ◌++◌, filter, find, Bool, true, false, not, Option, None, Some, option_map, if◌then◌else◌, refl, sym, ap, ◌∙◌, subst}
use Rattle.domain_spec.specs.Types.{Call, Who}
use Rattle.domain_spec.specs.declared.core_step.CoreStep.{CoreStep}
use Rattle.domain_spec.specs.declared.core_step.CoreStep.TheVariants as step
use Rattle.domain_spec.specs.declared.mark.Mark.{Mark}
use Rattle.domain_spec.specs.Cell.{Cell, LentEars, Queue, WaitingPass, ears_of, waits_of}
use Rattle.domain_spec.specs.Kept.{LooksOn, WaitAfter, ears_after, joined_queue, left_queue, told_of, without_pass}
use Rattle.core_step_laws.specs.Shares.{IsStepOf, IsToldBy}
use Rattle.core_step_laws.proofs.Jobs.{differ, same_by}

abbrev place_of : ℕ → List WaitingPass → Option WaitingPass
place_of m ps = find (λ p. p.number == m) ps

find_if : (b : Bool) (p : WaitingPass) (x y : Option WaitingPass) → x ≡ y → (if b then Some p else x) ≡ (if b then Some p else y)
find_if true p x y e = refl
find_if false p x y e = e

other_first : (m : ℕ) (p : WaitingPass) (ps : List WaitingPass) → (p.number ≡ m → ⊥) → place_of m (p ∷ ps) ≡ place_of m ps
other_first m p ps unlike = ap (λ (b : Bool). if b then Some p else place_of m ps) (differ p.number m (p.number == m) refl unlike)

left_one : (n m : ℕ) (b : Bool) (p : WaitingPass) (ps kept : List WaitingPass) → (p.number == n) ≡ b → (m ≡ n → ⊥) → place_of m kept ≡ place_of m ps
    → place_of m (if not b then p ∷ kept else kept) ≡ place_of m (p ∷ ps)
left_one n m true p ps kept e unlike h = h ∙ sym (other_first m p ps (λ f. unlike (sym f ∙ same_by p.number n (p.number == n) refl e)))
left_one n m false p ps kept e unlike h = find_if (p.number == m) p (place_of m kept) (place_of m ps) h

without_stays : (n m : ℕ) (ps : List WaitingPass) → (m ≡ n → ⊥) → place_of m (without_pass ps n) ≡ place_of m ps
without_stays n m [] unlike = refl
without_stays n m (p ∷ ps) unlike = left_one n m (p.number == n) p ps (without_pass ps n) refl unlike (without_stays n m ps unlike)

came_last : (m : ℕ) (p : WaitingPass) (ps : List WaitingPass) → (p.number ≡ m → ⊥) → place_of m (ps ++ p ∷ []) ≡ place_of m ps
came_last m p [] unlike = other_first m p [] unlike
came_last m p (x ∷ ps) unlike = find_if (x.number == m) x (place_of m (ps ++ p ∷ [])) (place_of m ps) (came_last m p ps unlike)

who_by : (m : ℕ) (ps qs : List WaitingPass) → place_of m ps ≡ place_of m qs → waits_of ps m ≡ waits_of qs m
who_by m ps qs e = ap (λ (p : Option WaitingPass). option_map (λ (x : WaitingPass). x.who) p) e

left_waits : (q : Queue) (n m : ℕ) (who : Who) → (m ≡ n → ⊥) → waits_of (left_queue q n who).passes m ≡ waits_of q.passes m
left_waits q n m who unlike = who_by m (without_pass q.passes n) q.passes (without_stays n m q.passes unlike)

joined_waits : (q : Queue) (n m : ℕ) (who : Who) → (m ≡ n → ⊥) → waits_of (joined_queue q n who).passes m ≡ waits_of q.passes m
joined_waits q n m who unlike =
    who_by m (joined_queue q n who).passes q.passes
    (came_last m (record { number = n; who = who }) (without_pass q.passes n) (λ e. unlike (sym e)) ∙ without_stays n m q.passes unlike)

by_queue : (p q : Queue) (m : ℕ) → p ≡ q → waits_of p.passes m ≡ waits_of q.passes m
by_queue p q m e = ap (λ (x : Queue). waits_of x.passes m) e

looks_wait : (c : Cell) (n m k : ℕ) (who : Who) (d : Call) (marks : List (Mark ℕ)) (p : Queue) → k ≡ n → (m ≡ n → ⊥) → LooksOn c k who d marks p → waits_of p.passes m ≡ waits_of c.queue.passes m
looks_wait c n m k who d [] p e unlike (inl h) = by_queue p (left_queue c.queue k who) m h ∙ left_waits c.queue k m who (λ f. unlike (f ∙ e))
looks_wait c n m k who d [] p e unlike (inr h) = by_queue p (joined_queue c.queue k who) m h.1 ∙ joined_waits c.queue k m who (λ f. unlike (f ∙ e))
looks_wait c n m k who d (x ∷ marks) p e unlike h = by_queue p (left_queue c.queue k who) m h ∙ left_waits c.queue k m who (λ f. unlike (f ∙ e))

pub waits_stay : (c : Cell) (t : CoreStep ℕ) (n m : ℕ) (marks : List (Mark ℕ)) (p : Queue) → IsStepOf n t → (m ≡ n → ⊥) → WaitAfter c t marks p → waits_of p.passes m ≡ waits_of c.queue.passes m
waits_stay c (step.Look k who d first) n m marks p e unlike h = looks_wait c n m k who d marks p e unlike h
waits_stay c (step.BeginOp k who d) n m marks p e unlike h = looks_wait c n m k who d marks p e unlike h
waits_stay c (step.TakeUp k who d) n m marks p e unlike h = looks_wait c n m k who d marks p e unlike h
waits_stay c (step.GiveUp k who d) n m marks p e unlike h = by_queue p (left_queue c.queue k who) m h ∙ left_waits c.queue k m who (λ f. unlike (f ∙ e))
waits_stay c (step.Rotate k who) n m marks p e unlike (inl h) = by_queue p c.queue m h
waits_stay c (step.Rotate k who) n m marks p e unlike (inr h) = by_queue p (left_queue c.queue k who) m h ∙ left_waits c.queue k m who (λ f. unlike (f ∙ e))
waits_stay c other n m marks p e unlike h = by_queue p c.queue m h

-- ears

told_other : (n m : ℕ) (ears : LentEars) → ears.number ≡ n → (m ≡ n → ⊥) → ears_of (Some (told_of ears)) m ≡ ears_of (Some ears) m
told_other n m ears mine unlike =
    let apart : (ears.number == m) ≡ false = differ ears.number m (ears.number == m) refl (λ e. unlike (sym e ∙ mine)) in
    ap (λ (b : Bool). if b then Some (told_of ears) else None) apart ∙ sym (ap (λ (b : Bool). if b then Some ears else None) apart)

pub ears_stay : (t : CoreStep ℕ) (n m : ℕ) (ears : Option LentEars) → IsToldBy n t ears → (m ≡ n → ⊥) → ears_of (ears_after t ears) m ≡ ears_of ears m
ears_stay (step.Exit boot why) n m None mine unlike = refl
ears_stay (step.Exit boot why) n m (Some ears) mine unlike = told_other n m ears mine unlike
ears_stay (step.Event boot e) n m None mine unlike = refl
ears_stay (step.Event boot e) n m (Some ears) mine unlike = told_other n m ears mine unlike
ears_stay other n m ears mine unlike = refl
