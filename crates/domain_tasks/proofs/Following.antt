-- A pass after some turns more.
use Rattle.std.proofs.Common.{◌≡◌, ℕ, ◌++◌, List, [], Bool, true, false, inl, inr, refl, sym, ap, ◌∙◌, subst, append_assoc, append-nil}
use Rattle.history_spec.specs.Begins.{Begins}
use Rattle.history_spec.proofs.Beginnings.{begins_itself, begins_through}
use Rattle.domain_spec.specs.Chapter.{rising_number}
use Rattle.domain_spec.specs.declared.mark.Mark.{Mark}
use Rattle.domain_obj.specs.OfCells.{CellShare}
use Rattle.domain_obj.specs.OfCells.{no_mark_lowers}
use Rattle.domain_obj.specs.InTurn.{DomainPass}
use Rattle.domain_obj.specs.Running.{DomainHistory, Goes, IsAtRest, IsReady, IsSpent}
use Rattle.domain_obj.specs.Hearing.{HasLeft}
use Rattle.domain_obj.specs.declared.ends.Hushed.{Hushed}
use Rattle.domain_obj.specs.declared.ends.Hushed.TheVariants as hushed
use Rattle.outcome_spec.specs.Rows.{IsLater}
use Rattle.turn_cell.specs.Turning.{SamePass}
use Rattle.domain_tasks.specs.Passes.{known}

-- it is the same pass, has seen more, and left these marks
pub record Follows (more : List (ℕ × Mark ℕ)) (before after : DomainPass) : Type 0 where
  pub same : SamePass before after
  pub seen : Begins rising_number before.seen after.seen
  pub mine : after.mine ≡ before.mine ++ more
  pub spent : before.spent ≡ true → after.spent ≡ true

pub of_goes : (turns : ℕ) (more : List (ℕ × Mark ℕ)) (before after : DomainPass) → Goes turns more before after → Follows more before after
of_goes turns more before after g = record { same = g.went.same; seen = g.went.seen; mine = g.went.mine; spent = λ e. g.went.spent ∙ e }

same_by : (before after : DomainPass) (b : Bool) → after ≡ record before { spent = b } → SamePass before after
same_by before after b e = record {
  cell = ap (λ (p : DomainPass). p.cell) e;
  first = ap (λ (p : DomainPass). p.first) e;
  number = ap (λ (p : DomainPass). p.number) e;
  parts = ap (λ (p : DomainPass). p.parts) e;
  ended = ap (λ (p : DomainPass). p.ended) e;
}

pub is_spent : (before after : DomainPass) → IsSpent before after → after.spent ≡ true
is_spent before after e = ap (λ (p : DomainPass). p.spent) e

pub of_spent : (before after : DomainPass) → IsSpent before after → Follows [] before after
of_spent before after e = record {
  same = same_by before after true e;
  seen = subst (λ (h : DomainHistory). Begins rising_number before.seen h) (sym (ap (λ (p : DomainPass). p.seen) e)) (begins_itself rising_number before.seen);
  mine = ap (λ (p : DomainPass). p.mine) e ∙ sym (append-nil before.mine);
  spent = λ f. is_spent before after e;
}

-- no turns
pub follows_same : (before after : DomainPass) → after ≡ before → Follows [] before after
follows_same before after e = record {
  same = same_by before after before.spent e;
  seen = subst (λ (h : DomainHistory). Begins rising_number before.seen h) (sym (ap (λ (p : DomainPass). p.seen) e)) (begins_itself rising_number before.seen);
  mine = ap (λ (p : DomainPass). p.mine) e ∙ sym (append-nil before.mine);
  spent = λ f. ap (λ (p : DomainPass). p.spent) e ∙ f;
}

-- turns after turns

same_on : (a b c : DomainPass) → SamePass a b → SamePass b c → SamePass a c
same_on a b c p q = record { cell = q.cell ∙ p.cell; first = q.first ∙ p.first; number = q.number ∙ p.number; parts = q.parts ∙ p.parts; ended = q.ended ∙ p.ended }

follows_on : (xs ys : List (ℕ × Mark ℕ)) (a b c : DomainPass) → Follows xs a b → Follows ys b c → Follows (xs ++ ys) a c
follows_on xs ys a b c p q = record {
  same = same_on a b c p.same q.same;
  seen = begins_through rising_number no_mark_lowers a.seen b.seen c.seen p.seen q.seen;
  mine = q.mine ∙ (ap (λ (l : List (ℕ × Mark ℕ)). l ++ ys) p.mine ∙ append_assoc a.mine xs ys);
  spent = λ e. q.spent (p.spent e);
}

-- turns without a mark
pub follows_still : (xs : List (ℕ × Mark ℕ)) (a b c : DomainPass) → Follows xs a b → Follows [] b c → Follows xs a c
follows_still xs a b c p q = subst (λ (l : List (ℕ × Mark ℕ)). Follows l a c) (append-nil xs) (follows_on xs [] a b c p q)

-- and then no ticket was left
pub follows_spent : (turns : ℕ) (xs : List (ℕ × Mark ℕ)) (a b c : DomainPass) → Goes turns xs a b → IsSpent b c → Follows xs a c
follows_spent turns xs a b c g e = follows_still xs a b c (of_goes turns xs a b g) (of_spent b c e)

pub later_by : (more : List (ℕ × Mark ℕ)) (before after : DomainPass) → Follows more before after → IsLater rising_number (known before) (known after)
later_by more before after f = record { number = f.same.number; seen = f.seen; mine = (more, sym f.mine); spent = f.spent }

-- a pass that may call, after that

rest_stays : (before after : DomainPass) → after.share ≡ before.share → IsAtRest before → IsAtRest after
rest_stays before after same rest = record {
  call = ap (λ (s : CellShare). s.kept.call) same ∙ rest.call;
  operation = ap (λ (s : CellShare). s.kept.operation) same ∙ rest.operation;
  waits = ap (λ (s : CellShare). s.kept.waits) same ∙ rest.waits;
  ears = ap (λ (s : CellShare). s.kept.ears) same ∙ rest.ears;
}

pub ready_stays : (turns : ℕ) (more : List (ℕ × Mark ℕ)) (before after : DomainPass) → Goes turns more before after → after.share ≡ before.share → IsReady before → IsReady after
ready_stays turns more before after goes same (inl spent) = inl (goes.went.spent ∙ spent)
ready_stays turns more before after goes same (inr rest) = inr (rest_stays before after same rest)

pub ready_spent : (last after : DomainPass) → IsSpent last after → IsReady after
ready_spent last after e = inl (is_spent last after e)

-- what is kept for it, as long as a ticket is left

abbrev pub Keeps : DomainPass → DomainPass → Type 0
Keeps before after = after.spent ≡ false → after.share ≡ before.share

true_false : {A : Type 0} → true ≡ false → A
true_false e = cc

pub keeps_spent : (before last after : DomainPass) → IsSpent last after → Keeps before after
keeps_spent before last after e fresh = true_false (sym (is_spent last after e) ∙ fresh)

-- where a later pass is fresh, so was the earlier one
fresh_before : (b c : Bool) → (b ≡ true → c ≡ true) → c ≡ false → b ≡ false
fresh_before true c f e = true_false (sym (f refl) ∙ e)
fresh_before false c f e = refl

pub keeps_on : (xs : List (ℕ × Mark ℕ)) (a b c : DomainPass) → Keeps a b → Follows xs b c → Keeps b c → Keeps a c
keeps_on xs a b c p f q fresh = q fresh ∙ p (fresh_before b.spent c.spent f.spent fresh)

-- and after it has heard the guest

pub follows_left : (before after : DomainPass) (q : Hushed) → HasLeft before after q → Follows [] before after
follows_left before after (hushed.Quiet seen) h = of_goes h.turns [] before after h.leaves.goes
follows_left before after (hushed.NoMemory seen) h = of_goes h.turns [] before after h.leaves.goes
follows_left before after (hushed.Unheard seen) h = of_goes h.turns [] before after h.leaves.goes
follows_left before after (hushed.Often seen) h = of_goes h.turns [] before after h.leaves.goes
follows_left before after hushed.Spent (turns, last, goes, spent) = follows_spent turns [] before last after goes spent

pub ready_left : (before after : DomainPass) (q : Hushed) → HasLeft before after q → IsReady before → IsReady after
ready_left before after (hushed.Quiet seen) h ready = ready_stays h.turns [] before after h.leaves.goes h.leaves.share ready
ready_left before after (hushed.NoMemory seen) h ready = ready_stays h.turns [] before after h.leaves.goes h.leaves.share ready
ready_left before after (hushed.Unheard seen) h ready = ready_stays h.turns [] before after h.leaves.goes h.leaves.share ready
ready_left before after (hushed.Often seen) h ready = ready_stays h.turns [] before after h.leaves.goes h.leaves.share ready
ready_left before after hushed.Spent (turns, last, goes, spent) ready = ready_spent last after spent

pub keeps_left : (before after : DomainPass) (q : Hushed) → HasLeft before after q → Keeps before after
keeps_left before after (hushed.Quiet seen) h = λ fresh. h.leaves.share
keeps_left before after (hushed.NoMemory seen) h = λ fresh. h.leaves.share
keeps_left before after (hushed.Unheard seen) h = λ fresh. h.leaves.share
keeps_left before after (hushed.Often seen) h = λ fresh. h.leaves.share
keeps_left before after hushed.Spent (turns, last, goes, spent) = keeps_spent before last after spent
