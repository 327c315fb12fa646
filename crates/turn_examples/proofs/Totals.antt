-- The total of what passes added is the total of the counter.
use Rattle.std.proofs.Common.{◌≡◌, ◌≢◌, ◌⊎◌, ℕ, ◌+◌, ◌*◌, Bool, cond, eqb, List, [], ◌∷◌, ◌++◌, length, refl, sym, ap, ◌∙◌, subst, ⊎_elim, inl, eq-eqb, ne_eqb, suc, suc-mul, map, arith}
use Rattle.std.specs.Prelude.{filter}
use Rattle.std.proofs.lemmas.List.Sums.{sum_by-cons}
use Rattle.history_spec.specs.declared.history.Ended.{Ended}
use Rattle.history_spec.specs.Chapter.{in_chapter}
use Rattle.history_spec.specs.Pass.{own}
use Rattle.turn_cell.specs.Known.{AreApart}
use Rattle.turn_cell.specs.Steps.{HasEnded}
use Rattle.turn_cell.specs.Passes.{Passed, IsFirst, IsCutOff, joined, Closes, AreAmong}
use Rattle.turn_examples.specs.declared.counter.Amount.{Amount}
use Rattle.turn_examples.specs.Counting.{total_of}
use Rattle.turn_examples.specs.Keeping.{meaning}
use Rattle.turn_examples.specs.Many.{AreAdded, HasAddedMany}

abbrev of : ℕ → List Amount → List Amount
of n ms = own meaning.whose n ms

of_here : (n : ℕ) (m : Amount) (ms : List Amount) → m.by.number ≡ n → of n (m ∷ ms) ≡ m ∷ of n ms
of_here n m ms is = ap (λ (b : Bool). cond b (m ∷ of n ms) (of n ms)) (eq-eqb m.by.number n is)

of_other : (n : ℕ) (m : Amount) (ms : List Amount) → m.by.number ≢ n → of n (m ∷ ms) ≡ of n ms
of_other n m ms ne = ap (λ (b : Bool). cond b (m ∷ of n ms) (of n ms)) (ne_eqb m.by.number n ne)

-- where each mark is of one of two numbers, their totals make the whole
two_totals : (n : ℕ) (last : Ended Amount) (ms : List Amount) → n ≢ last.number → AreAmong meaning n (last ∷ []) ms → total_of ms ≡ total_of (of n ms) + total_of (of last.number ms)
two_totals n last [] ne h = refl
two_totals n last (m ∷ ms) ne h =
    let k : ℕ = last.number in
    let rest = two_totals n last ms ne h.1 in
    let amount : Amount → ℕ = λ (x : Amount). x.amount in
    ⊎_elim
    (λ (e : m.by.number ≡ n). omega (arith, rest, sum_by-cons amount m ms, sum_by-cons amount m (of n ms), ap total_of (of_here n m ms e), ap total_of (of_other k m ms (λ x. ne (sym e ∙ x)))))
    (λ (o : (k ≡ m.by.number) ⊎ ⊥). ⊎_elim
    (λ (e : k ≡ m.by.number). omega (arith, rest, sum_by-cons amount m ms, sum_by-cons amount m (of k ms), ap total_of (of_here k m ms (sym e)), ap total_of (of_other n m ms (λ x. ne (sym x ∙ sym e)))))
    (λ (x : ⊥). absurd x)
    o)
    h.0

-- the total of marks of one amount
added_total : (number amount : ℕ) (xs : List (ℕ × Amount)) → AreAdded number amount xs → total_of (in_chapter 0 xs) ≡ length xs * amount
added_total number amount [] h = omega arith
added_total number amount (x ∷ xs) h =
    let rest = added_total number amount xs h.3 in
    let here : in_chapter 0 (x ∷ xs) ≡ x.1 ∷ in_chapter 0 xs = ap (λ (b : Bool). map (λ (y : ℕ × Amount). y.1) (cond b (x ∷ filter (λ (y : ℕ × Amount). eqb y.0 0) xs) (filter (λ (y : ℕ × Amount). eqb y.0 0) xs))) (eq-eqb x.0 0 h.0) in
    let one = h.2 in
    ap total_of here ∙ (sum_by-cons (λ (y : Amount). y.amount) x.1 (in_chapter 0 xs) ∙ (λ i. one i + rest i) ∙ by (length xs) amount)
  where
    by : (n a : ℕ) → a + n * a ≡ suc n * a
    by n a = omega (arith, suc-mul n a)

-- two passes that began with nothing, and were joined
pub both_totals : (times : ℕ) (value : List Amount) (first rest cut one other pass : Passed (Unit {0}) Amount (Unit {0})) → IsFirst meaning [] 0 first → rest.mine ≡ first.mine → rest.ended ≡ first.ended → IsCutOff meaning first cut
    → HasAddedMany 1 times rest one → HasAddedMany 1 times cut other → pass ≡ joined one other → Closes meaning pass value → total_of value ≡ times + times
both_totals times value first rest cut one other pass is same_mine same_ended off a b both end =
    let mine : one.mine ≡ a.more = a.went.mine ∙ (ap (λ (l : List (ℕ × Amount)). l ++ a.more) (same_mine ∙ ap (λ (p : Passed (Unit {0}) Amount (Unit {0})). p.mine) is)) in
    let theirs : other.mine ≡ b.more = b.went.mine ∙ (ap (λ (l : List (ℕ × Amount)). l ++ b.more) (ap (λ (p : Passed (Unit {0}) Amount (Unit {0})). p.mine) off.rest)) in
    let none : one.ended ≡ [] = a.went.same.ended ∙ (same_ended ∙ ap (λ (p : Passed (Unit {0}) Amount (Unit {0})). p.ended) is) in
    let none' : other.ended ≡ [] = b.went.same.ended ∙ ap (λ (p : Passed (Unit {0}) Amount (Unit {0})). p.ended) off.rest in
    let last : Ended Amount = record { number = other.number; turns = other.turns; mine = other.mine } in
    let ended : pass.ended ≡ last ∷ [] = ap (λ (p : Passed (Unit {0}) Amount (Unit {0})). p.ended) both ∙ (λ i. none i ++ last ∷ none' i) in
    let number : pass.number ≡ one.number = ap (λ (p : Passed (Unit {0}) Amount (Unit {0})). p.number) both in
    let pass_mine : pass.mine ≡ a.more = ap (λ (p : Passed (Unit {0}) Amount (Unit {0})). p.mine) both ∙ mine in
    let has : HasEnded meaning value (last ∷ []) = subst (HasEnded meaning value) ended end.ended in
    let apart : AreApart pass.number (last ∷ []) = subst (AreApart pass.number) ended end.apart in
    let all : AreAmong meaning pass.number (last ∷ []) value = subst (λ (es : List (Ended Amount)). AreAmong meaning pass.number es value) ended end.all in
    let whole = two_totals pass.number last value (λ e. apart.0 (inl (sym e))) all in
    let ours : total_of (of pass.number value) ≡ times * 1 = ap total_of (end.mine ∙ ap (in_chapter 0) pass_mine) ∙ (added_total rest.number 1 a.more a.added ∙ ap (λ (n : ℕ). n * 1) a.many) in
    let others : total_of (of other.number value) ≡ times * 1 = ap total_of (has.0 ∙ ap (in_chapter 0) theirs) ∙ (added_total cut.number 1 b.more b.added ∙ ap (λ (n : ℕ). n * 1) b.many) in
    omega (arith, whole, ours, others)
