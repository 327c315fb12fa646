-- What a sink took, of bytes and then of others.
use Rattle.std.proofs.Common.{◌≡◌, ◌≤◌, ◌++◌, ℕ, List, length, take, Option, Result, Ok, Err, sym, ap, ◌∙◌, subst, length-append, arith}
use Rattle.std.specs.Io.KnownBytes.{Appends}
use Rattle.std.proofs.lemmas.List.{take-append-le}
use lib.Seq.{take-append-add}
use Rattle.packet.proofs.Known.{Appends-then}
use Rattle.sink_turns.specs.Putting.{Takes, TakesAfter}

-- a front of the first bytes is one of both
pub takes_front : (h k : Option (List ℕ)) (xs ys : List ℕ) (n : ℕ) → Takes h k xs (Err n) → Takes h k (xs ++ ys) (Err n)
takes_front h k xs ys n t = (
  omega (arith, length-append xs ys, t.0),
  let le : n ≤ length xs = omega (arith, t.0) in subst (Appends h k) (sym (take-append-le n xs ys le)) t.1,
)

-- the first bytes, and what was taken of the others
pub takes_both : (h k l : Option (List ℕ)) (xs ys : List ℕ) (u : Unit {0}) (r : Result (Unit {0}) ℕ) → Takes h k xs (Ok u) → TakesAfter (length xs) k l ys r → Takes h l (xs ++ ys) r
takes_both h k l xs ys u (Ok v) a b = Appends-then h k l xs ys a b
takes_both h k l xs ys u (Err n) a b =
    let m = b.0 in
    let front : take n (xs ++ ys) ≡ xs ++ take m ys = ap (λ (i : ℕ). take i (xs ++ ys)) b.1 ∙ take-append-add xs ys m in (
      omega (arith, length-append xs ys, b.1, b.2.0),
      subst (Appends h l) (sym front) (Appends-then h k l xs (take m ys) a b.2.1),
    )
