-- What the share of a pass says of the domain.
use Rattle.std.proofs.Common.{◌≡◌, ◌≢◌, ℕ, ◌==◌, Bool, true, false, not, ◌&&◌, Option, None, Some, if◌then◌else◌, refl, arith}
use Rattle.std.proofs.lemmas.Bool.Decides.{nat_tests}
use Rattle.domain_spec.specs.Types.{Call, Who}
use Rattle.domain_spec.specs.declared.core_step.First.{First}
use Rattle.domain_spec.specs.declared.core_step.First.TheVariants as first
use Rattle.domain_spec.specs.declared.open.OpenJob.{OpenJob}
use Rattle.domain_spec.specs.declared.open.OpenOperation.{OpenOperation}
use Rattle.domain_spec.specs.declared.standing.Standing.{Standing}
use Rattle.domain_spec.specs.declared.step.Outcome.{Outcome}
use Rattle.domain_spec.specs.declared.step.Outcome.TheVariants as outcome
use Rattle.domain_spec.specs.CanTake.{HasNoneOpen, IsAway, IsFirst, IsNotJobOf, IsNotOperationOf}
use Rattle.domain_spec.specs.Cell.{Cell, OpenCall, as_let_in, asks_so_far, call_of, operation_of, share_of, standing_of}
use Rattle.domain_spec.specs.Open.{IsOtherNumber, is_rest}
use Rattle.domain_core.specs.Shares.{AwaitsAnswer, FreeSharesBegin, FreeSharesLook, FreeSharesTakeUp, IsFree, KeepsFirst, OpenSharesGoBack, OperationSharesEnd, OperationSharesPhase}
use Rattle.core_steps.specs.OperationEnding.{CanEnd}
use Rattle.core_steps.specs.Phasing.{IsDue}

other_number : (m n : ℕ) → (m == n) ≡ false → n ≢ m
other_number m n e = λ same. let t : (m == n) ≡ true = grind (arith, nat_tests, same) in cc

same_number : (m n : ℕ) → (m == n) ≡ true → n ≡ m
same_number m n e = grind (arith, nat_tests, e)

-- nothing of this number is open

no_call_if : (b : Bool) (m n : ℕ) (oc : OpenCall) → (m == n) ≡ b → (if b then Some oc else None) ≡ None → n ≢ m
no_call_if true m n oc is e = cc
no_call_if false m n oc is e = other_number m n is

no_call : (c : Cell) (s : Standing) (j : Option OpenJob) (n : ℕ) → call_of s j c.answers n ≡ None → IsNotJobOf j n
no_call c s None n e = tt
no_call c s (Some j) n e = no_call_if (j.number == n) j.number n (record { job = as_let_in j; asks = asks_so_far s j.job j c.answers; answers = c.answers }) refl e

not_and : (a b : Bool) → (a && b) ≡ false → b ≡ true → a ≡ false
not_and true b e f = cc
not_and false b e f = refl

none_if : (b : Bool) (o : OpenOperation) → (if b then Some o else None) ≡ None → b ≡ false
none_if true o e = cc
none_if false o e = refl

other_by : (x : Outcome) (m n : ℕ) → ((m == n) && not (is_rest x)) ≡ false → IsOtherNumber x n m
other_by (outcome.Rest r) m n e = tt
other_by (outcome.On p) m n e = other_number m n (not_and (m == n) true e refl)
other_by (outcome.Over r) m n e = other_number m n (not_and (m == n) true e refl)

no_operation : (o : Option OpenOperation) (n : ℕ) → operation_of o n ≡ None → IsNotOperationOf o n
no_operation None n e = tt
no_operation (Some o) n e = other_by o.outcome o.number n (none_if ((o.number == n) && not (is_rest o.outcome)) o e)

pub none_open : (c : Cell) (n : ℕ) (who : Who) → IsFree (share_of c n) who → HasNoneOpen (standing_of c) n
none_open c n who free =
    record { no_call = no_call c (standing_of c) (standing_of c).job n free.no_call; no_operation = no_operation (standing_of c).operation n free.no_operation }

first_kept : (c : Cell) (n : ℕ) (who : Who) (d : Call) (f : First) → KeepsFirst (share_of c n) who d f → IsFirst c n who d f
first_kept c n who d first.Now h = tt
first_kept c n who d (first.Boot boot) h = h

pub free_look : FreeSharesLook
free_look c n who d f free kept begins takes =
    record { none_open = none_open c n who free; begins_none = begins; takes_none = takes; waits = free.waits; first_look = first_kept c n who d f kept }

pub free_begin : FreeSharesBegin
free_begin c n who d free begins = (none_open c n who free, begins, free.waits)

pub free_take_up : FreeSharesTakeUp
free_take_up c n who d free takes = (none_open c n who free, takes, free.waits)

-- an open call that waits

away_if : (b : Bool) (c : Cell) (j : OpenJob) (n : ℕ) → (j.number == n) ≡ b
    → AwaitsAnswer (if b then Some (record { job = as_let_in j; asks = asks_so_far (standing_of c) j.job j c.answers; answers = c.answers }) else None) → IsAway c (Some j) n
away_if true c j n is h = (same_number j.number n is, h)
away_if false c j n is h = absurd h

away_by : (c : Cell) (j : Option OpenJob) (n : ℕ) → AwaitsAnswer (call_of (standing_of c) j c.answers n) → IsAway c j n
away_by c None n h = absurd h
away_by c (Some j) n h = away_if (j.number == n) c j n refl h

pub open_back : OpenSharesGoBack
open_back c n x h = away_by c (standing_of c).job n h

-- an open operation

due_if : (b : Bool) (o : OpenOperation) (n : ℕ) (who : Who) → IsDue (if b then Some o else None) n who → IsDue (Some o) n who
due_if true o n who h = h
due_if false o n who h = absurd h

due_of : (o : Option OpenOperation) (n : ℕ) (who : Who) → IsDue (operation_of o n) n who → IsDue o n who
due_of None n who h = h
due_of (Some o) n who h = due_if ((o.number == n) && not (is_rest o.outcome)) o n who h

pub share_phase : OperationSharesPhase
share_phase c n who h = due_of (standing_of c).operation n who h

end_if : (b : Bool) (o : OpenOperation) (n : ℕ) (who : Who) → CanEnd (if b then Some o else None) n who → CanEnd (Some o) n who
end_if true o n who h = h
end_if false o n who h = absurd h

end_of : (o : Option OpenOperation) (n : ℕ) (who : Who) → CanEnd (operation_of o n) n who → CanEnd o n who
end_of None n who h = h
end_of (Some o) n who h = end_if ((o.number == n) && not (is_rest o.outcome)) o n who h

pub share_end : OperationSharesEnd
share_end c n who h = end_of (standing_of c).operation n who h
