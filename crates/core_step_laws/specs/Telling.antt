-- What a number's share shows of the steps that it can take.
use Rattle.std.specs.Prelude.{◌≡◌, ℕ, slice_get, None, Some}
use Rattle.domain_spec.specs.declared.open.OpenOperation.{OpenOperation}
use Rattle.domain_spec.specs.declared.standing.Registration.{Registration}
use Rattle.domain_spec.specs.CanTake.{HasNoneOpen, IsAway, IsOperationOf, IsRegistration, WaitsForAnswer}
use Rattle.domain_spec.specs.Cell.{Cell, OpenCall, Share, share_of, standing_of}

-- with nothing open it can let a call in; with a call open it can answer; with an operation it can go on with that;
-- and it can take what pends for its registrations
pub record Tells (c : Cell) (n : ℕ) (s : Share) : Type 0 where
  pub none_open : s.call ≡ None → s.operation ≡ None → HasNoneOpen (standing_of c) n
  pub away : (o : OpenCall) → s.call ≡ Some o → WaitsForAnswer c (standing_of c).job → IsAway c (standing_of c).job n
  pub operation : (o : OpenOperation) → s.operation ≡ Some o → IsOperationOf (standing_of c).operation n o.who
  pub registered :
      (place client taken : ℕ) → slice_get s.registrations place ≡ Some (record { client = client; taken = taken }) → (r : Registration) × IsRegistration c n client r

-- so it is with the share of each number
abbrev pub SharesTell : Type 0
SharesTell = (c : Cell) (n : ℕ) → Tells c n (share_of c n)
