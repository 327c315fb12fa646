-- Which steps of a domain can be taken: by what the cell keeps for the number of the step's pass.
use Rattle.std.specs.Prelude.{◌≡◌, ◌≢◌, ℕ, ◌+◌, ◌≤◌, List, [], length, slice_get, is_some, true, false, IfSome, Option, None, Some}
use Rattle.domain_spec.specs.Types.{Call, Who}
use Rattle.domain_spec.specs.Types.call
use Rattle.domain_spec.specs.declared.core_step.CoreStep.{CoreStep}
use Rattle.domain_spec.specs.declared.core_step.CoreStep.TheVariants as step
use Rattle.domain_spec.specs.declared.core_step.First.{First}
use Rattle.domain_spec.specs.declared.core_step.First.TheVariants as first
use Rattle.domain_spec.specs.declared.open.OpenJob.{OpenJob}
use Rattle.domain_spec.specs.declared.open.OpenOperation.{OpenOperation}
use Rattle.domain_spec.specs.declared.standing.Registration.{Registration}
use Rattle.domain_spec.specs.declared.standing.Standing.{Standing}
use Rattle.domain_spec.specs.Call.{begins, takes_up}
use Rattle.domain_spec.specs.Cell.{Cell, Waiter, asks_so_far, standing_of, waits_of}
use Rattle.domain_spec.specs.Open.{IsOtherNumber, is_rest}

-- the open call is of another number
abbrev pub IsNotJobOf : Option OpenJob → ℕ → Type 0
IsNotJobOf None n = Unit {0}
IsNotJobOf (Some j) n = n ≢ j.number

-- the open operation is of another number, or rests
abbrev pub IsNotOperationOf : Option OpenOperation → ℕ → Type 0
IsNotOperationOf None n = Unit {0}
IsNotOperationOf (Some o) n = IsOtherNumber o.outcome n o.number

-- this number has no call open, and no operation but one that rests
pub record HasNoneOpen (s : Standing) (n : ℕ) : Type 0 where
  pub no_call : IsNotJobOf s.job n
  pub no_operation : IsNotOperationOf s.operation n

-- this number waits as this caller, or doesn't wait
abbrev pub WaitsAsNoOther : Cell → ℕ → Who → Type 0
WaitsAsNoOther c n who = IfSome (waits_of c.queue.passes n) (λ w. w ≡ who)

-- this caller waits, and looked so often in vain
abbrev pub HasLooked : List Waiter → Who → ℕ → Type 0
HasLooked callers who looks = (place : ℕ) × (slice_get callers place ≡ Some (record { who = who; looks = looks }))

-- the boot of a first look is kept by a Destroy that waits
abbrev pub IsFirst : Cell → ℕ → Who → Call → First → Type 0
IsFirst c n who d first.Now = Unit {0}
IsFirst c n who d (first.Boot boot) = (d ≡ call.Destroy) × (waits_of c.queue.passes n ≡ Some who)

-- a call that neither begins an operation nor takes one up
pub record CanLook (c : Cell) (n : ℕ) (who : Who) (d : Call) (first : First) : Type 0 where
  pub none_open : HasNoneOpen (standing_of c) n
  pub begins_none : begins d ≡ None
  pub takes_none : takes_up d ≡ None
  pub waits : WaitsAsNoOther c n who
  pub first_look : IsFirst c n who d first

-- an open call waits for the answer to its last ask
abbrev pub WaitsForAnswer : Cell → Option OpenJob → Type 0
WaitsForAnswer c None = Unit {0}
WaitsForAnswer c (Some j) = length (asks_so_far (standing_of c) j.job j c.answers) ≡ length c.answers + 1

-- the open call is of this number, and waits for an answer
abbrev pub IsAway : Cell → Option OpenJob → ℕ → Type 0
IsAway c None n = ⊥
IsAway c (Some j) n = (n ≡ j.number) × WaitsForAnswer c (Some j)

-- the operation that is open is of this number and caller, and does not rest
abbrev pub IsOperationOf : Option OpenOperation → ℕ → Who → Type 0
IsOperationOf None n who = ⊥
IsOperationOf (Some o) n who = (n ≡ o.number) × (who ≡ o.who) × (is_rest o.outcome ≡ false)

-- a registration of this number
abbrev pub IsRegistration : Cell → ℕ → ℕ → Registration → Type 0
IsRegistration c n client r = (r.number ≡ n) × (r.client ≡ client) × (place : ℕ) × (slice_get c.registrations place ≡ Some r)

-- nothing pends for the registration, and no loss is due
abbrev pub IsQuiet : Registration → Type 0
IsQuiet r = (r.pending ≡ []) × (r.is_lost ≡ false)

-- when a step can be taken
abbrev pub CanTake : Cell → CoreStep ℕ → Type 0
CanTake c (step.Look n who d first) = CanLook c n who d first
CanTake c (step.BeginOp n who d) = HasNoneOpen (standing_of c) n × (is_some (begins d) ≡ true) × WaitsAsNoOther c n who
CanTake c (step.TakeUp n who d) = HasNoneOpen (standing_of c) n × (is_some (takes_up d) ≡ true) × WaitsAsNoOther c n who
CanTake c (step.Back n a) = IsAway c (standing_of c).job n
CanTake c (step.GiveUp n who d) = WaitsAsNoOther c n who × (looks : ℕ) × (30 ≤ looks) × HasLooked c.queue.callers who looks
CanTake c (step.Phase n who) = IsOperationOf (standing_of c).operation n who
CanTake c (step.EndOp n who) = IsOperationOf (standing_of c).operation n who
CanTake c (step.Take n client) = (r : Registration) × IsRegistration c n client r
CanTake c (step.Unwatch n client) = (r : Registration) × IsRegistration c n client r × IsQuiet r
CanTake c (step.Rotate n who) = (4096 ≤ length c.marks) × ((standing_of c).job ≡ None) × WaitsAsNoOther c n who
CanTake c other = Unit {0}
