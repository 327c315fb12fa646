-- An ask of the open call of a pass, and how it is answered.
use Rattle.std.specs.Prelude.{◌≡◌, ◌≢◌, ◌+◌, List, [], ◌∷◌, ◌++◌, length, is_some, Bool, Option, None, Some}
use Rattle.domain_spec.specs.Types.{Answer, Ask}
use Rattle.domain_spec.specs.Asks.{is_ok_answer}
use Rattle.domain_spec.specs.Cell.{OpenCall}
use Rattle.domain_obj.specs.InTurn.{DomainPass}
use Rattle.domain_core.specs.Tickets.{IsAnsweredAs, comes}

-- the open call asked this last, and waits for its answer
abbrev pub AsksLast : Option OpenCall → Ask → Type 0
AsksLast None x = ⊥
AsksLast (Some c) x = (before : List Ask) × (c.asks ≡ before ++ x ∷ [])

-- the pass has an open call whose last ask is this; so it has no turn
abbrev pub IsAsked : DomainPass → Ask → Type 0
IsAsked pass x = AsksLast pass.share.kept.call x

-- the pass has an operation open and no call, so no turn either
pub record IsBetween (pass : DomainPass) : Type 0 where
  pub no_call : pass.share.kept.call ≡ None
  pub operation : pass.share.kept.operation ≢ None

-- it has asked once more than it was answered
abbrev pub AwaitsAnswer : Option OpenCall → Type 0
AwaitsAnswer None = ⊥
AwaitsAnswer (Some c) = length c.asks ≡ length c.answers + 1

-- an answer that fits the ask: without a monitor a command is not sent; a link comes with the answer that a guest was made
pub record FitsAsk (x : Ask) (sent : Bool) (a : Answer) (linked : Bool) : Type 0 where
  pub answered : IsAnsweredAs sent x a
  pub link : linked ≡ comes x (is_ok_answer a)

-- the call that a pass has open may be answered so: by a monitor where the guest is there, and else by none
pub record MayBeAnswered (pass : DomainPass) (asked : Ask) (sent : Bool) (a : Answer) (linked : Bool) : Type 0 where
  pub last : IsAsked pass asked
  pub awaits : AwaitsAnswer pass.share.kept.call
  pub fits : FitsAsk asked sent a linked
  pub monitor : sent ≡ is_some pass.share.monitor
