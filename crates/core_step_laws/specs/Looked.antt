-- What a look leaves of the share of its own number.
use Rattle.std.specs.Prelude.{◌≡◌, ◌≤◌, ℕ, IfSome, Option, None, Some}
use Rattle.domain_spec.specs.Types.{Call, Who}
use Rattle.domain_spec.specs.declared.core_step.First.{First}
use Rattle.domain_spec.specs.Cell.{OpenCall, Share, share_of}
use Rattle.core_steps.specs.declared.looking.Looked.{Looked}
use Rattle.core_steps.specs.declared.looking.Looked.TheVariants as looked
use Rattle.core_steps.specs.Looking.{Looks}
use Rattle.core_steps.specs.Turning.{AsksLast, Turning}
use Rattle.core_step_laws.specs.Staying.{RestStays}

-- a call is open where it asks, and else none
abbrev pub OpensWhere : Looked → Option OpenCall → Type 0
OpensWhere (looked.Away x) now = AsksLast now x
OpensWhere other now = now ≡ None

-- this caller waits by the number, or nobody does
abbrev pub MayWait : Who → Option Who → Type 0
MayWait who now = IfSome now (λ w. w ≡ who)

-- a caller that was excluded waits, if its look was counted
pub record WaitsOn (who : Who) (looks : ℕ) (now : Option Who) : Type 0 where
  pub at_most : MayWait who now
  pub counted : 1 ≤ looks → now ≡ Some who

-- nobody waits any more, but where the call was excluded, or without memory
abbrev pub WaitsWhere : Who → Looked → Option Who → Type 0
WaitsWhere who (looked.Excluded held boot looks) now = WaitsOn who looks now
WaitsWhere who looked.NoMemory now = MayWait who now
WaitsWhere who other now = now ≡ None

-- what a look leaves of its share
pub record IsLooked (who : Who) (s t : Share) (result : Looked) : Type 0 where
  pub rest : RestStays s t
  pub call : OpensWhere result t.call
  pub waits : WaitsWhere who result t.waits

-- so it is with each look
abbrev pub LooksKeep : Type 0
LooksKeep =
    (old new : Turning) (n : ℕ) (who : Who) (d : Call) (f : First) (result : Looked) → Looks n who d f old new result
    → IsLooked who (share_of old.cell n) (share_of new.cell n) result
