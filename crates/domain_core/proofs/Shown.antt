-- What the fields of a domain show of its state.
use Rattle.std.proofs.Common.{◌≡◌, ℕ, List, true, false, not, ◌||◌, Option, None, Some, sym, ap, ◌∙◌}
use Rattle.domain_spec.specs.Types.{Domain, State}
use Rattle.domain_spec.specs.Types.state
use Rattle.domain_spec.specs.declared.mark.HeldOperation.{HeldOperation}
use Rattle.domain_spec.specs.declared.standing.Standing.{Standing}
use Rattle.domain_spec.specs.Cell.{HeldEvent, LentEars, Queue, standing_of}
use Rattle.domain_spec.specs.Open.{operation_held}
use Rattle.domain_spec.specs.TakeUp.{is_vacant}
use Rattle.core_steps.specs.Below.core_flight.Ledger.{standing_in}
use Rattle.core_steps.specs.OfRecord.{Recorded, force_of}
use Rattle.core_steps.specs.declared.refusing.Refusable.{Refusable}
use Rattle.domain_core.specs.Core.{Core, core_of, does_rest, is_occupied}

pub force_shown : (v : Core) (r : Recorded) (q : Queue) (held : List HeldEvent) (ears : Option LentEars) (x : Option Refusable) → core_of r q held ears x ≡ v → force_of r ≡ standing_of v.turning.cell
unfolding standing_in
force_shown v r q held ears x is = ap (λ (c : Core). standing_of c.turning.cell) is

pub held_occupied : (s : Standing) (d : Domain) → s.state ≡ state.Held d → true ≡ is_occupied s
held_occupied s d e = sym (ap (λ (x : State). not (is_vacant x) || does_rest (operation_held s.operation)) e)

pub rest_occupied : (s : Standing) (boots : ℕ) (op : HeldOperation) → s.state ≡ state.Vacant boots → operation_held s.operation ≡ Some op → op.rests ≡ is_occupied s
rest_occupied s boots op e f =
    sym (ap (λ (x : State). not (is_vacant x) || does_rest (operation_held s.operation)) e ∙ ap (λ (o : Option HeldOperation). does_rest o) f)

pub none_occupied : (s : Standing) (boots : ℕ) → s.state ≡ state.Vacant boots → operation_held s.operation ≡ None → false ≡ is_occupied s
none_occupied s boots e f =
    sym (ap (λ (x : State). not (is_vacant x) || does_rest (operation_held s.operation)) e ∙ ap (λ (o : Option HeldOperation). does_rest o) f)
