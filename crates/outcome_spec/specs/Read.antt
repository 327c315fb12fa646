-- Case: the reply is what a query reads of the domain, at a place of its history.
use Rattle.std.specs.Prelude.{◌≡◌, ℕ}
use Rattle.history_spec.specs.declared.history.History.{History}
use Rattle.domain_spec.specs.Chapter.{rising_number}
use Rattle.domain_spec.specs.Fold.{at_base, standing}
use Rattle.domain_spec.specs.Read.{read}
use Rattle.domain_spec.specs.declared.mark.Mark.{Mark}
use Rattle.domain_spec.specs.declared.standing.Base.{Base}
use Rattle.virt_types.specs.declared.call.Query.{Query}
use Rattle.virt_types.specs.Below.types_base.declared.caller.Front.{Front}
use Rattle.virt_types.specs.declared.domain.State.{State}
use Rattle.virt_types.specs.declared.value.Reply.{Reply}
use Rattle.outcome_spec.specs.Histories.{IsRead, front_of}
use Rattle.reply_texts.specs.Printed.{told}
use Rattle.outcome_spec.specs.Rows.{DomainPass}

-- the state at the end of a domain's history
abbrev pub state_of : History Base (Mark ℕ) → State
state_of h = (standing (at_base h.base) h.marks).state

-- the reply is the query's value in the state of a history that comes this far
pub record IsValue (before after : DomainPass) (q : Query) (front : Front) (reply : Reply) : Type 0 where
  pub history : History Base (Mark ℕ)
  pub between : IsRead rising_number before after history
  pub front_is : front ≡ front_of history
  pub value : reply ≡ told (read (state_of history) q)
