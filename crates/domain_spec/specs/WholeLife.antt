-- A history in which a guest is started, suspended and destroyed.
use Rattle.std.specs.Prelude.{◌≡◌, ℕ, List, [], ◌∷◌, ◌++◌, false, None, Some}
use Rattle.domain_spec.specs.Types.{Answer, DomainDef, Who}
use Rattle.domain_spec.specs.Types.answer
use Rattle.domain_spec.specs.Types.ask
use Rattle.domain_spec.specs.Types.call
use Rattle.domain_spec.specs.Types.command
use Rattle.domain_spec.specs.Types.given
use Rattle.domain_spec.specs.Types.job
use Rattle.domain_spec.specs.Types.phase
use Rattle.domain_spec.specs.Types.reply
use Rattle.domain_spec.specs.Types.told
use Rattle.domain_spec.specs.Types.value
use Rattle.domain_spec.specs.declared.mark.Mark.{Mark}
use Rattle.domain_spec.specs.declared.mark.Mark.TheVariants as mark
use Rattle.domain_spec.specs.declared.standing.Base.{Base}
use Rattle.domain_spec.specs.declared.step.Outcome.TheVariants as outcome
use Rattle.domain_spec.specs.Call.{tell}
use Rattle.domain_spec.specs.Chapter.{first_base}
use Rattle.domain_spec.specs.Fold.{at_base, standing}
use Rattle.domain_spec.specs.Legal.{IsLegal}
use Rattle.domain_spec.specs.Owed.{all_transitions}
use Rattle.domain_spec.specs.PhaseAsks.{two}
use Rattle.domain_spec.specs.Reading.{boots_of, live_boot}

-- the definition without interfaces, so that no lease is asked for
abbrev pub unconnected : DomainDef → DomainDef
unconnected def = record def { interfaces = [] }

-- done, without a value
abbrev pub ok : Answer
ok = answer.Ok given.Nothing

-- a domain is started: its first guest is made and set going
abbrev pub starting : DomainDef → ℕ → Who → List (Mark ℕ)
starting def n who =
    mark.Admit n who job.Modify call.Start None
    ∷ mark.Start n who call.Start None
    ∷ mark.Admit n who job.Nested call.Start (Some 1)
    ∷ mark.Phase n who phase.Make (ask.Make def 1 ∷ []) (ok ∷ []) (outcome.On phase.Run) []
    ∷ mark.Admit n who job.Nested call.Start (Some 1)
    ∷ mark.Phase n who phase.Run (two command.QueryStatus command.Cont) (ok ∷ ok ∷ []) (outcome.Over (reply.Ok value.Nothing)) (told.STARTED_BOOTED ∷ [])
    ∷ mark.End n who (reply.Ok value.Nothing) ∷ []

-- the guest is suspended
abbrev pub suspending : ℕ → Who → List (Mark ℕ)
suspending n who =
    mark.Admit n who job.Suspend call.Suspend (Some 1)
    ∷ mark.Done n who call.Suspend (Some 1) (tell command.Stop) (ok ∷ []) (reply.Ok value.Nothing) (told.SUSPENDED_PAUSED ∷ []) ∷ []

-- the guest is destroyed
abbrev pub destroying : ℕ → Who → List (Mark ℕ)
destroying n who =
    mark.Admit n who job.Destroy call.Destroy (Some 1)
    ∷ mark.Done n who call.Destroy (Some 1) (tell command.Quit) (ok ∷ []) (reply.Ok value.Nothing) (told.STOPPED_DESTROYED ∷ []) ∷ []

-- one after the other
abbrev pub whole_life : DomainDef → ℕ → Who → List (Mark ℕ)
whole_life def n who = starting def n who ++ suspending n who ++ destroying n who

-- the history is legal, has one boot, and leaves no guest
pub record IsWholeLife (b : Base) (marks : List (Mark ℕ)) : Type 0 where
  pub legal : IsLegal (at_base b) marks
  pub one_boot : boots_of (standing (at_base b) marks).state ≡ 1
  pub no_guest : live_boot (standing (at_base b) marks).state ≡ None
  pub told : all_transitions marks ≡ told.STARTED_BOOTED ∷ told.SUSPENDED_PAUSED ∷ told.STOPPED_DESTROYED ∷ []

-- each stored domain has such a history
abbrev pub HasWholeLife : Type 0
HasWholeLife = (def : DomainDef) (n : ℕ) (who : Who) → IsWholeLife (first_base (Some (unconnected def)) false) (whole_life (unconnected def) n who)
