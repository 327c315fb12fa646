-- What the chapters of a domain's history begin with.
use Rattle.std.specs.Prelude.{ℕ, List, [], Bool, Option, None, Some}
use Rattle.domain_spec.specs.Types.{DomainDef, State}
use Rattle.domain_spec.specs.Types.state
use Rattle.domain_spec.specs.declared.mark.Mark.{Mark}
use Rattle.domain_spec.specs.declared.standing.Base.{Base}
use Rattle.domain_spec.specs.declared.standing.Registration.{Registration}
use Rattle.domain_spec.specs.declared.standing.Standing.{Standing}
use Rattle.domain_spec.specs.CallResult.{new_domain}
use Rattle.domain_spec.specs.Fold.{at_base, standing}
use Rattle.domain_spec.specs.Reading.{boots_of}

-- a cell as the store was opened: vacant, or with the stored definition and its autostart
abbrev pub opened_state : Option DomainDef → Bool → State
opened_state None autostart = state.Vacant 0
opened_state (Some def) autostart = state.Held (record (new_domain def 0) { stored = Some def; autostart = autostart })

-- the first chapter begins with what the store was opened with: no boot, nothing open, nobody registered
abbrev pub first_base : Option DomainDef → Bool → Base
first_base stored autostart = record { state = opened_state stored autostart; operation = None; registrations = [] }

-- the next chapter begins with what is at the end of the one before: the state, the open operation, and
-- the registrations with what was taken, what pends, and a due loss
abbrev pub next_base : Standing → List Registration → Base
next_base s rs = record { state = s.state; operation = s.operation; registrations = rs }

-- the number that no mark lowers and that a new base keeps
abbrev pub rising_number : Base → List (Mark ℕ) → ℕ
rising_number b marks = boots_of (standing (at_base b) marks).state
