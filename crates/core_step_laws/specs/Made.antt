-- The boot that is made: its guest is there, with the monitor, the ears and the killer of its link.
use Rattle.std.specs.Prelude.{◌≡◌, ◌⊎◌, ℕ, List, [], ◌∷◌, ◌++◌, Bool, true, false, Option, None, Some}
use Rattle.domain_spec.specs.Types.{Ask, DomainDef, State}
use Rattle.domain_spec.specs.Types.ask
use Rattle.domain_spec.specs.Types.phase
use Rattle.domain_spec.specs.declared.core_step.CoreStep.{CoreStep}
use Rattle.domain_spec.specs.declared.core_step.CoreStep.TheVariants as step
use Rattle.domain_spec.specs.declared.mark.Mark.{Mark}
use Rattle.domain_spec.specs.declared.open.OpenJob.{OpenJob}
use Rattle.domain_spec.specs.declared.open.OpenOperation.{OpenOperation}
use Rattle.domain_spec.specs.declared.standing.Standing.{Standing}
use Rattle.domain_spec.specs.declared.step.Outcome.{Outcome}
use Rattle.domain_spec.specs.declared.step.Outcome.TheVariants as outcome
use Rattle.domain_spec.specs.Asks.{is_ok_answer}
use Rattle.domain_spec.specs.Begin.{due_phase}
use Rattle.domain_spec.specs.Cell.{Cell, asks_so_far, standing_of}
use Rattle.domain_spec.specs.Fold.{after}
use Rattle.domain_spec.specs.Legal.{IsLawful}
use Rattle.domain_spec.specs.Reading.{live_boot}
use Rattle.domain_spec.specs.Turns.{IsOpened, IsTurn, Leads}

-- the phase that is due makes the guest
abbrev pub is_make : Outcome → Bool
is_make (outcome.On phase.Make) = true
is_make other = false

-- the operation has still to make its guest
abbrev pub makes : Option OpenOperation → Bool
makes None = false
makes (Some o) = is_make o.outcome

-- the live boot, unless it has still to be made
abbrev pub made_in : Bool → Option ℕ → Option ℕ
made_in true boot = None
made_in false boot = boot

-- the boot whose guest is there
abbrev pub made_boot : Standing → Option ℕ
made_boot s = made_in (makes s.operation) (live_boot s.state)

-- the open call asked this last, and waits for its answer
abbrev pub AsksThis : Cell → Option OpenJob → Ask → Type 0
AsksThis c None y = ⊥
AsksThis c (Some j) y = (before : List Ask) × (asks_so_far (standing_of c) j.job j c.answers ≡ before ++ y ∷ [])

-- what is answered now is that the guest of this boot was made
abbrev pub IsMakeAnswered : Cell → CoreStep ℕ → ℕ → Type 0
IsMakeAnswered c (step.Back n x) boot = (is_ok_answer x ≡ true) × (def : DomainDef) × AsksThis c (standing_of c).job (ask.Make def boot)
IsMakeAnswered c other boot = ⊥

-- no guest is live, or this boot's one is, and the domain has still to make it
abbrev pub HasToMake : Option ℕ → State → Type 0
HasToMake boot s = (live_boot s ≡ None) ⊎ ((live_boot s ≡ boot) × (due_phase s ≡ phase.Make))

-- where the history has still to make a guest, so has the domain: that one, and no other is live
abbrev pub AgreesIn : State → Option OpenOperation → Type 0
AgreesIn s None = Unit {0}
AgreesIn s (Some o) = is_make o.outcome ≡ true → HasToMake o.boot s

-- so it is with what is in force
abbrev pub Agrees : Standing → Type 0
Agrees s = AgreesIn s.state s.operation

-- so it is in a cell as the store was opened
abbrev pub OpenedAgrees : Type 0
OpenedAgrees = (c : Cell) (stored : Option DomainDef) (autostart : Bool) → IsOpened c stored autostart → Agrees (standing_of c)

-- and after each mark that is lawful
abbrev pub MarksAgree : Type 0
MarksAgree = (s : Standing) (m : Mark ℕ) → IsLawful s m → Agrees s → Agrees (after s m)

-- and after each turn
abbrev pub PhasesAgree : Type 0
PhasesAgree = (c d : Cell) (t : CoreStep ℕ) (left : List (Mark ℕ)) → IsTurn c t left → Leads c t left d → Agrees (standing_of c) → Agrees (standing_of d)

-- a boot is made by the answer to its Make alone, in the turn of that answer
abbrev pub MadeByItsMake : Type 0
MadeByItsMake =
    (c d : Cell) (t : CoreStep ℕ) (left : List (Mark ℕ)) (boot : ℕ)
    → IsTurn c t left → Leads c t left d → Agrees (standing_of c) → made_boot (standing_of d) ≡ Some boot
    → (made_boot (standing_of c) ≡ Some boot) ⊎ IsMakeAnswered c t boot

-- while a call is open no boot that is made has to be made again
abbrev pub MadeStaysMade : Type 0
MadeStaysMade =
    (c d : Cell) (t : CoreStep ℕ) (left : List (Mark ℕ)) (j k : OpenJob)
    → IsTurn c t left → Leads c t left d → (standing_of c).job ≡ Some j → (standing_of d).job ≡ Some k
    → makes (standing_of c).operation ≡ false → makes (standing_of d).operation ≡ false
