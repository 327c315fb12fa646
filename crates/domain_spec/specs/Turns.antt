-- What a turn of a domain's cell leaves: the marks of one step, and lists of steps by any actors.
use Rattle.std.specs.Prelude.{◌≡◌, ℕ, List, [], ◌∷◌, ◌++◌, find, Bool, true, not, ◌&&◌, Option, None, Some, ◌<◌, false}
use Rattle.std.specs.List.{list_any}
use Rattle.domain_spec.specs.Types.{Answer, DomainDef}
use Rattle.domain_spec.specs.declared.core_step.CoreStep.{CoreStep}
use Rattle.domain_spec.specs.declared.core_step.CoreStep.TheVariants as step
use Rattle.domain_spec.specs.declared.mark.Mark.{Mark}
use Rattle.domain_spec.specs.declared.mark.Mark.TheVariants as mark
use Rattle.domain_spec.specs.declared.open.OpenJob.{OpenJob}
use Rattle.domain_spec.specs.declared.standing.Base.{Base}
use Rattle.domain_spec.specs.declared.standing.Registration.{Registration}
use Rattle.domain_spec.specs.declared.standing.Standing.{Standing}
use Rattle.domain_spec.specs.CanTake.{CanTake, WaitsForAnswer}
use Rattle.domain_spec.specs.Cell.{Cell, standing_of}
use Rattle.domain_spec.specs.Chapter.{first_base, next_base}
use Rattle.domain_spec.specs.Exit.{event_transitions}
use Rattle.domain_spec.specs.Fold.{after, at_base, standing}
use Rattle.domain_spec.specs.Kept.{AppliesHeld, WaitAfter, ears_after, held_by}
use Rattle.domain_spec.specs.Lawful.{IsDone, IsEnded, IsLawfulRefusal, IsPhased, IsStarted, IsTakenUp}
use Rattle.domain_spec.specs.Legal.{IsInOrder, IsLegal, MarksLoss}
use Rattle.domain_spec.specs.Reading.{is_live}
use Rattle.domain_spec.specs.Registrations.{HasRoom, is_numbered, registrations_after, registrations_at, registrations_taken}
use Rattle.domain_spec.specs.TakeUp.{is_vacant}
use Rattle.domain_spec.specs.Steps.{AnswersBy, Occurs, IsExitOf, LetsIn, TurnsAway}

-- a call, or a phase, is closed by a step of its own number alone
abbrev pub IsOwn : CoreStep ℕ → ℕ → Type 0
IsOwn (step.Look n who d first) number = number ≡ n
IsOwn (step.BeginOp n who d) number = number ≡ n
IsOwn (step.TakeUp n who d) number = number ≡ n
IsOwn (step.Back n a) number = number ≡ n
IsOwn (step.Phase n who) number = number ≡ n
IsOwn other number = ⊥

-- a mark by which a turn goes on, or that comes along in it: a call is closed, a boot's end, an event, a cut
abbrev pub GoesOnBy : Cell → CoreStep ℕ → Standing → Mark ℕ → Type 0
GoesOnBy c t s (mark.Done number who d boot asks answers r events) = IsOwn t number × AnswersBy c t answers × IsDone s s.job number who d boot asks answers r events
GoesOnBy c t s (mark.Phase number who p asks answers next events) = IsOwn t number × AnswersBy c t answers × IsPhased s s.job s.operation number who p asks answers next events
GoesOnBy c t s (mark.Start number who d boot) = IsOwn t number × IsStarted s s.job number who d boot
GoesOnBy c t s (mark.TakeUp number who d) = IsOwn t number × IsTakenUp s s.job number who d
GoesOnBy c t s (mark.Exit boot why events) = IsExitOf s t boot why events
GoesOnBy c t s (mark.Event boot e events) = Occurs c t boot e × (is_live s.state boot ≡ true) × (s.job ≡ None) × (events ≡ event_transitions s.state e)
GoesOnBy c t s (mark.Cut client total taken) = IsInOrder s (mark.Cut client total taken)
GoesOnBy c t s other = ⊥

-- a client gets the least number below 16 that no registration has, where there is a domain
pub record IsNextClient (c : Cell) (client : ℕ) : Type 0 where
  pub below : client < 16
  pub free : list_any (is_numbered client) c.registrations ≡ false
  pub least : (n : ℕ) → n < client → list_any (is_numbered n) c.registrations ≡ true
  pub domain : is_vacant (standing_of c).state ≡ false

-- a mark by which a turn begins: a call is let in or turned away, an operation ends, a client comes or goes
abbrev pub BeginsBy : Cell → CoreStep ℕ → Standing → Mark ℕ → Type 0
BeginsBy c t s (mark.Admit number who wanted d boot) = LetsIn c t number who wanted d boot
BeginsBy c t s (mark.Refused number who d why held) = TurnsAway c t number who d why held × IsLawfulRefusal s who d why held
BeginsBy c (step.EndOp n w) s (mark.End number who r) = (number ≡ n) × (who ≡ w) × IsEnded s s.operation number who r
BeginsBy c (step.Watch n) s (mark.Watch number client) = (number ≡ n) × IsInOrder s (mark.Watch number client) × IsNextClient c client
BeginsBy c (step.Unwatch n k) s (mark.Unwatch number client) = (number ≡ n) × (client ≡ k) × IsInOrder s (mark.Unwatch number client)
BeginsBy c t s m = GoesOnBy c t s m

-- the marks after the first; at the end no boot's end is left to be marked
abbrev pub GoOn : Cell → CoreStep ℕ → Standing → List (Mark ℕ) → Type 0
GoOn c t s [] = s.lost ≡ None
GoOn c t s (m ∷ marks) = GoesOnBy c t s m × MarksLoss s.lost m × GoOn c t (after s m) marks

-- the marks that a step may leave; a step that is not taken leaves none
abbrev pub MayLeave : Cell → CoreStep ℕ → List (Mark ℕ) → Type 0
MayLeave c t [] = (standing_of c).lost ≡ None
MayLeave c t (m ∷ marks) = BeginsBy c t (standing_of c) m × MarksLoss (standing_of c).lost m × GoOn c t (after (standing_of c) m) marks

-- each registration keeps all that came
abbrev pub AllHaveRoom : List Registration → Type 0
AllHaveRoom [] = Unit {0}
AllHaveRoom (r ∷ rs) = HasRoom r × AllHaveRoom rs

-- so many transitions were taken by the registration that is cut
abbrev pub Took : Option Registration → ℕ → Type 0
Took None taken = ⊥
Took (Some r) taken = taken ≡ r.taken

-- a registration is cut as soon as more came than it keeps, and only then
abbrev pub AreCut : List Registration → List (Mark ℕ) → Type 0
AreCut rs [] = AllHaveRoom rs
AreCut rs (mark.Cut client total taken ∷ marks) =
    Took (find (λ r. is_numbered client r && not r.is_lost) rs) taken × AreCut (registrations_after rs (mark.Cut client total taken)) marks
AreCut rs (m ∷ marks) = AllHaveRoom rs × AreCut (registrations_after rs m) marks

-- one turn: a step that can be taken, and the marks that it leaves
pub record IsTurn (c : Cell) (t : CoreStep ℕ) (marks : List (Mark ℕ)) : Type 0 where
  pub can : CanTake c t
  pub left : MayLeave c t marks
  pub cuts : AreCut c.registrations marks
  pub held : AppliesHeld c t (standing (standing_of c) marks) marks

-- where a chapter ends, the next one begins with what is there
abbrev pub base_after : Cell → CoreStep ℕ → Base
base_after c (step.Rotate n who) = next_base (standing_of c) c.registrations
base_after c other = c.base

-- the marks of the chapter after a turn
abbrev pub marks_after : Cell → CoreStep ℕ → List (Mark ℕ) → List (Mark ℕ)
marks_after c (step.Rotate n who) marks = []
marks_after c other marks = c.marks ++ marks

-- what is kept for registrations after a turn
abbrev pub kept_after : Cell → CoreStep ℕ → List (Mark ℕ) → List Registration
kept_after c (step.Take n client) marks = registrations_taken c.registrations client
kept_after c other marks = registrations_at c.registrations marks

-- the answers so far: none where no call is open; else one more, or those of a call that was let in now, or as they were
abbrev pub AnswersAfter : Cell → CoreStep ℕ → List (Mark ℕ) → Option OpenJob → List Answer → Type 0
AnswersAfter c t left None answers = answers ≡ []
AnswersAfter c (step.Back n a) left (Some j) answers = AnswersBy c (step.Back n a) answers
AnswersAfter c t (mark.Admit number who wanted d boot ∷ left) (Some j) answers = AnswersBy c t answers
AnswersAfter c t left (Some j) answers = answers ≡ c.answers

-- the cell after a turn: a call that is open still waits for an answer; ears are lent and given back by calls that are no steps
pub record Leads (c : Cell) (t : CoreStep ℕ) (left : List (Mark ℕ)) (d : Cell) : Type 0 where
  pub base : d.base ≡ base_after c t
  pub marks : d.marks ≡ marks_after c t left
  pub registrations : d.registrations ≡ kept_after c t left
  pub answers : AnswersAfter c t left (standing_of d).job d.answers
  pub away : WaitsForAnswer d (standing_of d).job
  pub held : d.held ≡ held_by c t (standing_of d) (standing_of d).job
  pub queue : WaitAfter c t left d.queue
  pub ears : d.ears ≡ ears_after t c.ears

-- a step with the marks that it left
pub record Turn : Type 0 where
  pub of_step : CoreStep ℕ
  pub marks : List (Mark ℕ)

-- a list of steps, by any actors and in any order
abbrev pub Runs : Cell → List Turn → Cell → Type 0
Runs c [] d = c ≡ d
Runs c (t ∷ turns) d = (next : Cell) × IsTurn c t.of_step t.marks × Leads c t.of_step t.marks next × Runs next turns d

-- a cell as the store was opened
pub record IsOpened (c : Cell) (stored : Option DomainDef) (autostart : Bool) : Type 0 where
  pub base : c.base ≡ first_base stored autostart
  pub marks : c.marks ≡ []
  pub registrations : c.registrations ≡ []

-- every list of steps ends in a legal history
abbrev pub EveryRunIsLegal : Type 0
EveryRunIsLegal =
    (c d : Cell) (stored : Option DomainDef) (autostart : Bool) (turns : List Turn)
    → IsOpened c stored autostart → Runs c turns d → IsLegal (at_base d.base) d.marks
