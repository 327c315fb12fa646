-- What a cell keeps beside its history after a turn: who waits, which events are held, whose ears are out.
use Rattle.std.specs.Prelude.{◌≡◌, ◌⊎◌, ℕ, ◌+◌, ◌==◌, List, [], ◌∷◌, ◌++◌, filter, find, length, min, nat_lt, not, option_map, true, unwrap_or, ◌&&◌, Option, None, Some, if◌then◌else◌}
use Rattle.domain_spec.specs.Types.{Call, GuestEvent, Who}
use Rattle.domain_spec.specs.declared.core_step.CoreStep.{CoreStep}
use Rattle.domain_spec.specs.declared.core_step.CoreStep.TheVariants as step
use Rattle.domain_spec.specs.declared.mark.Mark.{Mark}
use Rattle.domain_spec.specs.declared.mark.Mark.TheVariants as mark
use Rattle.domain_spec.specs.declared.open.OpenJob.{OpenJob}
use Rattle.domain_spec.specs.declared.standing.Standing.{Standing}
use Rattle.domain_spec.specs.Cell.{Cell, HeldEvent, LentEars, Queue, Waiter, WaitingPass, standing_of}
use Rattle.domain_spec.specs.Open.{Excludes, is_same_who, job_held, operation_held}
use Rattle.domain_spec.specs.Reading.{is_live}

-- the events among these marks, in order
abbrev pub events_in : List (Mark ℕ) → List HeldEvent
events_in [] = []
events_in (mark.Event boot e events ∷ marks) = record { boot = boot; event = e } ∷ events_in marks
events_in (m ∷ marks) = events_in marks

-- the held events that are due: none while a job is open, then those of the live boot
abbrev pub due_events : Standing → Option OpenJob → List HeldEvent → List HeldEvent
due_events s (Some j) held = []
due_events s None held = filter (λ h. is_live s.state h.boot) held

-- a turn applies the held events that are due at its end, in order; an event that is told now is applied
-- where nothing is held
abbrev pub AppliesHeld : Cell → CoreStep ℕ → Standing → List (Mark ℕ) → Type 0
AppliesHeld c (step.Event b e) last marks = (events_in marks ≡ []) ⊎ (c.held ≡ [])
AppliesHeld c other last marks = events_in marks ≡ due_events last last.job c.held

-- an event is held while a job is open, unless 64 are or its boot is not live
abbrev pub held_more : Cell → Standing → ℕ → GuestEvent → List HeldEvent
held_more c last b e =
    if is_live last.state b && nat_lt (length c.held) 64 then c.held ++ record { boot = b; event = e } ∷ [] else c.held

-- the events that are held after a turn
abbrev pub held_by : Cell → CoreStep ℕ → Standing → Option OpenJob → List HeldEvent
held_by c (step.Event b e) last (Some j) = held_more c last b e
held_by c other last (Some j) = c.held
held_by c t last None = []

-- what these ears heard was told
abbrev pub told_of : LentEars → LentEars
told_of ears = record ears { told = true }

-- the ears that are out after a turn: a boot's end and an event are what they heard
abbrev pub ears_after : CoreStep ℕ → Option LentEars → Option LentEars
ears_after (step.Exit boot why) ears = option_map told_of ears
ears_after (step.Event boot e) ears = option_map told_of ears
ears_after other ears = ears

-- who waits, but for this caller
abbrev pub without_caller : List Waiter → Who → List Waiter
without_caller callers who = filter (λ w. not (is_same_who w.who who)) callers

-- the passes by which others wait
abbrev pub without_pass : List WaitingPass → ℕ → List WaitingPass
without_pass passes n = filter (λ p. not (p.number == n)) passes

-- this caller looked in vain once more: it stays at its place, or comes last; no more than 1,000 are counted
abbrev pub looked : List Waiter → Who → List Waiter
looked [] who = record { who = who; looks = 1 } ∷ []
looked (w ∷ callers) who =
    if is_same_who w.who who then record { who = w.who; looks = min (w.looks + 1) 1000 } ∷ callers else w ∷ looked callers who

-- how often this caller looked in vain
abbrev pub looks_of : List Waiter → Who → ℕ
looks_of callers who = unwrap_or (option_map (λ w. w.looks) (find (λ w. is_same_who w.who who) callers)) 0

-- neither this caller waits nor this number
abbrev pub left_queue : Queue → ℕ → Who → Queue
left_queue q n who = record { callers = without_caller q.callers who; passes = without_pass q.passes n }

-- this caller waits, by this number
abbrev pub joined_queue : Queue → ℕ → Who → Queue
joined_queue q n who = record { callers = looked q.callers who; passes = without_pass q.passes n ++ record { number = n; who = who } ∷ [] }

-- a call looked: where it is excluded it waits, else it does not, be it let in, turned away or without memory
abbrev pub LooksOn : Cell → ℕ → Who → Call → List (Mark ℕ) → Queue → Type 0
LooksOn c n who d [] queue =
    (queue ≡ left_queue c.queue n who)
    ⊎ (Excludes (job_held (standing_of c).job) (operation_held (standing_of c).operation) d who × (queue ≡ joined_queue c.queue n who))
LooksOn c n who d (m ∷ marks) queue = queue ≡ left_queue c.queue n who

-- who waits after a turn
abbrev pub WaitAfter : Cell → CoreStep ℕ → List (Mark ℕ) → Queue → Type 0
WaitAfter c (step.Look n who d first) marks queue = LooksOn c n who d marks queue
WaitAfter c (step.BeginOp n who d) marks queue = LooksOn c n who d marks queue
WaitAfter c (step.TakeUp n who d) marks queue = LooksOn c n who d marks queue
WaitAfter c (step.GiveUp n who d) marks queue = queue ≡ left_queue c.queue n who
WaitAfter c (step.Rotate n who) marks queue = (queue ≡ c.queue) ⊎ (queue ≡ left_queue c.queue n who)
WaitAfter c other marks queue = queue ≡ c.queue
