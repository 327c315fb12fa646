-- A list of asks, made one after the other until an answer is not Ok, and what undoes it then.
use Rattle.std.specs.Prelude.{ℕ, ◌+◌, List, [], ◌∷◌, ◌++◌, length, map, take, drop, find, position, slice_get, Bool, true, false, not, Option, None, Some, if◌then◌else◌}
use Rattle.domain_spec.specs.Types.{Answer, Ask, AnswerValue}
use Rattle.domain_spec.specs.Types.answer
use Rattle.domain_spec.specs.declared.planned.PlannedAsk.{PlannedAsk}

-- asks that nothing undoes
abbrev pub plain : List Ask → List PlannedAsk
plain asks = map (λ a. record { ask = a; undo = [] }) asks

-- asks that are undone so, whichever of them is refused
abbrev pub undone_by : List Ask → List Ask → List PlannedAsk
undone_by undo asks = map (λ a. record { ask = a; undo = undo }) asks

-- it was done
abbrev pub is_ok_answer : Answer → Bool
is_ok_answer (answer.Ok v) = true
is_ok_answer other = false

-- the guest has ended
abbrev pub is_ended_answer : Answer → Bool
is_ended_answer (answer.Ended why) = true
is_ended_answer other = false

-- the link to the guest was lost
abbrev pub is_lost_answer : Answer → Bool
is_lost_answer answer.Lost = true
is_lost_answer other = false

-- after these answers the undo follows; after Ended and Lost there is nothing to undo
abbrev pub is_undone : Answer → Bool
is_undone (answer.Refused class) = true
is_undone answer.Device = true
is_undone answer.NoMemory = true
is_undone other = false

-- the first answer that is not Ok, and its place
abbrev pub first_bad : List Answer → Option Answer
first_bad answers = find (λ a. not (is_ok_answer a)) answers

-- the place of the first answer that is not Ok
abbrev pub first_bad_at : List Answer → Option ℕ
first_bad_at answers = position (λ a. not (is_ok_answer a)) answers

-- what undoes this ask after this answer
abbrev pub undo_at : Option PlannedAsk → Option Answer → List Ask
undo_at (Some planned) (Some bad) = if is_undone bad then planned.undo else []
undo_at planned bad = []

-- all asks where the answer at this place is the first that is not Ok
abbrev pub course_at : List PlannedAsk → List Answer → Option ℕ → List Ask
course_at plan answers None = map (λ p. p.ask) plan
course_at plan answers (Some k) = map (λ p. p.ask) (take (k + 1) plan) ++ undo_at (slice_get plan k) (first_bad answers)

-- all asks, as far as these answers show: those of the plan, cut after the one whose answer is not
-- Ok, and then the undo of that one
abbrev pub course : List PlannedAsk → List Answer → List Ask
course plan answers = course_at plan answers (first_bad_at answers)

-- the asks that are made where these answers come: one an answer
abbrev pub asks_made : List PlannedAsk → List Answer → List Ask
asks_made plan answers = take (length answers) (course plan answers)

-- the asks that are still to be made after these answers
abbrev pub asks_left : List PlannedAsk → List Answer → List Ask
asks_left plan answers = drop (length answers) (course plan answers)

-- the value of an answer Ok
abbrev pub value_of : Answer → Option AnswerValue
value_of (answer.Ok v) = Some v
value_of other = None

-- the value of an answer that may not be there
abbrev pub value_in : Option Answer → Option AnswerValue
value_in None = None
value_in (Some a) = value_of a

-- the value that the last ask was answered
abbrev pub last_value : List Answer → Option AnswerValue
last_value [] = None
last_value (a ∷ []) = value_of a
last_value (a ∷ b ∷ answers) = last_value (b ∷ answers)

-- the value that the first ask was answered
abbrev pub first_value : List Answer → Option AnswerValue
first_value answers = value_in (slice_get answers 0)
