-- A turn that leaves neither a job, a held event nor an answer changed.
use Rattle.std.proofs.Common.{◌≡◌, ℕ, List, [], ◌∷◌, Option, None, Some, refl, sym, ap, ◌∙◌, subst}
use Rattle.domain_spec.specs.Types.{Call, Who}
use Rattle.domain_spec.specs.declared.core_step.CoreStep.TheVariants as step
use Rattle.domain_spec.specs.declared.mark.Mark.{Mark}
use Rattle.domain_spec.specs.declared.mark.Mark.TheVariants as mark
use Rattle.domain_spec.specs.declared.open.OpenJob.{OpenJob}
use Rattle.domain_spec.specs.declared.standing.Standing.{Standing}
use Rattle.domain_spec.specs.Cell.{Cell, HeldEvent}
use Rattle.domain_spec.specs.Kept.{held_by}
use Rattle.domain_spec.specs.Turns.{AllHaveRoom, AnswersAfter}
use Rattle.core_log.specs.Below.core_plan.Along.{Asked}
use Rattle.core_log.specs.Below.core_flight.Away.{WaitsWith}
use Rattle.event_queue.specs.Listening.{registrations}
use Rattle.core_log.specs.Record.{Recorded, force_of}
use Rattle.core_steps.specs.Turning.{FitsJob, IsSettled, answers_of}

-- what is known before a client's turn, and after it
pub record IsBetween (old new : Recorded) (held : List HeldEvent) : Type 0 where
  pub before : IsSettled old
  pub after : IsSettled new
  pub room : AllHaveRoom (registrations old.listeners)
  pub fits : FitsJob (force_of old).job held

pub watch_answers : (s : Standing) (c : Cell) (n number client : ℕ) (j : Option OpenJob) (a : Option Asked) → c.answers ≡ answers_of a → WaitsWith s j a
    → AnswersAfter c (step.Watch n) (mark.Watch number client ∷ []) j (answers_of a)
watch_answers s c n number client None None e h = refl
watch_answers s c n number client None (Some a) e h = absurd h
watch_answers s c n number client (Some j) a e h = sym e

pub unwatched_answers : (s : Standing) (c : Cell) (n k number client : ℕ) (j : Option OpenJob) (a : Option Asked) → c.answers ≡ answers_of a → WaitsWith s j a
    → AnswersAfter c (step.Unwatch n k) (mark.Unwatch number client ∷ []) j (answers_of a)
unwatched_answers s c n k number client None None e h = refl
unwatched_answers s c n k number client None (Some a) e h = absurd h
unwatched_answers s c n k number client (Some j) a e h = sym e

pub idle_watch : (s : Standing) (c : Cell) (n : ℕ) (j : Option OpenJob) (a : Option Asked) → c.answers ≡ answers_of a → WaitsWith s j a → AnswersAfter c (step.Watch n) [] j (answers_of a)
idle_watch s c n None None e h = refl
idle_watch s c n None (Some a) e h = absurd h
idle_watch s c n (Some j) a e h = sym e

pub idle_take : (s : Standing) (c : Cell) (n client : ℕ) (j : Option OpenJob) (a : Option Asked) → c.answers ≡ answers_of a → WaitsWith s j a → AnswersAfter c (step.Take n client) [] j (answers_of a)
idle_take s c n client None None e h = refl
idle_take s c n client None (Some a) e h = absurd h
idle_take s c n client (Some j) a e h = sym e

pub idle_begin : (s : Standing) (c : Cell) (n : ℕ) (who : Who) (d : Call) (j : Option OpenJob) (a : Option Asked) → c.answers ≡ answers_of a → WaitsWith s j a → AnswersAfter c (step.BeginOp n who d) [] j (answers_of a)
idle_begin s c n who d None None e h = refl
idle_begin s c n who d None (Some a) e h = absurd h
idle_begin s c n who d (Some j) a e h = sym e

pub idle_take_up : (s : Standing) (c : Cell) (n : ℕ) (who : Who) (d : Call) (j : Option OpenJob) (a : Option Asked) → c.answers ≡ answers_of a → WaitsWith s j a → AnswersAfter c (step.TakeUp n who d) [] j (answers_of a)
idle_take_up s c n who d None None e h = refl
idle_take_up s c n who d None (Some a) e h = absurd h
idle_take_up s c n who d (Some j) a e h = sym e

pub watch_held : (c : Cell) (s : Standing) (n : ℕ) (j : Option OpenJob) → FitsJob j c.held → c.held ≡ held_by c (step.Watch n) s j
watch_held c s n None e = e
watch_held c s n (Some j) e = refl

pub unwatch_held : (c : Cell) (s : Standing) (n client : ℕ) (j : Option OpenJob) → FitsJob j c.held → c.held ≡ held_by c (step.Unwatch n client) s j
unwatch_held c s n client None e = e
unwatch_held c s n client (Some j) e = refl

pub take_held : (c : Cell) (s : Standing) (n client : ℕ) (j : Option OpenJob) → FitsJob j c.held → c.held ≡ held_by c (step.Take n client) s j
take_held c s n client None e = e
take_held c s n client (Some j) e = refl

pub begin_held : (c : Cell) (s : Standing) (n : ℕ) (who : Who) (d : Call) (j : Option OpenJob) → FitsJob j c.held → c.held ≡ held_by c (step.BeginOp n who d) s j
begin_held c s n who d None e = e
begin_held c s n who d (Some j) e = refl

pub take_up_held : (c : Cell) (s : Standing) (n : ℕ) (who : Who) (d : Call) (j : Option OpenJob) → FitsJob j c.held → c.held ≡ held_by c (step.TakeUp n who d) s j
take_up_held c s n who d None e = e
take_up_held c s n who d (Some j) e = refl
