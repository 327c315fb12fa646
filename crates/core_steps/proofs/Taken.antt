-- A turn of an operation, put together of what it left.
use Rattle.std.proofs.Common.{◌≡◌, ℕ, List, [], ◌∷◌, ◌++◌, Option, None, Some, refl, sym, ap, ◌∙◌, subst, append-nil}
use Rattle.domain_spec.specs.declared.core_step.CoreStep.{CoreStep}
use Rattle.domain_spec.specs.declared.core_step.CoreStep.TheVariants as step
use Rattle.domain_spec.specs.declared.mark.Mark.{Mark}
use Rattle.domain_spec.specs.declared.mark.Mark.TheVariants as mark
use Rattle.domain_spec.specs.declared.open.OpenJob.{OpenJob}
use Rattle.domain_spec.specs.declared.standing.Standing.{Standing}
use Rattle.domain_spec.specs.CanTake.{CanTake}
use Rattle.domain_spec.specs.Cell.{Cell, HeldEvent, LentEars, Queue}
use Rattle.domain_spec.specs.Fold.{standing}
use Rattle.domain_spec.specs.Kept.{AppliesHeld, WaitAfter, due_events, ears_after, events_in, held_by}
use Rattle.domain_spec.specs.Registrations.{registrations_at}
use Rattle.domain_spec.specs.Turns.{AllHaveRoom, AnswersAfter, MayLeave, base_after, kept_after, marks_after}
use Rattle.core_log.specs.Below.core_plan.Along.{Asked}
use Rattle.core_log.specs.Below.core_flight.Away.{WaitsWith}
use Rattle.core_log.specs.Below.core_flight.Ledger.{Chaptered, standing_in}
use Rattle.event_queue.specs.Listening.{registrations}
use Rattle.core_log.specs.Record.{HasMarked, Recorded, force_of}
use Rattle.core_log.proofs.Joining.{force_after}
use Rattle.core_steps.specs.Turning.{FitsJob, HasTurned, IsSettled, answers_of, cell_of, chapter_after, turning}
use Rattle.core_steps.proofs.Idling.{none_due_by}
use Rattle.core_steps.proofs.Waiting.{waits}

-- a step that begins no chapter, takes nothing that pends, and tells nothing of a boot
abbrev pub IsPlain : CoreStep ℕ → Type 0
IsPlain (step.Rotate n who) = ⊥
IsPlain (step.Take n client) = ⊥
IsPlain (step.Exit boot why) = ⊥
IsPlain (step.Event boot e) = ⊥
IsPlain other = Unit {0}

base_plain : (c : Cell) (t : CoreStep ℕ) → IsPlain t → c.base ≡ base_after c t
base_plain c (step.Rotate n who) plain = absurd plain
base_plain c other plain = refl

marks_plain : (c : Cell) (t : CoreStep ℕ) (ms : List (Mark ℕ)) → IsPlain t → c.marks ++ ms ≡ marks_after c t ms
marks_plain c (step.Rotate n who) ms plain = absurd plain
marks_plain c other ms plain = refl

kept_plain : (c : Cell) (t : CoreStep ℕ) (ms : List (Mark ℕ)) → IsPlain t → registrations_at c.registrations ms ≡ kept_after c t ms
kept_plain c (step.Take n client) ms plain = absurd plain
kept_plain c other ms plain = refl

chapter_plain : (k : ℕ) (t : CoreStep ℕ) → IsPlain t → k ≡ chapter_after k t
chapter_plain k (step.Rotate n who) plain = absurd plain
chapter_plain k other plain = refl

ears_plain : (t : CoreStep ℕ) (ears : Option LentEars) → IsPlain t → ears ≡ ears_after t ears
ears_plain (step.Exit boot why) ears plain = absurd plain
ears_plain (step.Event boot e) ears plain = absurd plain
ears_plain other ears plain = refl

applies_plain : (c : Cell) (t : CoreStep ℕ) (s : Standing) (ms : List (Mark ℕ)) → IsPlain t → events_in ms ≡ due_events s s.job c.held → AppliesHeld c t s ms
applies_plain c (step.Event boot e) s ms plain is = absurd plain
applies_plain c other s ms plain is = is

-- what is held after such a step
abbrev pub held_of : Option OpenJob → List HeldEvent → List HeldEvent
held_of None held = []
held_of (Some j) held = held

held_plain : (c : Cell) (t : CoreStep ℕ) (s : Standing) (j : Option OpenJob) → IsPlain t → held_of j c.held ≡ held_by c t s j
held_plain c (step.Event boot e) s j plain = absurd plain
held_plain c other s None plain = refl
held_plain c other s (Some j) plain = refl

-- a turn of such a step

pub turned : (t : CoreStep ℕ) (old new : Recorded) (q p : Queue) (held later : List HeldEvent) (ears : Option LentEars) (left : List (Mark ℕ))
    → IsPlain t → CanTake (cell_of old q held ears) t → MayLeave (cell_of old q held ears) t left → HasMarked old new left
    → events_in left ≡ due_events (force_of new) (force_of new).job held → later ≡ held_of (force_of new).job held
    → AnswersAfter (cell_of old q held ears) t left (force_of new).job (answers_of new.course) → WaitAfter (cell_of old q held ears) t left p → IsSettled new
    → HasTurned (turning old q held ears) (turning new p later ears) t left
unfolding standing_in
turned t old new q p held later ears left plain can may marked events kept answers wait settled =
    let c : Cell = cell_of old q held ears in
    let there : force_of new ≡ standing (force_of old) left = force_after old new left marked in
    record {
      turn = record {
        can = can;
        left = may;
        cuts = marked.cuts;
        held = applies_plain c t (standing (force_of old) left) left plain (subst (λ (s : Standing). events_in left ≡ due_events s s.job held) there events);
      };
      leads = record {
        base = ap (λ (h : Chaptered). h.base) marked.history ∙ base_plain c t plain;
        marks = ap (λ (h : Chaptered). h.marks) marked.history ∙ marks_plain c t left plain;
        registrations = marked.kept ∙ kept_plain c t left plain;
        answers = answers;
        away = waits new p later ears settled.waits;
        held = kept ∙ held_plain c t (force_of new) (force_of new).job plain;
        queue = wait;
        ears = ears_plain t ears plain;
      };
      chapter = ap (λ (h : Chaptered). h.chapter) marked.history ∙ chapter_plain old.history.chapter t plain;
    }

-- where the open call stays as it was

-- a turn that answers nothing and lets nothing in
abbrev pub KeepsAnswers : CoreStep ℕ → List (Mark ℕ) → Type 0
KeepsAnswers (step.Back n a) left = ⊥
KeepsAnswers t (mark.Admit number who wanted d boot ∷ left) = ⊥
KeepsAnswers t left = Unit {0}

pub answers_same : (s : Standing) (c : Cell) (t : CoreStep ℕ) (left : List (Mark ℕ)) (j : Option OpenJob) (a : Option Asked) → KeepsAnswers t left → c.answers ≡ answers_of a → WaitsWith s j a
    → AnswersAfter c t left j (answers_of a)
answers_same s c (step.Back n x) left j a keeps e h = absurd keeps
answers_same s c other left None None keeps e h = refl
answers_same s c other left None (Some a) keeps e h = absurd h
answers_same s c other left (Some j) None keeps e h = absurd h
answers_same s c other [] (Some j) (Some a) keeps e h = sym e
answers_same s c other (mark.Admit number who wanted d boot ∷ left) (Some j) (Some a) keeps e h = absurd keeps
answers_same s c other (m ∷ left) (Some j) (Some a) keeps e h = sym e

pub held_same : (j : Option OpenJob) (held : List HeldEvent) → FitsJob j held → held ≡ held_of j held
held_same None held e = e
held_same (Some j) held e = refl

-- what such a turn knows: the open call is as it was, and no event is among the marks
pub stays : (t : CoreStep ℕ) (old new : Recorded) (q p : Queue) (held : List HeldEvent) (ears : Option LentEars) (left : List (Mark ℕ))
    → IsPlain t → KeepsAnswers t left → CanTake (cell_of old q held ears) t → MayLeave (cell_of old q held ears) t left → HasMarked old new left
    → events_in left ≡ [] → (force_of new).job ≡ (force_of old).job → new.course ≡ old.course → FitsJob (force_of old).job held
    → WaitAfter (cell_of old q held ears) t left p → IsSettled new
    → HasTurned (turning old q held ears) (turning new p held ears) t left
stays t old new q p held ears left plain keeps can may marked none job course fits wait settled =
    let c : Cell = cell_of old q held ears in
    let fits_now : FitsJob (force_of new).job held = subst (λ (j : Option OpenJob). FitsJob j held) (sym job) fits in
    turned t old new q p held held ears left plain can may marked (none ∙ none_due_by (force_of new) (force_of new).job held fits_now) (held_same (force_of new).job held fits_now)
    (answers_same (force_of new) c t left (force_of new).job new.course keeps (ap answers_of (sym course)) settled.waits) wait settled

-- a turn that leaves no mark
pub idle : (t : CoreStep ℕ) (old new : Recorded) (q p : Queue) (held : List HeldEvent) (ears : Option LentEars)
    → IsPlain t → KeepsAnswers t [] → CanTake (cell_of old q held ears) t → IsSettled old → AllHaveRoom (registrations old.listeners) → FitsJob (force_of old).job held
    → new.history ≡ old.history → new.listeners ≡ old.listeners → new.course ≡ old.course
    → WaitAfter (cell_of old q held ears) t [] p → IsSettled new
    → HasTurned (turning old q held ears) (turning new p held ears) t []
unfolding standing_in
idle t old new q p held ears plain keeps can settled room fits history listeners course wait now =
    stays t old new q p held ears [] plain keeps can settled.lost
    (record {
      history = history ∙ ap (λ (ms : List (Mark ℕ)). record old.history { marks = ms }) (sym (append-nil old.history.marks));
      kept = ap registrations listeners;
      legal = tt;
      cuts = room;
    }) refl (ap (λ (h : Chaptered). (standing_in h).job) history) course fits wait now

-- a turn after which no call is open

none_answered : (t : CoreStep ℕ) (c : Cell) (left : List (Mark ℕ)) (a : Option Asked) → a ≡ None → AnswersAfter c t left None (answers_of a)
none_answered (step.Back n x) c left a e = ap answers_of e
none_answered other c left a e = ap answers_of e

none_due : (s : Standing) (j : Option OpenJob) (held : List HeldEvent) → held ≡ [] → due_events s j held ≡ []
none_due s None held e = ap (λ (hs : List HeldEvent). due_events s None hs) e
none_due s (Some j) held e = refl

none_of : (j : Option OpenJob) (held : List HeldEvent) → held ≡ [] → held ≡ held_of j held
none_of None held e = e
none_of (Some j) held e = refl

-- nothing is held, no event is among the marks, and nothing is away afterwards
pub frees : (t : CoreStep ℕ) (old new : Recorded) (q p : Queue) (held : List HeldEvent) (ears : Option LentEars) (left : List (Mark ℕ))
    → IsPlain t → CanTake (cell_of old q held ears) t → MayLeave (cell_of old q held ears) t left → HasMarked old new left
    → events_in left ≡ [] → held ≡ [] → (force_of new).job ≡ None → new.course ≡ None
    → WaitAfter (cell_of old q held ears) t left p → IsSettled new
    → HasTurned (turning old q held ears) (turning new p held ears) t left
frees t old new q p held ears left plain can may marked silent none free course wait settled =
    let c : Cell = cell_of old q held ears in
    turned t old new q p held held ears left plain can may marked
    (silent ∙ sym (none_due (force_of new) (force_of new).job held none)) (none_of (force_of new).job held none)
    (subst (λ (j : Option OpenJob). AnswersAfter c t left j (answers_of new.course)) (sym free) (none_answered t c left new.course course))
    wait settled

pub none_held : (j : Option OpenJob) (held : List HeldEvent) → j ≡ None → FitsJob j held → held ≡ []
none_held None held e fits = fits
none_held (Some j) held e fits = cc
