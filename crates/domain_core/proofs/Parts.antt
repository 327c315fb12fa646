-- A turn of a domain, as its value shows it.
use Rattle.std.proofs.Common.{◌≡◌, ◌≤◌, ◌+◌, ℕ, List, length, Bool, true, false, if◌then◌else◌, Option, None, Some, sym, ap, ◌∙◌, subst, arith}
use Rattle.domain_spec.specs.Types.{Answer, Call, Who}
use Rattle.domain_spec.specs.Types.code
use Rattle.domain_spec.specs.declared.core_step.CoreStep.TheVariants as step
use Rattle.domain_spec.specs.declared.core_step.First.{First}
use Rattle.domain_spec.specs.declared.mark.Mark.TheVariants as mark
use Rattle.domain_spec.specs.Call.{job_of}
use Rattle.domain_spec.specs.CanTake.{CanLook, CanTake}
use Rattle.domain_spec.specs.Cell.{HeldEvent, LentEars, Queue}
use Rattle.domain_spec.specs.JobTable.{May}
use Rattle.domain_spec.specs.Legal.{IsLawful}
use Rattle.domain_spec.specs.Open.{job_held, operation_held}
use Rattle.domain_spec.specs.Reading.{live_boot}
use Rattle.domain_spec.specs.Turns.{AllHaveRoom}
use Rattle.core_steps.specs.OfLedger.{WaitsWith}
use Rattle.core_steps.specs.OfLedger.{Back}
use Rattle.event_queue.specs.Listening.{registrations}
use Rattle.core_steps.specs.OfRecord.{Recorded, force_of}
use Rattle.core_steps.specs.Answering.{Answers, GoesBack, IsNumbered, MayBeAnswered, held_after}
use Rattle.core_steps.specs.Looking.{IsKnownFirst, Looks, LooksSo, boot_first}
use Rattle.core_steps.specs.Refusing.{GivesUp, HasRefused}
use Rattle.core_steps.specs.Rooms.{rooms_lent}
use Rattle.core_steps.specs.Turning.{Takes, cell_of, turning}
use Rattle.core_steps.specs.declared.looking.Looked.{Looked}
use Rattle.core_steps.specs.declared.refusing.Refusable.{Refusable}
use Rattle.domain_core.specs.Core.{Core, Excluded, IsWhole, core_of}
use Rattle.domain_core.proofs.Whole.{back_turn, give_turn, look_lawful, look_turn, marks_away, numbered}

-- how many rooms ears need

lent_if : (b : Bool) → (if b then 0 else 1) ≤ 1
lent_if true = omega arith
lent_if false = omega arith

lent_few : (ears : Option LentEars) → rooms_lent ears ≤ 1
lent_few None = omega arith
lent_few (Some e) = lent_if e.told

pub lent_fits : (r : Recorded) (q : Queue) (held : List HeldEvent) (ears : Option LentEars) (x : Option Refusable) (rooms capacity lent : ℕ) → IsWhole r q held ears x rooms capacity → lent ≡ rooms_lent ears → (lent ≤ 1) × (lent ≤ rooms)
lent_fits r q held ears x rooms capacity lent whole is =
    let few = lent_few ears in
    let enough = whole.kept.has_rooms.enough in
    subst (λ (k : ℕ). (k ≤ 1) × (k ≤ rooms)) (sym is) (few, omega (arith, enough))

-- a look

pub look_may : (v : Core) (r : Recorded) (q : Queue) (held : List HeldEvent) (ears : Option LentEars) (x : Option Refusable) (rooms capacity n : ℕ) (who : Who) (d : Call) (f : First) → core_of r q held ears x ≡ v
    → IsWhole r q held ears x rooms capacity → CanLook v.turning.cell n who d f → IsKnownFirst f v.turning.cell → (force_of r).lost ≡ None
    → May (job_held (force_of r).job) (operation_held (force_of r).operation) (job_of d) who → IsLawful (force_of r) (mark.Admit n who (job_of d) d (boot_first f (live_boot (force_of r).state)))
look_may v r q held ears x rooms capacity n who d f is whole can known lost may =
    look_lawful r q held ears x rooms capacity n who d f whole (subst (λ (c : Core). CanLook c.turning.cell n who d f) (sym is) can) (subst (λ (c : Core). IsKnownFirst f c.turning.cell) (sym is) known) lost may

pub look_goes : (v : Core) (old new : Recorded) (q p : Queue) (held : List HeldEvent) (ears : Option LentEars) (x : Option Refusable) (rooms capacity n : ℕ) (who : Who) (d : Call) (f : First) (result : Looked) → core_of old q held ears x ≡ v
    → IsWhole old q held ears x rooms capacity → CanLook v.turning.cell n who d f → IsKnownFirst f v.turning.cell → (force_of old).lost ≡ None → WaitsWith (force_of old) (force_of old).job old.course → AllHaveRoom (registrations old.listeners)
    → (force_of new).lost ≡ None → WaitsWith (force_of new) (force_of new).job new.course → LooksSo n who d (boot_first f (live_boot (force_of old).state)) old new q p result
    → Looks n who d f v.turning (turning new p held ears) result
look_goes v old new q p held ears x rooms capacity n who d f result is whole can known lost waits room lost_now waits_now so =
    subst (λ (c : Core). Looks n who d f c.turning (turning new p held ears) result) is
    (look_turn old new q p held ears x rooms capacity n who d f result whole (subst (λ (c : Core). CanLook c.turning.cell n who d f) (sym is) can) (subst (λ (c : Core). IsKnownFirst f c.turning.cell) (sym is) known)
    lost waits room lost_now waits_now so)

-- an answer

pub back_numbered : (v : Core) (r : Recorded) (q : Queue) (held : List HeldEvent) (ears : Option LentEars) (x : Option Refusable) (n : ℕ) (y : Answer) → core_of r q held ears x ≡ v → CanTake v.turning.cell (step.Back n y) → IsNumbered (force_of r).job n
back_numbered v r q held ears x n y is can = numbered r q held ears n y (subst (λ (c : Core). CanTake c.turning.cell (step.Back n y)) (sym is) can)

pub back_room : (r : Recorded) (q : Queue) (held : List HeldEvent) (ears : Option LentEars) (x : Option Refusable) (rooms capacity : ℕ) (y : Answer) → IsWhole r q held ears x rooms capacity → MayBeAnswered (force_of r) (force_of r).job r.course y
    → (2 + rooms ≤ r.spare) × (length held + 1 ≤ rooms)
back_room r q held ears x rooms capacity y whole may =
    let needs = marks_away (force_of r) (force_of r).job r.course y may in
    let marks : 2 + rooms ≤ r.spare = subst (λ (k : ℕ). k + rooms ≤ r.spare) needs.0 whole.kept.has_rooms.marks in
    let enough : length held + 1 + rooms_lent ears ≤ rooms = subst (λ (k : ℕ). length held + k + rooms_lent ears ≤ rooms) needs.1 whole.kept.has_rooms.enough in (marks, omega (arith, enough))

pub back_goes : (v : Core) (old new : Recorded) (q : Queue) (held : List HeldEvent) (ears : Option LentEars) (x : Option Refusable) (n : ℕ) (y : Answer) (left : Back) → core_of old q held ears x ≡ v
    → CanTake v.turning.cell (step.Back n y) → (force_of old).lost ≡ None → WaitsWith (force_of old) (force_of old).job old.course → AllHaveRoom (registrations old.listeners)
    → (force_of new).lost ≡ None → WaitsWith (force_of new) (force_of new).job new.course → Answers n old.course y held old new left
    → GoesBack n y v.turning (turning new q (held_after left held) ears) left
back_goes v old new q held ears x n y left is can lost waits room lost_now waits_now h =
    subst (λ (c : Core). GoesBack n y c.turning (turning new q (held_after left held) ears) left) is
    (back_turn old new q held ears n y left (subst (λ (c : Core). CanTake c.turning.cell (step.Back n y)) (sym is) can) lost waits room lost_now waits_now h)

-- a call that gives up

give_named : (v : Core) (r : Recorded) (q : Queue) (held : List HeldEvent) (ears : Option LentEars) (z : Refusable) (who : Who) (d : Call) → core_of r q held ears (Some z) ≡ v → v.excluded ≡ Some (record { who = who; call = d })
    → (z.who ≡ who) × (z.call ≡ d)
give_named v r q held ears z who d is named =
    let same : Some (record { who = z.who; call = z.call }) ≡ Some (record { who = who; call = d }) = ap (λ (c : Core). c.excluded) is ∙ named in
    let one : record { who = z.who; call = z.call } ≡ record { who = who; call = d } = cc in (ap (λ (e : Excluded). e.who) one, ap (λ (e : Excluded). e.call) one)

pub give_goes : (v : Core) (old new : Recorded) (q p : Queue) (held : List HeldEvent) (ears : Option LentEars) (z : Refusable) (rooms capacity n : ℕ) (who : Who) (d : Call) → core_of old q held ears (Some z) ≡ v
    → v.excluded ≡ Some (record { who = who; call = d }) → IsWhole old q held ears (Some z) rooms capacity → CanTake v.turning.cell (step.GiveUp n who d) → (force_of old).lost ≡ None → WaitsWith (force_of old) (force_of old).job old.course
    → (force_of new).lost ≡ None → WaitsWith (force_of new) (force_of new).job new.course → GivesUp n z old new q p
    → Takes v.turning (turning new p held ears) (step.GiveUp n who d) (HasRefused n who d code.OperationTimeout)
give_goes v old new q p held ears z rooms capacity n who d is named whole can lost waits lost_now waits_now gives =
    let same = give_named v old q held ears z who d is named in
    let can_so : CanTake (cell_of old q held ears) (step.GiveUp n z.who z.call) =
    subst (λ (e : Call). CanTake (cell_of old q held ears) (step.GiveUp n z.who e)) (sym same.1)
    (subst (λ (w : Who). CanTake (cell_of old q held ears) (step.GiveUp n w d)) (sym same.0)
    (subst (λ (c : Core). CanTake c.turning.cell (step.GiveUp n who d)) (sym is) can)) in
    subst (λ (c : Core). Takes c.turning (turning new p held ears) (step.GiveUp n who d) (HasRefused n who d code.OperationTimeout)) is
    (subst (λ (w : Who). Takes (turning old q held ears) (turning new p held ears) (step.GiveUp n w d) (HasRefused n w d code.OperationTimeout)) same.0
    (subst (λ (e : Call). Takes (turning old q held ears) (turning new p held ears) (step.GiveUp n z.who e) (HasRefused n z.who e code.OperationTimeout)) same.1
    (give_turn old new q p held ears z rooms capacity n whole can_so lost waits lost_now waits_now gives)))
