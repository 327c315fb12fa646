-- The room that makes later turns free of memory, and what else holds between two turns.
use Rattle.std.specs.Prelude.{◌≤◌, ℕ, ◌+◌, List, length, Option, None, Some, if◌then◌else◌}
use Rattle.domain_spec.specs.declared.open.OpenOperation.{OpenOperation}
use Rattle.domain_spec.specs.Cell.{HeldEvent, LentEars}
use Rattle.domain_spec.specs.Fold.{at_base}
use Rattle.domain_spec.specs.Laws.{IsCounted}
use Rattle.core_log.specs.Below.core_plan.Along.{Asked}
use Rattle.core_log.specs.Record.{Recorded, force_of}
use Rattle.core_steps.specs.Turning.{FitsJob}

-- the marks that a call that is away may need: its Done, and the end of a boot that was lost
abbrev pub marks_needed : Option Asked → ℕ
marks_needed None = 0
marks_needed (Some a) = 2

-- the room that a call that is away may need, for the end of its boot
abbrev pub rooms_needed : Option Asked → ℕ
rooms_needed None = 0
rooms_needed (Some a) = 1

-- the mark that an operation needs that is open, for its end
abbrev pub ends_needed : Option OpenOperation → ℕ
ends_needed None = 0
ends_needed (Some o) = 1

-- there is room for the marks of a call that is away, for each room of a mark of a guest, and for the end of an operation
abbrev pub HasEnd : Recorded → ℕ → Type 0
HasEnd r rooms = ends_needed (force_of r).operation + (marks_needed r.course + rooms) ≤ r.spare

-- the room that ears need which are out, until they told something
abbrev pub rooms_lent : Option LentEars → ℕ
rooms_lent None = 0
rooms_lent (Some ears) = if ears.told then 0 else 1

-- there is room for what may come: each room is for one mark of a guest
pub record HasRooms (r : Recorded) (held : List HeldEvent) (ears : Option LentEars) (rooms : ℕ) : Type 0 where
  pub marks : marks_needed r.course + rooms ≤ r.spare
  pub enough : length held + rooms_needed r.course + rooms_lent ears ≤ rooms
  pub few : rooms ≤ 128

-- what holds between two turns; ears are lent only where one more event can be held
pub record IsKept (r : Recorded) (held : List HeldEvent) (ears : Option LentEars) (rooms : ℕ) : Type 0 where
  pub fits : FitsJob (force_of r).job held
  pub few_held : length held + rooms_lent ears ≤ 64
  pub counted : IsCounted (at_base r.history.base)
  pub has_rooms : HasRooms r held ears rooms
