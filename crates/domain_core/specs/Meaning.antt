-- What a turn cell sees in a domain's cell: its chapters, and what it keeps for the number of each pass alone.
use Rattle.std.specs.Prelude.{ℕ, [], false, None}
use Rattle.history_spec.specs.declared.history.History.{History}
use Rattle.turn_cell.specs.Meaning.{Meaning}
use Rattle.domain_spec.specs.declared.mark.Mark.{Mark}
use Rattle.domain_spec.specs.declared.standing.Base.{Base}
use Rattle.domain_spec.specs.Cell.{standing_of}
use Rattle.domain_spec.specs.Chapter.{first_base, next_base, rising_number}
use Rattle.domain_core.specs.Celled.{CellShare, Celled, cell_in, cell_share}
use Rattle.core_step_laws.specs.Shares.{whose}

-- nothing is kept
abbrev pub nothing_kept : CellShare
nothing_kept = record { kept = record { waits = None; call = None; operation = None; registrations = []; ears = None }; monitor = None; chapter = None }

-- the number of the chapter, its base and its marks
abbrev pub history_of : Celled → History Base (Mark ℕ)
history_of c = record { chapter = c.core.turning.chapter; base = (cell_in c).base; marks = (cell_in c).marks }

-- a domain's chapters begin with what is there; no mark lowers the number of its boots
abbrev pub meaning : Meaning Celled Base (Mark ℕ) CellShare
meaning = record {
  history = history_of;
  next_base = λ c. next_base (standing_of (cell_in c)) (cell_in c).registrations;
  rising = rising_number;
  whose = whose;
  share = cell_share;
  nothing = nothing_kept;
  any_base = first_base None false;
}
