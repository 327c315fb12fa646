-- What a turn cell sees in a value without marks.
use Rattle.std.specs.Prelude.{[], None}
use Rattle.std.proofs.Common.{le_refl}
use Rattle.turn_cell.specs.Meaning.{Meaning, NoMarkLowers, NewBaseKeeps}

abbrev pub without_marks : {T : Type 0} → Meaning T (Unit {0}) (Unit {0}) (Unit {0})
without_marks = record {
  history = λ value. record { chapter = 0; base = tt; marks = [] };
  next_base = λ value. tt;
  rising = λ base marks. 0;
  whose = λ mark. None;
  share = λ value number. tt;
  nothing = tt;
  any_base = tt;
}

pub no_mark_lowers : (T : Type 0) → NoMarkLowers (without_marks {T = T})
no_mark_lowers T b xs ys = le_refl 0

pub new_base_keeps : (T : Type 0) → NewBaseKeeps (without_marks {T = T})
new_base_keeps T t = le_refl 0
