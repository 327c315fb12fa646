-- What a turn cell sees in a sink: one chapter, which begins with the sink as it was.
use Rattle.std.specs.Prelude.{ℕ, List, map, None, Some}
use Rattle.std.proofs.Common.{le_refl}
use Rattle.history_spec.specs.Pass.{own}
use Rattle.turn_cell.specs.Meaning.{Meaning, NewBaseKeeps, NoMarkLowers}
use Rattle.turn_cell.specs.Passes.{Passed}
use Rattle.sink_turns.specs.declared.mark.Mark.{Mark}
use Rattle.sink_turns.specs.declared.mark.Noted.{Noted}
use Rattle.sink_turns.specs.declared.mark.Start.{Start}
use Rattle.sink_turns.specs.Saying.{Spoken}

-- what is kept, as marks
abbrev pub marks_of : List Noted → List Mark
marks_of all = map (λ n. n.mark) all

abbrev pub meaning : Meaning Spoken Start Mark (Unit {0})
meaning = record {
  history = λ o. record { chapter = 0; base = o.start; marks = o.marks };
  next_base = λ o. o.start;
  rising = λ base marks. 0;
  whose = λ m. Some m.by;
  share = λ o number. tt;
  nothing = tt;
  any_base = record { held = None; faults = 0 };
}

pub no_mark_lowers : NoMarkLowers meaning
no_mark_lowers b xs ys = le_refl 0

pub new_base_keeps : NewBaseKeeps meaning
new_base_keeps t = le_refl 0

abbrev pub OutPass : Type 0
OutPass = Passed Start Mark (Unit {0})

-- the marks of the pass of this number
abbrev pub own_marks : ℕ → List Mark → List Mark
own_marks number marks = own meaning.whose number marks
