-- Laws of calls that one activity ran, one after the other.
use Rattle.std.specs.Prelude.{◌≡◌, ◌≤◌, ℕ, Bool, false, List, ◌∷◌, ◌++◌, length, Option, Ok}
use Rattle.procedure_spec.specs.declared.procedure.Procedure.{Procedure}
use Rattle.service_spec.specs.Activities.{Activity, Hand}
use Rattle.service_spec.specs.Calls.{Runs, RunsAll}
use Rattle.service_spec.specs.Course.{Course}
use Rattle.service_spec.specs.Reading.{read_of}
use Rattle.service_spec.specs.Saying.{Answer, answers}
use Rattle.session_spec.specs.Replies.{asks_to_close}
use Rattle.session_spec.specs.declared.end.End.{End}
use Rattle.virt_types.specs.Below.types_base.declared.caller.Who.{Who}
use Rattle.virt_types.specs.declared.request.Request.{Request}
use Rattle.virt_types.specs.declared.value.Reply.{Reply}

module _ {W : Type 0} (serves : Procedure → Bool) (Called : Who → Request → Reply → Hand W → Hand W → Type 0) where
  -- a front of the calls was run, and then the others: so of any two calls one begins where the other has left the row, or
  -- later
  abbrev pub CallsComeInTurn : Type 0
  CallsComeInTurn = (before after : Activity W) (front others : List Answer) → RunsAll serves Called before (front ++ others) after
      → (then : Activity W) × RunsAll serves Called before front then × RunsAll serves Called then others after

  -- what a session leaves is what its calls leave: those that it answered, and at most one more, whose reply was not written
  -- or not whole
  abbrev pub CoursesRunCalls : Type 0
  CoursesRunCalls = (before after : Activity W) (left now held wrote : Option (List ℕ)) (end : End) (course : Course serves Called before left now held wrote end after)
      → (more : List Answer) × (length more ≤ 1) × RunsAll serves Called before (answers course.log ++ more) after

module _ {W : Type 0} (Called : Who → Request → Reply → Hand W → Hand W → Type 0) (Shows : Request → Reply → Hand W → Hand W → Type 0) (Goes : Hand W → Hand W → Type 0) where
  -- a call shows something of its row, and goes on to show it while the row goes on
  pub record Lasts : Type 0 where
    pub goes : (who : Who) (asked : Request) (said : Reply) (before after : Hand W) → Called who asked said before after → Goes before after
    pub shows : (who : Who) (asked : Request) (said : Reply) (before after : Hand W) → Called who asked said before after → Shows asked said before after
    pub still : (at : Hand W) → Goes at at
    pub through : (before at after : Hand W) → Goes before at → Goes at after → Goes before after
    pub stays : (asked : Request) (said : Reply) (before at after : Hand W) → Shows asked said before at → Goes at after → Shows asked said before after

module _ {W : Type 0} (serves : Procedure → Bool) (Called : Who → Request → Reply → Hand W → Hand W → Type 0) (Shows : Request → Reply → Hand W → Hand W → Type 0) where
  -- a call was run amid others, and if it is one of the service, it shows this of the row that it began with, as the row is
  -- once all were run
  pub record IsShown (first last : Activity W) (front others : List Answer) (one : Answer) : Type 0 where
    pub before : Activity W
    pub after : Activity W
    pub earlier : RunsAll serves Called first front before
    pub runs : Runs serves Called before one after
    pub later : RunsAll serves Called after others last
    pub shows : (asked : Request) → read_of serves one.call.header one.call.payload ≡ Ok asked → asks_to_close (Ok asked) ≡ false → Shows asked one.reply before.at_hand last.at_hand

module _ {W : Type 0} (serves : Procedure → Bool) (Called : Who → Request → Reply → Hand W → Hand W → Type 0) (Shows : Request → Reply → Hand W → Hand W → Type 0) (Goes : Hand W → Hand W → Type 0) where
  -- so each of them does
  abbrev pub AnswersLast : Type 0
  AnswersLast = Lasts Called Shows Goes → (first last : Activity W) (front others : List Answer) (one : Answer) → RunsAll serves Called first (front ++ one ∷ others) last
      → IsShown serves Called Shows first last front others one

  -- and the row has gone on
  abbrev pub RowsGo : Type 0
  RowsGo = Lasts Called Shows Goes → (first last : Activity W) (all : List Answer) → RunsAll serves Called first all last → Goes first.at_hand last.at_hand
