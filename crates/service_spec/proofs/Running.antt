-- Calls that one activity ran, one after the other.
use Rattle.std.proofs.Common.{◌≡◌, ◌+◌, ◌≤◌, ℕ, Bool, true, false, List, [], ◌∷◌, ◌++◌, length, Option, Result, Ok, Err, refl, sym, ap, subst, arith, ⊎_elim}
use Rattle.std.specs.Prelude.{MatchBool}
use Rattle.procedure_spec.specs.declared.fault.ArgFault.{ArgFault}
use Rattle.procedure_spec.specs.declared.procedure.Procedure.{Procedure}
use Rattle.service_spec.specs.Activities.{Activity, Hand}
use Rattle.service_spec.specs.Calls.{IsAnswered, Runs, RunsAll, SaysAlone}
use Rattle.service_spec.specs.Ends.{Ends, IsUnanswered}
use Rattle.service_spec.specs.Laws.{AnswersLast, CallsComeInTurn, CoursesRunCalls, Lasts, RowsGo}
use Rattle.service_spec.specs.Reading.{read_of}
use Rattle.service_spec.specs.Saying.{Answer, Ponged, Replied, Said, answers, answers_in}
use Rattle.session_spec.specs.Replies.{asks_to_close}
use Rattle.session_spec.specs.declared.end.End.{End}
use Rattle.session_spec.specs.declared.end.End.TheVariants as end
use Rattle.virt_types.specs.Below.types_base.declared.caller.Who.{Who}
use Rattle.virt_types.specs.declared.request.Request.{Request}
use Rattle.virt_types.specs.declared.value.Reply.{Reply}
use Rattle.virt_types.specs.declared.value.Reply.TheVariants as reply
use Rattle.virt_types.specs.declared.value.Value.TheVariants as value
use Rattle.wire_spec.specs.declared.message.Header.{Header}

module _ {W : Type 0} (serves : Procedure → Bool) (Called : Who → Request → Reply → Hand W → Hand W → Type 0) where
  pub runs_append : (before then after : Activity W) (xs ys : List Answer) → RunsAll serves Called before xs then → RunsAll serves Called then ys after → RunsAll serves Called before (xs ++ ys) after
  runs_append before then after [] ys h k = subst (λ (s : Activity W). RunsAll serves Called s ys after) h k
  runs_append before then after (x ∷ xs) ys (mid, one, more) k = (mid, one, runs_append mid then after xs ys more k)

  pub runs_in_turn : CallsComeInTurn serves Called
  runs_in_turn before after [] others h = (before, refl, h)
  runs_in_turn before after (x ∷ xs) others (mid, one, more) =
      let split = runs_in_turn mid after xs others more in (split.0, (mid, one, split.1), split.2)

  -- each call counts
  pub runs_count : (before after : Activity W) (xs : List Answer) → RunsAll serves Called before xs after → after.next.count ≡ before.next.count + length xs
  runs_count before after [] h = omega (arith, ap (λ (s : Activity W). s.next.count) h)
  runs_count before after (x ∷ xs) (mid, one, more) = omega (arith, runs_count mid after xs more, ap (λ (w : Who). w.count) one.next)

-- ---- the calls of a course
few_answers : (said : Said) → length (answers_in said) ≤ 1
few_answers (Replied a) = omega arith
few_answers Ponged = omega arith

module _ {W : Type 0} (serves : Procedure → Bool) (Called : Who → Request → Reply → Hand W → Hand W → Type 0) where
  -- the calls that were run, and at most so many more
  abbrev RunsMore : Activity W → List Answer → Activity W → Type 0
  RunsMore before all after = (more : List Answer) × (length more ≤ 1) × RunsAll serves Called before (all ++ more) after

  no_more : (before then after : Activity W) (all : List Answer) → RunsAll serves Called before all then → after ≡ then → RunsMore before all after
  no_more before then after all ran same = ([], omega arith, runs_append serves Called before then after all [] ran same)

  one_more : (before then after : Activity W) (all : List Answer) (rest : List ℕ) → RunsAll serves Called before all then → IsUnanswered serves Called then rest after → RunsMore before all after
  one_more before then after all rest ran lost = (lost.answer ∷ [], omega arith, runs_append serves Called before then after all (lost.answer ∷ []) ran (after, lost.ran, refl))

  ends_more : (before then after : Activity W) (all : List Answer) (now : Option (List ℕ)) (taken rest extra : List ℕ) (e : End) → RunsAll serves Called before all then → Ends serves Called then now taken rest extra e after → RunsMore before all after
  ends_more before then after all now taken rest extra end.Closed ran h = no_more before then after all ran h.same
  ends_more before then after all now taken rest extra end.Eof ran h = no_more before then after all ran h.2.same
  ends_more before then after all now taken rest extra (end.Truncated n) ran h = no_more before then after all ran h.3.same
  ends_more before then after all now taken rest extra (end.BadPacket bad) ran h = no_more before then after all ran h.1.same
  ends_more before then after all now taken rest extra end.SourceFault ran h = no_more before then after all ran h.2.same
  ends_more before then after all now taken rest extra end.SinkFault ran h = (answers_in h.said, few_answers h.said, runs_append serves Called before then after all (answers_in h.said) ran h.ran)
  ends_more before then after all now taken rest extra end.NoMemory ran h = ⊎_elim (no_more before then after all ran) (one_more before then after all rest ran) h.ran

  pub courses_run : CoursesRunCalls serves Called
  courses_run before after left now held wrote e course = ends_more before course.then after (answers course.log) now _ course.rest course.extra e course.ran course.ends

module _ {W : Type 0} (Called : Who → Request → Reply → Hand W → Hand W → Type 0) (Shows : Request → Reply → Hand W → Hand W → Type 0) (Goes : Hand W → Hand W → Type 0) where
  -- a row goes on where nobody was called
  alone_goes : Lasts Called Shows Goes → (said is : Reply) (before after : Hand W) → SaysAlone said is before after → Goes before after
  alone_goes lasts said is before after (said_is, same) = subst (λ (s : Hand W). Goes before s) (sym same) (lasts.still before)

  told_goes : Lasts Called Shows Goes → (close : Bool) (who : Who) (asked : Request) (said : Reply) (before after : Hand W)
      → MatchBool close (SaysAlone said (reply.Ok value.Nothing) before after) (Called who asked said before after) → Goes before after
  told_goes lasts true who asked said before after alone = alone_goes lasts said (reply.Ok value.Nothing) before after alone
  told_goes lasts false who asked said before after called = lasts.goes who asked said before after called

  answered_goes : Lasts Called Shows Goes → (who : Who) (call : Header) (read : Result Request ArgFault) (said : Reply) (before after : Hand W) → IsAnswered Called who call read said before after → Goes before after
  answered_goes lasts who call (Ok asked) said before after told = told_goes lasts (asks_to_close (Ok asked)) who asked said before after told
  answered_goes lasts who call (Err bad) said before after alone = alone_goes lasts said _ before after alone

  told_shows : Lasts Called Shows Goes → (close : Bool) (who : Who) (asked : Request) (said : Reply) (before after : Hand W)
      → MatchBool close (SaysAlone said (reply.Ok value.Nothing) before after) (Called who asked said before after) → close ≡ false → Shows asked said before after
  told_shows lasts true who asked said before after alone stays = absurd cc
  told_shows lasts false who asked said before after called stays = lasts.shows who asked said before after called

module _ {W : Type 0} (serves : Procedure → Bool) (Called : Who → Request → Reply → Hand W → Hand W → Type 0) (Shows : Request → Reply → Hand W → Hand W → Type 0) (Goes : Hand W → Hand W → Type 0) where
  -- what one call shows when it came back
  run_shows : Lasts Called Shows Goes → (before after : Activity W) (a : Answer) (asked : Request) → Runs serves Called before a after → read_of serves a.call.header a.call.payload ≡ Ok asked → asks_to_close (Ok asked) ≡ false
      → Shows asked a.reply before.at_hand after.at_hand
  run_shows lasts before after a asked run read stays =
      let told = subst (λ (r : Result Request ArgFault). IsAnswered Called before.next a.call.header r a.reply before.at_hand after.at_hand) read run.answered in
      told_shows Called Shows Goes lasts (asks_to_close (Ok asked)) before.next asked a.reply before.at_hand after.at_hand told stays

  -- the row goes on through all calls
  pub rows_go : RowsGo serves Called Shows Goes
  rows_go lasts first last [] same = subst (λ (s : Activity W). Goes first.at_hand s.at_hand) (sym same) (lasts.still first.at_hand)
  rows_go lasts first last (a ∷ all) (mid, run, more) =
      let on = answered_goes Called Shows Goes lasts first.next a.call.header (read_of serves a.call.header a.call.payload) a.reply first.at_hand mid.at_hand run.answered in
      lasts.through first.at_hand mid.at_hand last.at_hand on (rows_go lasts mid last all more)

  -- what each call shows, it shows when all of them were run
  pub answers_last : AnswersLast serves Called Shows Goes
  answers_last lasts first last front others one ran =
      let split = runs_in_turn serves Called first last front (one ∷ others) ran in
      let rest = split.2 in
      record {
        before = split.0;
        after = rest.0;
        earlier = split.1;
        runs = rest.1;
        later = rest.2;
        shows = λ asked read stays. lasts.stays asked one.reply (split.0).at_hand (rest.0).at_hand last.at_hand (run_shows lasts split.0 rest.0 one asked rest.1 read stays) (rows_go lasts rest.0 last others rest.2);
      }
