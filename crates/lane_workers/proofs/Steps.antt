-- A worker's steps, one after the other.
use Rattle.std.proofs.Common.{◌≡◌, ◌≢◌, ◌++◌, Bool, true, false, true≢false, List, [], ◌∷◌, map, Option, None, Some, Result, Ok, Err, refl, sym, ap, ◌∙◌, subst, append_assoc, append-nil}
use Rattle.std.proofs.lemmas.List.{map-append}
use Rattle.std.specs.Option.{is_some}
use Rattle.atomic_table.specs.Seated.{TableId}
use Rattle.lanes.specs.Ends.{End, has_taken}
use Rattle.sink_turns.specs.declared.message.Message.{Message}
use Rattle.sink_turns.specs.declared.spoken.Unsaid.TheVariants as unsaid
use Rattle.sink_turns.specs.declared.turns.NotSaid.{NotSaid}
use Rattle.sink_turns.specs.declared.turns.NotSaid.TheVariants as reason
use Rattle.sink_turns.specs.Keeping.{OutPass}
use Rattle.sink_turns.specs.Told.{IsFlushed, IsSaid}
use Rattle.lane_workers.specs.Answering.{Answered, AnswersAll, answered}
use Rattle.lane_workers.specs.Steps.{Continues, HasSaid, HasTried, IsHeard, IsHeardOf, SoFar, Turns, stop_of, took}
use Rattle.lane_workers.specs.Working.{HasWorked, IsStopped, MayWork, ShowsWhy}
use Rattle.lane_workers.specs.declared.worker.Stop.{Stop}
use Rattle.lane_workers.specs.declared.worker.Stop.TheVariants.{NoMemory, NotSaid as Unheard}
use Rattle.lane_workers.specs.declared.worker.Worker.{Worker}
use Rattle.lane_workers.proofs.Passing.{continues_itself, continues_then, flushed_cell, flushed_continues, gone_nowhere, gone_same, messages_more, said_cell, said_continues, sees_fault}

-- what a test of why it stopped says
pub none_of : (stop : Option Stop) → is_some stop ≡ false → stop ≡ None
none_of None e = refl
none_of (Some why) e = absurd (true≢false e)

pub some_of : (stop : Option Stop) → is_some stop ≡ true → stop ≢ None
some_of stop e = λ (none : stop ≡ None). true≢false (sym e ∙ ap is_some none)

module _ {T W K : Type 0} where
  abbrev worker_of : End T → OutPass → W → Worker T W K
  worker_of lane pass row = record { lane = lane; pass = pass; row = row }

  pub turns_none : (w : Worker T W K) → Turns [] w w
  turns_none w = record { pass = continues_itself w.pass; cell = refl; lane = refl; row = refl }

  pub turns_flush : (lane : End T) (row : W) (r : Result (Unit {0}) NotSaid) (before after : OutPass) → IsFlushed r before after → Turns [] (worker_of lane before row) (worker_of lane after row)
  turns_flush lane row r before after h = record { pass = flushed_continues r before after h; cell = flushed_cell r before after h; lane = refl; row = refl }

  pub turns_then : (xs ys : List Message) (a b c : Worker T W K) → Turns xs a b → Turns ys b c → Turns (xs ++ ys) a c
  turns_then xs ys a b c h k = record {
    pass = continues_then xs ys a.pass b.pass c.pass h.pass k.pass;
    cell = k.cell ∙ h.cell;
    lane = k.lane ∙ h.lane;
    row = k.row ∙ h.row;
  }

  why_shown : (m : Message) (more : Bool) (r : Result (Unit {0}) NotSaid) (w : Worker T W K) (before : OutPass) → IsSaid m more r before w.pass → ShowsWhy (stop_of r) w
  why_shown m more (Ok u) w before h = tt
  why_shown m more (Err reason.Spent) w before h = ap (λ (p : OutPass). p.spent) h
  why_shown m more (Err (reason.Fault unsaid.SinkFault)) w before h = sees_fault m more before w.pass h
  why_shown m more (Err (reason.Fault unsaid.NoMemory)) w before h = tt

  pub has_said : (m : Message) (more : Bool) (lane lane' : End T) (row : W) (r : Result (Unit {0}) NotSaid) (stop : Option Stop) (before after : OutPass) → IsSaid m more r before after → lane' ≡ lane → stop ≡ stop_of r
      → HasSaid m stop (worker_of lane before row) (worker_of lane' after row)
  has_said m more lane lane' row r stop before after h same is =
      let c = said_continues m more r before after h in
      record {
        own = c.0;
        turned = record { pass = c.1; cell = said_cell m more r before after h; lane = same; row = refl };
        heard = subst (λ (s : Option Stop). IsHeard m s c.0) (sym is) c.2;
        shows = subst (λ (s : Option Stop). ShowsWhy s (worker_of lane' after row)) (sym is) (why_shown m more r (worker_of lane' after row) before h);
      }

  -- it may go on with its lane, its pass and a row
  pub may_go_on : {D : Type 0} (is_row : D → W → Type 0) (d : D) (out : TableId) (a b : Worker T W K) → MayWork is_row d out a → b.lane.takes ≡ a.lane.takes → b.pass.cell ≡ a.pass.cell → is_row d b.row → MayWork is_row d out b
  may_go_on is_row d out a b may takes cell row = record { takes = takes ∙ may.takes; cell = cell ∙ may.cell; row = row }

module _ {T W : Type 0} (HasAnswered : W → T → Option Message → W → Type 0) where
  answers_more : (a b : W) (xs : List (Answered T)) (piece : T) (m : Message) (c : W) → AnswersAll HasAnswered a xs b → HasAnswered b piece (Some m) c → AnswersAll HasAnswered a (xs ++ answered piece m ∷ []) c
  answers_more a b [] piece m c all one = (c, subst (λ (w : W). HasAnswered w piece (Some m) c) all one, refl)
  answers_more a b (x ∷ xs) piece m c all one = (all.0, all.1, answers_more all.0 b xs piece m c all.2 one)

module _ {T : Type 0} where
  -- the lane, once a piece more was taken
  lane_more : (before now after : End T) (xs ys : List T) (piece : T) → now ≡ record before { taken = before.taken ++ xs } → after ≡ has_taken now piece → ys ≡ xs ++ piece ∷ [] → after ≡ record before { taken = before.taken ++ ys }
  lane_more before now after xs ys piece h is e =
      is ∙ ((λ i. has_taken (h i) piece) ∙ (λ i. record before { taken = (append_assoc before.taken xs (piece ∷ []) ∙ ap (λ (l : List T). before.taken ++ l) (sym e)) i }))

module _ {T W K : Type 0} (HasAnswered : W → T → Option Message → W → Type 0) where
  -- a piece was answered and its message said, after a flush or none
  pub tried_said : (piece : T) (m : Message) (stop : Option Stop) (before ready at after : Worker T W K) → Turns [] before ready → at.lane ≡ ready.lane → at.pass ≡ ready.pass → HasAnswered ready.row piece (Some m) at.row → HasSaid m stop at after
      → HasTried HasAnswered piece stop before after
  tried_said piece m stop before ready at after flush lane pass ran heard = record {
    message = Some m;
    own = heard.own;
    turned = record {
      pass = continues_then [] heard.own before.pass ready.pass after.pass flush.pass (subst (λ (p : OutPass). Continues heard.own p after.pass) pass heard.turned.pass);
      cell = heard.turned.cell ∙ (ap (λ (p : OutPass). p.cell) pass ∙ flush.cell);
      lane = heard.turned.lane ∙ (lane ∙ flush.lane);
      row = refl;
    };
    ran = subst (λ (z : W × W). HasAnswered z.0 piece (Some m) z.1) (λ i. (flush.row i, sym heard.turned.row i)) ran;
    heard = heard.heard;
    shows = heard.shows;
  }

  -- there was no memory for the message
  pub tried_none : (piece : T) (before ready at after : Worker T W K) → Turns [] before ready → at.lane ≡ ready.lane → at.pass ≡ ready.pass → HasAnswered ready.row piece None at.row → Turns [] at after
      → HasTried HasAnswered piece (Some NoMemory) before after
  tried_none piece before ready at after flush lane pass ran more = record {
    message = None;
    own = [];
    turned = record {
      pass = continues_then [] [] before.pass ready.pass after.pass flush.pass (subst (λ (p : OutPass). Continues [] p after.pass) pass more.pass);
      cell = more.cell ∙ (ap (λ (p : OutPass). p.cell) pass ∙ flush.cell);
      lane = more.lane ∙ (lane ∙ flush.lane);
      row = refl;
    };
    ran = subst (λ (z : W × W). HasAnswered z.0 piece None z.1) (λ i. (flush.row i, sym more.row i)) ran;
    heard = (refl, refl);
    shows = tt;
  }

  pub so_far_none : (w : Worker T W K) → SoFar HasAnswered w w
  so_far_none w = record {
    answered = [];
    turns = 0;
    deeds = [];
    lane = λ i. record w.lane { taken = sym (append-nil w.lane.taken) i };
    ran = refl;
    went = gone_nowhere w.pass;
    said_all = refl;
  }

  more_of : (before now after : Worker T W K) (piece : T) (message : Option Message) (own : List Message) → SoFar HasAnswered before now → Turns own (record (took now piece) { row = after.row }) after → HasAnswered now.row piece message after.row → IsHeardOf message None own
      → SoFar HasAnswered before after
  more_of before now after piece (Some m) own so turned ran heard =
      let xs = so.answered in
      let g = turned.pass before.pass so.turns so.deeds so.went in
      record {
        answered = xs ++ answered piece m ∷ [];
        turns = g.0;
        deeds = so.deeds ++ g.1;
        lane = lane_more before.lane now.lane after.lane (map (λ (a : Answered T). a.piece) xs) (map (λ (a : Answered T). a.piece) (xs ++ answered piece m ∷ [])) piece so.lane turned.lane (map-append (λ (a : Answered T). a.piece) xs (answered piece m ∷ []));
        ran = answers_more HasAnswered before.row now.row xs piece m after.row so.ran ran;
        went = g.2;
        said_all = messages_more so.deeds g.1 ∙ ((λ i. so.said_all i ++ (g.3 ∙ heard) i) ∙ sym (map-append (λ (a : Answered T). a.message) xs (answered piece m ∷ [])));
      }
  more_of before now after piece None own so turned ran heard = let e : None ≡ Some NoMemory = heard.0 in absurd (cc)

  pub so_far_more : (before now taken after : Worker T W K) (piece : T) (stop : Option Stop) → SoFar HasAnswered before now → taken ≡ took now piece → HasTried HasAnswered piece stop taken after → stop ≡ None → SoFar HasAnswered before after
  so_far_more before now taken after piece stop so is tried none =
      let at : HasTried HasAnswered piece None (took now piece) after = subst (λ (z : Worker T W K × Option Stop). HasTried HasAnswered piece z.1 z.0 after) (λ i. (is i, none i)) tried in
      more_of before now after piece at.message at.own so at.turned at.ran at.heard

  -- it stopped
  stopped_of : (before now after : Worker T W K) (piece : T) (message : Option Message) (own : List Message) (stop : Stop) → SoFar HasAnswered before now → Turns own (record (took now piece) { row = after.row }) after → HasAnswered now.row piece message after.row → IsHeardOf message (Some stop) own
      → IsStopped HasAnswered now.row (piece ∷ []) own (Some stop) after.row
  stopped_of before now after piece (Some m) own NoMemory so turned ran heard = absurd heard
  stopped_of before now after piece (Some m) own (Unheard why) so turned ran heard = (piece, m, refl, ran, heard)
  stopped_of before now after piece None own NoMemory so turned ran heard = (piece, refl, ran, heard.1)
  stopped_of before now after piece None own (Unheard why) so turned ran heard = let e : Some (Unheard why) ≡ Some NoMemory = heard.0 in absurd (cc)

  worked_of : (is_row : W → Type 0) (before now after : Worker T W K) (piece : T) (stop : Option Stop) → SoFar HasAnswered before now → HasTried HasAnswered piece stop (took now piece) after → is_row after.row → stop ≢ None → HasWorked HasAnswered is_row before (record { worker = after; stop = stop })
  worked_of is_row before now after piece None so tried row some = absurd (some refl)
  worked_of is_row before now after piece (Some stop) so tried row some =
      let xs = so.answered in
      let g = tried.turned.pass before.pass so.turns so.deeds so.went in
      record {
        answered = xs;
        then = now.row;
        turns = g.0;
        deeds = so.deeds ++ g.1;
        rest = piece ∷ [];
        cut = tried.own;
        lane = lane_more before.lane now.lane after.lane (map (λ (a : Answered T). a.piece) xs) (map (λ (a : Answered T). a.piece) xs ++ piece ∷ []) piece so.lane tried.turned.lane refl;
        ran = so.ran;
        went = g.2;
        said_all = messages_more so.deeds g.1 ∙ (λ i. so.said_all i ++ g.3 i);
        stopped = stopped_of before now after piece tried.message tried.own stop so tried.turned tried.ran tried.heard;
        shows = tried.shows;
        same = gone_same g.0 (so.deeds ++ g.1) before.pass after.pass g.2;
        row = row;
        all = λ none. absurd (some none);
      }

  pub worked_stop : (is_row : W → Type 0) (before now taken after : Worker T W K) (piece : T) (stop : Option Stop) → SoFar HasAnswered before now → taken ≡ took now piece → HasTried HasAnswered piece stop taken after → is_row after.row → stop ≢ None
      → HasWorked HasAnswered is_row before (record { worker = after; stop = stop })
  worked_stop is_row before now taken after piece stop so is tried row some = worked_of is_row before now after piece stop so (subst (λ (w : Worker T W K). HasTried HasAnswered piece stop w after) is tried) row some

  -- the lane was closed and empty
  pub worked_all : (is_row : W → Type 0) (before now last : Worker T W K) → SoFar HasAnswered before now → last ≡ now → is_row now.row → (now.lane.puts ≡ true → now.lane.put ≡ now.lane.taken) → HasWorked HasAnswered is_row before (record { worker = last; stop = None })
  worked_all is_row before now last so is row all =
      let pieces : List T = map (λ (a : Answered T). a.piece) so.answered in
      subst (λ (w : Worker T W K). HasWorked HasAnswered is_row before (record { worker = w; stop = None })) (sym is) (record {
        answered = so.answered;
        then = now.row;
        turns = so.turns;
        deeds = so.deeds;
        rest = [];
        cut = [];
        lane = so.lane ∙ (λ i. record before.lane { taken = before.lane.taken ++ sym (append-nil pieces) i });
        ran = so.ran;
        went = so.went;
        said_all = so.said_all ∙ sym (append-nil (map (λ (a : Answered T). a.message) so.answered));
        stopped = (refl, refl, refl);
        shows = tt;
        same = gone_same so.turns so.deeds before.pass now.pass so.went;
        row = row;
        all = λ _ puts. all (ap (λ (e : End T). e.puts) so.lane ∙ puts);
      })
