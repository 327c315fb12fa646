-- What a pass has done so far, and a message or a flush more.
use Rattle.std.proofs.Common.{◌≡◌, ◌⊎◌, ◌+◌, ◌<◌, ◌++◌, length, ℕ, Bool, true, false, true≢false, List, [], ◌∷◌, inl, inr, ⊎_elim, Result, Ok, Err, refl, sym, ap, ◌∙◌, subst, append_assoc, append-nil}
use Rattle.std.specs.Prelude.{if◌then◌else◌}
use Rattle.std.proofs.lemmas.Grind.{flat_map-append}
use Rattle.history_spec.specs.Chapter.{tagged}
use Rattle.turn_cell.specs.Turning.{SamePass, Went}
use Rattle.turn_cell.proofs.Turning.{went_nowhere, went_on}
use Rattle.sink_turns.specs.declared.mark.Deed.{Deed}
use Rattle.sink_turns.specs.declared.mark.Deed.TheVariants.{Said, Put, Cut}
use Rattle.sink_turns.specs.declared.mark.Mark.{Mark}
use Rattle.sink_turns.specs.declared.message.Message.{Message}
use Rattle.sink_turns.specs.declared.spoken.Unsaid.TheVariants as unsaid
use Rattle.sink_turns.specs.declared.turns.NotSaid.{NotSaid}
use Rattle.sink_turns.specs.declared.turns.NotSaid.TheVariants as reason
use Rattle.sink_turns.specs.Keeping.{OutPass, meaning, no_mark_lowers}
use Rattle.sink_turns.specs.Marks.{marks_by, said}
use Rattle.sink_turns.specs.Saying.{does_wait}
use Rattle.sink_turns.specs.Text.{Text, nothing, text, text_after}
use Rattle.sink_turns.specs.Told.{HasDone, IsFlushed, IsSaid}
use Rattle.sink_turns.proofs.Texts.{cut_stays, text_more}
use Rattle.lane_workers.specs.Steps.{Continues, IsHeard, stop_of}
use Rattle.lane_workers.specs.Working.{HasGone, messages_of}

tagged_more : (k : ℕ) (ds es : List Deed) → tagged 0 (marks_by k ds) ++ tagged 0 (marks_by k es) ≡ tagged 0 (marks_by k (ds ++ es))
tagged_more k [] es = refl
tagged_more k (d ∷ ds) es = ap (λ (l : List (ℕ × Mark)). (0, record { by = k; deed = d }) ∷ l) (tagged_more k ds es)

pub gone_nowhere : (pass : OutPass) → HasGone 0 [] pass pass
gone_nowhere pass = (pass, went_nowhere meaning pass, inl refl)

gone_done : (So : Text → List Deed → Type 0) (n : ℕ) (ds : List Deed) (first b c : OutPass) → HasGone n ds first b → (h : HasDone So b c) → HasGone (n + 1) (ds ++ h.deeds) first c
gone_done So n ds first b c g h = ⊎_elim
    (λ (is : b ≡ g.0).
    let one : Went meaning n (tagged 0 (marks_by first.number ds)) first b = subst (λ (p : OutPass). Went meaning n (tagged 0 (marks_by first.number ds)) first p) (sym is) g.1 in
    let more : Went meaning 1 (tagged 0 (marks_by first.number h.deeds)) b c = subst (λ (k : ℕ). Went meaning 1 (tagged 0 (marks_by k h.deeds)) b c) one.same.number h.went in
    let both : Went meaning (n + 1) (tagged 0 (marks_by first.number ds) ++ tagged 0 (marks_by first.number h.deeds)) first c = went_on meaning no_mark_lowers n 1 (tagged 0 (marks_by first.number ds)) (tagged 0 (marks_by first.number h.deeds)) first b c one more in
    (c, subst (λ (l : List (ℕ × Mark)). Went meaning (n + 1) l first c) (tagged_more first.number ds h.deeds) both, inl refl))
    (λ (is : b ≡ record g.0 { spent = true }). absurd (true≢false (sym (ap (λ (p : OutPass). p.spent) is) ∙ h.fresh)))
    g.2

same_spent : (a p b : OutPass) → SamePass a p → b ≡ record p { spent = true } → SamePass a b
same_spent a p b same is = record {
  cell = ap (λ (q : OutPass). q.cell) is ∙ same.cell;
  first = ap (λ (q : OutPass). q.first) is ∙ same.first;
  number = ap (λ (q : OutPass). q.number) is ∙ same.number;
  parts = ap (λ (q : OutPass). q.parts) is ∙ same.parts;
  ended = ap (λ (q : OutPass). q.ended) is ∙ same.ended;
}

-- it is still the same pass
pub gone_same : (n : ℕ) (ds : List Deed) (a b : OutPass) → HasGone n ds a b → SamePass a b
gone_same n ds a b g = ⊎_elim (λ (is : b ≡ g.0). subst (SamePass a) (sym is) g.1.same) (λ (is : b ≡ record g.0 { spent = true }). same_spent a g.0 b g.1.same is) g.2

pub continues_itself : (p : OutPass) → Continues [] p p
continues_itself p = λ first n ds g. (n, [], subst (λ (l : List Deed). HasGone n l first p) (sym (append-nil ds)) g, refl)

pub continues_done : (So : Text → List Deed → Type 0) (b c : OutPass) (h : HasDone So b c) → Continues (messages_of h.deeds) b c
continues_done So b c h = λ first n ds g. (n + 1, h.deeds, gone_done So n ds first b c g h, refl)

pub continues_spent : (p : OutPass) → Continues [] p (record p { spent = true })
continues_spent p = λ first n ds g.
    let q : OutPass = record p { spent = true } in
    let spent : (q ≡ g.0) ⊎ (q ≡ record g.0 { spent = true }) = inr (⊎_elim (λ (is : p ≡ g.0). ap (λ (x : OutPass). record x { spent = true }) is) (λ (is : p ≡ record g.0 { spent = true }). ap (λ (x : OutPass). record x { spent = true }) is) g.2) in
    (n, [], subst (λ (l : List Deed). HasGone n l first q) (sym (append-nil ds)) (g.0, g.1, spent), refl)

pub messages_more : (ds es : List Deed) → messages_of (ds ++ es) ≡ messages_of ds ++ messages_of es
messages_more ds es = flat_map-append said ds es

pub continues_then : (xs ys : List Message) (a b c : OutPass) → Continues xs a b → Continues ys b c → Continues (xs ++ ys) a c
continues_then xs ys a b c h k = λ first n ds g.
    let one = h first n ds g in
    let two = k first one.0 (ds ++ one.1) one.2 in (
      two.0,
      one.1 ++ two.1,
      subst (λ (l : List Deed). HasGone two.0 l first c) (append_assoc ds one.1 two.1) two.2,
      flat_map-append said one.1 two.1 ∙ (λ i. one.3 i ++ two.3 i),
    )

-- a message and perhaps a flush are one message
one_message : (m : Message) (waits : Bool) → messages_of (Said m ∷ (if waits then [] else Put ∷ [])) ≡ m ∷ []
one_message m true = refl
one_message m false = refl

pub said_continues : (m : Message) (more : Bool) (r : Result (Unit {0}) NotSaid) (before after : OutPass) → IsSaid m more r before after → (own : List Message) × Continues own before after × IsHeard m (stop_of r) own
said_continues m more (Ok u) before after h = (
  messages_of h.deeds,
  continues_done _ before after h,
  ap messages_of h.so.1 ∙ one_message m (does_wait (text (before.seen.marks ++ h.others)) m more),
)
said_continues m more (Err reason.Spent) before after h = ([], subst (Continues [] before) (sym h) (continues_spent before), refl)
said_continues m more (Err (reason.Fault unsaid.SinkFault)) before after h = (
  messages_of h.deeds,
  continues_done _ before after h,
  ⊎_elim (λ x. inl (ap messages_of x.1)) (λ x. inr (ap messages_of x.3)) h.so,
)
said_continues m more (Err (reason.Fault unsaid.NoMemory)) before after h = (messages_of h.deeds, continues_done _ before after h, ap messages_of h.so)

pub said_cell : (m : Message) (more : Bool) (r : Result (Unit {0}) NotSaid) (before after : OutPass) → IsSaid m more r before after → after.cell ≡ before.cell
said_cell m more (Ok u) before after h = h.went.same.cell
said_cell m more (Err reason.Spent) before after h = ap (λ (p : OutPass). p.cell) h
said_cell m more (Err (reason.Fault unsaid.SinkFault)) before after h = h.went.same.cell
said_cell m more (Err (reason.Fault unsaid.NoMemory)) before after h = h.went.same.cell

-- where the sink failed, the history that the pass has seen says so
pub sees_fault : (m : Message) (more : Bool) (before after : OutPass) → IsSaid m more (Err (reason.Fault unsaid.SinkFault)) before after → (text after.seen.marks).cut ≡ true
sees_fault m more before after h =
    let front : List Mark = before.seen.marks ++ h.others in
    let whole : text after.seen.marks ≡ text_after (text front) (marks_by before.number h.deeds) = ap text h.seen ∙ text_more nothing front (marks_by before.number h.deeds) in
    ap (λ (t : Text). t.cut) whole
    ∙ ⊎_elim
    (λ (x : ((text front).cut ≡ true) × (h.deeds ≡ [])). cut_stays (text front) (marks_by before.number h.deeds) x.0)
    (λ (x : (n : ℕ) × ((text front).cut ≡ false) × (n < length ((text front).waits ++ m.bytes)) × (h.deeds ≡ Said m ∷ Cut n ∷ [])). ap (λ (ds : List Deed). (text_after (text front) (marks_by before.number ds)).cut) x.3)
    h.so

pub flushed_continues : (r : Result (Unit {0}) NotSaid) (before after : OutPass) → IsFlushed r before after → Continues [] before after
flushed_continues (Ok u) before after h =
    subst (λ (l : List Message). Continues l before after)
    (⊎_elim (λ (x : ((text (before.seen.marks ++ h.others)).waits ≡ []) × (h.deeds ≡ [])). ap messages_of x.1) (λ (x : h.deeds ≡ Put ∷ []). ap messages_of x) h.so.1)
    (continues_done _ before after h)
flushed_continues (Err reason.Spent) before after h = subst (Continues [] before) (sym h) (continues_spent before)
flushed_continues (Err (reason.Fault unsaid.SinkFault)) before after h =
    subst (λ (l : List Message). Continues l before after) (⊎_elim (λ x. ap messages_of x.1) (λ x. ap messages_of x.3) h.so) (continues_done _ before after h)
flushed_continues (Err (reason.Fault unsaid.NoMemory)) before after h = subst (λ (l : List Message). Continues l before after) (ap messages_of h.so) (continues_done _ before after h)

pub flushed_cell : (r : Result (Unit {0}) NotSaid) (before after : OutPass) → IsFlushed r before after → after.cell ≡ before.cell
flushed_cell (Ok u) before after h = h.went.same.cell
flushed_cell (Err reason.Spent) before after h = ap (λ (p : OutPass). p.cell) h
flushed_cell (Err (reason.Fault unsaid.SinkFault)) before after h = h.went.same.cell
flushed_cell (Err (reason.Fault unsaid.NoMemory)) before after h = h.went.same.cell
