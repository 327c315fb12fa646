-- What is known once no more is said.
use Rattle.std.proofs.Common.{◌≡◌, ◌<◌, ◌≤◌, ◌+◌, ◌++◌, ℕ, Bool, true, false, true≢false, List, [], ◌∷◌, length, take, Option, Result, Ok, Err, sym, ap, ◌∙◌, subst, length-append, arith}
use Rattle.std.proofs.Math.Seq.{take-length}
use Rattle.std.specs.Io.KnownBytes.{Appends}
use Rattle.std.proofs.lemmas.List.{take-append-le}
use lib.Seq.{take-append-add}
use Rattle.history_spec.specs.declared.history.Ended.{Ended}
use Rattle.outside_spec.specs.Faults.{Rose}
use Rattle.packet.proofs.Known.{Appends-then}
use Rattle.types_base.specs.declared.memory.Failed.{Failed}
use Rattle.turn_cell.specs.Passes.{Closes}
use Rattle.turn_cell.specs.Steps.{HasEnded}
use Rattle.sink_turns.specs.declared.mark.Mark.{Mark}
use Rattle.sink_turns.specs.declared.mark.Start.{Start}
use Rattle.sink_turns.specs.Closing.{Ends, HasClosed, HaveOwn, Wrote}
use Rattle.sink_turns.specs.Keeping.{OutPass, meaning}
use Rattle.sink_turns.specs.Marks.{bytes_of, messages}
use Rattle.sink_turns.specs.Saying.{Keeps, Spoken}
use Rattle.sink_turns.specs.Text.{nothing, text}
use Rattle.sink_turns.proofs.Noting.{rose_before}
use Rattle.sink_turns.proofs.Texts.{cut_leaves, messages_add_up}
use Rattle.sink_turns.proofs.Turning.{base_of, prefix_of}

-- a front of what was put and what waits
front_is : (sent waits : List ℕ) (n : ℕ) → take (length sent + n) (sent ++ waits) ≡ sent ++ take n waits
front_is sent waits n = take-append-add sent waits n

module _ (o : Spoken) (waits : List ℕ) (cut : Bool) (was : Keeps o waits cut) where
  all_is : (text o.marks).sent ++ (text o.marks).waits ≡ bytes_of (messages o.marks)
  all_is = messages_add_up o.marks

  -- all that waited was put
  pub ends_whole : (k : Option (List ℕ)) (f : ℕ) (u : Unit {0}) → cut ≡ false → Appends o.held k waits → o.faults ≤ f → Ends o k f (Ok u)
  ends_whole k f u sound took later = record {
    lawful = was.spoken.lawful;
    later = omega (arith, was.spoken.later, later);
    wrote = subst (Appends o.start.held k) (ap (λ (l : List ℕ). (text o.marks).sent ++ l) (was.waits_are sound) ∙ all_is) (Appends-then o.start.held o.held k (text o.marks).sent waits was.spoken.bytes took);
  }

  -- the sink failed now
  pub ends_cut : (k : Option (List ℕ)) (f n : ℕ) (e : Failed) → cut ≡ false → n < length waits → Appends o.held k (take n waits) → o.faults ≤ f → Rose o.faults f → Ends o k f (Err e)
  ends_cut k f n e sound lt took later rose =
      let sent = (text o.marks).sent in
      let all : sent ++ waits ≡ bytes_of (messages o.marks) = ap (λ (l : List ℕ). sent ++ l) (was.waits_are sound) ∙ all_is in
      let within : length sent + n < length (sent ++ waits) = omega (arith, length-append sent waits, lt) in
      record {
        lawful = was.spoken.lawful;
        later = omega (arith, was.spoken.later, later);
        wrote = (
          rose_before o.start.faults o.faults f was.spoken.later rose,
          (
            length sent + n,
            subst (λ (l : List ℕ). length sent + n < length l) all within,
            subst (λ (l : List ℕ). Appends o.start.held k (take (length sent + n) l)) all (subst (Appends o.start.held k) (sym (front_is sent waits n)) (Appends-then o.start.held o.held k sent (take n waits) was.spoken.bytes took)),
          ),
        );
      }

  -- the sink had failed
  pub ends_failed : (e : Failed) → cut ≡ true → Ends o o.held o.faults (Err e)
  ends_failed e is =
      let sent = (text o.marks).sent in
      let rest = (text o.marks).waits in
      let some : 0 < length rest = cut_leaves nothing o.marks (λ c. absurd (true≢false (sym c))) was.spoken.lawful (sym was.cut_is ∙ is) in
      let within : length sent < length (sent ++ rest) = omega (arith, length-append sent rest, some) in
      let front : take (length sent) (sent ++ rest) ≡ sent = take-append-le (length sent) sent rest (omega arith) ∙ take-length sent in
      record {
        lawful = was.spoken.lawful;
        later = was.spoken.later;
        wrote = (
          was.spoken.cause (sym was.cut_is ∙ is),
          (
            length sent,
            subst (λ (l : List ℕ). length sent < length l) all_is within,
            subst (λ (l : List ℕ). Appends o.start.held o.held (take (length sent) l)) all_is (subst (Appends o.start.held o.held) (sym front) was.spoken.bytes),
          ),
        );
      }

-- the same of what its caller sees
pub ends_seen : (o now : Spoken) (k : Option (List ℕ)) (f : ℕ) (r : Result (Unit {0}) Failed) → o ≡ now → Ends o k f r → Ends now k f r
ends_seen o now k f r view ends = subst (λ (s : Spoken). Ends s k f r) view ends

have_own : (o : Spoken) (es : List (Ended Mark)) → HasEnded meaning o es → HaveOwn o.marks es
have_own o [] has = tt
have_own o (e ∷ es) has = (has.0, have_own o es has.2)

pub has_closed : (pass : OutPass) (o : Spoken) (held : Option (List ℕ)) (faults : ℕ) (result : Result (Unit {0}) Failed) → Closes meaning pass o → Ends o held faults result → HasClosed pass held faults result
has_closed pass o held faults result closes ends =
    let base : o.start ≡ pass.seen.base = sym (base_of pass.seen o closes.seen) in
    record {
      marks = o.marks;
      lawful = ends.lawful;
      seen = prefix_of pass.seen o closes.seen;
      own = closes.mine;
      ended = have_own o pass.ended closes.ended;
      apart = closes.apart;
      among = closes.all;
      later = subst (λ (z : Start). z.faults ≤ faults) base ends.later;
      wrote = subst (λ (z : Start). Wrote o.marks z held faults result) base ends.wrote;
    }
