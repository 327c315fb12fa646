-- How many calls a session runs: no more than it takes bytes.
use Rattle.std.proofs.Common.{◌≡◌, ◌≤◌, ◌<◌, ◌+◌, ◌^◌, ◌⊎◌, ◌==◌, ℕ, Bool, true, false, List, [], ◌∷◌, ◌++◌, length, Option, refl, sym, ap, subst, ◌∙◌, arith, inl, inr}
use Rattle.std.specs.Prelude.{if◌then◌else◌}
use Rattle.std.specs.List.{flat_map}
use Rattle.std.proofs.lemmas.List.{length-append}
use Rattle.procedure_spec.specs.declared.procedure.Procedure.{Procedure}
use Rattle.row_session.specs.declared.say.Flow.{Flow}
use Rattle.row_session.specs.Steps.{AreAnswered, Going, SaysOne}
use Rattle.service_spec.specs.Activities.{Activity, Hand, call_of, hand, next_who}
use Rattle.service_spec.specs.Calls.{Runs, RunsAll}
use Rattle.service_spec.specs.Course.{Course, HasServed, reader}
use Rattle.service_spec.specs.Ends.{Ends, IsUnanswered}
use Rattle.service_spec.specs.Keepalive.{is_ping}
use Rattle.service_spec.specs.Saying.{AReply, APong, Answer, Due, Ponged, Replied, Said, all_due, all_given, answers, answers_in, due_to, gives}
use Rattle.service_spec.proofs.Running.{runs_count}
use Rattle.session_spec.specs.declared.end.End.{End}
use Rattle.session_spec.specs.declared.end.End.TheVariants as end
use Rattle.virt_types.specs.Below.types_base.declared.caller.Who.{Who}
use Rattle.virt_types.specs.declared.request.Request.{Request}
use Rattle.virt_types.specs.declared.value.Reply.{Reply}
use Rattle.wire_spec.specs.Packets.{header, spelling}
use Rattle.wire_spec.specs.Split.{stream}
use Rattle.wire_spec.specs.Xdr.{word}
use Rattle.wire_spec.specs.declared.message.Packet.{Packet}
use Rattle.wire_spec.specs.declared.message.TheConstants.{CALL, HEADER_LENGTH}

-- ---- packets are not empty
some_word : (n : ℕ) → 1 ≤ length (word n)
unfolding word
some_word n = omega arith

some_front : (a b c : List ℕ) → 1 ≤ length a → 1 ≤ length (a ++ b ++ c)
some_front a b c some = omega (arith, some, length-append (a ++ b) c, length-append a b, length-append a (b ++ c), length-append b c)

some_bytes : (p : Packet) → 1 ≤ length (spelling p)
some_bytes p = some_front (word (HEADER_LENGTH + length p.payload)) (header p.header) p.payload (some_word (HEADER_LENGTH + length p.payload))

pub packets_few : (ps : List Packet) (rest : List ℕ) → length ps + length rest ≤ length (stream ps rest)
packets_few [] rest = omega arith
packets_few (p ∷ ps) rest =
    let more = packets_few ps rest in
    let one = some_bytes p in
    omega (arith, more, one, length-append (spelling p ++ flat_map spelling ps) rest, length-append (spelling p) (flat_map spelling ps), length-append (flat_map spelling ps) rest)

-- what was ready after a piece
pub ready_few : (ready : List Packet) (rest : List ℕ) (held : List Packet) (before piece : List ℕ) → held ≡ [] → stream ready rest ≡ stream held before ++ piece → length ready ≤ length before + length piece
ready_few ready rest [] before piece none grows =
    let few = packets_few ready rest in
    let e : length (stream ready rest) ≡ length (before ++ piece) = ap (λ (t : List ℕ). length t) grows in
    omega (arith, few, e, length-append before piece)
ready_few ready rest (p ∷ ps) before piece none grows = absurd cc

-- ---- a packet is due one message at most
by_tests : (a b : Bool) (p : Packet) → length (if a then AReply p ∷ [] else (if b then APong ∷ [] else [])) ≤ 1
by_tests true b p = omega arith
by_tests false true p = omega arith
by_tests false false p = omega arith

one_due : (p : Packet) → length (due_to p) ≤ 1
one_due p = by_tests (p.header.kind == CALL) (is_ping p.header) p

dues_few : (ps : List Packet) → length (all_due ps) ≤ length ps
dues_few [] = omega arith
dues_few (p ∷ ps) = omega (arith, dues_few ps, one_due p, length-append (due_to p) (all_due ps))

answers_few : (log : List Said) → length (answers log) ≤ length (all_given log)
answers_few [] = omega arith
answers_few (Replied a ∷ log) = omega (arith, answers_few log)
answers_few (Ponged ∷ log) = omega (arith, answers_few log)

-- ---- who the calls are
record IsWho (first now : Who) : Type 0 where
  pub count : ℕ
  pub is : now ≡ record first { count = count }

same_who : (first now : Who) → now ≡ first → IsWho first now
same_who first now is = record { count = first.count; is = is }

next_is : (first now next : Who) → IsWho first now → next ≡ next_who now → IsWho first next
next_is first now next i is = record { count = i.count + 1; is = is ∙ ap next_who i.is }

module _ {W : Type 0} (serves : Procedure → Bool) (Called : Who → Request → Reply → Hand W → Hand W → Type 0) where
  pub answered_count : (s after : Activity W) (packets : List Packet) (log : List Said) → AreAnswered serves Called s packets log after → after.next.count ≤ s.next.count + length packets
  answered_count s after packets log a =
      let count = runs_count serves Called s after (answers log) a.ran in
      let few = answers_few log in
      let due = dues_few packets in
      let given = ap (λ (t : List Due). length t) a.given in
      omega (arith, count, few, due, given)

  pub says_count : (p : Packet) (s after : Activity W) (held wrote : Option (List ℕ)) (next : Flow) → SaysOne serves Called p s held after wrote next → after.next.count ≤ s.next.count + 1
  says_count p s after held wrote next o = answered_count s after (p ∷ []) o.log o.answered

  pub going_count : (s at : Activity W) (left now held wrote : Option (List ℕ)) (rest : List ℕ) (count : ℕ) → Going serves Called s left now held wrote rest count at → at.next.count + length rest ≤ s.next.count + count
  going_count s at left now held wrote rest count g =
      let answered = answered_count s at g.packets g.log g.answered in
      let few = packets_few g.packets rest in
      omega (arith, answered, few, g.count_is)

  runs_who : (first : Who) (s after : Activity W) (all : List Answer) → IsWho first s.next → RunsAll serves Called s all after → IsWho first after.next
  runs_who first s after [] i same = subst (λ (t : Activity W). IsWho first t.next) (sym same) i
  runs_who first s after (a ∷ others) i (mid, one, more) = runs_who first mid after others (next_is first s.next mid.next i one.next) more

  ends_who : (first : Who) (s after : Activity W) (left : Option (List ℕ)) (taken rest extra : List ℕ) (e : End) → IsWho first s.next → Ends serves Called s left taken rest extra e after → IsWho first after.next
  ends_who first s after left taken rest extra end.Closed i h = subst (λ (t : Activity W). IsWho first t.next) (sym h.same) i
  ends_who first s after left taken rest extra end.Eof i h = let is = h.2 in subst (λ (t : Activity W). IsWho first t.next) (sym is.same) i
  ends_who first s after left taken rest extra (end.Truncated n) i h = let is = h.3 in subst (λ (t : Activity W). IsWho first t.next) (sym is.same) i
  ends_who first s after left taken rest extra (end.BadPacket bad) i h = let is = h.1 in subst (λ (t : Activity W). IsWho first t.next) (sym is.same) i
  ends_who first s after left taken rest extra end.SourceFault i h = let is = h.2 in subst (λ (t : Activity W). IsWho first t.next) (sym is.same) i
  ends_who first s after left taken rest extra end.SinkFault i h = runs_who first s after (answers_in h.said) i h.ran
  ends_who first s after left taken rest extra end.NoMemory i h = lost_who h.ran
    where
      lost_who : (after ≡ s) ⊎ IsUnanswered serves Called s rest after → IsWho first after.next
      lost_who (inl same) = subst (λ (t : Activity W). IsWho first t.next) (sym same) i
      lost_who (inr one) = next_is first s.next after.next i one.ran.next

  course_who : (before after : Activity W) (left now held wrote : Option (List ℕ)) (e : End) → Course serves Called before left now held wrote e after → IsWho before.next after.next
  course_who before after left now held wrote e c =
      ends_who before.next c.then after now _ c.rest c.extra e (runs_who before.next before c.then (answers c.log) (same_who before.next before.next refl) c.ran) c.ends

  pub has_served : (session : ℕ) (before : Hand W) (after : Activity W) (left now held wrote : Option (List ℕ)) (e : End) → Course serves Called (record { at_hand = before; next = call_of session reader 0 }) left now held wrote e after
      → HasServed serves Called session before left now held wrote e after.at_hand
  has_served session before after left now held wrote e c =
      let who = course_who (record { at_hand = before; next = call_of session reader 0 }) after left now held wrote e c in
      (who.count, subst (λ (w : Who). Course serves Called (record { at_hand = before; next = call_of session reader 0 }) left now held wrote e (record { at_hand = after.at_hand; next = w })) who.is c)
