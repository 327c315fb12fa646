-- Packets that were answered, and more of them.
use Rattle.std.proofs.Common.{◌≡◌, ◌&&◌, ◌==◌, Bool, true, false, List, [], ◌∷◌, ◌++◌, refl, sym, ap, subst, ◌∙◌, append_assoc}
use Rattle.std.specs.List.{AllByRecursion, flat_map}
use Rattle.std.proofs.lemmas.List.{append-nil}
use Rattle.std.proofs.lemmas.Grind.{flat_map-append}
use Rattle.procedure_spec.specs.Calls.{call_of}
use Rattle.procedure_spec.specs.declared.procedure.Procedure.{Procedure}
use Rattle.row_session.specs.Steps.{AreAnswered}
use Rattle.row_session.proofs.Dues.{due_to_call}
use Rattle.service_spec.specs.Activities.{Activity, Hand}
use Rattle.service_spec.specs.Calls.{RunsAll}
use Rattle.service_spec.specs.Ends.{EndsWithClose}
use Rattle.service_spec.specs.Saying.{AReply, APong, AreWhole, Answer, Due, Ponged, Replied, Said, all_due, all_given, answers, answers_in, due_to, gives, log_bytes, message}
use Rattle.service_spec.proofs.Running.{runs_append}
use Rattle.session_spec.specs.Course.{StaysOpen}
use Rattle.session_spec.specs.Replies.{asks_to_close, closes}
use Rattle.virt_types.specs.Below.types_base.declared.caller.Who.{Who}
use Rattle.virt_types.specs.declared.request.Request.{Request}
use Rattle.virt_types.specs.declared.value.Reply.{Reply}
use Rattle.wire_spec.specs.Packets.{IsPacket, spelling}
use Rattle.wire_spec.specs.declared.message.Packet.{Packet}
use Rattle.wire_spec.specs.declared.message.TheConstants.{CALL}

pub all_append : {A : Type 0} (P : A → Type 0) (xs ys : List A) → AllByRecursion P xs → AllByRecursion P ys → AllByRecursion P (xs ++ ys)
all_append P [] ys h k = k
all_append P (x ∷ xs) ys h k = (h.0, all_append P xs ys h.1 k)

pub all_front : {A : Type 0} (P : A → Type 0) (xs ys : List A) → AllByRecursion P (xs ++ ys) → AllByRecursion P xs
all_front P [] ys h = tt
all_front P (x ∷ xs) ys h = (h.0, all_front P xs ys h.1)

pub all_back : {A : Type 0} (P : A → Type 0) (xs ys : List A) → AllByRecursion P (xs ++ ys) → AllByRecursion P ys
all_back P [] ys h = h
all_back P (x ∷ xs) ys h = all_back P xs ys h.1

pub log-append : (xs ys : List Said) → log_bytes (xs ++ ys) ≡ log_bytes xs ++ log_bytes ys
log-append xs ys = flat_map-append (λ (s : Said). spelling (message s)) xs ys

pub open_append : (ps qs : List Packet) → StaysOpen ps → StaysOpen qs → StaysOpen (ps ++ qs)
open_append ps qs h k = all_append (λ (p : Packet). closes p ≡ false) ps qs h k

given_append : (ps qs : List Packet) (xs ys : List Said) → all_given xs ≡ all_due ps → all_given ys ≡ all_due qs → all_given (xs ++ ys) ≡ all_due (ps ++ qs)
given_append ps qs xs ys h k =
    let given = flat_map-append gives xs ys in
    let due = flat_map-append due_to ps qs in
    given ∙ (ap (λ (t : List Due). t ++ all_given ys) h ∙ (ap (λ (t : List Due). all_due ps ++ t) k ∙ sym due))

module _ {W : Type 0} (serves : Procedure → Bool) (Called : Who → Request → Reply → Hand W → Hand W → Type 0) where
  pub answered_append : (s then after : Activity W) (ps qs : List Packet) (xs ys : List Said) → AreAnswered serves Called s ps xs then → AreAnswered serves Called then qs ys after → AreAnswered serves Called s (ps ++ qs) (xs ++ ys) after
  answered_append s then after ps qs xs ys h k = record {
    given = given_append ps qs xs ys h.given k.given;
    whole = all_append (λ (m : Said). IsPacket (message m)) xs ys h.whole k.whole;
    ran = subst (λ (all : List Answer). RunsAll serves Called s all after) (sym (flat_map-append answers_in xs ys)) (runs_append serves Called s then after (answers xs) (answers ys) h.ran k.ran);
  }

  pub answered_none : (s : Activity W) → AreAnswered serves Called s [] [] s
  answered_none s = record { given = refl; whole = tt; ran = refl }

-- ---- the reply to a close
left_true : (a b : Bool) → (a && b) ≡ true → a ≡ true
left_true true b is = refl
left_true false b is = absurd cc

kind_of_close : (p : Packet) → closes p ≡ true → (p.header.kind == CALL) ≡ true
kind_of_close p is = left_true (p.header.kind == CALL) (asks_to_close (call_of p.header p.payload)) is

due_to_close : (p : Packet) → closes p ≡ true → due_to p ≡ AReply p ∷ []
due_to_close p is = rw (kind_of_close p is) refl

-- one message that gives a reply is the reply to that call
one_reply : (p : Packet) (log : List Said) → closes p ≡ true → all_given log ≡ AReply p ∷ [] → EndsWithClose log
one_reply p [] is e = absurd cc
one_reply p (Ponged ∷ xs) is e = absurd cc
one_reply p (Replied a ∷ Replied b ∷ xs) is e = absurd cc
one_reply p (Replied a ∷ Ponged ∷ xs) is e = absurd cc
one_reply p (Replied a ∷ []) is e =
    let same : a.call ≡ p = cc in
    record { front = []; last = a; parts = refl; is_close = ap closes same ∙ is }

pub closes_last : (p : Packet) (log : List Said) → closes p ≡ true → all_given log ≡ all_due (p ∷ []) → EndsWithClose log
closes_last p log is given = one_reply p log is (given ∙ (append-nil (due_to p) ∙ due_to_close p is))

pub last_more : (xs ys : List Said) → EndsWithClose ys → EndsWithClose (xs ++ ys)
last_more xs ys h = record {
  front = xs ++ h.front;
  last = h.last;
  parts = ap (λ (t : List Said). xs ++ t) h.parts ∙ sym (append_assoc xs h.front (Replied h.last ∷ []));
  is_close = h.is_close;
}
