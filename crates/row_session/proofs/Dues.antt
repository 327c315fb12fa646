-- What is due to a packet, and how one message gives it.
use Rattle.std.proofs.Common.{◌≡◌, ◌==◌, ◌&&◌, ℕ, Bool, true, false, List, [], ◌∷◌, ◌++◌, Option, None, Some, Result, Ok, refl, sym, ap, subst, ◌∙◌, arith, length, take, ◌<◌, ◌⊎◌, inl, inr}
use Rattle.std.proofs.lemmas.List.{append-nil}
use Rattle.std.proofs.lemmas.Bool.Decides.{nat_tests}
use Rattle.std.specs.Io.KnownBytes.{Appends}
use Rattle.procedure_spec.specs.declared.procedure.Procedure.{Procedure}
use Rattle.row_session.specs.declared.running.Told.{Told}
use Rattle.row_session.specs.declared.say.Flow.{Flow}
use Rattle.row_session.specs.declared.say.Flow.TheVariants as flow
use Rattle.row_session.specs.declared.say.Stop.{Stop}
use Rattle.row_session.specs.declared.say.Stop.TheVariants as stop
use Rattle.row_session.specs.Steps.{AreAnswered, IsPut, IsPutInPart, IsPutShort, SaysOne, StopsAt, StopsOne, has_closed}
use Rattle.row_session.specs.Telling.{IsToldTo}
use Rattle.row_session.proofs.Closing.{same_close}
use Rattle.packet.proofs.Known.{Appends-none}
use Rattle.service_spec.specs.Activities.{Activity, Hand}
use Rattle.service_spec.specs.Calls.{Runs, RunsAll}
use Rattle.service_spec.specs.Keepalive.{is_ping, pong}
use Rattle.service_spec.specs.Reading.{read_of}
use Rattle.service_spec.specs.Saying.{AReply, APong, Answer, Due, Ponged, Replied, Said, all_due, all_given, answers_in, due_to, gives, log_bytes, message}
use Rattle.session_spec.specs.Replies.{asks_to_close, closes, reply_packet}
use Rattle.virt_types.specs.Below.types_base.declared.caller.Who.{Who}
use Rattle.virt_types.specs.declared.request.Request.{Request}
use Rattle.virt_types.specs.declared.value.Reply.{Reply}
use Rattle.wire_spec.specs.Packets.{IsPacket, spelling}
use Rattle.wire_spec.specs.declared.message.Packet.{Packet}
use Rattle.wire_spec.specs.declared.message.TheConstants.{CALL}

pub is_call : (p : Packet) → p.header.kind ≡ CALL → (p.header.kind == CALL) ≡ true
is_call p is = grind (arith, nat_tests, is)

pub no_call : (p : Packet) → (p.header.kind ≡ CALL → ⊥) → (p.header.kind == CALL) ≡ false
no_call p not = grind (arith, nat_tests, not)

pub due_to_call : (p : Packet) → p.header.kind ≡ CALL → due_to p ≡ AReply p ∷ []
due_to_call p is = rw (is_call p is) refl

pub due_to_ping : (p : Packet) → (p.header.kind ≡ CALL → ⊥) → is_ping p.header ≡ true → due_to p ≡ APong ∷ []
due_to_ping p not ping = rw (no_call p not, ping) refl

pub due_to_other : (p : Packet) → (p.header.kind ≡ CALL → ⊥) → is_ping p.header ≡ false → due_to p ≡ []
due_to_other p not none = rw (no_call p not, none) refl

pub closes_call : (serves : Procedure → Bool) (p : Packet) → p.header.kind ≡ CALL → closes p ≡ asks_to_close (read_of serves p.header p.payload)
closes_call serves p is = rw (is_call p is) (sym (same_close serves p.header p.payload))

pub closes_other : (p : Packet) → (p.header.kind ≡ CALL → ⊥) → closes p ≡ false
closes_other p not = rw (no_call p not) refl

-- all that is due to one packet, and that one message gives
one_due : (p : Packet) → all_due (p ∷ []) ≡ due_to p
one_due p = append-nil (due_to p)

one_given : (s : Said) → all_given (s ∷ []) ≡ gives s
one_given s = append-nil (gives s)

one_logged : (s : Said) → log_bytes (s ∷ []) ≡ spelling (message s)
one_logged s = append-nil (spelling (message s))

module _ {W : Type 0} (serves : Procedure → Bool) (Called : Who → Request → Reply → Hand W → Hand W → Type 0) where
  -- what was run for one message
  one_ran : (s : Said) (before after : Activity W) → RunsAll serves Called before (answers_in s) after → RunsAll serves Called before (answers_in s ++ []) after
  one_ran s before after ran = rw append-nil ran

  -- a message was put for this packet
  pub one_said : (p : Packet) (said : Said) (before after : Activity W) (held wrote : Option (List ℕ)) (next : Flow) → due_to p ≡ gives said
      → RunsAll serves Called before (answers_in said) after → IsPut (message said) held wrote → has_closed next ≡ closes p → SaysOne serves Called p before held after wrote next
  one_said p said before after held wrote next due ran put closes_is = record {
    log = said ∷ [];
    answered = record {
      given = one_given said ∙ (sym due ∙ sym (one_due p));
      whole = (put.whole, tt);
      ran = one_ran said before after ran;
    };
    written = subst (λ (t : List ℕ). Appends held wrote t) (sym (one_logged said)) put.written;
    closes_is = closes_is;
  }

  -- a front of it was put, or nothing
  pub one_cut : (p : Packet) (said : Said) (before after : Activity W) (held wrote : Option (List ℕ)) → due_to p ≡ gives said
      → RunsAll serves Called before (answers_in said) after → IsPutShort (message said) held wrote → StopsOne serves Called p before held after wrote stop.SinkFault
  one_cut p said before after held wrote due ran put =
      (take put.count (spelling (message said)), (said, put.count, due, ran, put.whole, refl, put.cut), put.written)

  pub none_put : (p : Packet) (before after : Activity W) (held wrote : Option (List ℕ)) → (after ≡ before) ⊎ ((said : Reply) × Runs serves Called before (record { call = p; reply = said }) after)
      → wrote ≡ held → StopsOne serves Called p before held after wrote stop.NoMemory
  none_put p before after held wrote ran same = ([], (refl, ran), subst (λ (w : Option (List ℕ)). Appends held w []) (sym same) (Appends-none held))

  -- ---- a call
  told_runs : (call : Packet) (told : Told) (before after : Activity W) → call.header.kind ≡ CALL → IsToldTo serves Called call before after told → Runs serves Called before (record { call = call; reply = told.said }) after
  told_runs call told before after is it = record { is_call = is; answered = it.answered; next = it.next }

  pub call_said : (call : Packet) (told : Told) (before after : Activity W) (held wrote : Option (List ℕ)) (next : Flow) → call.header.kind ≡ CALL → IsToldTo serves Called call before after told
      → IsPut (reply_packet call.header told.said) held wrote → has_closed next ≡ told.closes → SaysOne serves Called call before held after wrote next
  call_said call told before after held wrote next is it put flow =
      one_said call (Replied (record { call = call; reply = told.said })) before after held wrote next (due_to_call call is)
      (after, told_runs call told before after is it, refl) put (flow ∙ (it.closes ∙ sym (closes_call serves call is)))

  pub call_cut : (call : Packet) (told : Told) (before after : Activity W) (held wrote : Option (List ℕ)) (why : Stop) → call.header.kind ≡ CALL → IsToldTo serves Called call before after told
      → IsPutInPart (reply_packet call.header told.said) held wrote why → StopsOne serves Called call before held after wrote why
  call_cut call told before after held wrote stop.SinkFault is it put =
      one_cut call (Replied (record { call = call; reply = told.said })) before after held wrote (due_to_call call is) (after, told_runs call told before after is it, refl) put
  call_cut call told before after held wrote stop.NoMemory is it same = none_put call before after held wrote (inr (told.said, told_runs call told before after is it)) same

  -- there was no memory to read it
  pub call_unread : (call : Packet) (before after : Activity W) (held wrote : Option (List ℕ)) → after ≡ before → wrote ≡ held → StopsOne serves Called call before held after wrote stop.NoMemory
  call_unread call before after held wrote still same = none_put call before after held wrote (inl still) same

  -- ---- other packets
  pub ping_said : (p : Packet) (at : Activity W) (held wrote : Option (List ℕ)) (next : Flow) → (p.header.kind ≡ CALL → ⊥) → is_ping p.header ≡ true → IsPut pong held wrote
      → has_closed next ≡ false → SaysOne serves Called p at held at wrote next
  ping_said p at held wrote next not ping put flow =
      one_said p Ponged at at held wrote next (due_to_ping p not ping) refl put (flow ∙ sym (closes_other p not))

  pub ping_cut : (p : Packet) (at : Activity W) (held wrote : Option (List ℕ)) (why : Stop) → (p.header.kind ≡ CALL → ⊥) → is_ping p.header ≡ true → IsPutInPart pong held wrote why
      → StopsOne serves Called p at held at wrote why
  ping_cut p at held wrote stop.SinkFault not ping put = one_cut p Ponged at at held wrote (due_to_ping p not ping) refl put
  ping_cut p at held wrote stop.NoMemory not ping same = none_put p at at held wrote (inl refl) same

  pub passed_over : (p : Packet) (at : Activity W) (held : Option (List ℕ)) → (p.header.kind ≡ CALL → ⊥) → is_ping p.header ≡ false → SaysOne serves Called p at held at held flow.On
  passed_over p at held not none = record {
    log = [];
    answered = record { given = sym (one_due p ∙ due_to_other p not none); whole = tt; ran = refl };
    written = Appends-none held;
    closes_is = sym (closes_other p not);
  }
