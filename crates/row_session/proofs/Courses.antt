-- A session goes on by one packet, or by one piece, and comes to its end.
use Rattle.std.proofs.Common.{◌≡◌, ℕ, List, [], ◌∷◌, ◌++◌, Option, None, Some, refl, sym, ap, subst, ◌∙◌, append_assoc, ◌^◌, ◌⊎◌, length, arith, inl, inr, ⊎_elim, ◌+◌, Bool}
use Rattle.std.proofs.lemmas.List.{append-nil, length-append}
use Rattle.std.proofs.lemmas.Grind.{flat_map-append}
use Rattle.std.specs.Io.KnownBytes.{Consumes, IsAtEnd, Keeps}
use Rattle.std.specs.List.{flat_map, AllByRecursion}
use Rattle.procedure_spec.specs.declared.procedure.Procedure.{Procedure}
use Rattle.row_session.specs.declared.say.Flow.TheVariants as flow
use Rattle.row_session.specs.declared.say.Stop.{Stop}
use Rattle.row_session.specs.declared.say.Stop.TheVariants as stop
use Rattle.row_session.specs.Steps.{AreAnswered, Closes, EndsPiece, Going, PieceDone, PieceEnds, SaysOne, ServesFront, Stopped, StopsAt, StopsOne, end_at}
use Rattle.row_session.proofs.Answering.{all_append, all_back, all_front, answered_append, answered_none, closes_last, last_more, log-append, open_append}
use Rattle.packet.proofs.Known.{Appends-none, Appends-then, Consumes-kept, Consumes-none, Consumes-then}
use Rattle.service_spec.specs.Activities.{Activity, Hand}
use Rattle.service_spec.specs.Calls.{Runs}
use Rattle.service_spec.specs.Course.{Course}
use Rattle.service_spec.specs.Ends.{Ends, EndsWithClose, HasLast, IsCutMessage, IsLost, IsStill, IsUnanswered}
use Rattle.service_spec.specs.Saying.{Said, log_bytes}
use Rattle.session_spec.specs.Course.{HasEnd, IsClosed, IsOver, StaysOpen}
use Rattle.session_spec.specs.declared.end.End.{End}
use Rattle.session_spec.specs.declared.end.End.TheVariants.{BadPacket, Eof, NoMemory, SinkFault, SourceFault, Truncated}
use Rattle.session_spec.specs.declared.end.End.TheVariants as end
use Rattle.virt_types.specs.Below.types_base.declared.caller.Who.{Who}
use Rattle.virt_types.specs.declared.request.Request.{Request}
use Rattle.virt_types.specs.declared.value.Reply.{Reply}
use Rattle.wire_spec.specs.Packets.{IsPacket, fault, spelling}
use Rattle.wire_spec.specs.Split.{IsRest, stream}
use Rattle.wire_spec.specs.declared.message.Packet.{Packet}

pub stream_append : (ps qs : List Packet) (rest : List ℕ) → stream (ps ++ qs) rest ≡ stream ps (stream qs rest)
stream_append ps qs rest = ap (λ (t : List ℕ). t ++ rest) (flat_map-append spelling ps qs) ∙ append_assoc (flat_map spelling ps) (flat_map spelling qs) rest

pub stream_next : (p : Packet) (ps : List Packet) (rest : List ℕ) → stream (p ∷ ps) rest ≡ spelling p ++ stream ps rest
stream_next p ps rest = append_assoc (spelling p) (flat_map spelling ps) rest

-- the end that a stop brings
abbrev pub end_by : Stop → End
end_by stop.SinkFault = SinkFault
end_by stop.NoMemory = NoMemory

stop_has_end : (packets : List Packet) (why : Stop) → StaysOpen packets → HasEnd (end_by why) packets
stop_has_end packets stop.SinkFault h = h
stop_has_end packets stop.NoMemory h = h

stop_has_last : (log : List Said) (why : Stop) → HasLast (end_by why) log
stop_has_last log stop.SinkFault = tt
stop_has_last log stop.NoMemory = tt

closed_more : (ps qs : List Packet) → StaysOpen ps → IsClosed qs → IsClosed (ps ++ qs)
closed_more ps qs h c = record {
  front = ps ++ c.front;
  close = c.close;
  parts = ap (λ (t : List Packet). ps ++ t) c.parts ∙ sym (append_assoc ps c.front (c.close ∷ []));
  stays_open = open_append ps c.front h c.stays_open;
  is_close = c.is_close;
}

-- packets that did not close the session, before those at which it ended
has_end_more : (e : End) (ps qs : List Packet) → StaysOpen ps → HasEnd e qs → HasEnd e (ps ++ qs)
has_end_more end.Closed ps qs h k = closed_more ps qs h k
has_end_more Eof ps qs h k = open_append ps qs h k
has_end_more (Truncated n) ps qs h k = open_append ps qs h k
has_end_more (BadPacket bad) ps qs h k = open_append ps qs h k
has_end_more SourceFault ps qs h k = open_append ps qs h k
has_end_more SinkFault ps qs h k = open_append ps qs h k
has_end_more NoMemory ps qs h k = open_append ps qs h k

has_last_more : (e : End) (xs ys : List Said) → HasLast e ys → HasLast e (xs ++ ys)
has_last_more end.Closed xs ys h = last_more xs ys h
has_last_more Eof xs ys h = tt
has_last_more (Truncated n) xs ys h = tt
has_last_more (BadPacket bad) xs ys h = tt
has_last_more SourceFault xs ys h = tt
has_last_more SinkFault xs ys h = tt
has_last_more NoMemory xs ys h = tt

has_end_here : (rest : List ℕ) (packets : List Packet) → StaysOpen packets → HasEnd (end_at rest) packets
has_end_here [] packets h = h
has_end_here (x ∷ xs) packets h = h

has_last_here : (rest : List ℕ) (log : List Said) → HasLast (end_at rest) log
has_last_here [] log = tt
has_last_here (x ∷ xs) log = tt

still : {W : Type 0} (s : Activity W) → IsStill s [] s
still s = record { nothing = refl; same = refl }

module _ {W : Type 0} (serves : Procedure → Bool) (Called : Who → Request → Reply → Hand W → Hand W → Type 0) where
  -- ---- one more packet
  pub serves_none : (ready : List Packet) (s : Activity W) (held : Option (List ℕ)) → ServesFront serves Called ready ready s held s held
  serves_none ready s held = record {
    served = [];
    log = [];
    parts = refl;
    stays_open = tt;
    answered = answered_none serves Called s;
    written = Appends-none held;
  }

  -- one more packet was answered, and the session goes on
  pub serves_more : (s now then : Activity W) (ready before left : List Packet) (p : Packet) (held w v : Option (List ℕ)) → ServesFront serves Called ready before s held now w → before ≡ p ∷ left
      → SaysOne serves Called p now w then v flow.On → ServesFront serves Called ready left s held then v
  serves_more s now then ready before left p held w v f is o = record {
    served = f.served ++ p ∷ [];
    log = f.log ++ o.log;
    parts = f.parts ∙ ap (λ (t : List Packet). f.served ++ t) is ∙ sym (append_assoc f.served (p ∷ []) left);
    stays_open = open_append f.served (p ∷ []) f.stays_open (sym o.closes_is, tt);
    answered = answered_append serves Called s now then f.served (p ∷ []) f.log o.log f.answered o.answered;
    written = rw log-append (Appends-then held w v (log_bytes f.log) (log_bytes o.log) f.written o.written);
  }

  -- one more packet was answered, and closes the session
  pub serves_close : (s now then : Activity W) (ready before left : List Packet) (p : Packet) (held w v : Option (List ℕ)) → ServesFront serves Called ready before s held now w → before ≡ p ∷ left
      → SaysOne serves Called p now w then v flow.Closed → Closes serves Called ready s held then v
  serves_close s now then ready before left p held w v f is o = record {
    served = f.served ++ p ∷ [];
    left = left;
    log = f.log ++ o.log;
    parts = f.parts ∙ ap (λ (t : List Packet). f.served ++ t) is ∙ sym (append_assoc f.served (p ∷ []) left);
    is_closed = record { front = f.served; close = p; parts = refl; stays_open = f.stays_open; is_close = sym o.closes_is };
    last = last_more f.log o.log (closes_last p o.log (sym o.closes_is) o.answered.given);
    answered = answered_append serves Called s now then f.served (p ∷ []) f.log o.log f.answered o.answered;
    written = rw log-append (Appends-then held w v (log_bytes f.log) (log_bytes o.log) f.written o.written);
  }

  -- the next packet was not answered, or in part
  pub serves_stopped : (s now then : Activity W) (ready before left : List Packet) (p : Packet) (held w v : Option (List ℕ)) (why : Stop) → ServesFront serves Called ready before s held now w → before ≡ p ∷ left
      → StopsOne serves Called p now w then v why → Stopped serves Called ready s held then v why
  serves_stopped s now then ready before left p held w v why f is (extra, stops, put) = record {
    served = f.served;
    next = p;
    others = left;
    log = f.log;
    then = now;
    extra = extra;
    parts = f.parts ∙ ap (λ (t : List Packet). f.served ++ t) is;
    stays_open = f.stays_open;
    answered = f.answered;
    written = Appends-then held w v (log_bytes f.log) extra f.written put;
    stops = stops;
  }

  -- ---- one piece
  lost_call : (s after : Activity W) (p : Packet) (behind : List ℕ) → IsPacket p → (after ≡ s) ⊎ ((said : Reply) × Runs serves Called s (record { call = p; reply = said }) after)
      → (after ≡ s) ⊎ IsUnanswered serves Called s (spelling p ++ behind) after
  lost_call s after p behind is (inl same) = inl same
  lost_call s after p behind is (inr (said, ran)) = inr (record { answer = record { call = p; reply = said }; behind = behind; is_packet = is; next = refl; ran = ran })

  stop_ends : (s after : Activity W) (p : Packet) (others : List Packet) (rest extra : List ℕ) (why : Stop) → IsPacket p → StopsAt serves Called s p extra why after
      → EndsPiece serves Called s (stream (p ∷ others) rest) extra (end_by why) after
  stop_ends s after p others rest extra stop.SinkFault is (said, n, due, ran, whole, front, cut) = record {
    packet = p;
    behind = stream others rest;
    said = said;
    count = n;
    is_packet = is;
    next = stream_next p others rest;
    due = due;
    ran = ran;
    whole = whole;
    front = front;
    cut = cut;
  }
  stop_ends s after p others rest extra stop.NoMemory is (nothing, ran) = record {
    nothing = nothing;
    ran = subst (λ (t : List ℕ). (after ≡ s) ⊎ IsUnanswered serves Called s t after) (sym (stream_next p others rest)) (lost_call s after p (stream others rest) is ran);
  }

  pub stopped_ends : (s after : Activity W) (ready : List Packet) (rest : List ℕ) (held wrote : Option (List ℕ)) (why : Stop) → Stopped serves Called ready s held after wrote why → AllByRecursion IsPacket ready
      → PieceEnds serves Called (stream ready rest) s held after wrote (end_by why)
  stopped_ends s after ready rest held wrote why f each =
      let all : AllByRecursion IsPacket (f.served ++ f.next ∷ f.others) = rw (← f.parts) each in
      let last = all_back IsPacket f.served (f.next ∷ f.others) all in
      record {
        packets = f.served;
        rest = stream (f.next ∷ f.others) rest;
        log = f.log;
        then = f.then;
        extra = f.extra;
        parts = ap (λ (t : List Packet). stream t rest) f.parts ∙ stream_append f.served (f.next ∷ f.others) rest;
        each = all_front IsPacket f.served (f.next ∷ f.others) all;
        has_end = stop_has_end f.served why f.stays_open;
        last = stop_has_last f.log why;
        answered = f.answered;
        written = f.written;
        ends = stop_ends f.then after f.next f.others rest f.extra why last.0 f.stops;
      }

  -- a close was answered
  pub closed_ends : (s after : Activity W) (ready : List Packet) (rest : List ℕ) (held wrote : Option (List ℕ)) → Closes serves Called ready s held after wrote → AllByRecursion IsPacket ready
      → PieceEnds serves Called (stream ready rest) s held after wrote end.Closed
  closed_ends s after ready rest held wrote f each =
      let all : AllByRecursion IsPacket (f.served ++ f.left) = rw (← f.parts) each in
      record {
        packets = f.served;
        rest = stream f.left rest;
        log = f.log;
        then = after;
        extra = [];
        parts = ap (λ (t : List Packet). stream t rest) f.parts ∙ stream_append f.served f.left rest;
        each = all_front IsPacket f.served f.left all;
        has_end = f.is_closed;
        last = f.last;
        answered = f.answered;
        written = rw append-nil f.written;
        ends = still after;
      }

  -- all were answered, and after them comes what no packet begins with
  pub bad_ends : (s after : Activity W) (ready : List Packet) (rest : List ℕ) (held wrote : Option (List ℕ)) (bad : _) → ServesFront serves Called ready [] s held after wrote → AllByRecursion IsPacket ready → fault rest ≡ Some bad
      → PieceEnds serves Called (stream ready rest) s held after wrote (BadPacket bad)
  bad_ends s after ready rest held wrote bad f each is =
      let all : AllByRecursion IsPacket (f.served ++ []) = rw (← f.parts) each in
      let same : ready ≡ f.served = f.parts ∙ append-nil f.served in
      record {
        packets = f.served;
        rest = rest;
        log = f.log;
        then = after;
        extra = [];
        parts = ap (λ (t : List Packet). stream t rest) same;
        each = all_front IsPacket f.served [] all;
        has_end = f.stays_open;
        last = tt;
        answered = f.answered;
        written = rw append-nil f.written;
        ends = (is, still after);
      }

  -- all were answered, and what comes after them is the front of a packet
  pub piece_done : (s after : Activity W) (ready : List Packet) (rest : List ℕ) (held wrote : Option (List ℕ)) → ServesFront serves Called ready [] s held after wrote → AllByRecursion IsPacket ready → IsRest rest → fault rest ≡ None
      → PieceDone serves Called (stream ready rest) rest s held after wrote
  piece_done s after ready rest held wrote f each part sound =
      let all : AllByRecursion IsPacket (f.served ++ []) = rw (← f.parts) each in
      let same : ready ≡ f.served = f.parts ∙ append-nil f.served in
      record {
        packets = f.served;
        log = f.log;
        parts = ap (λ (t : List Packet). stream t rest) same;
        each = all_front IsPacket f.served [] all;
        stays_open = f.stays_open;
        answered = f.answered;
        written = f.written;
        part = part;
        sound = sound;
      }

  -- there was no memory for the piece
  pub piece_lost : (s : Activity W) (bytes : List ℕ) (held : Option (List ℕ)) → PieceEnds serves Called bytes s held s held NoMemory
  piece_lost s bytes held = record {
    packets = [];
    rest = bytes;
    log = [];
    then = s;
    extra = [];
    parts = refl;
    each = tt;
    has_end = tt;
    last = tt;
    answered = answered_none serves Called s;
    written = Appends-none held;
    ends = record { nothing = refl; ran = inl refl };
  }

  -- ---- all pieces
  -- no byte was taken so far
  pub going_none : (s : Activity W) (left held : Option (List ℕ)) (rest : List ℕ) → rest ≡ [] → Going serves Called s left left held held rest 0 s
  going_none s left held [] is = record {
    packets = [];
    log = [];
    taken = Consumes-none left;
    each = tt;
    stays_open = tt;
    answered = answered_none serves Called s;
    written = Appends-none held;
    part = inl (omega arith);
    sound = refl;
    count_is = refl;
  }
  going_none s left held (x ∷ xs) is = cc

  -- the session ended before the first byte
  pub ends_at_once : (s : Activity W) (left held : Option (List ℕ)) → Course serves Called s left left held held NoMemory s
  ends_at_once s left held = record {
    packets = [];
    rest = [];
    log = [];
    extra = [];
    then = s;
    taken = Consumes-none left;
    each = tt;
    written = Appends-none held;
    whole = tt;
    given = refl;
    last = tt;
    ran = refl;
    has_end = tt;
    ends = record { nothing = refl; ran = inl refl };
  }

  -- the pieces so far, and one more
  pub going_more : (s mid then : Activity W) (left now next held wrote put : Option (List ℕ)) (rest piece after : List ℕ) (count more : ℕ) → Going serves Called s left now held wrote rest count mid → Consumes now next piece → more ≡ length piece
      → PieceDone serves Called (rest ++ piece) after mid wrote then put → Going serves Called s left next held put after (count + more) then
  going_more s mid then left now next held wrote put rest piece after count more g takes is p = record {
    packets = g.packets ++ p.packets;
    log = g.log ++ p.log;
    taken = rw stream_append (rw (← p.parts) (rw (← append_assoc) (Consumes-then left now next (stream g.packets rest) piece g.taken takes)));
    each = all_append IsPacket g.packets p.packets g.each p.each;
    stays_open = open_append g.packets p.packets g.stays_open p.stays_open;
    answered = answered_append serves Called s mid then g.packets p.packets g.log p.log g.answered p.answered;
    written = rw log-append (Appends-then held wrote put (log_bytes g.log) (log_bytes p.log) g.written p.written);
    part = p.part;
    sound = p.sound;
    count_is = rw stream_append (rw (← p.parts) (omega (arith, g.count_is, is, length-append (flat_map spelling g.packets) (rest ++ piece), length-append rest piece, length-append (flat_map spelling g.packets) rest)));
  }

  piece_end : (s after : Activity W) (now : Option (List ℕ)) (taken rest extra : List ℕ) (e : End) → EndsPiece serves Called s rest extra e after → Ends serves Called s now taken rest extra e after
  piece_end s after now taken rest extra end.Closed h = h
  piece_end s after now taken rest extra Eof h = absurd h
  piece_end s after now taken rest extra (Truncated n) h = absurd h
  piece_end s after now taken rest extra (BadPacket bad) h = h
  piece_end s after now taken rest extra SourceFault h = absurd h
  piece_end s after now taken rest extra SinkFault h = h
  piece_end s after now taken rest extra NoMemory h = h

  -- the pieces so far, and the one at which the session ended
  pub going_ends : (s mid after : Activity W) (left now next held wrote put : Option (List ℕ)) (rest piece : List ℕ) (count : ℕ) (e : End) → Going serves Called s left now held wrote rest count mid → Consumes now next piece
      → PieceEnds serves Called (rest ++ piece) mid wrote after put e → Course serves Called s left next held put e after
  going_ends s mid after left now next held wrote put rest piece count e g takes p =
      let all = answered_append serves Called s mid p.then g.packets p.packets g.log p.log g.answered p.answered in
      record {
        packets = g.packets ++ p.packets;
        rest = p.rest;
        log = g.log ++ p.log;
        extra = p.extra;
        then = p.then;
        taken = rw stream_append (rw (← p.parts) (rw (← append_assoc) (Consumes-then left now next (stream g.packets rest) piece g.taken takes)));
        each = all_append IsPacket g.packets p.packets g.each p.each;
        written = rw (log-append, append_assoc) (Appends-then held wrote put (log_bytes g.log) (log_bytes p.log ++ p.extra) g.written p.written);
        whole = all.whole;
        given = all.given;
        last = has_last_more e g.log p.log p.last;
        ran = all.ran;
        has_end = has_end_more e g.packets p.packets g.stays_open p.has_end;
        ends = piece_end p.then after next (stream (g.packets ++ p.packets) p.rest) p.rest p.extra e p.ends;
      }

  -- the input is over
  ends_here : (s : Activity W) (now : Option (List ℕ)) (taken rest : List ℕ) → fault rest ≡ None → IsRest rest → IsOver now taken → Ends serves Called s now taken rest [] (end_at rest) s
  ends_here s now taken [] sound part over = (refl, over, still s)
  ends_here s now taken (x ∷ xs) sound part over = (refl, record { some = omega arith; part = part; sound = sound }, over, still s)

  pub going_over : (s mid : Activity W) (left now next held wrote : Option (List ℕ)) (rest : List ℕ) (count : ℕ) (e : End) → Going serves Called s left now held wrote rest count mid → Consumes now next []
      → IsAtEnd next ⊎ (count ≡ 2 ^ 62) → e ≡ end_at rest → Course serves Called s left next held wrote e mid
  going_over s mid left now next held wrote rest count e g same over is = record {
    packets = g.packets;
    rest = rest;
    log = g.log;
    extra = [];
    then = mid;
    taken = rw (← append-nil (stream g.packets rest)) (Consumes-then left now next (stream g.packets rest) [] g.taken same);
    each = g.each;
    written = rw append-nil g.written;
    whole = g.answered.whole;
    given = g.answered.given;
    last = rw is (has_last_here rest g.log);
    ran = g.answered.ran;
    has_end = rw is (has_end_here rest g.packets g.stays_open);
    ends = rw is (ends_here mid next (stream g.packets rest) rest g.sound g.part (⊎_elim (λ a. inl a) (λ b. inr (omega (arith, g.count_is, b))) over));
  }

  -- the source failed
  pub going_fails : (s mid : Activity W) (left now next held wrote : Option (List ℕ)) (rest : List ℕ) (count : ℕ) → Going serves Called s left now held wrote rest count mid → Keeps now next → Course serves Called s left next held wrote SourceFault mid
  going_fails s mid left now next held wrote rest count g same = record {
    packets = g.packets;
    rest = rest;
    log = g.log;
    extra = [];
    then = mid;
    taken = Consumes-kept left now next (stream g.packets rest) g.taken same;
    each = g.each;
    written = rw append-nil g.written;
    whole = g.answered.whole;
    given = g.answered.given;
    last = tt;
    ran = g.answered.ran;
    has_end = g.stays_open;
    ends = (g.sound, g.part, still mid);
  }
