-- Packets that are taken one after the other.
use Rattle.std.proofs.Common.{◌≡◌, ◌+◌, ◌-◌, ◌^◌, ◌<◌, ◌≤◌, ℕ, Bool, true, false, List, [], ◌∷◌, ◌++◌, length, Option, None, Some, refl, sym, ap, ◌∙◌, append_assoc, subst, arith}
use Rattle.std.proofs.lemmas.List.{append-nil, length-append}
use Rattle.std.proofs.lemmas.List.Elements.{filter-append}
use Rattle.std.proofs.lemmas.Grind.{flat_map-append}
use Rattle.std.specs.Io.KnownBytes.{Consumes}
use Rattle.std.specs.List.{flat_map, AllByRecursion, filter}
use Rattle.virt_types.specs.Below.types_base.declared.memory.OrNoMemory.{OrNoMemory}
use Rattle.virt_types.specs.Below.types_base.declared.memory.OrNoMemory.TheVariants.{Fault, NoMemory}
use Rattle.wire_spec.specs.Packets.{IsPacket, header, spelling}
use Rattle.wire_spec.specs.Split.{stream}
use Rattle.wire_spec.specs.Xdr.{word}
use Rattle.wire_spec.specs.declared.message.Packet.{Packet}
use Rattle.wire_spec.specs.declared.message.TheConstants.{HEADER_LENGTH}
use Rattle.rpc_client.specs.Inflow.{Gets, Hears, Inflow, IsOver, Passes, Stops, StopsOrNoMemory, unread}
use Rattle.rpc_client.specs.Messages.{is_event, is_reply}
use Rattle.rpc_client.specs.declared.fault.ClientFault.{ClientFault}
use Rattle.rpc_client.specs.declared.fault.ClientFault.TheVariants as fault
use Rattle.packet.proofs.Known.{Consumes-none, Consumes-then}
use Rattle.rpc_client.proofs.Known.{rose_before}

each_append : (P : Packet → Type 0) (ps qs : List Packet) → AllByRecursion P ps → AllByRecursion P qs → AllByRecursion P (ps ++ qs)
each_append P [] qs h k = k
each_append P (p ∷ ps) qs h k = (h.0, each_append P ps qs h.1 k)

stream_append : (ps qs : List Packet) (rest : List ℕ) → stream (ps ++ qs) rest ≡ stream ps (stream qs rest)
stream_append ps qs rest = ap (λ (t : List ℕ). t ++ rest) (flat_map-append spelling ps qs) ∙ append_assoc (flat_map spelling ps) (flat_map spelling qs) rest

-- a packet has at least one byte
some : (p : Packet) → 4 ≤ length (spelling p)
unfolding word
some p = omega (arith, length-append (word (HEADER_LENGTH + length p.payload) ++ header p.header) p.payload, length-append (word (HEADER_LENGTH + length p.payload)) (header p.header))

only_event : (p : Packet) → is_event p.header ≡ true → filter (λ p. is_event p.header) (p ∷ []) ≡ p ∷ []
only_event p is = rw is refl

no_event : (p : Packet) → is_event p.header ≡ false → filter (λ p. is_event p.header) (p ∷ []) ≡ []
no_event p is = rw is refl

module _ {S : Type 0} (left : S → Option (List ℕ)) (faults : S → ℕ) where
  pub passes_none : (old : Inflow S) → Passes left faults old old []
  passes_none old = record {
    bytes = [];
    consumed = Consumes-none (left old.source);
    count = omega arith;
    parts = append-nil (unread old);
    each = tt;
  }

  pub hears_none : (old : Inflow S) → Hears left faults old old []
  hears_none old = record {
    passes = passes_none old;
    no_reply = tt;
    events = sym (append-nil old.events);
  }

  -- a piece was taken
  pub hears_piece : (old new : Inflow S) (piece : List ℕ) → Consumes (left old.source) (left new.source) piece → new.taken ≡ old.taken + length piece → unread new ≡ unread old ++ piece → new.events ≡ old.events → Hears left faults old new []
  hears_piece old new piece takes count grows events = record {
    passes = record { bytes = piece; consumed = takes; count = count; parts = sym grows; each = tt };
    no_reply = tt;
    events = events ∙ sym (append-nil old.events);
  }

  -- a packet that was ready was given
  pub passes_one : (old new : Inflow S) (p : Packet) → new.source ≡ old.source → new.taken ≡ old.taken → old.ready ≡ p ∷ new.ready → new.rest ≡ old.rest → AllByRecursion IsPacket old.ready → Passes left faults old new (p ∷ [])
  passes_one old new p source taken ready rest each =
      let all : AllByRecursion IsPacket (p ∷ new.ready) = subst (AllByRecursion IsPacket) ready each in
      record {
        bytes = [];
        consumed = subst (λ (s : S). Consumes (left old.source) (left s) []) (sym source) (Consumes-none (left old.source));
        count = omega (arith, taken);
        parts = append-nil (unread old) ∙ (ap (λ (t : List Packet). stream t old.rest) ready ∙ (append_assoc (spelling p) (flat_map spelling new.ready) old.rest
            ∙ (ap (λ (t : List ℕ). spelling p ++ stream new.ready t) (sym rest) ∙ ap (λ (t : List ℕ). t ++ unread new) (sym (append-nil (spelling p))))));
        each = (all.0, tt);
      }

  pub passes_then : (old mid new : Inflow S) (ps qs : List Packet) → Passes left faults old mid ps → Passes left faults mid new qs → Passes left faults old new (ps ++ qs)
  passes_then old mid new ps qs a b = record {
    bytes = a.bytes ++ b.bytes;
    consumed = Consumes-then (left old.source) (left mid.source) (left new.source) a.bytes b.bytes a.consumed b.consumed;
    count = omega (arith, a.count, b.count, length-append a.bytes b.bytes);
    parts = sym (append_assoc (unread old) a.bytes b.bytes) ∙ (ap (λ (t : List ℕ). t ++ b.bytes) a.parts ∙ (append_assoc (flat_map spelling ps) (unread mid) b.bytes
        ∙ (ap (λ (t : List ℕ). stream ps t) b.parts ∙ sym (stream_append ps qs (unread new)))));
    each = each_append IsPacket ps qs a.each b.each;
  }

  pub hears_then : (old mid new : Inflow S) (ps qs : List Packet) → Hears left faults old mid ps → Hears left faults mid new qs → Hears left faults old new (ps ++ qs)
  hears_then old mid new ps qs a b = record {
    passes = passes_then old mid new ps qs a.passes b.passes;
    no_reply = each_append (λ p. is_reply p.header ≡ false) ps qs a.no_reply b.no_reply;
    events = b.events ∙ (ap (λ (t : List Packet). t ++ filter (λ p. is_event p.header) qs) a.events
        ∙ (append_assoc old.events (filter (λ p. is_event p.header) ps) (filter (λ p. is_event p.header) qs)
        ∙ ap (λ (t : List Packet). old.events ++ t) (sym (filter-append (λ p. is_event p.header) ps qs))));
  }

  over_then : (old mid new : Inflow S) (why : ClientFault) → faults old.source ≤ faults mid.source → IsOver left faults mid new why → IsOver left faults old new why
  over_then old mid new fault.Link later over = rose_before (faults old.source) (faults mid.source) (faults new.source) later over
  over_then old mid new (fault.BadPacket bad) later over = over
  over_then old mid new fault.End later over = over
  over_then old mid new _ later over = absurd over

  -- packets came, and then no further one
  pub stops_then : (old mid new : Inflow S) (ps : List Packet) (e : OrNoMemory ClientFault) → Hears left faults old mid ps → faults old.source ≤ faults mid.source → StopsOrNoMemory left faults mid new e → StopsOrNoMemory left faults old new e
  stops_then old mid new ps (Fault why) a later s = record {
    packets = ps ++ s.packets;
    hears = hears_then old mid new ps s.packets a s.hears;
    over = over_then old mid new why later s.over;
  }
  stops_then old mid new ps NoMemory a later s = tt

  -- no packet came any more
  pub stops_now : (old new : Inflow S) (why : ClientFault) → Hears left faults old new [] → IsOver left faults old new why → StopsOrNoMemory left faults old new (Fault why)
  stops_now old new why a over = record { packets = []; hears = a; over = over }

  -- a packet was looked at that is no reply, and reports an event
  pub hears_event : (old mid : Inflow S) (events : List Packet) (p : Packet) → Passes left faults old mid (p ∷ []) → mid.events ≡ old.events → is_reply p.header ≡ false → is_event p.header ≡ true
      → events ≡ mid.events ++ p ∷ [] → Hears left faults old (record mid { events = events }) (p ∷ [])
  hears_event old mid events p a same other is kept = record {
    passes = record { bytes = a.bytes; consumed = a.consumed; count = a.count; parts = a.parts; each = a.each };
    no_reply = (other, tt);
    events = kept ∙ (ap (λ (t : List Packet). t ++ p ∷ []) same ∙ ap (λ (t : List Packet). old.events ++ t) (sym (only_event p is)));
  }

  -- or reports none
  pub hears_other : (old new : Inflow S) (p : Packet) → Passes left faults old new (p ∷ []) → new.events ≡ old.events → is_reply p.header ≡ false → is_event p.header ≡ false → Hears left faults old new (p ∷ [])
  hears_other old new p a same other is = record {
    passes = a;
    no_reply = (other, tt);
    events = same ∙ (sym (append-nil old.events) ∙ ap (λ (t : List Packet). old.events ++ t) (sym (no_event p is)));
  }

  -- the same packets and bytes, as another list
  pub hears_feed : (old mid : Inflow S) (ready : List Packet) (rest : List ℕ) (ps : List Packet) → Hears left faults old mid ps → ready ≡ mid.ready → rest ≡ mid.rest → Hears left faults old (record mid { ready = ready; rest = rest }) ps
  hears_feed old mid ready rest ps a is_ready is_rest = record {
    passes = record {
      bytes = a.passes.bytes;
      consumed = a.passes.consumed;
      count = a.passes.count;
      parts = a.passes.parts ∙ ap (λ (t : List ℕ). stream ps t) (sym (ap (λ (t : List Packet). stream t rest) is_ready ∙ ap (λ (t : List ℕ). stream mid.ready t) is_rest));
      each = a.passes.each;
    };
    no_reply = a.no_reply;
    events = a.events;
  }

  -- what is unread gets less, but by what is taken
  pub fewer : (old new : Inflow S) (p : Packet) → Passes left faults old new (p ∷ []) → new.taken ≤ 2 ^ 62 → (2 ^ 62 - new.taken) + length (unread new) < (2 ^ 62 - old.taken) + length (unread old)
  fewer old new p a within =
      let parts = ap (λ (t : List ℕ). length t) a.parts in
      omega (arith, a.count, parts, within, some p, length-append (unread old) a.bytes, length-append (flat_map spelling (p ∷ [])) (unread new), length-append (spelling p) [])

  -- a reply comes after packets that are none
  pub gets_after : (old mid new : Inflow S) (ps : List Packet) (reply : Packet) → Hears left faults old mid ps → Passes left faults mid new (reply ∷ []) → is_reply reply.header ≡ true → new.events ≡ mid.events → Gets left faults old new reply
  gets_after old mid new ps reply a b is events = record {
    before = ps;
    passes = passes_then old mid new ps (reply ∷ []) a.passes b;
    is_one = is;
    no_reply = a.no_reply;
    events = events ∙ a.events;
  }
