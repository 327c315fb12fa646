-- A reply that is none to the call, and a connection that a fault ended.
use Rattle.std.proofs.Common.{◌≡◌, ℕ, Bool, true, false, List, Option, None, Some, inl, inr, ⊎_elim, subst, sym, refl}
use Rattle.std.specs.Prelude.{Result, Ok, Err, IfErr, ◌==◌, if◌then◌else◌}
use Rattle.virt_types.specs.Memory.{UnlessNoMemory}
use Rattle.virt_types.specs.Below.types_base.declared.memory.OrNoMemory.{OrNoMemory}
use Rattle.virt_types.specs.Below.types_base.declared.memory.OrNoMemory.TheVariants as or
use Rattle.virt_types.specs.Below.types_base.declared.refusal.Refusal.{Refusal}
use Rattle.virt_types.specs.declared.request.Request.{Request}
use Rattle.virt_types.specs.declared.value.Reply.{Reply}
use Rattle.virt_types.specs.declared.value.Value.{Value}
use Rattle.wire_spec.specs.declared.message.Header.{Header}
use Rattle.wire_spec.specs.declared.message.Packet.{Packet}
use Rattle.wire_spec.specs.declared.message.TheConstants.{ERROR, OK}
use Rattle.procedure_spec.specs.ErrorsReading.{error_of}
use Rattle.procedure_spec.specs.ResultsReading.{reply_of}
use Rattle.procedure_spec.specs.declared.fault.ArgFault.{ArgFault}
use Rattle.rpc_client.specs.Answer.{answer_of, done, is_of_procedure, payload_answer, refused}
use Rattle.rpc_client.specs.Calling.{Connection, Fails, FailsOrNoMemory, GetsNone, HasReply, HasSpent, IsCut, Misses, Sends}
use Rattle.rpc_client.specs.Ends.{Puts}
use Rattle.rpc_client.specs.Inflow.{Gets, Inflow, Stops}
use Rattle.rpc_client.specs.declared.fault.ClientFault.{ClientFault}
use Rattle.rpc_client.specs.declared.fault.ClientFault.TheVariants as fault

-- the faults that a reply shows
abbrev IsMiss : Result Reply ClientFault → Type 0
IsMiss (Ok answer) = Unit {0}
IsMiss (Err fault.BadPayload) = Unit {0}
IsMiss (Err (fault.WrongSerial sent got)) = Unit {0}
IsMiss (Err _) = ⊥

either : (b : Bool) (x y : Result Reply ClientFault) → IsMiss x → IsMiss y → IsMiss (if b then x else y)
either true x y a b = a
either false x y a b = b

done_misses : (r : Result Value ArgFault) → IsMiss (done r)
done_misses (Ok v) = tt
done_misses (Err f) = tt

refused_misses : (r : Result Refusal ArgFault) → IsMiss (refused r)
refused_misses (Ok v) = tt
refused_misses (Err f) = tt

payload_misses : (asked : Request) (p : Packet) → IsMiss (payload_answer asked p)
unfolding payload_answer
payload_misses asked p = either (p.header.status == OK) _ _ (done_misses (reply_of asked p.payload)) (either (p.header.status == ERROR) _ _ (refused_misses (error_of p.payload)) tt)

answer_misses : (asked : Request) (h : Header) (p : Packet) → IsMiss (answer_of asked h p)
unfolding answer_of
answer_misses asked h p = either (p.header.serial == h.serial) _ _ (either (is_of_procedure h p.header) _ _ (payload_misses asked p) tt) tt

module _ {S K : Type 0} (left : S → Option (List ℕ)) (source_faults : S → ℕ) (held : K → Option (List ℕ)) (sink_faults : K → ℕ) where
  has_reply : (asked : Request) (old mid : Connection S K) (flow : Inflow S) (h : Header) (reply : Packet) (puts : Puts left source_faults held sink_faults asked old mid h) → Gets left source_faults mid.inflow flow reply
      → HasReply left source_faults held sink_faults asked old (record mid { inflow = flow }) puts.call reply
  has_reply asked old mid flow h reply puts gets = record {
    sends = record { next = puts.sends.next; put = puts.sends.put };
    gets = subst (λ (f : Inflow S). Gets left source_faults f flow reply) puts.inflow gets;
  }

  misses_are_faults : (asked : Request) (old new : Connection S K) (why : ClientFault) → IsMiss (Err why) → Misses left source_faults held sink_faults asked old new why → Fails left source_faults held sink_faults asked old new why
  misses_are_faults asked old new fault.BadPayload miss m = m
  misses_are_faults asked old new (fault.WrongSerial sent got) miss m = m
  misses_are_faults asked old new _ miss m = absurd miss

  pub miss_fails : (asked : Request) (old mid : Connection S K) (flow : Inflow S) (h : Header) (reply : Packet) (r : Result Reply (OrNoMemory ClientFault)) → Puts left source_faults held sink_faults asked old mid h → Gets left source_faults mid.inflow flow reply
      → UnlessNoMemory r (answer_of asked h reply) → IfErr r (FailsOrNoMemory left source_faults held sink_faults asked old (record mid { inflow = flow }))
  miss_fails asked old mid flow h reply (Ok answer) puts gets is = tt
  miss_fails asked old mid flow h reply (Err or.NoMemory) puts gets is = tt
  miss_fails asked old mid flow h reply (Err (or.Fault why)) puts gets is = misses_are_faults asked old (record mid { inflow = flow }) why (subst IsMiss is (answer_misses asked h reply)) (record {
    call = puts.call;
    reply = reply;
    has = has_reply asked old mid flow h reply puts gets;
    fault_is = subst (λ (x : Header). answer_of asked x reply ≡ Err why) (sym puts.header_is) is;
  })

  -- what a fault means does not rest on the fault that is kept
  sends_kept : (asked : Request) (old new : Connection S K) (a b : Option (OrNoMemory ClientFault)) (call : Packet) → Sends left source_faults held sink_faults asked old new call → Sends left source_faults held sink_faults asked (record old { fault = a }) (record new { fault = b }) call
  sends_kept asked old new a b call s = record { next = s.next; put = s.put }

  none_kept : (asked : Request) (old new : Connection S K) (a b : Option (OrNoMemory ClientFault)) (why : ClientFault) → GetsNone left source_faults held sink_faults asked old new why → GetsNone left source_faults held sink_faults asked (record old { fault = a }) (record new { fault = b }) why
  none_kept asked old new a b why x = record { call = x.call; sends = sends_kept asked old new a b x.call x.sends; stops = x.stops }

  cut_kept : (asked : Request) (old new : Connection S K) (a b : Option (OrNoMemory ClientFault)) → IsCut left source_faults held sink_faults asked old new → IsCut left source_faults held sink_faults asked (record old { fault = a }) (record new { fault = b })
  cut_kept asked old new a b x = record { call = x.call; next = x.next; count = x.count; put = x.put; cut = x.cut; rose = x.rose }

  misses_kept : (asked : Request) (old new : Connection S K) (a b : Option (OrNoMemory ClientFault)) (why : ClientFault) → Misses left source_faults held sink_faults asked old new why → Misses left source_faults held sink_faults asked (record old { fault = a }) (record new { fault = b }) why
  misses_kept asked old new a b why x = record { call = x.call; reply = x.reply; has = record { sends = sends_kept asked old new a b x.call x.has.sends; gets = x.has.gets }; fault_is = x.fault_is }

  pub fails_kept : (asked : Request) (old new : Connection S K) (a b : Option (OrNoMemory ClientFault)) (e : OrNoMemory ClientFault) → FailsOrNoMemory left source_faults held sink_faults asked old new e
      → FailsOrNoMemory left source_faults held sink_faults asked (record old { fault = a }) (record new { fault = b }) e
  fails_kept asked old new a b (or.Fault fault.Link) x = ⊎_elim (λ n. inl (none_kept asked old new a b fault.Link n)) (λ n. inr (cut_kept asked old new a b n)) x
  fails_kept asked old new a b (or.Fault (fault.BadPacket bad)) x = none_kept asked old new a b (fault.BadPacket bad) x
  fails_kept asked old new a b (or.Fault fault.End) x = none_kept asked old new a b fault.End x
  fails_kept asked old new a b (or.Fault fault.BadPayload) x = misses_kept asked old new a b fault.BadPayload x
  fails_kept asked old new a b (or.Fault (fault.WrongSerial sent got)) x = misses_kept asked old new a b (fault.WrongSerial sent got) x
  fails_kept asked old new a b (or.Fault fault.Spent) x = record { last = x.last; inflow = x.inflow; sink = x.sink }
  fails_kept asked old new a b or.NoMemory x = tt

  -- so a call failed in the connection that keeps its fault
  pub call_fails : (asked : Request) (old new : Connection S K) (a b : Option (OrNoMemory ClientFault)) (r : Result Reply (OrNoMemory ClientFault)) → IfErr r (FailsOrNoMemory left source_faults held sink_faults asked old new)
      → IfErr r (FailsOrNoMemory left source_faults held sink_faults asked (record old { fault = a }) (record new { fault = b }))
  call_fails asked old new a b (Ok answer) x = tt
  call_fails asked old new a b (Err e) x = fails_kept asked old new a b e x
