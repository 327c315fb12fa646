-- Whole packets are served whole where neither end failed.
use Rattle.std.proofs.Common.{◌≡◌, ◌<◌, ◌^◌, ◌⊎◌, ◌||◌, ℕ, Bool, true, false, List, [], ◌∷◌, ◌++◌, length, Option, None, Some, refl, sym, ap, ◌∙◌, append_assoc, arith, inl, inr, ⊎_elim, subst}
use Rattle.std.proofs.lemmas.List.{append-nil, length-append}
use Rattle.std.specs.List.{flat_map, AllByRecursion, list_any}
use Rattle.packet.proofs.Going.{split_adds}
use Rattle.packet.proofs.Lasting.{no_such_packet}
use Rattle.packet.proofs.Unique.{no_rest, one_split, same_packet}
use Rattle.procedure_spec.specs.declared.procedure.Procedure.{Procedure}
use Rattle.row_session.proofs.Answering.{all_back}
use Rattle.service_spec.specs.Activities.{Activity, Hand}
use Rattle.service_spec.specs.Course.{Course}
use Rattle.service_spec.specs.Ends.{Ends}
use Rattle.session_spec.specs.Course.{HasEnd, IsBegun, IsOver, IsServedWhole, IsWhole, StaysOpen}
use Rattle.session_spec.specs.declared.end.End.{End}
use Rattle.session_spec.specs.declared.end.End.TheVariants as end
use Rattle.session_spec.specs.Replies.{closes}
use Rattle.virt_types.specs.Below.types_base.declared.caller.Who.{Who}
use Rattle.virt_types.specs.declared.request.Request.{Request}
use Rattle.virt_types.specs.declared.value.Reply.{Reply}
use Rattle.wire_spec.specs.Packets.{IsPacket, fault, spelling}
use Rattle.wire_spec.specs.Split.{IsRest, Splits, stream}
use Rattle.wire_spec.specs.declared.fault.BadPacket.{BadPacket}
use Rattle.wire_spec.specs.declared.message.Packet.{Packet}

nothing_is_rest : IsRest []
nothing_is_rest = inl (omega arith)

whole_splits : (bytes : List ℕ) (all : List Packet) → AllByRecursion IsPacket all → bytes ≡ stream all [] → Splits bytes all []
whole_splits bytes all each is = record { whole = is; each = each; part = nothing_is_rest }

-- a packet that has begun ends no whole packets
not_begun : (bytes : List ℕ) (all packets : List Packet) (rest : List ℕ) → AllByRecursion IsPacket all → bytes ≡ stream all [] → AllByRecursion IsPacket packets → bytes ≡ stream packets rest → IsBegun rest → ⊥
not_begun bytes all packets rest each_all is_all each is begun =
    let one = one_split bytes all packets [] rest (whole_splits bytes all each_all is_all) (record { whole = is; each = each; part = begun.part }) in
    let some : 0 < length {A = ℕ} [] = subst (λ (t : List ℕ). 0 < length t) (sym one.1) begun.some in
    omega (arith, some)

-- nor are there bytes among them with which no packet begins
no_bad_front : (others : List Packet) (rest more : List ℕ) (bad : BadPacket) → AllByRecursion IsPacket others → rest ++ more ≡ stream others [] → fault rest ≡ Some bad → ⊥
no_bad_front [] [] more bad each is bad_is = cc
no_bad_front [] (x ∷ xs) more bad each is bad_is = cc
no_bad_front (p ∷ ps) rest more bad each is bad_is = no_such_packet rest more (stream ps []) bad p bad_is each.0 (is ∙ append_assoc (spelling p) (flat_map spelling ps) [])

not_bad : (all packets : List Packet) (rest more : List ℕ) (bad : BadPacket) → AllByRecursion IsPacket all → stream packets rest ++ more ≡ stream all [] → AllByRecursion IsPacket packets → fault rest ≡ Some bad → ⊥
not_bad all packets rest more bad each_all is each bad_is =
    let part : IsRest rest = inr (inr (rw bad_is refl)) in
    let before : Splits (stream packets rest) packets rest = record { whole = refl; each = each; part = part } in
    let adds = split_adds (stream packets rest) more all packets [] rest (whole_splits (stream packets rest ++ more) all each_all is) before in
    no_bad_front adds.others rest more bad (all_back IsPacket packets adds.others (rw (← adds.packets) each_all)) adds.bytes bad_is

not_limit : (taken more bytes : List ℕ) → bytes ≡ taken ++ more → length bytes < 2 ^ 62 → length taken ≡ 2 ^ 62 → ⊥
not_limit taken more bytes is short long = omega (arith, ap (λ (t : List ℕ). length t) is, length-append taken more, short, long)

-- the input was over after all that there was
all_taken : (taken more bytes : List ℕ) → bytes ≡ taken ++ more → length bytes < 2 ^ 62 → IsOver (Some more) taken → bytes ≡ taken
all_taken taken more bytes is short over = ⊎_elim
    (λ (at_end : more ≡ []). is ∙ (ap (λ (t : List ℕ). taken ++ t) at_end ∙ append-nil taken))
    (λ (long : length taken ≡ 2 ^ 62). absurd (not_limit taken more bytes is short long))
    over

-- a packet of these closes the session, and none of those that were answered does: then one more whole
-- packet came before the bytes that were left
no_close : (a b : Bool) → a ≡ false → (a || b) ≡ true → b ≡ true
no_close true b off is = absurd cc
no_close false b off is = is

close_stays : (a p : Packet) (others : List Packet) → a ≡ p → closes p ≡ false → list_any closes (a ∷ others) ≡ true → list_any closes others ≡ true
close_stays a p others same off is = no_close (closes a) (list_any closes others) (ap closes same ∙ off) is

not_open : (all packets : List Packet) (behind rest more : List ℕ) → AllByRecursion IsPacket all → AllByRecursion IsPacket packets → StaysOpen packets → stream all behind ≡ stream packets rest ++ more → list_any closes all ≡ true
    → ((p : Packet) (tail : List ℕ) → IsPacket p → rest ++ more ≡ spelling p ++ tail → ⊥) → ⊥
not_open [] packets behind rest more each_all each stays is close none = absurd cc
not_open (a ∷ others) [] behind rest more each_all each stays is close none = none a (stream others behind) each_all.0 (sym is ∙ append_assoc (spelling a) (flat_map spelling others) behind)
not_open (a ∷ others) (p ∷ ps) behind rest more each_all each stays is close none =
    let front = append_assoc (spelling a) (flat_map spelling others) behind in
    let back = ap (λ (t : List ℕ). t ++ more) (append_assoc (spelling p) (flat_map spelling ps) rest) ∙ append_assoc (spelling p) (stream ps rest) more in
    let same = same_packet a p (stream others behind) (stream ps rest ++ more) each_all.0 each.0 (sym front ∙ (is ∙ back)) in
    not_open others ps behind rest more each_all.1 each.1 stays.1 same.1 (close_stays a p others same.0 stays.0 close) none

-- no whole packet is where one has begun, or where no packet begins
none_begun : (rest : List ℕ) → IsRest rest → (p : Packet) (tail : List ℕ) → IsPacket p → rest ++ [] ≡ spelling p ++ tail → ⊥
none_begun rest part p tail is e = no_rest p tail is (subst IsRest (sym (append-nil rest) ∙ e) part)

-- the end of a session whose source reports whole packets, and met no fault of its two ends
record IsInput (bytes : List ℕ) (all : List Packet) (behind : List ℕ) : Type 0 where
  pub each : AllByRecursion IsPacket all
  pub whole : bytes ≡ stream all behind
  pub how : (behind ≡ []) ⊎ (list_any closes all ≡ true)
  pub short : length bytes < 2 ^ 62

truncated : (bytes more : List ℕ) (all packets : List Packet) (behind rest : List ℕ) → IsInput bytes all behind → AllByRecursion IsPacket packets → StaysOpen packets → bytes ≡ stream packets rest ++ more → IsBegun rest → IsOver (Some more) (stream packets rest) → ⊥
truncated bytes more all packets behind rest input each stays is begun over =
    let taken : bytes ≡ stream packets rest = all_taken (stream packets rest) more bytes is input.short over in
    ⊎_elim
    (λ (none : behind ≡ []). not_begun bytes all packets rest input.each (input.whole ∙ ap (stream all) none) each taken begun)
    (λ (close : list_any closes all ≡ true). not_open all packets behind rest [] input.each each stays (sym input.whole ∙ (taken ∙ sym (append-nil (stream packets rest)))) close (none_begun rest begun.part))
    input.how

bad_packet : (bytes more : List ℕ) (all packets : List Packet) (behind rest : List ℕ) (bad : BadPacket) → IsInput bytes all behind → AllByRecursion IsPacket packets → StaysOpen packets → bytes ≡ stream packets rest ++ more → fault rest ≡ Some bad → ⊥
bad_packet bytes more all packets behind rest bad input each stays is bad_is =
    ⊎_elim
    (λ (none : behind ≡ []). not_bad all packets rest more bad input.each (sym is ∙ (input.whole ∙ ap (stream all) none)) each bad_is)
    (λ (close : list_any closes all ≡ true). not_open all packets behind rest more input.each each stays (sym input.whole ∙ is) close (λ p tail one e. no_such_packet rest more tail bad p bad_is one e))
    input.how

module _ {W : Type 0} (serves : Procedure → Bool) (Called : Who → Request → Reply → Hand W → Hand W → Type 0) where
  end_of_whole : (s after : Activity W) (bytes more : List ℕ) (all packets : List Packet) (behind rest extra : List ℕ) (e : End) → IsInput bytes all behind
      → AllByRecursion IsPacket packets → HasEnd e packets → bytes ≡ stream packets rest ++ more → Ends serves Called s (Some more) (stream packets rest) rest extra e after → (e ≡ end.SourceFault → ⊥) → (e ≡ end.SinkFault → ⊥) → IsServedWhole e
  end_of_whole s after bytes more all packets behind rest extra end.Closed input each has is ends no_source no_sink = inr (inl refl)
  end_of_whole s after bytes more all packets behind rest extra end.Eof input each has is ends no_source no_sink = inl refl
  end_of_whole s after bytes more all packets behind rest extra (end.Truncated n) input each has is ends no_source no_sink = absurd (truncated bytes more all packets behind rest input each has is ends.1 ends.2)
  end_of_whole s after bytes more all packets behind rest extra (end.BadPacket bad) input each has is ends no_source no_sink = absurd (bad_packet bytes more all packets behind rest bad input each has is ends.0)
  end_of_whole s after bytes more all packets behind rest extra end.SourceFault input each has is ends no_source no_sink = absurd (no_source refl)
  end_of_whole s after bytes more all packets behind rest extra end.SinkFault input each has is ends no_source no_sink = absurd (no_sink refl)
  end_of_whole s after bytes more all packets behind rest extra end.NoMemory input each has is ends no_source no_sink = inr (inr refl)

  pub complete : (s after : Activity W) (left now held wrote : Option (List ℕ)) (e : End) → Course serves Called s left now held wrote e after → IsWhole left → (e ≡ end.SourceFault → ⊥) → (e ≡ end.SinkFault → ⊥) → IsServedWhole e
  complete s after None now held wrote e course whole no_source no_sink = absurd whole
  complete s after (Some bytes) None held wrote e course whole no_source no_sink = absurd course.taken
  complete s after (Some bytes) (Some more) held wrote e course (all, behind, each, is, how, short) no_source no_sink =
      end_of_whole course.then after bytes more all course.packets behind course.rest course.extra e (record { each = each; whole = is; how = how; short = short }) course.each course.has_end course.taken course.ends no_source no_sink
