-- What a run of a feed has given, and what it holds.
use Rattle.std.proofs.Common.{◌≡◌, ℕ, List, [], ◌∷◌, ◌++◌, sym, ap, ◌∙◌, append_assoc, inl, subst, arith}
use Rattle.std.specs.List.{flat_map, AllByRecursion}
use Rattle.std.proofs.lemmas.List.{append-nil}
use Rattle.wire_spec.specs.Packets.{spelling, IsPacket}
use Rattle.wire_spec.specs.Split.{stream, IsRest, Splits}
use Rattle.wire_spec.specs.declared.message.Packet.{Packet}
use Rattle.packet.specs.Feeding.{Held, IsSplit, bytes_of, nothing}
use Rattle.packet.specs.Runs.{Fed, Given, Run, Step, bytes_fed, packets_given}

-- all that was fed after what was held is given or held now
pub run_whole : (steps : List Step) (old new : Held) → IsSplit old → Run steps old new
    → (bytes_of old ++ bytes_fed steps ≡ stream (packets_given steps ++ new.ready) new.rest) × AllByRecursion IsPacket (packets_given steps ++ new.ready) × IsRest new.rest
run_whole [] old new is r = (append-nil (bytes_of old) ∙ ap bytes_of (sym r), subst (λ (h : Held). AllByRecursion IsPacket h.ready) (sym r) is.each, subst (λ (h : Held). IsRest h.rest) (sym r) is.part)
run_whole (Fed piece ∷ steps) old new is r =
    let later = run_whole steps r.0 new r.2 r.3 in
    (sym (append_assoc (bytes_of old) piece (bytes_fed steps)) ∙ (ap (λ (b : List ℕ). b ++ bytes_fed steps) (sym r.1) ∙ later.0), later.1, later.2)
run_whole (Given packet ∷ steps) old new is r =
    let all : AllByRecursion IsPacket (packet ∷ r.0.ready) = subst (λ (ps : List Packet). AllByRecursion IsPacket ps) r.1 is.each in
    let part : IsRest r.0.rest = subst IsRest (sym r.2) is.part in
    let later = run_whole steps r.0 new (record { each = all.1; part = part }) r.3 in
    let first : bytes_of old ≡ spelling packet ++ bytes_of r.0 = ap (λ (ps : List Packet). stream ps old.rest) r.1 ∙ (ap (λ (b : List ℕ). stream (packet ∷ r.0.ready) b) (sym r.2) ∙ append_assoc (spelling packet) (flat_map spelling r.0.ready) r.0.rest) in
    (ap (λ (b : List ℕ). b ++ bytes_fed steps) first ∙ (append_assoc (spelling packet) (bytes_of r.0) (bytes_fed steps) ∙ (ap (λ (b : List ℕ). spelling packet ++ b) later.0 ∙ sym (append_assoc (spelling packet) (flat_map spelling (packets_given steps ++ new.ready)) new.rest))), (all.0, later.1), later.2)

pub run_splits : (steps : List Step) (held : Held) → Run steps nothing held → Splits (bytes_fed steps) (packets_given steps ++ held.ready) held.rest
run_splits steps held r =
    let w = run_whole steps nothing held (record { each = tt; part = inl (omega arith) }) r in
    record { whole = w.0; each = w.1; part = w.2 }
