-- More bytes of a stream only add packets.
use Rattle.std.proofs.Common.{◌≡◌, ℕ, List, [], ◌∷◌, ◌++◌, Option, Some, None, refl, sym, ap, ◌∙◌, append_assoc, subst, arith, inl, inr}
use Rattle.std.specs.List.{flat_map, AllByRecursion}
use Rattle.wire_spec.specs.Packets.{spelling, IsPacket}
use Rattle.wire_spec.specs.Split.{stream, IsRest, Splits}
use Rattle.wire_spec.specs.declared.message.Packet.{Packet}
use Rattle.wire_spec.specs.Packets.{fault}
use Rattle.wire_spec.specs.declared.fault.BadPacket.{BadPacket}
use Rattle.packet.specs.Laws.{Adds}
use Rattle.packet.proofs.Lasting.{fault_stays}
use Rattle.packet.proofs.Unique.{no_rest, one_split, same_packet}

pub adds : (ps qs : List Packet) (x y more : List ℕ) → AllByRecursion IsPacket ps → AllByRecursion IsPacket qs → IsRest x → stream qs y ++ more ≡ stream ps x → Adds ps qs x y more
adds ps [] x y more f g r e = record { others = ps; packets = refl; bytes = e }
adds [] (q ∷ qs) x y more f g r e =
    let there : spelling q ++ (stream qs y ++ more) ≡ x = sym (append_assoc (spelling q) (stream qs y) more) ∙ (ap (λ (b : List ℕ). b ++ more) (sym (append_assoc (spelling q) (flat_map spelling qs) y)) ∙ e) in
    absurd (no_rest q (stream qs y ++ more) g.0 (subst IsRest (sym there) r))
adds (p ∷ ps) (q ∷ qs) x y more f g r e =
    let there : spelling q ++ (stream qs y ++ more) ≡ spelling p ++ stream ps x = sym (append_assoc (spelling q) (stream qs y) more) ∙ (ap (λ (b : List ℕ). b ++ more) (sym (append_assoc (spelling q) (flat_map spelling qs) y)) ∙ (e ∙ append_assoc (spelling p) (flat_map spelling ps) x)) in
    let same = same_packet q p (stream qs y ++ more) (stream ps x) g.0 f.0 there in
    let later = adds ps qs x y more f.1 g.1 r same.1 in
    record { others = later.others; packets = λ i. sym same.0 i ∷ later.packets i; bytes = later.bytes }

pub split_adds : (bytes more : List ℕ) (ps qs : List Packet) (x y : List ℕ) → Splits (bytes ++ more) ps x → Splits bytes qs y → Adds ps qs x y more
split_adds bytes more ps qs x y a b = adds ps qs x y more a.each b.each a.part (ap (λ (c : List ℕ). c ++ more) (sym b.whole) ∙ a.whole)

pub whole_once : (ps qs : List Packet) (x : List ℕ) → AllByRecursion IsPacket ps → Splits (stream ps []) qs x → (qs ≡ ps) × (x ≡ [])
whole_once ps qs x all a = one_split (stream ps []) qs ps x [] a (record { whole = refl; each = all; part = inl (omega arith) })

pub again : (p : Packet) (tail : List ℕ) (ps : List Packet) (x : List ℕ) → IsPacket p → Splits tail ps x → Splits (spelling p ++ tail) (p ∷ ps) x
again p tail ps x is a = record {
  whole = ap (λ (b : List ℕ). spelling p ++ b) a.whole ∙ sym (append_assoc (spelling p) (flat_map spelling ps) x);
  each = (is, a.each);
  part = a.part;
}

-- bytes with a fault are a rest, whatever follows them
rest_stays : (y more : List ℕ) (bad : BadPacket) → fault y ≡ Some bad → IsRest (y ++ more)
rest_stays y more bad e = inr (inr (let f : fault (y ++ more) ≡ Some bad = fault_stays y more bad e in rw f refl))

bad_stays : (bytes more : List ℕ) (ps qs : List Packet) (x y : List ℕ) (bad : BadPacket) → Splits (bytes ++ more) ps x → Splits bytes qs y → fault y ≡ Some bad → fault x ≡ Some bad
bad_stays bytes more ps qs x y bad a b e =
    let there : Splits (bytes ++ more) qs (y ++ more) = record { whole = ap (λ (c : List ℕ). c ++ more) b.whole ∙ append_assoc (flat_map spelling qs) y more; each = b.each; part = rest_stays y more bad e } in
    ap fault (one_split (bytes ++ more) ps qs x (y ++ more) a there).1 ∙ fault_stays y more bad e

none_or : (o : Option BadPacket) → ((bad : BadPacket) → o ≡ Some bad → ⊥) → o ≡ None
none_or None f = refl
none_or (Some bad) f = absurd (f bad refl)

pub front_sound : (bytes more : List ℕ) (ps qs : List Packet) (x y : List ℕ) → Splits (bytes ++ more) ps x → Splits bytes qs y → fault x ≡ None → fault y ≡ None
front_sound bytes more ps qs x y a b sound = none_or (fault y) (λ bad e. let clash : None ≡ Some bad = sym sound ∙ bad_stays bytes more ps qs x y bad a b e in absurd (cc))
