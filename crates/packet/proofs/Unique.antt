-- Bytes are packets and a rest in one way.
use Rattle.std.proofs.Common.{◌≡◌, ◌==◌, ℕ, ◌+◌, ◌<◌, ◌≤◌, ◌^◌, Bool, false, cond, ltb, ◌||◌, ◌&&◌, List, [], ◌∷◌, ◌++◌, length, take, drop, Option, None, refl, sym, ap, ◌∙◌, arith, append_assoc, ⊎_elim, subst}
use Rattle.std.specs.Prelude.{IsSome}
use Rattle.std.proofs.lemmas.Bool.Decides.{nat_tests}
use Rattle.std.proofs.lemmas.List.{length-append}
use Rattle.std.proofs.Math.Seq.{take-append_seam, drop-append_seam}
use Rattle.std.proofs.lemmas.Nat.{from_be_bytes-to_be_bytes_4}
use Rattle.std.specs.List.{flat_map, AllByRecursion}
use Rattle.wire_spec.specs.Packets.{word_at, spelling, fault, length_fault, status_fault, IsPacket}
use Rattle.wire_spec.specs.Split.{stream, IsRest, Splits}
use Rattle.wire_spec.specs.Xdr.{word}
use Rattle.wire_spec.specs.declared.fault.BadPacket.{BadPacket}
use Rattle.wire_spec.specs.declared.message.Header.{Header}
use Rattle.wire_spec.specs.declared.message.Packet.{Packet}

front_word : (a : ℕ) (rest : List ℕ) → a < 2 ^ 32 → word_at 0 (word a ++ rest) ≡ a
unfolding word
front_word a rest l = from_be_bytes-to_be_bytes_4 a l

behind_word : (a : ℕ) (rest : List ℕ) → drop 4 (word a ++ rest) ≡ rest
unfolding word
behind_word a rest = refl

same_word : (a b : ℕ) (x y : List ℕ) → a < 2 ^ 32 → b < 2 ^ 32 → word a ++ x ≡ word b ++ y → (a ≡ b) × (x ≡ y)
same_word a b x y l m e = (sym (front_word a x l) ∙ (ap (word_at 0) e ∙ front_word b y m), sym (behind_word a x) ∙ (ap (drop 4) e ∙ behind_word b y))

-- the seven words and the payload, one after the other
abbrev laid : ℕ → Header → List ℕ → List ℕ
laid l h tail = word l ++ (word h.prog ++ (word h.vers ++ (word h.procedure ++ (word h.kind ++ (word h.serial ++ (word h.status ++ tail))))))

regrouped : (p : Packet) (rest : List ℕ) → spelling p ++ rest ≡ laid (28 + length p.payload) p.header (p.payload ++ rest)
regrouped p rest = simp append_assoc

seam : (x y a b : List ℕ) → length x ≡ length y → x ++ a ≡ y ++ b → (x ≡ y) × (a ≡ b)
seam x y a b l e = (
  sym (take-append_seam x a) ∙ (ap (λ (n : ℕ). take n (x ++ a)) l ∙ (ap (take (length y)) e ∙ take-append_seam y b)),
  sym (drop-append_seam x a) ∙ (ap (λ (n : ℕ). drop n (x ++ a)) l ∙ (ap (drop (length y)) e ∙ drop-append_seam y b)),
)

pub same_packet : (p q : Packet) (a b : List ℕ) → IsPacket p → IsPacket q → spelling p ++ a ≡ spelling q ++ b → (p ≡ q) × (a ≡ b)
same_packet p q a b f g e =
    let h = f.header in
    let k = g.header in
    let e0 = sym (regrouped p a) ∙ (e ∙ regrouped q b) in
    let s0 = same_word _ _ _ _ (omega (arith, f.length)) (omega (arith, g.length)) e0 in
    let s1 = same_word _ _ _ _ h.prog k.prog s0.1 in
    let s2 = same_word _ _ _ _ h.vers k.vers s1.1 in
    let s3 = same_word _ _ _ _ h.procedure k.procedure s2.1 in
    let s4 = same_word _ _ _ _ (omega (arith, h.allowed.kind)) (omega (arith, k.allowed.kind)) s3.1 in
    let s5 = same_word _ _ _ _ h.serial k.serial s4.1 in
    let s6 = same_word _ _ _ _ (omega (arith, h.allowed.status)) (omega (arith, k.allowed.status)) s5.1 in
    let t = seam p.payload q.payload a b (omega (arith, s0.0)) s6.1 in
    (λ i. record { header = record { prog = s1.0 i; vers = s2.0 i; procedure = s3.0 i; kind = s4.0 i; serial = s5.0 i; status = s6.0 i }; payload = t.0 i }, t.1)

pub off : {A : Type 0} (b : Bool) (x y : A) → b ≡ false → cond b x y ≡ y
off b x y e = rw e

pub not_below : (a b : ℕ) → b ≤ a → ltb a b ≡ false
not_below a b l = grind (arith, nat_tests)

sound_status : (kind status : ℕ) → status ≤ 2 → (kind ≡ 0 → status ≡ 0) → (ltb 2 status || ((kind == 0) && ltb 0 status)) ≡ false
sound_status kind status l c = grind (arith, nat_tests)

status_none : (kind status : ℕ) → status ≤ 2 → (kind ≡ 0 → status ≡ 0) → status_fault kind status ≡ None
status_none kind status l c = off _ _ _ (sound_status kind status l c)

length_none : (bytes : List ℕ) (l : ℕ) → 28 ≤ length bytes → 28 ≤ l → l ≤ 4194304 → word_at 16 bytes ≤ 2 → word_at 24 bytes ≤ 2 → (word_at 16 bytes ≡ 0 → word_at 24 bytes ≡ 0) → length_fault bytes l ≡ None
length_none bytes l long low high kind status call =
    off _ _ _ (not_below l 28 low) ∙ (off _ _ _ (not_below 4194304 l high) ∙ (off _ _ _ (not_below (length bytes) 20 (omega arith)) ∙ (off _ _ _ (not_below 2 (word_at 16 bytes) kind) ∙ (off _ _ _ (not_below (length bytes) 28 long) ∙ status_none (word_at 16 bytes) (word_at 24 bytes) status call))))

fault_none : (bytes : List ℕ) → 28 ≤ length bytes → 28 ≤ word_at 0 bytes → word_at 0 bytes ≤ 4194304 → word_at 16 bytes ≤ 2 → word_at 24 bytes ≤ 2 → (word_at 16 bytes ≡ 0 → word_at 24 bytes ≡ 0) → fault bytes ≡ None
fault_none bytes long low high kind status call = off _ _ _ (not_below (length bytes) 4 (omega arith)) ∙ length_none bytes (word_at 0 bytes) long low high kind status call

kind_at : (l : ℕ) (h : Header) (tail : List ℕ) → h.kind < 2 ^ 32 → word_at 16 (laid l h tail) ≡ h.kind
unfolding word
kind_at l h tail k = from_be_bytes-to_be_bytes_4 h.kind k

status_at : (l : ℕ) (h : Header) (tail : List ℕ) → h.status < 2 ^ 32 → word_at 24 (laid l h tail) ≡ h.status
unfolding word
status_at l h tail k = from_be_bytes-to_be_bytes_4 h.status k

length-laid : (l : ℕ) (h : Header) (tail : List ℕ) → length (laid l h tail) ≡ 28 + length tail
unfolding word
length-laid l h tail = omega arith

-- the front of a stream that begins with a packet
pub record FrontIs (p : Packet) (a : List ℕ) : Type 0 where
  pub size : length (spelling p ++ a) ≡ 28 + (length p.payload + length a)
  pub first : word_at 0 (spelling p ++ a) ≡ 28 + length p.payload
  pub sound : fault (spelling p ++ a) ≡ None

front_is : (p : Packet) (a : List ℕ) → IsPacket p → FrontIs p a
front_is p a f =
    let h = f.header in
    let l : ℕ = 28 + length p.payload in
    let b : List ℕ = laid l p.header (p.payload ++ a) in
    let size : length b ≡ 28 + (length p.payload + length a) = omega (arith, length-laid l p.header (p.payload ++ a), length-append p.payload a) in
    let first : word_at 0 b ≡ l = front_word l _ (omega (arith, f.length)) in
    let kind : word_at 16 b ≡ p.header.kind = kind_at l p.header (p.payload ++ a) (omega (arith, h.allowed.kind)) in
    let status : word_at 24 b ≡ p.header.status = status_at l p.header (p.payload ++ a) (omega (arith, h.allowed.status)) in
    let none : fault b ≡ None = fault_none b (omega (arith, size)) (omega (arith, first)) (omega (arith, first, f.length)) (omega (arith, kind, h.allowed.kind)) (omega (arith, status, h.allowed.status)) (λ e. status ∙ h.allowed.call (sym kind ∙ e)) in
    let same : spelling p ++ a ≡ b = regrouped p a in
    record { size = ap (λ (c : List ℕ). length c) same ∙ size; first = ap (λ (c : List ℕ). word_at 0 c) same ∙ first; sound = ap (λ (c : List ℕ). fault c) same ∙ none }

pub sound_front : (p : Packet) (a : List ℕ) → IsPacket p → fault (spelling p ++ a) ≡ None
sound_front p a f = (front_is p a f).sound

pub no_rest : (p : Packet) (a : List ℕ) → IsPacket p → IsRest (spelling p ++ a) → ⊥
no_rest p a f r =
    let is = front_is p a f in
    let b : List ℕ = spelling p ++ a in
    let there : IsRest b = r in
    ⊎_elim
    (λ (short : length b < 4). omega (arith, is.size))
    (⊎_elim (λ (short : length b < word_at 0 b). omega (arith, is.size, is.first)) (λ (some_fault : IsSome (fault b)). let bad : IsSome {T = BadPacket} None = subst (λ (o : Option BadPacket). IsSome o) is.sound some_fault in absurd (cc)))
    there

each_one : (bytes : List ℕ) (ps qs : List Packet) (x y : List ℕ) → AllByRecursion IsPacket ps → AllByRecursion IsPacket qs → IsRest x → IsRest y → stream ps x ≡ stream qs y → (ps ≡ qs) × (x ≡ y)
each_one bytes [] [] x y f g r s e = (refl, e)
each_one bytes (p ∷ ps) [] x y f g r s e = absurd (no_rest p (stream ps x) f.0 (subst IsRest (sym e ∙ append_assoc (spelling p) (flat_map spelling ps) x) s))
each_one bytes [] (q ∷ qs) x y f g r s e = absurd (no_rest q (stream qs y) g.0 (subst IsRest (e ∙ append_assoc (spelling q) (flat_map spelling qs) y) r))
each_one bytes (p ∷ ps) (q ∷ qs) x y f g r s e =
    let h = same_packet p q (stream ps x) (stream qs y) f.0 g.0 (sym (append_assoc (spelling p) (flat_map spelling ps) x) ∙ (e ∙ append_assoc (spelling q) (flat_map spelling qs) y)) in
    let t = each_one bytes ps qs x y f.1 g.1 r s h.1 in
    (λ i. h.0 i ∷ t.0 i, t.1)

pub one_split : (bytes : List ℕ) (ps qs : List Packet) (x y : List ℕ) → Splits bytes ps x → Splits bytes qs y → (ps ≡ qs) × (x ≡ y)
one_split bytes ps qs x y a b = each_one bytes ps qs x y a.each b.each a.part b.part (sym a.whole ∙ b.whole)
