-- What a call answers and leaves, once the table and the history went on together.
use Rattle.std.proofs.Common.{◌≡◌, inl, inr, Bool, ℕ, ◌<◌, List, [], length, Option, None, Some, Result, Ok, Err, refl, sym, ap, ◌∙◌, subst, arith}
use Rattle.virt_types.specs.Below.types_base.declared.mac.Mac.{Mac}
use Rattle.virt_types.specs.Below.types_base.declared.network_def.NetDef.{NetDef}
use Rattle.virt_types.specs.Below.types_base.declared.refusal.Refusal.{Refusal}
use Rattle.virt_types.specs.Below.types_base.declared.memory.OrNoMemory.{OrNoMemory}
use Rattle.virt_types.specs.Below.types_base.declared.memory.OrNoMemory.TheVariants.{Fault, NoMemory}
use Rattle.book_spec.specs.declared.book.Network.{Network}
use Rattle.book_spec.specs.declared.book.LeaseFault.{LeaseFault}
use Rattle.book_spec.specs.declared.book.NetAnswer.{NetAnswer}
use Rattle.book_spec.specs.declared.book.NetAnswer.TheVariants.{Done, Leased, NotLeased, Refused}
use Rattle.book_spec.specs.declared.book.NetCall.{NetCall}
use Rattle.book_spec.specs.declared.book.NetCall.TheVariants as call
use Rattle.book_spec.specs.declared.book.NetMark.{NetMark}
use Rattle.book_spec.specs.Networks.{Networks, uuid_of, with_changed, without}
use Rattle.book_spec.specs.NetCalls.{answer, networks_after, with_autostart, with_network}
use Rattle.book_spec.specs.NetHistory.{NetHistory, networks_of, open_chapter, with_mark, with_call, told, told_lease, HasCalled, MayCall}
use Rattle.book_spec.specs.NetReads.{IsReadOf}
use Rattle.net_core.specs.Answers.{Tells, TellsLease, tested, plain_of, TakesEffect, LeaseTakesEffect, Leaves, LeavesRefusal, IsFoundOf}
use Rattle.net_core.specs.Keeping.{IsKept}
use Rattle.net_core.proofs.Chronicles.{networks_of-open, networks_of-mark, marks-mark, open_short}

abbrev mark : ℕ → NetCall → NetAnswer → NetMark
mark number c given = record { number = number; call = c; answer = given }

-- what is refused changes nothing
pub refused-same : (c : NetCall) (r : Refusal) (ns : Networks) → networks_after c (Refused r) ns ≡ ns
unfolding networks_after
refused-same (call.Define def) r ns = refl
refused-same (call.Undefine uuid) r ns = refl
refused-same (call.Autostart uuid on) r ns = refl
refused-same (call.Start uuid) r ns = refl
refused-same (call.Stop uuid) r ns = refl
refused-same (call.Lease name mac) r ns = refl

pub not-leased-same : (name : List ℕ) (mac : Mac) (f : LeaseFault) (ns : Networks) → networks_after (call.Lease name mac) (NotLeased f) ns ≡ ns
unfolding networks_after
not-leased-same name mac f ns = refl

-- the book after a mark in a chapter that has room for it
networks_of-marked : (m : NetMark) (h : NetHistory) → networks_of (with_mark m (open_chapter h)) ≡ networks_after m.call m.answer (networks_of h)
networks_of-marked m h = networks_of-mark m (open_chapter h) ∙ ap (networks_after m.call m.answer) (networks_of-open h)

kept-mark : (m : NetMark) (old new : Networks) (h next : NetHistory) → IsKept old h → new ≡ networks_after m.call m.answer old → next ≡ with_mark m (open_chapter h) → IsKept new next
kept-mark m old new h next kept effect left = record {
  same = effect ∙ (ap (networks_after m.call m.answer) kept.same ∙ sym (ap networks_of left ∙ networks_of-marked m h));
  short = omega (arith, ap (λ (x : NetHistory). length x.marks) left, marks-mark m (open_chapter h), open_short h);
}

kept-same : (old new : Networks) (h next : NetHistory) → IsKept old h → new ≡ old → next ≡ h → IsKept new next
kept-same old new h next kept effect left = record {
  same = effect ∙ (kept.same ∙ ap networks_of (sym left));
  short = omega (arith, ap (λ (x : NetHistory). length x.marks) left, kept.short);
}

-- the book is kept
pub kept-called : (number : ℕ) (c : NetCall) (t : Result Unit (OrNoMemory Refusal)) (old new : Networks) (h next : NetHistory) → IsKept old h → TakesEffect c t old new → Leaves (mark number c (tested t)) t h next → IsKept new next
kept-called number c (Ok done) old new h next kept effect left = kept-mark (mark number c Done) old new h next kept effect left
kept-called number c (Err (Fault r)) old new h next kept effect left = kept-mark (mark number c (Refused r)) old new h next kept (effect ∙ sym (refused-same c r old)) left
kept-called number c (Err NoMemory) old new h next kept effect left = kept-same old new h next kept effect left

pub kept-leased : (number : ℕ) (name : List ℕ) (mac : Mac) (t : Result ℕ (OrNoMemory LeaseFault)) (old new : Networks) (h next : NetHistory) → IsKept old h → LeaseTakesEffect name mac t old new → Leaves (mark number (call.Lease name mac) (told_lease t)) t h next → IsKept new next
kept-leased number name mac (Ok address) old new h next kept effect left = kept-mark (mark number (call.Lease name mac) (Leased address)) old new h next kept effect left
kept-leased number name mac (Err (Fault f)) old new h next kept effect left = kept-mark (mark number (call.Lease name mac) (NotLeased f)) old new h next kept (effect ∙ sym (not-leased-same name mac f old)) left
kept-leased number name mac (Err NoMemory) old new h next kept effect left = kept-same old new h next kept effect left

pub kept-tested : (number : ℕ) (c : NetCall) (t : Result Unit (OrNoMemory Refusal)) (ns : Networks) (h next : NetHistory) → IsKept ns h → LeavesRefusal (mark number c (tested t)) t h next → IsKept ns next
kept-tested number c (Ok done) ns h next kept left = record {
  same = kept.same ∙ sym (ap networks_of left ∙ networks_of-open h);
  short = omega (arith, ap (λ (x : NetHistory). length x.marks) left, open_short h);
}
kept-tested number c (Err (Fault r)) ns h next kept left = kept-mark (mark number c (Refused r)) ns ns h next kept (sym (refused-same c r ns)) left
kept-tested number c (Err NoMemory) ns h next kept left = kept-same ns ns h next kept refl left

pub kept-done : (m : NetMark) (old new : Networks) (h next : NetHistory) → IsKept old h → length h.marks < 4096 → new ≡ networks_after m.call m.answer old → next ≡ with_mark m h → IsKept new next
kept-done m old new h next kept room effect left = record {
  same = effect ∙ (ap (networks_after m.call m.answer) kept.same ∙ sym (ap networks_of left ∙ networks_of-mark m h));
  short = omega (arith, ap (λ (x : NetHistory). length x.marks) left, marks-mark m h, room);
}

pub kept-new : (ns : Networks) (h : NetHistory) → h ≡ record { chapter = 0; base = ns; marks = [] } → IsKept ns h
unfolding networks_of
kept-new ns h is = record { same = sym (ap networks_of is); short = omega (arith, ap (λ (x : NetHistory). length x.marks) is) }

-- a mark of the answer is the mark of the call
called : (number : ℕ) (c : NetCall) (given : NetAnswer) (h next : NetHistory) → answer c (networks_of h) ≡ given → next ≡ with_mark (mark number c given) (open_chapter h) → HasCalled number c given h next
called number c given h next is left = inl (sym is, left ∙ ap (λ (g : NetAnswer). with_mark (mark number c g) (open_chapter h)) (sym is ∙ ap (answer c) (sym (networks_of-open h))))

pub has-called : (number : ℕ) (c : NetCall) (t : Result Unit (OrNoMemory Refusal)) (h next : NetHistory) → Tells t (answer c (networks_of h)) → Leaves (mark number c (tested t)) t h next → HasCalled number c (told (plain_of t)) h next
has-called number c (Ok done) h next given left = called number c Done h next given left
has-called number c (Err (Fault r)) h next given left = called number c (Refused r) h next given left
has-called number c (Err NoMemory) h next given left = inr (refl, left)

pub has-leased : (number : ℕ) (name : List ℕ) (mac : Mac) (t : Result ℕ (OrNoMemory LeaseFault)) (h next : NetHistory) → TellsLease t (answer (call.Lease name mac) (networks_of h)) → Leaves (mark number (call.Lease name mac) (told_lease t)) t h next → HasCalled number (call.Lease name mac) (told_lease t) h next
has-leased number name mac (Ok address) h next given left = called number (call.Lease name mac) (Leased address) h next given left
has-leased number name mac (Err (Fault f)) h next given left = called number (call.Lease name mac) (NotLeased f) h next given left
has-leased number name mac (Err NoMemory) h next given left = inr (refl, left)

pub may-call : (number : ℕ) (c : NetCall) (t : Result Unit (OrNoMemory Refusal)) (h next : NetHistory) → Tells t (answer c (networks_of h)) → LeavesRefusal (mark number c (tested t)) t h next → MayCall number c (plain_of t) h next
may-call number c (Ok done) h next given left = (left, record { may = ap (λ (x : NetHistory). answer c (networks_of x)) left ∙ (ap (answer c) (networks_of-open h) ∙ given); room = subst (λ (x : NetHistory). length x.marks < 4096) (sym left) (open_short h) })
may-call number c (Err (Fault r)) h next given left = called number c (Refused r) h next given left
may-call number c (Err NoMemory) h next given left = inr (refl, left)

pub done-called : (number : ℕ) (c : NetCall) (h next : NetHistory) → answer c (networks_of h) ≡ Done → next ≡ with_mark (mark number c Done) h → next ≡ with_call number c h
done-called number c h next is left = left ∙ ap (λ (g : NetAnswer). with_mark (mark number c g) h) (sym is)

-- what was found is what is read
pub is-read : {A : Type 0} (Is : Network → A → Type 0) (uuid : List ℕ) (o : Option Network) (r : Result A (OrNoMemory Refusal)) → IsFoundOf Is uuid o r → IsReadOf Is uuid o (plain_of r)
is-read Is uuid (Some network) (Ok value) is = is
is-read Is uuid None (Ok value) is = is
is-read Is uuid (Some network) (Err (Fault refusal)) is = absurd is
is-read Is uuid None (Err (Fault refusal)) is = inl is
is-read Is uuid (Some network) (Err NoMemory) is = refl
is-read Is uuid None (Err NoMemory) is = inr refl

-- the same, as the book's calls see it: its table and its history, and what a caller is told
module _ (ns : Networks) (h view : NetHistory) (kept : IsKept ns h) (viewed : h ≡ view) where
  pub book-called : (number : ℕ) (c : NetCall) (t : Result Unit (OrNoMemory Refusal)) (given : Result Unit Refusal) (next : NetHistory) → given ≡ plain_of t → Tells t (answer c ns) → Leaves (mark number c (tested t)) t h next → HasCalled number c (told given) view next
  book-called number c t given next is tells left = subst (λ (x : NetHistory × Result Unit Refusal). HasCalled number c (told x.1) x.0 next) (λ i. (viewed i, sym is i))
      (has-called number c t h next (subst (λ (x : Networks). Tells t (answer c x)) kept.same tells) left)

  pub book-leased : (number : ℕ) (name asked : List ℕ) (mac : Mac) (t : Result ℕ (OrNoMemory LeaseFault)) (next : NetHistory) → asked ≡ name → TellsLease t (answer (call.Lease asked mac) ns) → Leaves (mark number (call.Lease name mac) (told_lease t)) t h next → HasCalled number (call.Lease name mac) (told_lease t) view next
  book-leased number name asked mac t next is tells left = subst (λ (x : NetHistory). HasCalled number (call.Lease name mac) (told_lease t) x next) viewed
      (has-leased number name mac t h next (subst (λ (x : Networks × List ℕ). TellsLease t (answer (call.Lease x.1 mac) x.0)) (λ i. (kept.same i, is i)) tells) left)

  pub book-may : (number : ℕ) (c : NetCall) (t : Result Unit (OrNoMemory Refusal)) (given : Result Unit Refusal) (next : NetHistory) → given ≡ plain_of t → Tells t (answer c ns) → LeavesRefusal (mark number c (tested t)) t h next → MayCall number c given view next
  book-may number c t given next is tells left = subst (λ (x : NetHistory × Result Unit Refusal). MayCall number c x.1 x.0 next) (λ i. (viewed i, sym is i))
      (may-call number c t h next (subst (λ (x : Networks). Tells t (answer c x)) kept.same tells) left)

  pub book-answer : (c : NetCall) → answer c (networks_of view) ≡ Done → answer c ns ≡ Done
  book-answer c is = ap (answer c) (kept.same ∙ ap networks_of viewed) ∙ is

  pub book-done : (number : ℕ) (c : NetCall) (next : NetHistory) → answer c (networks_of view) ≡ Done → next ≡ with_mark (mark number c Done) h → next ≡ with_call number c view
  book-done number c next is left = done-called number c view next is (left ∙ ap (with_mark (mark number c Done)) viewed)

  pub book-read : {A : Type 0} (Is : Network → A → Type 0) (uuid : List ℕ) (found : Networks → Option Network) (r : Result A (OrNoMemory Refusal)) (given : Result A Refusal) → given ≡ plain_of r → IsFoundOf Is uuid (found ns) r → IsReadOf Is uuid (found (networks_of view)) given
  book-read {A} Is uuid found r given is read = subst (λ (x : Networks × Result A Refusal). IsReadOf Is uuid (found x.0) x.1) (λ i. ((kept.same ∙ ap networks_of viewed) i, sym is i)) (is-read Is uuid (found ns) r read)

-- what a done call makes of the book
pub after-define : (def : NetDef) (ns : Networks) → networks_after (call.Define def) Done ns ≡ with_network def ns
unfolding networks_after
after-define def ns = refl

pub after-undefine : (uuid : List ℕ) (ns : Networks) → networks_after (call.Undefine uuid) Done ns ≡ without uuid ns
unfolding networks_after
after-undefine uuid ns = refl

pub after-autostart : (uuid : List ℕ) (on : Bool) (ns : Networks) → networks_after (call.Autostart uuid on) Done ns ≡ with_changed uuid_of uuid (with_autostart on) ns
unfolding networks_after
after-autostart uuid on ns = refl
