-- What a call answers and leaves, once the table and the history went on together.
use Rattle.std.proofs.Common.{◌≡◌, inl, inr, Bool, ℕ, ◌<◌, List, [], length, Result, Ok, Err, refl, sym, ap, ◌∙◌, subst, arith}
use Rattle.virt_types.specs.Below.types_base.declared.storage_def.PoolDef.{PoolDef}
use Rattle.virt_types.specs.Below.types_base.declared.refusal.Refusal.{Refusal}
use Rattle.virt_types.specs.Below.types_base.declared.memory.OrNoMemory.{OrNoMemory}
use Rattle.virt_types.specs.Below.types_base.declared.memory.OrNoMemory.TheVariants.{Fault, NoMemory}
use Rattle.book_spec.specs.declared.pool_book.PoolAnswer.{PoolAnswer}
use Rattle.book_spec.specs.declared.pool_book.PoolAnswer.TheVariants.{Done, Refused}
use Rattle.book_spec.specs.declared.pool_book.PoolCall.{PoolCall}
use Rattle.book_spec.specs.declared.pool_book.PoolCall.TheVariants as call
use Rattle.book_spec.specs.declared.pool_book.PoolMark.{PoolMark}
use Rattle.book_spec.specs.Pools.{Pools, uuid_of, with_changed, without}
use Rattle.book_spec.specs.PoolCalls.{answer, pools_after, with_autostart, with_pool}
use Rattle.book_spec.specs.PoolHistory.{PoolHistory, pools_of, open_chapter, with_mark, with_call, told, HasCalled, MayCall}
use Rattle.book_spec.specs.PoolReads.{IsRead}
use Rattle.pool_core.specs.Answers.{Tells, plain_of, TakesEffect, IsFound}
use Rattle.pool_core.specs.Marks.{tested, Leaves, LeavesRefusal}
use Rattle.pool_core.specs.Keeping.{IsKept}
use Rattle.pool_core.proofs.Chronicles.{pools_of-open, pools_of-mark, marks-mark, open_short}

abbrev mark : ℕ → PoolCall → PoolAnswer → PoolMark
mark number c given = record { number = number; call = c; answer = given }

-- what is refused changes nothing
pub refused-same : (c : PoolCall) (r : Refusal) (ns : Pools) → pools_after c (Refused r) ns ≡ ns
unfolding pools_after
refused-same c r ns = refl

-- the book after a mark in a chapter that has room for it
pools_of-marked : (m : PoolMark) (h : PoolHistory) → pools_of (with_mark m (open_chapter h)) ≡ pools_after m.call m.answer (pools_of h)
pools_of-marked m h = pools_of-mark m (open_chapter h) ∙ ap (pools_after m.call m.answer) (pools_of-open h)

kept-mark : (m : PoolMark) (old new : Pools) (h next : PoolHistory) → IsKept old h → new ≡ pools_after m.call m.answer old → next ≡ with_mark m (open_chapter h) → IsKept new next
kept-mark m old new h next kept effect left = record {
  same = effect ∙ (ap (pools_after m.call m.answer) kept.same ∙ sym (ap pools_of left ∙ pools_of-marked m h));
  short = omega (arith, ap (λ (x : PoolHistory). length x.marks) left, marks-mark m (open_chapter h), open_short h);
}

kept-same : (old new : Pools) (h next : PoolHistory) → IsKept old h → new ≡ old → next ≡ h → IsKept new next
kept-same old new h next kept effect left = record {
  same = effect ∙ (kept.same ∙ ap pools_of (sym left));
  short = omega (arith, ap (λ (x : PoolHistory). length x.marks) left, kept.short);
}

-- the book is kept
pub kept-called : (number : ℕ) (c : PoolCall) (t : Result Unit (OrNoMemory Refusal)) (old new : Pools) (h next : PoolHistory) → IsKept old h → TakesEffect c t old new → Leaves (mark number c (tested t)) t h next → IsKept new next
kept-called number c (Ok done) old new h next kept effect left = kept-mark (mark number c Done) old new h next kept effect left
kept-called number c (Err (Fault r)) old new h next kept effect left = kept-mark (mark number c (Refused r)) old new h next kept (effect ∙ sym (refused-same c r old)) left
kept-called number c (Err NoMemory) old new h next kept effect left = kept-same old new h next kept effect left

pub kept-tested : (number : ℕ) (c : PoolCall) (t : Result Unit (OrNoMemory Refusal)) (ns : Pools) (h next : PoolHistory) → IsKept ns h → LeavesRefusal (mark number c (tested t)) t h next → IsKept ns next
kept-tested number c (Ok done) ns h next kept left = record {
  same = kept.same ∙ sym (ap pools_of left ∙ pools_of-open h);
  short = omega (arith, ap (λ (x : PoolHistory). length x.marks) left, open_short h);
}
kept-tested number c (Err (Fault r)) ns h next kept left = kept-mark (mark number c (Refused r)) ns ns h next kept (sym (refused-same c r ns)) left
kept-tested number c (Err NoMemory) ns h next kept left = kept-same ns ns h next kept refl left

pub kept-done : (m : PoolMark) (old new : Pools) (h next : PoolHistory) → IsKept old h → length h.marks < 4096 → new ≡ pools_after m.call m.answer old → next ≡ with_mark m h → IsKept new next
kept-done m old new h next kept room effect left = record {
  same = effect ∙ (ap (pools_after m.call m.answer) kept.same ∙ sym (ap pools_of left ∙ pools_of-mark m h));
  short = omega (arith, ap (λ (x : PoolHistory). length x.marks) left, marks-mark m h, room);
}

pub kept-new : (ns : Pools) (h : PoolHistory) → h ≡ record { chapter = 0; base = ns; marks = [] } → IsKept ns h
unfolding pools_of
kept-new ns h is = record { same = sym (ap pools_of is); short = omega (arith, ap (λ (x : PoolHistory). length x.marks) is) }

-- a mark of the answer is the mark of the call
called : (number : ℕ) (c : PoolCall) (given : PoolAnswer) (h next : PoolHistory) → answer c (pools_of h) ≡ given → next ≡ with_mark (mark number c given) (open_chapter h) → HasCalled number c given h next
called number c given h next is left = inl (sym is, left ∙ ap (λ (g : PoolAnswer). with_mark (mark number c g) (open_chapter h)) (sym is ∙ ap (answer c) (sym (pools_of-open h))))

pub has-called : (number : ℕ) (c : PoolCall) (t : Result Unit (OrNoMemory Refusal)) (h next : PoolHistory) → Tells t (answer c (pools_of h)) → Leaves (mark number c (tested t)) t h next → HasCalled number c (told (plain_of t)) h next
has-called number c (Ok done) h next given left = called number c Done h next given left
has-called number c (Err (Fault r)) h next given left = called number c (Refused r) h next given left
has-called number c (Err NoMemory) h next given left = inr (refl, left)

pub may-call : (number : ℕ) (c : PoolCall) (t : Result Unit (OrNoMemory Refusal)) (h next : PoolHistory) → Tells t (answer c (pools_of h)) → LeavesRefusal (mark number c (tested t)) t h next → MayCall number c (plain_of t) h next
may-call number c (Ok done) h next given left = (left, record { may = ap (λ (x : PoolHistory). answer c (pools_of x)) left ∙ (ap (answer c) (pools_of-open h) ∙ given); room = subst (λ (x : PoolHistory). length x.marks < 4096) (sym left) (open_short h) })
may-call number c (Err (Fault r)) h next given left = called number c (Refused r) h next given left
may-call number c (Err NoMemory) h next given left = inr (refl, left)

pub done-called : (number : ℕ) (c : PoolCall) (h next : PoolHistory) → answer c (pools_of h) ≡ Done → next ≡ with_mark (mark number c Done) h → next ≡ with_call number c h
done-called number c h next is left = left ∙ ap (λ (g : PoolAnswer). with_mark (mark number c g) h) (sym is)

-- what was found is what is read
pub is-read : {A B : Type 0} (Is : B → A → Type 0) (o : Result B Refusal) (r : Result A (OrNoMemory Refusal)) → IsFound Is o r → IsRead Is o (plain_of r)
is-read Is (Ok there) (Ok value) is = is
is-read Is (Err why) (Ok value) is = is
is-read Is (Ok there) (Err (Fault refusal)) is = absurd is
is-read Is (Err why) (Err (Fault refusal)) is = inl is
is-read Is (Ok there) (Err NoMemory) is = refl
is-read Is (Err why) (Err NoMemory) is = inr refl

-- the same, as the book's calls see it: its table and its history, and what a caller is told
module _ (ns : Pools) (h view : PoolHistory) (kept : IsKept ns h) (viewed : h ≡ view) where
  pub book-called : (number : ℕ) (c : PoolCall) (t : Result Unit (OrNoMemory Refusal)) (given : Result Unit Refusal) (next : PoolHistory) → given ≡ plain_of t → Tells t (answer c ns) → Leaves (mark number c (tested t)) t h next → HasCalled number c (told given) view next
  book-called number c t given next is tells left = subst (λ (x : PoolHistory × Result Unit Refusal). HasCalled number c (told x.1) x.0 next) (λ i. (viewed i, sym is i))
      (has-called number c t h next (subst (λ (x : Pools). Tells t (answer c x)) kept.same tells) left)

  pub book-may : (number : ℕ) (c : PoolCall) (t : Result Unit (OrNoMemory Refusal)) (given : Result Unit Refusal) (next : PoolHistory) → given ≡ plain_of t → Tells t (answer c ns) → LeavesRefusal (mark number c (tested t)) t h next → MayCall number c given view next
  book-may number c t given next is tells left = subst (λ (x : PoolHistory × Result Unit Refusal). MayCall number c x.1 x.0 next) (λ i. (viewed i, sym is i))
      (may-call number c t h next (subst (λ (x : Pools). Tells t (answer c x)) kept.same tells) left)

  pub book-answer : (c : PoolCall) → answer c (pools_of view) ≡ Done → answer c ns ≡ Done
  book-answer c is = ap (answer c) (kept.same ∙ ap pools_of viewed) ∙ is

  pub book-done : (number : ℕ) (c : PoolCall) (next : PoolHistory) → answer c (pools_of view) ≡ Done → next ≡ with_mark (mark number c Done) h → next ≡ with_call number c view
  book-done number c next is left = done-called number c view next is (left ∙ ap (with_mark (mark number c Done)) viewed)

  pub book-read : {A B : Type 0} (Is : B → A → Type 0) (found : Pools → Result B Refusal) (r : Result A (OrNoMemory Refusal)) (given : Result A Refusal) → given ≡ plain_of r → IsFound Is (found ns) r → IsRead Is (found (pools_of view)) given
  book-read {A} {B} Is found r given is read = subst (λ (x : Pools × Result A Refusal). IsRead Is (found x.0) x.1) (λ i. ((kept.same ∙ ap pools_of viewed) i, sym is i)) (is-read Is (found ns) r read)

-- what a done call makes of the book
pub after-define : (def : PoolDef) (ns : Pools) → pools_after (call.Define def) Done ns ≡ with_pool def ns
unfolding pools_after
after-define def ns = refl

pub after-undefine : (uuid : List ℕ) (ns : Pools) → pools_after (call.Undefine uuid) Done ns ≡ without uuid ns
unfolding pools_after
after-undefine uuid ns = refl

pub after-autostart : (uuid : List ℕ) (on : Bool) (ns : Pools) → pools_after (call.Autostart uuid on) Done ns ≡ with_changed uuid_of uuid (with_autostart on) ns
unfolding pools_after
after-autostart uuid on ns = refl
