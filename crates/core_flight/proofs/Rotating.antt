-- The next chapter, as the ledger shows it.
use Rattle.std.specs.Prelude.{Ok, Err, OnErr, OnOk}
use Rattle.std.proofs.Common.{◌≡◌, Result, ◌+◌, ℕ, List, [], None, Option, sym, ap, ◌∙◌, subst}
use Rattle.domain_spec.specs.declared.standing.Base.{Base}
use Rattle.domain_spec.specs.declared.standing.Registration.{Registration}
use Rattle.domain_spec.specs.declared.standing.Standing.{Standing}
use Rattle.domain_spec.specs.Chapter.{next_base}
use Rattle.core_chapter.specs.Numbered.{all_numbered}
use Rattle.core_chapter.specs.Standing.{HistoryWithRoom}
use Rattle.core_flight.specs.Away.{IsOut}
use Rattle.core_flight.specs.Ledger.{now_in}
use Rattle.core_flight.specs.Turn.{force_in, shown}
use Rattle.core_flight.specs.declared.out.Out.{Out}
use Rattle.core_flight.proofs.Histories.{in_shown}
use Rattle.core_flight.proofs.Ledgers.{kept_begun, none_away, seen}

pub kept_rotate : {A E : Type 0} (old new : HistoryWithRoom) (w : Option Out) (number : ℕ) (b : Base) (r : Result A E) → (force_in old).job ≡ None → IsOut (force_in old) (force_in old).job w
    → OnOk r (new.history ≡ record { chapter = number; base = b; marks = [] }) → OnErr r (new ≡ old) → IsOut (force_in new) (force_in new).job w
kept_rotate old new w number b (Ok x) free h ok err = kept_begun new number b w (none_away old w free h) ok
kept_rotate old new w number b (Err e) free h ok err = subst (λ (c : HistoryWithRoom). IsOut (force_in c) (force_in c).job w) (sym err) h

pub rotated : {A E : Type 0} (old new : HistoryWithRoom) (w : Option Out) (rs : List Registration) (r : Result A E)
    → OnOk r (new.history ≡ record { chapter = old.history.chapter + 1; base = next_base (force_in old) rs; marks = [] })
    → OnOk r (shown new ≡ record { chapter = (seen old w).history.chapter + 1; base = next_base (now_in (seen old w)) rs; marks = [] })
rotated old new w rs (Ok x) ok =
    let e : shown new ≡ record { chapter = old.history.chapter + 1; base = next_base (force_in old) rs; marks = [] } =
    ap (λ (h : _). record { chapter = h.chapter; base = h.base; marks = all_numbered h.marks }) ok in
    e ∙ ap (λ (s : Standing). record { chapter = old.history.chapter + 1; base = next_base s rs; marks = [] }) (sym (in_shown old))
rotated old new w rs (Err x) ok = tt
