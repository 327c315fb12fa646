-- A desk serves on: after one more ask it is tied as it was.
use Rattle.std.proofs.Common.{◌≡◌, ◌∙◌, ◌++◌, ◌⊎◌, ℕ, Bool, true, false, List, [], ◌∷◌, Option, None, Some, Result, Ok, Err, ap, append-nil, arith, inl, inr, le_refl, le_trans, refl, subst, sym, not}
use Rattle.std.specs.Prelude.{◌<◌, ◌≤◌, ◌+◌, Contains, filter}
use Rattle.std.proofs.lemmas.List.Elements.{Contains-append_cases, Contains-push_cases, filter-append}
use Rattle.outside_spec.specs.Faults.{Rose}
use Rattle.files_disk.specs.Telling.{Told}
use Rattle.turn_cell.specs.Turning.{Went}
use Rattle.turn_cell.proofs.Turning.{went_nowhere, went_on}
use Rattle.domain_spec.specs.Types.{Answer, Ask, DomainDef}
use Rattle.domain_spec.specs.Types.ask
use Rattle.domain_spec.specs.Types.answer
use Rattle.def_keeper.specs.declared.mark.StoreMark.{StoreMark}
use Rattle.def_keeper.specs.Turns.{meaning, no_mark_lowers}
use Rattle.history_spec.specs.Chapter.{tagged}
use Rattle.domain_obj.specs.OfCells.{told}
use Rattle.row_desk.specs.Asking.{IsAnsweredByStore, IsForStore}
use Rattle.row_desk.specs.Served.{Goes, HasMade, HasServed}
use Rattle.row_desk.specs.Stored.{AreStored, answers_in, is_stored, is_tried, stored_in}
use Rattle.row_desk.specs.Views.{StorePass}
use Rattle.row_desk.proofs.Storing.{asked_stored, stored_later, stored_more}

module _ {F : Type 0} (disk : F → Told) where
  -- ---- turns
  goes_nowhere : (p : StorePass) → Goes disk 0 [] p p
  goes_nowhere p = record { went = went_nowhere (meaning disk) p; spent = λ e. e }

  goes_on : (m : ℕ) (xs ys : List (ℕ × StoreMark)) (first now new : StorePass) → Goes disk m xs first now → Went (meaning disk) 1 ys now new → Goes disk (m + 1) (xs ++ ys) first new
  goes_on m xs ys first now new g w = record {
    went = subst (λ (b : Bool). Went (meaning disk) (m + 1) (xs ++ ys) (record first { spent = b }) new) (sym w.spent)
        (went_on (meaning disk) (no_mark_lowers disk) m 1 xs ys (record first { spent = now.spent }) now new g.went w);
    spent = λ e. w.spent ∙ g.spent e;
  }

  -- whether a ticket is left changes nothing else
  respent : (m : ℕ) (xs : List (ℕ × StoreMark)) (first now : StorePass) (s : Bool) → Went (meaning disk) m xs (record first { spent = now.spent }) now
      → Went (meaning disk) m xs (record first { spent = s }) (record now { spent = s })
  respent m [] first now s w = record {
    same = record { cell = w.same.cell; first = w.same.first; number = w.same.number; parts = w.same.parts; ended = w.same.ended };
    spent = refl;
    turns_rose = w.turns_rose;
    seen = w.seen;
    mine = w.mine;
    held = w.held;
    held_seen = w.held_seen;
  }
  respent m (x ∷ xs) first now s w = record {
    same = record { cell = w.same.cell; first = w.same.first; number = w.same.number; parts = w.same.parts; ended = w.same.ended };
    spent = refl;
    turns_rose = w.turns_rose;
    seen = w.seen;
    mine = w.mine;
    held = w.held;
    held_seen = w.held_seen;
  }

  goes_spent : (m : ℕ) (xs : List (ℕ × StoreMark)) (first now new : StorePass) → Goes disk m xs first now → new ≡ record now { spent = true } → Goes disk m xs first new
  goes_spent m xs first now new g is =
      let gone : Goes disk m xs first (record now { spent = true }) = record { went = respent m xs first now true g.went; spent = λ e. refl } in
      subst (λ (p : StorePass). Goes disk m xs first p) (sym is) gone

  -- ---- what was asked
  stored_so : (xs ys : List (Ask × Answer)) → stored_in (xs ++ ys) ≡ stored_in xs ++ stored_in ys
  stored_so xs ys = filter-append (λ (p : Ask × Answer). is_stored p.0) xs ys

  answers_so : (xs ys : List (ℕ × StoreMark)) → answers_in (xs ++ ys) ≡ answers_in xs ++ answers_in ys
  answers_so xs ys = filter-append (λ (m : ℕ × StoreMark). not (is_tried m.1.action)) xs ys

  serves_nothing : (p : StorePass) → HasServed disk [] p p
  serves_nothing p = record { turns = 0; more = []; goes = goes_nowhere p; stored = tt }

  pub serves_at_first : (asked : List (Ask × Answer)) (first now : StorePass) → asked ≡ [] → now ≡ first → HasServed disk asked first now
  serves_at_first asked first now none same =
      subst (λ (x : List (Ask × Answer) × StorePass). HasServed disk x.0 first x.1) (λ i. (sym none i, sym same i)) (serves_nothing first)

  -- what is not asked of the store needs no mark
  pub serves_aside : (report t : List (Ask × Answer)) (first now : StorePass) → stored_in t ≡ [] → HasServed disk report first now → HasServed disk (report ++ t) first now
  serves_aside report t first now none s =
      let is : stored_in (report ++ t) ≡ stored_in report =
      stored_so report t ∙ (ap (λ (l : List (Ask × Answer)). stored_in report ++ l) none ∙ append-nil (stored_in report)) in
      record {
        turns = s.turns;
        more = s.more;
        goes = s.goes;
        stored = subst (λ (l : List (Ask × Answer)). AreStored first.number now.seen l (answers_in s.more)) (sym is) s.stored;
      }

  serves_spent : (q : Ask) (a : Answer) (report : List (Ask × Answer)) (first now new : StorePass) → HasServed disk report first now → a ≡ answer.NoMemory → new ≡ record now { spent = true }
      → HasServed disk (report ++ told (q ∷ []) (a ∷ [])) first new
  serves_spent q a report first now new s none is =
      let spent : HasServed disk report first (record now { spent = true }) = record { turns = s.turns; more = s.more; goes = goes_spent s.turns s.more first now (record now { spent = true }) s.goes refl; stored = s.stored } in
      let on : HasServed disk report first new = subst (λ (p : StorePass). HasServed disk report first p) (sym is) spent in
      serves_aside report (told (q ∷ []) (a ∷ [])) first new (ap (λ (x : Answer). stored_in (told (q ∷ []) (x ∷ []))) none) on

  -- an ask of the store has the mark of its turn
  pub serves_store : (faults : F → ℕ) (q : Ask) (a : Answer) (report : List (Ask × Answer)) (first now new : StorePass) → IsForStore q → HasServed disk report first now
      → IsAnsweredByStore disk faults q now new a → HasServed disk (report ++ told (q ∷ []) (a ∷ [])) first new
  serves_store faults q a report first now new it s (inr none) = serves_spent q a report first now new s none.0 none.1
  serves_store faults q a report first now new it s (inl asked) =
      let t : List (Ask × Answer) = told (q ∷ []) (a ∷ []) in
      let ys : List (ℕ × StoreMark) = tagged new.seen.chapter asked.more in
      let one : AreStored now.number new.seen (stored_in t) (answers_in ys) = asked_stored now.number new.seen q a asked.more it asked.ends asked.tells in
      let here : AreStored first.number new.seen (stored_in t) (answers_in ys) = subst (λ (n : ℕ). AreStored n new.seen (stored_in t) (answers_in ys)) s.goes.went.same.number one in
      let old : AreStored first.number new.seen (stored_in report) (answers_in s.more) = stored_later first.number now.seen new.seen (stored_in report) (answers_in s.more) asked.went.seen s.stored in
      let both : AreStored first.number new.seen (stored_in report ++ stored_in t) (answers_in s.more ++ answers_in ys) =
      stored_more first.number new.seen (stored_in report) (stored_in t) (answers_in s.more) (answers_in ys) old here in
      record {
        turns = s.turns + 1;
        more = s.more ++ ys;
        goes = goes_on s.turns s.more ys first now new s.goes asked.went;
        stored = subst (λ (x : List (Ask × Answer) × List (ℕ × StoreMark)). AreStored first.number new.seen x.0 x.1) (λ i. (sym (stored_so report t) i, sym (answers_so s.more ys) i)) both;
      }

-- ---- guests
rose_on : (a b c : ℕ) → Rose a b → b ≤ c → Rose a c
rose_on a b c rose le = le_trans rose le

rose_from : (a b c : ℕ) → a ≤ b → Rose b c → Rose a c
rose_from a b c le rose = omega (arith, le, rose)

one_of_two : (y x : Ask × Answer) → Contains [] x ⊎ (y ≡ x) → y ≡ x
one_of_two y x (inl none) = absurd (omega (arith, none.1))
one_of_two y x (inr is) = is

only_one : (y x : Ask × Answer) → Contains (y ∷ []) x → y ≡ x
only_one y x has = one_of_two y x (Contains-push_cases [] y x has)

no_one : (y x : Ask × Answer) → Contains [] x → y ≡ x
no_one y x has = absurd (omega (arith, has.1))

told_one : (q : Ask) (a : Answer) (x : Ask × Answer) → Contains (told (q ∷ []) (a ∷ [])) x → (q, a) ≡ x
told_one q (answer.Ok v) x has = only_one (q, answer.Ok v) x has
told_one q (answer.Refused class) x has = only_one (q, answer.Refused class) x has
told_one q (answer.Ended why) x has = only_one (q, answer.Ended why) x has
told_one q answer.Lost x has = only_one (q, answer.Lost) x has
told_one q answer.Device x has = only_one (q, answer.Device) x has
told_one q answer.NoMemory x has = no_one (q, answer.NoMemory) x has

lost_so : (q : Ask) (a : Answer) (report : List (Ask × Answer)) (before mid now : ℕ) → HasMade report before mid → mid ≤ now
    → ((d : DomainDef) (boot : ℕ) → q ≡ ask.Make d boot → a ≡ answer.Lost → Rose mid now)
    → (d : DomainDef) (boot : ℕ) → Contains report (ask.Make d boot, answer.Lost) ⊎ Contains (told (q ∷ []) (a ∷ [])) (ask.Make d boot, answer.Lost) → Rose before now
lost_so q a report before mid now made le lost d boot (inl has) = rose_on before mid now (made.lost d boot has) le
lost_so q a report before mid now made le lost d boot (inr has) =
    let is : (q, a) ≡ (ask.Make d boot, answer.Lost) = told_one q a (ask.Make d boot, answer.Lost) has in
    rose_from before mid now made.counts (lost d boot (ap (λ (p : Ask × Answer). p.0) is) (ap (λ (p : Ask × Answer). p.1) is))

-- a count goes on
pub makes_on : (q : Ask) (a : Answer) (report : List (Ask × Answer)) (before mid now : ℕ) → HasMade report before mid → mid ≤ now
    → ((d : DomainDef) (boot : ℕ) → q ≡ ask.Make d boot → a ≡ answer.Lost → Rose mid now) → HasMade (report ++ told (q ∷ []) (a ∷ [])) before now
makes_on q a report before mid now made le lost = record {
  counts = le_trans made.counts le;
  lost = λ d boot has. lost_so q a report before mid now made le lost d boot (Contains-append_cases report (told (q ∷ []) (a ∷ [])) (ask.Make d boot, answer.Lost) has);
}

makes_nothing : (n : ℕ) → HasMade [] n n
makes_nothing n = record { counts = le_refl n; lost = λ d boot has. absurd (omega (arith, has.1)) }

pub makes_at_first : (asked : List (Ask × Answer)) (before now : ℕ) → asked ≡ [] → now ≡ before → HasMade asked before now
makes_at_first asked before now none same = subst (λ (x : List (Ask × Answer) × ℕ). HasMade x.0 before x.1) (λ i. (sym none i, sym same i)) (makes_nothing before)
