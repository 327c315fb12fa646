-- The rule's first half after each step: words, slot and stages.
use Rattle.std.proofs.Common.{◌≡◌, ◌≢◌, ℕ, ◌+◌, ◌^◌, ◌<◌, ◌≤◌, Bool, true, false, true≢false, cond, ltb, List, [], ◌∷◌, length, get_or, set, Option, None, Some, refl, sym, ap, ◌∙◌, subst, ⊎_elim, inl, inr, arith, le_refl, length-set}
use Rattle.std.specs.Prelude.{sum_by}
use Rattle.std.proofs.lemmas.List.Sums.{sum_by-le-sum_by}
use Rattle.std.proofs.lemmas.Bool.{ltb-true, ltb-false, cases_lt}
use mathlib.Core.Option.{some, none}
use lib.ListN.{get_elem?}
use Rattle.atomic_table.specs.Table.{State, opening}
use Rattle.atomic_table.proofs.Lists.{at_set, set_else, set_here}
use Rattle.history_spec.specs.declared.history.Ended.{Ended}
use Rattle.turn_cell.specs.Meaning.{Meaning}
use Rattle.turn_cell.specs.Known.{turns_of_ended}
use Rattle.turn_cell.specs.declared.view.Stage.{Stage}
use Rattle.turn_cell.specs.declared.view.Stage.TheVariants.{Idle, Waiting, Holding, Published}
use Rattle.turn_cell.specs.declared.view.Knows.{Knows}
use Rattle.turn_cell.specs.declared.view.View.{View}
use Rattle.turn_cell.specs.Rule.{IsDrawn, ticket, has_turn, parts_of, spent_parts, turns_in, Counts, FitsStage, Fits, Placed, Door, newcomer}
use Rattle.turn_cell.specs.Steps.{with_stage, drawn, drawn_if, IsUsedUp}
use Rattle.turn_cell.proofs.Views.{each_set, at_length, one_at, sum_set, same_sum, sum_alone, only, two_le}

no_turn : {T : Type 0} (st : Stage T) → (has_turn st ≡ true → ⊥) → has_turn st ≡ false
no_turn Idle h = refl
no_turn (Waiting t) h = refl
no_turn (Holding t x) h = absurd (h refl)
no_turn (Published t x) h = absurd (h refl)

module _ {T B M S : Type 0} where
  spent_le : (v : View T B M S) → spent_parts v ≤ parts_of v
  spent_le v = elim v.spent as (λ b. cond b v.knows.parts 0 ≤ v.knows.parts) [ true ↦ omega arith | false ↦ omega arith ]

  -- no two views share a ticket, where the new one has none of the others
  pub each_pair : (views : List (View T B M S)) (id : ℕ) (w : View T B M S)
      → ((i j : ℕ) (v u : View T B M S) (t : ℕ) → get_elem? views i ≡ some v → get_elem? views j ≡ some u → ticket v.stage ≡ Some t → ticket u.stage ≡ Some t → i ≡ j)
      → ((j : ℕ) (u : View T B M S) (t : ℕ) → j ≢ id → get_elem? views j ≡ some u → ticket w.stage ≡ Some t → ticket u.stage ≡ Some t → ⊥)
      → (i j : ℕ) (v u : View T B M S) (t : ℕ) → get_elem? (set views id w) i ≡ some v → get_elem? (set views id w) j ≡ some u → ticket v.stage ≡ Some t → ticket u.stage ≡ Some t → i ≡ j
  each_pair views id w apart other i j v u t a b e k =
      ⊎_elim
      (λ (x : (i ≡ id) × (w ≡ v)). ⊎_elim
      (λ (y : (j ≡ id) × (w ≡ u)). x.0 ∙ sym y.0)
      (λ (y : (j ≢ id) × (get_elem? views j ≡ some u)). absurd (other j u t y.0 y.1 (ap (λ (z : View T B M S). ticket z.stage) x.1 ∙ e) k))
      (at_set views id j w u b))
      (λ (x : (i ≢ id) × (get_elem? views i ≡ some v)). ⊎_elim
      (λ (y : (j ≡ id) × (w ≡ u)). absurd (other i v t x.0 x.1 (ap (λ (z : View T B M S). ticket z.stage) y.1 ∙ k) e))
      (λ (y : (j ≢ id) × (get_elem? views j ≡ some u)). apart i j v u t x.1 y.1 e k)
      (at_set views id j w u b))
      (at_set views id i w v a)

  drawn_parts : (b : Bool) (v : View T B M S) (n : ℕ) → parts_of (drawn_if b v n) ≡ parts_of v
  drawn_parts true v n = refl
  drawn_parts false v n = refl

  pub drawn_knows : (b : Bool) (v : View T B M S) (n : ℕ) → (drawn_if b v n).knows ≡ v.knows
  drawn_knows true v n = refl
  drawn_knows false v n = refl

  drawn_first : (b : Bool) (v : View T B M S) (n : ℕ) → (drawn_if b v n).first ≡ v.first
  drawn_first true v n = refl
  drawn_first false v n = refl

  drawn_on : (b : Bool) (v : View T B M S) (n first sum after : ℕ) → ltb n 4611686018427387904 ≡ b → after + turns_in v ≡ sum + turns_in (drawn_if b v n)
      → ((t : ℕ) → t ≤ n → t ≤ 4611686018427387904 → t ≤ first + sum) → (t : ℕ) → t ≤ n + 1 → t ≤ 4611686018427387904 → t ≤ first + after
  drawn_on true v n first sum after is e so_far t le most = let l = ltb-true _ _ is in let k = so_far n (le_refl n) (omega arith) in omega arith
  drawn_on false v n first sum after is e so_far t le most = let l = ltb-false _ _ is in let k = so_far t (omega arith) most in omega arith

  -- a view that counts the same turns counts as before
  pub counts_same : (first : ℕ) (v w : View T B M S) → w.first ≡ v.first → w.knows.parts ≡ v.knows.parts → turns_in w ≡ turns_in v → Counts first v → Counts first w
  counts_same first v w is parts turns c = record { first = λ p. is ∙ c.first (omega (arith, p, parts)); gone = λ e. turns ∙ c.gone (sym parts ∙ e) }

  drawn_out : (b : Bool) (v : View T B M S) (n : ℕ) → v.stage ≡ Idle → has_turn (drawn_if b v n).stage ≡ false
  drawn_out true v n idle = refl
  drawn_out false v n idle = ap has_turn idle

  drawn_ticket : (b : Bool) (v : View T B M S) (n t : ℕ) → v.stage ≡ Idle → ticket (drawn_if b v n).stage ≡ Some t → t ≡ n
  drawn_ticket true v n t idle e = cc
  drawn_ticket false v n t idle e = let k : ticket v.stage ≡ None = ap ticket idle in absurd cc

  drawn_bounded : (b : Bool) (v : View T B M S) (n sum after : ℕ) → ltb n 4611686018427387904 ≡ b → v.spent ≡ false → 0 < parts_of v → after + spent_parts v ≡ sum + spent_parts (drawn_if b v n) → n ≤ 4611686018427387904 + sum → n + 1 ≤ 4611686018427387904 + after
  drawn_bounded true v n sum after is fresh some_parts e le = let k = ltb-true _ _ is in omega arith
  drawn_bounded false v n sum after is fresh some_parts e le = let k : spent_parts v ≡ 0 = ap (λ (b : Bool). cond b v.knows.parts 0) fresh in omega arith

module _ {T B M S : Type 0} (K : Meaning T B M S) where
  abbrev St : Type 0
  St = State (Option T) (View T B M S)

  later_next : (serving next more : ℕ) (x : T) (st : Stage T) → next ≤ more → FitsStage K serving next x st → FitsStage K serving more x st
  later_next serving next more x Idle le f = tt
  later_next serving next more x (Waiting t) le f = (f.0, omega (arith, f.1), f.2)
  later_next serving next more x (Holding t found) le f = (f.0, (f.1.0, omega (arith, f.1.1), f.1.2), f.2, f.3)
  later_next serving next more x (Published t left) le f = (f.0, (f.1.0, omega (arith, f.1.1), f.1.2), f.2, f.3)

  ticket_below : (serving next : ℕ) (x : T) (st : Stage T) (t : ℕ) → FitsStage K serving next x st → ticket st ≡ Some t → t < next
  ticket_below serving next x Idle t f e = absurd cc
  ticket_below serving next x (Waiting u) t f e = let k : u ≡ t = cc in omega (arith, f.1)
  ticket_below serving next x (Holding u found) t f e = let k : u ≡ t = cc in omega (arith, f.1.1)
  ticket_below serving next x (Published u left) t f e = let k : u ≡ t = cc in omega (arith, f.1.1)

  pub turn_serves : (serving next : ℕ) (x : T) (st : Stage T) → has_turn st ≡ true → FitsStage K serving next x st → ticket st ≡ Some serving
  turn_serves serving next x Idle e f = absurd cc
  turn_serves serving next x (Waiting t) e f = absurd cc
  turn_serves serving next x (Holding t found) e f = ap Some f.0
  turn_serves serving next x (Published t left) e f = ap Some f.0

  -- without the turn, a stage says nothing of the value
  of_any_value : (serving next : ℕ) (x y : T) (st : Stage T) → (ticket st ≡ Some serving → ⊥) → FitsStage K serving next x st → FitsStage K serving next y st
  of_any_value serving next x y Idle other f = tt
  of_any_value serving next x y (Waiting t) other f = f
  of_any_value serving next x y (Holding t found) other f = absurd (other (ap Some f.0))
  of_any_value serving next x y (Published t left) other f = absurd (other (ap Some f.0))

  -- after the turn of the ticket `serving`
  of_next_turn : (serving next : ℕ) (x : T) (st : Stage T) → (ticket st ≡ Some serving → ⊥) → FitsStage K serving next x st → FitsStage K (serving + 1) next x st
  of_next_turn serving next x Idle other f = tt
  of_next_turn serving next x (Waiting t) other f = (ne_lt serving t f.0 (λ e. other (ap Some (sym e))), f.1, f.2)
    where
      ne_lt : (a b : ℕ) → a ≤ b → (a ≡ b → ⊥) → a + 1 ≤ b
      ne_lt a b le ne = ⊎_elim (λ (l : a < b). omega arith) (λ (l : b ≤ a). absurd (ne (omega arith))) (cases_lt a b)
  of_next_turn serving next x (Holding t found) other f = absurd (other (ap Some f.0))
  of_next_turn serving next x (Published t left) other f = absurd (other (ap Some f.0))

  pub small : (s : St) (x : T) → Door K s x → get_or s.words 0 0 + 1 < 2 ^ 64
  small s x d = omega (arith, d.bounded, d.all_parts, sum_by-le-sum_by spent_parts parts_of s.views spent_le)

  drawn_fits : (b : Bool) (v : View T B M S) (serving n : ℕ) (x : T) → ltb n 4611686018427387904 ≡ b → v.stage ≡ Idle → 0 < parts_of v → serving ≤ n → Fits K serving n x v → Fits K serving (n + 1) x (drawn_if b v n)
  drawn_fits true v serving n x is idle some_parts le f = record { stage = (le, omega arith, ltb-true _ _ is); used_up = λ e. absurd (omega arith); spent = λ e. let k = f.spent e in omega arith }
  drawn_fits false v serving n x is idle some_parts le f = record { stage = later_next serving n (n + 1) x v.stage (omega arith) f.stage; used_up = f.used_up; spent = λ e. let k = ltb-false _ _ is in omega arith }

  -- a view that has no turn before and after
  pub placed_away : (s : St) (words : List ℕ) (id : ℕ) (v w : View T B M S) (x : T) → get_or words 1 0 ≡ get_or s.words 1 0 → has_turn v.stage ≡ false → has_turn w.stage ≡ false → get_elem? s.views id ≡ some v → Placed K s x → Placed K record { words = words; homes = s.homes; views = set s.views id w } x
  placed_away s words id v w x same off off' at p = ⊎_elim
      (λ home. inl (home.0, omega (arith, home.1, same), each_set (λ _ u. has_turn u.stage ≡ false) s.views id w off' (λ j u _ e. home.2 j u e)))
      (λ out. inr (out.0, out.1, set_else s.views id out.0 w (λ e. true≢false (sym out.3 ∙ (ap (λ (z : View T B M S). has_turn z.stage) (one_at s.views out.0 id out.1 v out.2 at e) ∙ off))) ∙ out.2, out.3))
      p

  pub door_draws : (s : St) (x : T) (d : Door K s x) (id : ℕ) (v : View T B M S) (words : List ℕ) → v.stage ≡ Idle → v.spent ≡ false → 0 < parts_of v → get_elem? s.views id ≡ some v
      → length words ≡ length s.words → get_or words 0 0 ≡ get_or s.words 0 0 + 1 → get_or words 1 0 ≡ get_or s.words 1 0 → get_or words 2 0 ≡ get_or s.words 2 0
      → Door K record { words = words; homes = s.homes; views = set s.views id (drawn v (get_or s.words 0 0)) } x
  door_draws s x d id v words idle fresh some_parts at long next serving front =
      let n : ℕ = get_or s.words 0 0 in
      let b : Bool = ltb n 4611686018427387904 in
      let w : View T B M S = drawn_if b v n in
      record {
        words = long ∙ d.words;
        homes = d.homes;
        order = omega (arith, next, serving, d.order);
        served = omega (arith, serving, d.served);
        front = front ∙ d.front;
        all_parts = same_sum parts_of s.views id v w at (drawn_parts b v n) ∙ d.all_parts;
        bounded = rw next (drawn_bounded b v n (sum_by spent_parts s.views) (sum_by spent_parts (set s.views id w)) refl fresh some_parts (sum_set spent_parts s.views id v w at) d.bounded);
        each = rw (next, serving) (each_set (λ _ u. Fits K (get_or s.words 1 0) (n + 1) x u) s.views id w (drawn_fits b v (get_or s.words 1 0) n x refl idle some_parts d.order (d.each id v at))
            (λ j u _ e. let f = d.each j u e in record { stage = later_next (get_or s.words 1 0) n (n + 1) x u.stage (omega arith) f.stage; used_up = f.used_up; spent = λ e. let k = f.spent e in omega arith }));
        apart = each_pair s.views id w d.apart (λ j u t _ e a k. omega (arith, drawn_ticket b v n t idle a, ticket_below (get_or s.words 1 0) n x u.stage t (d.each j u e).stage k));
        placed = placed_away s words id v w x serving (ap has_turn idle) (drawn_out b v n idle) at d.placed;
        first = d.first;
        drawn = rw next (drawn_on b v n d.first (sum_by turns_in s.views) (sum_by turns_in (set s.views id w)) refl (sum_set turns_in s.views id v w at) d.drawn);
        counts = each_set (λ _ u. Counts d.first u) s.views id w
            (record { first = λ p. drawn_first b v n ∙ (d.counts id v at).first some_parts; gone = λ e. absurd (let p = drawn_parts b v n in omega arith) })
            (λ j u _ e. d.counts j u e);
      }

  -- where a view waits with the ticket that is served, none has the turn
  nobody : (s : St) (x : T) (d : Door K s x) (id : ℕ) (v : View T B M S) (t : ℕ) → get_elem? s.views id ≡ some v → v.stage ≡ Waiting t → get_or s.words 1 0 ≡ t → (i : ℕ) (u : View T B M S) → get_elem? s.views i ≡ some u → has_turn u.stage ≡ true → ⊥
  nobody s x d id v t at is served i u e holds =
      let theirs : ticket u.stage ≡ Some t = turn_serves _ _ _ u.stage holds (d.each i u e).stage ∙ ap Some served in
      let same : i ≡ id = d.apart i id u v t e at theirs (ap ticket is) in
      true≢false (sym holds ∙ (ap (λ (z : View T B M S). has_turn z.stage) (one_at s.views i id u v e at same) ∙ ap has_turn is))

  -- so the value is at home
  pub at_home : (s : St) (x : T) (d : Door K s x) (id : ℕ) (v : View T B M S) (t : ℕ) → get_elem? s.views id ≡ some v → v.stage ≡ Waiting t → get_or s.words 1 0 ≡ t → (get_elem? s.homes 0 ≡ some (some (Some x))) × ((K.history x).chapter ≤ t)
  at_home s x d id v t at is served = ⊎_elim
      (λ home. (home.0, omega (arith, home.1, served)))
      (λ out. absurd (nobody s x d id v t at is served out.0 out.1 out.2 out.3))
      d.placed

  pub door_takes : (s : St) (x : T) (d : Door K s x) (id : ℕ) (v : View T B M S) (t : ℕ) → get_elem? s.views id ≡ some v → v.stage ≡ Waiting t → get_or s.words 1 0 ≡ t
      → Door K record { words = s.words; homes = set s.homes 0 none; views = set s.views id (with_stage v (Holding t x)) } x
  door_takes s x d id v t at is served =
      let w : View T B M S = with_stage v (Holding t x) in
      let fits = d.each id v at in
      let drawn_t : IsDrawn (get_or s.words 1 0) (get_or s.words 0 0) t = subst (FitsStage K (get_or s.words 1 0) (get_or s.words 0 0) x) is fits.stage in
      record {
        words = d.words;
        homes = length-set s.homes 0 none ∙ d.homes;
        order = d.order;
        served = d.served;
        front = d.front;
        all_parts = same_sum parts_of s.views id v w at refl ∙ d.all_parts;
        bounded = omega (arith, d.bounded, same_sum spent_parts s.views id v w at refl);
        each = each_set (λ _ u. Fits K (get_or s.words 1 0) (get_or s.words 0 0) x u) s.views id w
            (record { stage = (sym served, drawn_t, refl, (at_home s x d id v t at is served).1); used_up = λ e. let k : v.stage ≡ Idle = fits.used_up e in absurd cc; spent = fits.spent })
            (λ j u _ e. d.each j u e);
        apart = each_pair s.views id w d.apart (λ j u k ne e a b. let same : t ≡ k = cc in ne (d.apart j id u v t e at (b ∙ ap Some (sym same)) (ap ticket is)));
        placed = inr (id, w, set_here s.views id w (at_length s.views id v at), refl);
        first = d.first;
        drawn = λ k a b. omega (arith, d.drawn k a b, same_sum turns_in s.views id v w at refl);
        counts = each_set (λ _ u. Counts d.first u) s.views id w (counts_same d.first v w refl refl refl (d.counts id v at)) (λ j u _ e. d.counts j u e);
      }

  pub waiting_parts : (v : View T B M S) (t : ℕ) → v.stage ≡ Waiting t → (v.knows.parts ≡ 0 → v.stage ≡ Idle) → 0 < v.knows.parts
  waiting_parts v t is zero_idle = ⊎_elim (λ (l : 0 < v.knows.parts). l) (λ (z : v.knows.parts ≤ 0). let k : v.stage ≡ Idle = zero_idle (omega arith) in absurd cc) (cases_lt 0 v.knows.parts)

  -- the others have another ticket than the view that has the turn
  pub others_wait : (s : St) (x : T) (d : Door K s x) (id : ℕ) (v : View T B M S) → get_elem? s.views id ≡ some v → ticket v.stage ≡ Some (get_or s.words 1 0) → (j : ℕ) (u : View T B M S) → j ≢ id → get_elem? s.views j ≡ some u → ticket u.stage ≡ Some (get_or s.words 1 0) → ⊥
  others_wait s x d id v at mine j u ne e a = ne (d.apart j id u v (get_or s.words 1 0) e at a mine)

  pub door_publishes : (s : St) (x left : T) (d : Door K s x) (id : ℕ) (v : View T B M S) (t : ℕ) (k : Knows B M S) (words : List ℕ) → get_elem? s.views id ≡ some v → v.stage ≡ Holding t x
      → k.parts ≡ v.knows.parts → k.ended ≡ v.knows.ended → 0 < v.knows.parts → (K.history left).chapter ≤ (K.history x).chapter + 1
      → length words ≡ length s.words → get_or words 0 0 ≡ get_or s.words 0 0 → get_or words 1 0 ≡ get_or s.words 1 0 → get_or words 2 0 ≡ length (K.history left).marks
      → Door K record { words = words; homes = s.homes; views = set s.views id (record v { stage = Published t left; knows = k }) } left
  door_publishes s x left d id v t k words at is parts ended some_parts risen long next serving front =
      let w : View T B M S = record v { stage = Published t left; knows = k } in
      let turns : turns_in w ≡ turns_in v = ap (λ (es : List (Ended M)). v.turns + turns_of_ended es) ended in
      let f : FitsStage K (get_or s.words 1 0) (get_or s.words 0 0) x (Holding t x) = subst (FitsStage K (get_or s.words 1 0) (get_or s.words 0 0) x) is (d.each id v at).stage in
      let mine : ticket v.stage ≡ Some (get_or s.words 1 0) = ap ticket is ∙ ap Some f.0 in
      record {
        words = long ∙ d.words;
        homes = d.homes;
        order = omega (arith, next, serving, d.order);
        served = omega (arith, serving, d.served);
        front = front;
        all_parts = same_sum parts_of s.views id v w at parts ∙ d.all_parts;
        bounded = omega (arith, next, d.bounded, same_sum spent_parts s.views id v w at (ap (λ (p : ℕ). cond v.spent p 0) parts));
        each = rw (next, serving) (each_set (λ _ u. Fits K (get_or s.words 1 0) (get_or s.words 0 0) left u) s.views id w
            (record { stage = (f.0, f.1, refl, omega (arith, risen, f.3)); used_up = λ e. absurd (omega arith); spent = (d.each id v at).spent })
            (λ j u ne e. record { stage = of_any_value _ _ x left u.stage (others_wait s x d id v at mine j u ne e) (d.each j u e).stage; used_up = (d.each j u e).used_up; spent = (d.each j u e).spent }));
        apart = each_pair s.views id w d.apart (λ j u n ne e a b. others_wait s x d id v at mine j u ne e (let same : t ≡ n = cc in b ∙ ap Some (sym same ∙ f.0)));
        placed = inr (id, w, set_here s.views id w (at_length s.views id v at), refl);
        first = d.first;
        drawn = λ n a b. omega (arith, d.drawn n (omega (arith, a, next)) b, same_sum turns_in s.views id v w at turns);
        counts = each_set (λ _ u. Counts d.first u) s.views id w (counts_same d.first v w refl parts turns (d.counts id v at)) (λ j u _ e. d.counts j u e);
      }

  pub door_passes : (s : St) (x : T) (d : Door K s x) (id : ℕ) (v : View T B M S) (t : ℕ) (words : List ℕ) → get_elem? s.views id ≡ some v → v.stage ≡ Published t x
      → length words ≡ length s.words → get_or words 0 0 ≡ get_or s.words 0 0 → get_or words 1 0 ≡ get_or s.words 1 0 + 1 → get_or words 2 0 ≡ get_or s.words 2 0
      → Door K record { words = words; homes = set s.homes 0 (some (Some x)); views = set s.views id (with_stage v Idle) } x
  door_passes s x d id v t words at is long next serving front =
      let n : ℕ = get_or s.words 1 0 in
      let w : View T B M S = with_stage v Idle in
      let f : FitsStage K n (get_or s.words 0 0) x (Published t x) = subst (FitsStage K n (get_or s.words 0 0) x) is (d.each id v at).stage in
      let mine : ticket v.stage ≡ Some n = ap ticket is ∙ ap Some f.0 in
      record {
        words = long ∙ d.words;
        homes = length-set s.homes 0 (some (Some x)) ∙ d.homes;
        order = omega (arith, next, serving, f.0, f.1.1);
        served = omega (arith, serving, f.0, f.1.2);
        front = front ∙ d.front;
        all_parts = same_sum parts_of s.views id v w at refl ∙ d.all_parts;
        bounded = omega (arith, next, d.bounded, same_sum spent_parts s.views id v w at refl);
        each = rw (next, serving) (each_set (λ _ u. Fits K (n + 1) (get_or s.words 0 0) x u) s.views id w
            (record { stage = tt; used_up = λ e. refl; spent = (d.each id v at).spent })
            (λ j u ne e. record { stage = of_next_turn n _ x u.stage (others_wait s x d id v at mine j u ne e) (d.each j u e).stage; used_up = (d.each j u e).used_up; spent = (d.each j u e).spent }));
        apart = each_pair s.views id w d.apart (λ j u k ne e a b. absurd cc);
        placed = inl (
          set_here s.homes 0 (some (Some x)) (omega (arith, d.homes)),
          omega (arith, serving, f.0, f.3),
          each_set (λ _ u. has_turn u.stage ≡ false) s.views id w refl
              (λ j u ne e. no_turn u.stage (λ holds. others_wait s x d id v at mine j u ne e (turn_serves _ _ _ u.stage holds (d.each j u e).stage))),
        );
        first = d.first;
        drawn = λ k a b. omega (arith, d.drawn k (omega (arith, a, next)) b, same_sum turns_in s.views id v w at refl);
        counts = each_set (λ _ u. Counts d.first u) s.views id w (counts_same d.first v w refl refl refl (d.counts id v at)) (λ j u _ e. d.counts j u e);
      }

  pub door_opens : (first : ℕ) (x : T) → first ≤ 4611686018427387904 → (K.history x).chapter ≤ first → Door K (opening (first ∷ first ∷ length (K.history x).marks ∷ []) (Some x ∷ []) (newcomer K x first)) x
  door_opens first x le chapter = record {
    words = refl;
    homes = refl;
    order = le_refl first;
    served = le;
    front = refl;
    all_parts = refl;
    bounded = omega (arith, le);
    each = λ i v e. subst (Fits K first first x) (only (newcomer K x first) i v e).1 (record { stage = tt; used_up = λ e. refl; spent = λ e. absurd cc });
    apart = λ i j v w t a b e k. let none : ticket v.stage ≡ None = ap (λ (z : View T B M S). ticket z.stage) (sym (only (newcomer K x first) i v a).1) in absurd cc;
    placed = inl (refl, chapter, λ i v e. ap (λ (z : View T B M S). has_turn z.stage) (sym (only (newcomer K x first) i v e).1));
    first = first;
    drawn = λ t a b. omega (arith, a);
    counts = λ i v e. subst (Counts first) (only (newcomer K x first) i v e).1 (record { first = λ p. refl; gone = λ e. refl });
  }

  -- a pass with all parts is the only one
  pub stands_alone : (s : St) (x : T) (d : Door K s x) (id : ℕ) (v : View T B M S) → parts_of v ≡ 4611686018427387904 → get_elem? s.views id ≡ some v → (i : ℕ) (u : View T B M S) → get_elem? s.views i ≡ some u → i ≢ id → parts_of u ≡ 0
  stands_alone s x d id v all at i u e ne = omega (arith, two_le parts_of s.views id i v u at e (λ k. ne (sym k)), d.all_parts)

  -- where such a pass finds that no ticket is left, all were drawn for its turns
  pub all_drawn : (s : St) (x : T) (d : Door K s x) (id : ℕ) (v : View T B M S) → get_elem? s.views id ≡ some v → 4611686018427387904 ≤ get_or s.words 0 0 → IsUsedUp v
  all_drawn s x d id v at reached all =
      let counted = d.drawn 4611686018427387904 reached (le_refl 4611686018427387904) in
      let first : v.first ≡ d.first = (d.counts id v at).first (omega (arith, all)) in
      let ours : sum_by turns_in s.views ≤ turns_in v = sum_alone turns_in s.views id v at (λ i u e ne. (d.counts i u e).gone (stands_alone s x d id v all at i u e ne)) in
      omega arith
