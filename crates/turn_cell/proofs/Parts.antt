-- Cutting a pass in two, and putting two together, keep the rule.
use Rattle.std.proofs.Common.{◌≡◌, ◌≢◌, ◌⊎◌, ℕ, ◌+◌, ◌-◌, ◌<◌, ◌≤◌, Bool, true, false, true≢false, cond, ◌||◌, List, [], ◌∷◌, ◌++◌, length, get_or, set, Option, None, Some, refl, sym, ap, ◌∙◌, subst, ⊎_elim, inl, inr, arith}
use Rattle.std.proofs.lemmas.List.{map-append}
use Rattle.std.proofs.lemmas.List.Sums.{sum_by_push, sum_by-append, sum_by-cons}
use mathlib.Core.Option.{some, none}
use lib.ListN.{get_elem?}
use lib.Seq.{set-get_or}
use Rattle.atomic_table.specs.Table.{State, Me, step, Allows, Splits, Joins}
use Rattle.atomic_table.specs.Table as acts
use Rattle.atomic_table.proofs.Lists.{at_set, at_longer, set_else, set_again}
use Rattle.history_spec.specs.declared.history.Ended.{Ended}
use Rattle.turn_cell.specs.Meaning.{Meaning, NoMarkLowers}
use Rattle.turn_cell.specs.declared.view.Stage.{Stage}
use Rattle.turn_cell.specs.declared.view.Stage.TheVariants.{Idle}
use Rattle.turn_cell.specs.declared.view.Knows.{Knows}
use Rattle.turn_cell.specs.declared.view.View.{View}
use Rattle.turn_cell.specs.Known.{Known, turns_of_ended}
use Rattle.turn_cell.specs.Rule.{ticket, has_turn, parts_of, spent_parts, turns_in, Counts, knowledge, FitsStage, Fits, Placed, Door, IsRuled}
use Rattle.turn_cell.specs.Steps.{one_fewer, one_part, is_named, together, used_up, Meets, meets}
use Rattle.turn_cell.proofs.Doors.{counts_same}
use Rattle.turn_cell.proofs.Views.{each_set, at_end, one_at, sum_set, same_sum, map_set, at_map}
use Rattle.turn_cell.proofs.Parting.{known_splits, known_named, new_number}
use Rattle.turn_cell.proofs.Joining.{known_joins}
use Rattle.turn_cell.proofs.Knowledge.{known_rests}

spent_cut : (b : Bool) (p : ℕ) → 1 < p → cond b (p - 1) 0 + cond b 1 0 ≡ cond b p 0
spent_cut true p l = omega arith
spent_cut false p l = omega arith

spent_both : (a b : Bool) (p q : ℕ) → cond a p 0 + cond b q 0 ≤ cond (a || b) (p + q) 0
spent_both true true p q = omega arith
spent_both true false p q = omega arith
spent_both false true p q = omega arith
spent_both false false p q = omega arith

either_spent : (a b : Bool) (next : ℕ) → (a ≡ true → 4611686018427387904 ≤ next) → (b ≡ true → 4611686018427387904 ≤ next) → (a || b) ≡ true → 4611686018427387904 ≤ next
either_spent true b next p q e = p refl
either_spent false b next p q e = q e

module _ {T B M S : Type 0} where
  both_turns : (v u : View T B M S) → turns_in (together v u) ≡ turns_in v + turns_in u
  both_turns v u =
      let last : Ended M = record { number = u.knows.number; turns = u.turns; mine = u.knows.mine } in
      let of : Ended M → ℕ = λ (e : Ended M). e.turns in
      omega (arith, sum_by-append of v.knows.ended (last ∷ u.knows.ended), sum_by-cons of last u.knows.ended)

  idle_ticket : (v : View T B M S) (t : ℕ) → v.stage ≡ Idle → ticket v.stage ≡ Some t → ⊥
  idle_ticket v t e k = let h : ticket v.stage ≡ None = ap ticket e in cc

  -- where each view that is not idle was there before, no two share a ticket
  idle_apart : (views after : List (View T B M S))
      → ((i j : ℕ) (v u : View T B M S) (t : ℕ) → get_elem? views i ≡ some v → get_elem? views j ≡ some u → ticket v.stage ≡ Some t → ticket u.stage ≡ Some t → i ≡ j)
      → ((i : ℕ) (v : View T B M S) → get_elem? after i ≡ some v → (get_elem? views i ≡ some v) ⊎ (v.stage ≡ Idle))
      → (i j : ℕ) (v u : View T B M S) (t : ℕ) → get_elem? after i ≡ some v → get_elem? after j ≡ some u → ticket v.stage ≡ Some t → ticket u.stage ≡ Some t → i ≡ j
  idle_apart views after apart off i j v u t a b e k = ⊎_elim
      (λ (p : get_elem? views i ≡ some v). ⊎_elim (λ (q : get_elem? views j ≡ some u). apart i j v u t p q e k) (λ (q : u.stage ≡ Idle). absurd (idle_ticket u t q k)) (off j u b))
      (λ (p : v.stage ≡ Idle). absurd (idle_ticket v t p e))
      (off i v a)

  set_off : (views : List (View T B M S)) (id : ℕ) (w : View T B M S) → w.stage ≡ Idle → (i : ℕ) (v : View T B M S) → get_elem? (set views id w) i ≡ some v → (get_elem? views i ≡ some v) ⊎ (v.stage ≡ Idle)
  set_off views id w idle i v e = ⊎_elim (λ (p : (i ≡ id) × (w ≡ v)). inr (ap (λ (z : View T B M S). z.stage) (sym p.1) ∙ idle)) (λ (p : (i ≢ id) × (get_elem? views i ≡ some v)). inl p.1) (at_set views id i w v e)

  pushed_off : (views : List (View T B M S)) (u : View T B M S) → u.stage ≡ Idle → (i : ℕ) (v : View T B M S) → get_elem? (views ++ u ∷ []) i ≡ some v → (get_elem? views i ≡ some v) ⊎ (v.stage ≡ Idle)
  pushed_off views u idle i v e = ⊎_elim (λ (p : get_elem? views i ≡ some v). inl p) (λ (p : (i ≡ length views) × (u ≡ v)). inr (ap (λ (z : View T B M S). z.stage) (sym p.1) ∙ idle)) (at_end views u v i e)

  then_off : (views mid after : List (View T B M S)) → ((i : ℕ) (v : View T B M S) → get_elem? mid i ≡ some v → (get_elem? views i ≡ some v) ⊎ (v.stage ≡ Idle)) → ((i : ℕ) (v : View T B M S) → get_elem? after i ≡ some v → (get_elem? mid i ≡ some v) ⊎ (v.stage ≡ Idle))
      → (i : ℕ) (v : View T B M S) → get_elem? after i ≡ some v → (get_elem? views i ≡ some v) ⊎ (v.stage ≡ Idle)
  then_off views mid after p q i v e = ⊎_elim (λ (x : get_elem? mid i ≡ some v). p i v x) (λ (x : v.stage ≡ Idle). inr x) (q i v e)

  -- a view that has the turn is where no idle view is
  turn_apart : (views : List (View T B M S)) (i j : ℕ) (v u : View T B M S) → get_elem? views i ≡ some v → has_turn v.stage ≡ true → get_elem? views j ≡ some u → u.stage ≡ Idle → i ≢ j
  turn_apart views i j v u a holds b idle same = true≢false (sym holds ∙ (ap (λ (z : View T B M S). has_turn z.stage) (one_at views i j v u a b same) ∙ ap has_turn idle))

module _ {T B M S : Type 0} (K : Meaning T B M S) where
  abbrev St : Type 0
  St = State (Option T) (View T B M S)

  abbrev Mine : Type 0
  Mine = Me (Option T) (View T B M S)

  abbrev Rule : St → Type 0
  Rule = IsRuled K

  fits_idle : (serving next : ℕ) (x : T) (st : Stage T) → st ≡ Idle → FitsStage K serving next x st
  fits_idle serving next x st e = subst (FitsStage K serving next x) (sym e) tt

  -- idle views come, go and change
  placed_idle : (s : St) (x : T) (after : List (View T B M S)) → ((i : ℕ) (v : View T B M S) → get_elem? after i ≡ some v → (get_elem? s.views i ≡ some v) ⊎ (v.stage ≡ Idle))
      → ((i : ℕ) (v : View T B M S) → get_elem? s.views i ≡ some v → has_turn v.stage ≡ true → get_elem? after i ≡ some v) → Placed K s x → Placed K record { words = s.words; homes = s.homes; views = after } x
  placed_idle s x after off on p = ⊎_elim
      (λ home. inl (home.0, home.1, λ j u e. ⊎_elim (λ (q : get_elem? s.views j ≡ some u). home.2 j u q) (λ (q : u.stage ≡ Idle). ap has_turn q) (off j u e)))
      (λ out. inr (out.0, out.1, on out.0 out.1 out.2 out.3, out.3))
      p

  door_splits : (s : St) (x : T) (d : Door K s x) (id : ℕ) (v : View T B M S) → get_elem? s.views id ≡ some v → v.stage ≡ Idle → 1 < v.knows.parts
      → Door K record { words = s.words; homes = s.homes; views = set s.views id (one_fewer v) ++ one_part K.nothing v ∷ [] } x
  door_splits s x d id v at idle two_parts =
      let w : View T B M S = one_fewer v in
      let u : View T B M S = one_part K.nothing v in
      let mid : List (View T B M S) = set s.views id w in
      let after : List (View T B M S) = mid ++ u ∷ [] in
      let off = then_off s.views mid after (set_off s.views id w idle) (pushed_off mid u refl) in
      let serving : ℕ = get_or s.words 1 0 in
      let next : ℕ = get_or s.words 0 0 in
      record {
        words = d.words;
        homes = d.homes;
        order = d.order;
        served = d.served;
        front = d.front;
        all_parts = omega (arith, sum_by_push parts_of mid u, sum_set parts_of s.views id v w at, d.all_parts);
        bounded = omega (arith, d.bounded, sum_by_push spent_parts mid u, sum_set spent_parts s.views id v w at, spent_cut v.spent v.knows.parts two_parts);
        each = λ j y e. ⊎_elim
            (λ (p : get_elem? mid j ≡ some y). each_set (λ _ z. Fits K serving next x z) s.views id w (record { stage = fits_idle serving next x v.stage idle; used_up = λ _. idle; spent = (d.each id v at).spent }) (λ i z _ f. d.each i z f) j y p)
            (λ (p : (j ≡ length mid) × (u ≡ y)). subst (Fits K serving next x) p.1 (record { stage = tt; used_up = λ _. refl; spent = (d.each id v at).spent }))
            (at_end mid u y j e);
        apart = idle_apart s.views after d.apart off;
        placed = placed_idle s x after off (λ i y e holds. at_longer mid (u ∷ []) i y (set_else s.views id i w (turn_apart s.views i id y v e holds at idle) ∙ e)) d.placed;
        first = d.first;
        drawn = λ t a b. omega (arith, d.drawn t a b, sum_by_push turns_in mid u, same_sum turns_in s.views id v w at refl);
        counts = λ j y e. ⊎_elim
            (λ (p : get_elem? mid j ≡ some y). each_set (λ _ z. Counts d.first z) s.views id w (record { first = λ _. (d.counts id v at).first (omega arith); gone = λ e. absurd (omega arith) }) (λ i z _ f. d.counts i z f) j y p)
            (λ (p : (j ≡ length mid) × (u ≡ y)). subst (Counts d.first) p.1 (record { first = λ _. (d.counts id v at).first (omega arith); gone = λ _. refl }))
            (at_end mid u y j e);
      }

  pub splits : (id : ℕ) (v : View T B M S) → v.stage ≡ Idle → v.knows.named ≡ true → 1 < v.knows.parts → Splits Rule id v (one_fewer v) (one_part K.nothing v)
  splits id v idle named two_parts s r at =
      let w : View T B M S = one_fewer v in
      let u : View T B M S = one_part K.nothing v in
      let known = known_splits K r.value r.marks_of (knowledge s.views) r.known id v.knows (at_map (λ (z : View T B M S). z.knows) s.views id v at) two_parts named in
      let is : knowledge (set s.views id w ++ u ∷ []) ≡ set (knowledge s.views) id w.knows ++ u.knows ∷ [] = map-append (λ (z : View T B M S). z.knows) (set s.views id w) (u ∷ []) ∙ ap (λ (l : List (Knows B M S)). l ++ u.knows ∷ []) (map_set (λ (z : View T B M S). z.knows) s.views id w) in
      record { value = r.value; marks_of = r.marks_of; door = door_splits s r.value r.door id v at idle two_parts; known = subst (Known K r.value r.marks_of) (sym is) known }

  -- a view learns, and stays as it is for the door
  door_learns : (s : St) (x : T) (d : Door K s x) (id : ℕ) (v : View T B M S) (k : Knows B M S) → get_elem? s.views id ≡ some v → v.stage ≡ Idle → k.parts ≡ v.knows.parts → k.ended ≡ v.knows.ended
      → Door K record { words = s.words; homes = s.homes; views = set s.views id (record v { knows = k }) } x
  door_learns s x d id v k at idle parts ended =
      let w : View T B M S = record v { knows = k } in
      let turns : turns_in w ≡ turns_in v = ap (λ (es : List (Ended M)). v.turns + turns_of_ended es) ended in
      let off = set_off s.views id w idle in
      record {
        words = d.words;
        homes = d.homes;
        order = d.order;
        served = d.served;
        front = d.front;
        all_parts = same_sum parts_of s.views id v w at parts ∙ d.all_parts;
        bounded = omega (arith, d.bounded, same_sum spent_parts s.views id v w at (ap (λ (p : ℕ). cond v.spent p 0) parts));
        each = each_set (λ _ z. Fits K (get_or s.words 1 0) (get_or s.words 0 0) x z) s.views id w (record { stage = (d.each id v at).stage; used_up = λ _. idle; spent = (d.each id v at).spent }) (λ i z _ f. d.each i z f);
        apart = idle_apart s.views (set s.views id w) d.apart off;
        placed = placed_idle s x (set s.views id w) off (λ i y e holds. set_else s.views id i w (turn_apart s.views i id y v e holds at idle) ∙ e) d.placed;
        first = d.first;
        drawn = λ t a b. omega (arith, d.drawn t a b, same_sum turns_in s.views id v w at turns);
        counts = each_set (λ _ z. Counts d.first z) s.views id w (counts_same d.first v w refl parts turns (d.counts id v at)) (λ i z _ f. d.counts i z f);
      }

  -- a new pass learns its number
  pub names : (slots id : ℕ) (me : Mine) → me.0.stage ≡ Idle → me.0.knows.named ≡ false → me.0.knows.mine ≡ [] → 0 < me.0.knows.parts → Allows Rule slots id me 0 (λ n. n) (is_named K (step slots 0 0 0 none) me)
  names slots id me idle unnamed nothing some_parts s r homes at small_word =
      let v : View T B M S = me.0 in
      let k : Knows B M S = record v.knows { named = true; number = id } in
      let w : View T B M S = record v { knows = k } in
      let there = at_map (λ (z : View T B M S). z.knows) s.views id v at in
      let known = known_named K r.value r.marks_of (knowledge s.views) r.known id v.knows there some_parts in
      let ruled : Rule record { words = s.words; homes = s.homes; views = set s.views id w } = record { value = r.value; marks_of = r.marks_of; door = door_learns s r.value r.door id v k at idle refl refl; known = subst (Known K r.value r.marks_of) (sym (map_set (λ (z : View T B M S). z.knows) s.views id w)) known } in
      (w, acts.keeps, tt, subst (λ (ws : List ℕ). Rule record { words = ws; homes = s.homes; views = set s.views id w }) (sym (set-get_or s.words 0 0)) ruled, (id, new_number K r.value r.marks_of (knowledge s.views) r.known id v.knows there some_parts unnamed nothing, refl))

  -- a pass learns what it met
  pub tells : (slots id : ℕ) (me : Mine) → 0 < me.0.knows.parts → Allows Rule slots id me 0 (λ n. n) (meets K (step slots 0 0 0 none) me)
  tells slots id me some_parts s r homes at small_word =
      let there = at_map (λ (z : View T B M S). z.knows) s.views id me.0 at in
      let mine = r.known.each id me.0.knows there some_parts in
      let told : Meets K me.0 = record { one = mine.met.0; other = mine.met.1; rests = known_rests K r.value r.marks_of (knowledge s.views) r.known id me.0.knows there some_parts } in
      (me.0, acts.keeps, tt, subst (λ (z : List ℕ × List (View T B M S)). Rule record { words = z.0; homes = s.homes; views = z.1 }) (λ i. (sym (set-get_or s.words 0 0) i, sym (set_again s.views id me.0 at) i)) r, (refl, told))

  door_joins : (s : St) (x : T) (d : Door K s x) (id other : ℕ) (v u : View T B M S) → get_elem? s.views id ≡ some v → get_elem? s.views other ≡ some u → other ≢ id → v.stage ≡ Idle → u.stage ≡ Idle → 0 < v.knows.parts
      → Door K record { words = s.words; homes = s.homes; views = set (set s.views id (together v u)) other (used_up K) } x
  door_joins s x d id other v u at there apart idle idle' some_parts =
      let both : View T B M S = together v u in
      let gone : View T B M S = used_up K in
      let mid : List (View T B M S) = set s.views id both in
      let after : List (View T B M S) = set mid other gone in
      let there_mid : get_elem? mid other ≡ some u = set_else s.views id other both apart ∙ there in
      let off = then_off s.views mid after (set_off s.views id both idle) (set_off mid other gone refl) in
      let serving : ℕ = get_or s.words 1 0 in
      let next : ℕ = get_or s.words 0 0 in
      record {
        words = d.words;
        homes = d.homes;
        order = d.order;
        served = d.served;
        front = d.front;
        all_parts = omega (arith, sum_set parts_of mid other u gone there_mid, sum_set parts_of s.views id v both at, d.all_parts);
        bounded = omega (arith, d.bounded, sum_set spent_parts mid other u gone there_mid, sum_set spent_parts s.views id v both at, spent_both v.spent u.spent v.knows.parts u.knows.parts);
        each = each_set (λ _ z. Fits K serving next x z) mid other gone (record { stage = tt; used_up = λ _. refl; spent = λ e. absurd cc })
            (λ j y _ e. each_set (λ _ z. Fits K serving next x z) s.views id both (record { stage = fits_idle serving next x v.stage idle; used_up = λ _. idle; spent = either_spent v.spent u.spent next (d.each id v at).spent (d.each other u there).spent }) (λ i z _ f. d.each i z f) j y e);
        apart = idle_apart s.views after d.apart off;
        placed = placed_idle s x after off
            (λ i y e holds. set_else mid other i gone (turn_apart s.views i other y u e holds there idle') ∙ (set_else s.views id i both (turn_apart s.views i id y v e holds at idle) ∙ e))
            d.placed;
        first = d.first;
        drawn = λ t a b. omega (arith, d.drawn t a b, sum_set turns_in mid other u gone there_mid, sum_set turns_in s.views id v both at, both_turns v u);
        counts = each_set (λ _ z. Counts d.first z) mid other gone (record { first = λ p. absurd (omega arith); gone = λ _. refl })
            (λ j y _ e. each_set (λ _ z. Counts d.first z) s.views id both (record { first = λ _. (d.counts id v at).first some_parts; gone = λ e. absurd (omega arith) }) (λ i z _ f. d.counts i z f) j y e);
      }

  pub joins : NoMarkLowers K → (id other : ℕ) (v u : View T B M S) → v.stage ≡ Idle → u.stage ≡ Idle → 0 < v.knows.parts → 0 < u.knows.parts → u.knows.named ≡ true → u.knows.share ≡ K.nothing → Joins Rule id v other u (together v u) (used_up K)
  joins lowers id other v u idle idle' some_parts some_parts' named empty s r at apart there =
      let both : View T B M S = together v u in
      let gone : View T B M S = used_up K in
      let there' : get_elem? s.views other ≡ some u = sym (set_else s.views id other both apart) ∙ there in
      let seat = λ (z : View T B M S). z.knows in
      let known = known_joins K lowers r.value r.marks_of (knowledge s.views) r.known id other u.turns v.knows u.knows gone.knows (at_map seat s.views id v at) (at_map seat s.views other u there') apart some_parts some_parts' named empty refl in
      let is : knowledge (set (set s.views id both) other gone) ≡ set (set (knowledge s.views) id both.knows) other gone.knows = map_set seat (set s.views id both) other gone ∙ ap (λ (l : List (Knows B M S)). set l other gone.knows) (map_set seat s.views id both) in
      record { value = r.value; marks_of = r.marks_of; door = door_joins s r.value r.door id other v u at there' apart idle idle' some_parts; known = subst (Known K r.value r.marks_of) (sym is) known }

  -- the seat that was just cut off
  pub part_names : (slots id : ℕ) (v : View T B M S) (me : Mine) → me ≡ (one_part K.nothing v, []) → Allows Rule slots id me 0 (λ n. n) (is_named K (step slots 0 0 0 none) me)
  part_names slots id v me e = names slots id me
      (ap (λ (m : Mine). m.0.stage) e)
      (ap (λ (m : Mine). m.0.knows.named) e)
      (ap (λ (m : Mine). m.0.knows.mine) e)
      (subst (λ (m : Mine). 0 < m.0.knows.parts) (sym e) (omega arith))

  -- the seat into which another was just put
  pub both_tells : (slots id : ℕ) (v u : View T B M S) (l : List (ℕ × Option T)) (me : Mine) → me ≡ (together v u, l) → 0 < v.knows.parts → Allows Rule slots id me 0 (λ n. n) (meets K (step slots 0 0 0 none) me)
  both_tells slots id v u l me e some_parts = tells slots id me (subst (λ (m : Mine). 0 < m.0.knows.parts) (sym e) (omega arith))
