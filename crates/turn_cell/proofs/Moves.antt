-- Each step keeps the rule.
use Rattle.std.proofs.Common.{◌≡◌, ℕ, ◌+◌, ◌%◌, ◌^◌, ◌<◌, ◌≤◌, Bool, true, false, true≢false, ltb, List, [], ◌∷◌, length, get_or, set, Option, None, Some, refl, sym, ap, ◌∙◌, subst, ⊎_elim, arith, length-set, get_or-set_same, get_or-set_other, eq-eqb, ne_eqb}
use Rattle.std.specs.Prelude.{MatchBool}
use mathlib.Core.Option.{some, none}
use mathlib.Core.Logic.{dite}
use native.Mathlib.Decide.{ℕ_discrete}
use lib.ListN.{get_elem?}
use lib.Seq.{set-get_or}
use Rattle.atomic_table.specs.Table.{State, Me, step, gives, takes, put_back, rest, stepped, opening, Final, Seen, Allows}
use Rattle.atomic_table.specs.Table as acts
use Rattle.atomic_table.proofs.Lists.{set_again}
use Rattle.history_spec.specs.Chapter.{GoesOn, added, tagged}
use Rattle.history_spec.specs.Pass.{AreOf, own}
use Rattle.turn_cell.specs.Meaning.{Meaning, NoMarkLowers, NewBaseKeeps}
use Rattle.turn_cell.specs.declared.view.Stage.{Stage}
use Rattle.turn_cell.specs.declared.view.Stage.TheVariants.{Idle, Waiting, Holding, Published}
use Rattle.turn_cell.specs.declared.view.Knows.{Knows}
use Rattle.turn_cell.specs.declared.view.View.{View}
use Rattle.turn_cell.specs.Known.{Known, own_in}
use Rattle.turn_cell.specs.Rule.{has_turn, knowledge, FitsStage, IsRuled, newcomer}
use Rattle.turn_cell.specs.Steps.{with_stage, drawn, draws, passes_on, Finds, Takes, LooksFrom, looks, knows_after, left_at, publishes, RestsIn}
use Rattle.turn_cell.specs.Passes.{passed, IsIdle, IsTurn, SameShare, KeepsNothing, Closes, Leaves}
use Rattle.turn_cell.proofs.Views.{one_at, map_set, map_set_same, at_map, at_mapped}
use Rattle.turn_cell.proofs.Doors.{drawn_knows, door_draws, at_home, door_takes, waiting_parts, door_publishes, door_passes, door_opens, small, stands_alone, all_drawn}
use Rattle.turn_cell.proofs.Knowledge.{marks_after, first_marks, goes_on_chapter, known_left, known_opens, known_rests, first_rests, known_finds, known_among}

module _ {T B M S : Type 0} (K : Meaning T B M S) where
  abbrev St : Type 0
  St = State (Option T) (View T B M S)

  abbrev Mine : Type 0
  Mine = Me (Option T) (View T B M S)

  abbrev Rule : St → Type 0
  Rule = IsRuled K

  -- a step that changes no knowledge
  same_known : (x : T) (marks_of : ℕ → List (ℕ × M)) (views : List (View T B M S)) (id : ℕ) (v w : View T B M S) → get_elem? views id ≡ some v → w.knows ≡ v.knows → Known K x marks_of (knowledge views) → Known K x marks_of (knowledge (set views id w))
  same_known x marks_of views id v w at e g = subst (Known K x marks_of) (sym (map_set_same (λ (u : View T B M S). u.knows) views id v w at e)) g

  pub draws_moves : (slots id : ℕ) (me : Mine) → me.0.stage ≡ Idle → me.0.spent ≡ false → 0 < me.0.knows.parts → Allows Rule slots id me 0 (λ n. (n + 1) % 2 ^ 64) (draws (step slots 0 1 0 none) me)
  draws_moves slots id me idle fresh some_parts s r homes at small_word =
      let n : ℕ = get_or s.words 0 0 in
      let words : List ℕ = set s.words 0 (n + 1) in
      let w : View T B M S = drawn me.0 n in
      let fits : n + 1 < 2 ^ 64 = small K s r.value r.door in
      let count : (n + 1) % 2 ^ 64 ≡ n + 1 = omega (arith, fits) in
      let door = door_draws K s r.value r.door id me.0 words idle fresh some_parts at (length-set s.words 0 (n + 1))
      (get_or-set_same s.words 0 (n + 1) 0 (omega (arith, r.door.words)))
      (get_or-set_other s.words 0 1 (n + 1) 0 (λ e. omega arith))
      (get_or-set_other s.words 0 2 (n + 1) 0 (λ e. omega arith)) in
      let known = same_known r.value r.marks_of s.views id me.0 w at (drawn_knows (ltb n 4611686018427387904) me.0 n) r.known in
      let P : ℕ → Type 0 = λ m. Rule (stepped s 0 m id me.1 w acts.keeps) in
      (w, acts.keeps, tt, subst P (sym count) (record { value = r.value; marks_of = r.marks_of; door = door; known = known }), (refl, λ reached. all_drawn K s r.value r.door id me.0 at reached))

  pub looks_moves : (slots id : ℕ) (me : Mine) (t : ℕ) → me.0.stage ≡ Waiting t → Allows Rule slots id me 1 (λ n. n) (looks K (step slots 1 0 0 none) me)
  looks_moves slots id me t is s r homes at small_word =
      let n : ℕ = get_or s.words 1 0 in
      let x : T = r.value in
      dite (ℕ_discrete n t)
      (λ served.
      let home = at_home K s x r.door id me.0 t at is served in
      let w : View T B M S = with_stage me.0 (Holding t x) in
      let now : Mine = (w, (0, Some x) ∷ me.1) in
      let some_parts : 0 < me.0.knows.parts = waiting_parts K me.0 t is (r.door.each id me.0 at).used_up in
      let finds : Finds K x t me.0.knows = known_finds K x r.marks_of (knowledge s.views) r.known id me.0.knows (at_map (λ (u : View T B M S). u.knows) s.views id me.0 at) some_parts t home.1 in
      let told : LooksFrom K me n now (Waiting t) = subst (λ (b : Bool). MatchBool b (Takes K t me now) (now ≡ me)) (sym (eq-eqb n t served)) (x, refl, finds) in
      let ruled : Rule record { words = s.words; homes = set s.homes 0 none; views = set s.views id w } = record { value = x; marks_of = r.marks_of; door = door_takes K s x r.door id me.0 t at is served; known = same_known x r.marks_of s.views id me.0 w at refl r.known } in
      (w, takes 0 (Some x), home.0, subst (λ (ws : List ℕ). Rule record { words = ws; homes = set s.homes 0 none; views = set s.views id w }) (sym (set-get_or s.words 1 0)) ruled, subst (LooksFrom K me n now) (sym is) told))
      (λ other.
      let told : LooksFrom K me n me (Waiting t) = subst (λ (b : Bool). MatchBool b (Takes K t me me) (me ≡ me)) (sym (ne_eqb n t other)) refl in
      (me.0, acts.keeps, tt, subst (λ (z : List ℕ × List (View T B M S)). Rule record { words = z.0; homes = s.homes; views = z.1 }) (λ i. (sym (set-get_or s.words 1 0) i, sym (set_again s.views id me.0 at) i)) r, subst (LooksFrom K me n me) (sym is) told))

  carried_or : T → List (ℕ × Option T) → T
  carried_or d [] = d
  carried_or d (x ∷ xs) = elim x.1 as (λ _. T) [ None ↦ d | Some y ↦ y ]

  -- publishing what a turn leaves
  pub publishes_moves : NoMarkLowers K → NewBaseKeeps K → (slots id : ℕ) (me : Mine) (t : ℕ) (found left : T) (m : ℕ) → me.0.stage ≡ Holding t found → me.1 ≡ (0, Some left) ∷ [] → 0 < me.0.knows.parts → me.0.knows.named ≡ true
      → GoesOn (K.next_base found) (K.history found) (K.history left) → AreOf K.whose me.0.knows.number (added (K.history found) (K.history left)) → SameShare K me.0.knows.number found left → m ≡ length (K.history left).marks
      → Allows Rule slots id me 2 (λ _. m) (λ _. publishes K (step slots 2 m 0 none) me m)
  unfolding carried_or
  publishes_moves lowers keeps slots id me t found left m is carried some_parts named goes are others count s r homes at small_word =
      let x : T = r.value in
      let v : View T B M S = me.0 in
      let f : FitsStage K (get_or s.words 1 0) (get_or s.words 0 0) x (Holding t found) = subst (FitsStage K (get_or s.words 1 0) (get_or s.words 0 0) x) is (r.door.each id v at).stage in
      let same : found ≡ x = f.2 in
      let is' : v.stage ≡ Holding t x = is ∙ ap (Holding t) same in
      let goes' : GoesOn (K.next_base x) (K.history x) (K.history left) = subst (λ (y : T). GoesOn (K.next_base y) (K.history y) (K.history left)) same goes in
      let are' : AreOf K.whose v.knows.number (added (K.history x) (K.history left)) = subst (λ (y : T). AreOf K.whose v.knows.number (added (K.history y) (K.history left))) same are in
      let others' : SameShare K v.knows.number x left = subst (λ (y : T). SameShare K v.knows.number y left) same others in
      let k : Knows B M S = knows_after K x left v.knows in
      let w : View T B M S = record v { stage = Published t left; knows = k } in
      let words : List ℕ = set s.words 2 m in
      let door = door_publishes K s x left r.door id v t k words at is' refl refl some_parts (goes_on_chapter K x left goes').1 (length-set s.words 2 m)
      (get_or-set_other s.words 2 0 m 0 (λ e. omega arith))
      (get_or-set_other s.words 2 1 m 0 (λ e. omega arith))
      (get_or-set_same s.words 2 m 0 (omega (arith, r.door.words)) ∙ count) in
      let marks : ℕ → List (ℕ × M) = marks_after r.marks_of id (tagged (K.history left).chapter (own K.whose v.knows.number (added (K.history x) (K.history left)))) in
      let known : Known K left marks (knowledge (set s.views id w)) = subst (Known K left marks) (sym (map_set (λ (u : View T B M S). u.knows) s.views id w))
      (known_left K lowers keeps x left r.marks_of (knowledge s.views) r.known id v.knows (at_map (λ (u : View T B M S). u.knows) s.views id v at) some_parts named goes' are' others') in
      let as_left : w ≡ left_at K v.stage v left = ap (λ (st : Stage T). left_at K st v left) (sym is') in (
        w,
        acts.keeps,
        tt,
        record { value = left; marks_of = marks; door = door; known = known },
        λ (other : T) (e : me.1 ≡ (0, Some other) ∷ []). let alike : left ≡ other = ap (carried_or left) (sym carried ∙ e) in λ i. ((as_left ∙ ap (left_at K v.stage v) alike) i, me.1),
      )

  pub passes_moves : (slots id : ℕ) (me : Mine) (t : ℕ) (left : T) → me.0.stage ≡ Published t left → me.1 ≡ (0, Some left) ∷ [] → 0 < me.0.knows.parts → Allows Rule slots id me 1 (λ n. (n + 1) % 2 ^ 64) (passes_on K (step slots 1 1 0 none) me)
  passes_moves slots id me t left is carried some_parts s r homes at small_word =
      let n : ℕ = get_or s.words 1 0 in
      let v : View T B M S = me.0 in
      let x : T = r.value in
      let w : View T B M S = with_stage v Idle in
      let f : FitsStage K n (get_or s.words 0 0) x (Published t left) = subst (FitsStage K n (get_or s.words 0 0) x) is (r.door.each id v at).stage in
      let same : left ≡ x = f.2 in
      let words : List ℕ = set s.words 1 (n + 1) in
      let count : (n + 1) % 2 ^ 64 ≡ n + 1 = omega (arith, r.door.served) in
      let door = door_passes K s x r.door id v t words at (is ∙ ap (Published t) same) (length-set s.words 1 (n + 1))
      (get_or-set_other s.words 1 0 (n + 1) 0 (λ e. omega arith))
      (get_or-set_same s.words 1 (n + 1) 0 (omega (arith, r.door.words)))
      (get_or-set_other s.words 1 2 (n + 1) 0 (λ e. omega arith)) in
      let ruled : Rule record { words = words; homes = set s.homes 0 (some (Some x)); views = set s.views id w } = record { value = x; marks_of = r.marks_of; door = door; known = same_known x r.marks_of s.views id v w at refl r.known } in
      let Goal : List (ℕ × Option T) → Type 0 = λ c. Rule record { words = words; homes = put_back s.homes c; views = set s.views id w } in
      let P : ℕ → Type 0 = λ m. Rule (stepped s 1 m id me.1 w gives) in
      (w, gives, tt, subst P (sym count) (subst Goal (sym (carried ∙ ap (λ (y : T). (0, Some y) ∷ []) same)) ruled), (refl, known_rests K x r.marks_of (knowledge s.views) r.known id v.knows (at_map (λ (u : View T B M S). u.knows) s.views id v at) some_parts))

  pub opens : (first : ℕ) (x : T) → first ≤ 4611686018427387904 → (K.history x).chapter ≤ first → AreOf K.whose 0 (K.history x).marks → KeepsNothing K x → Rule (opening (first ∷ first ∷ length (K.history x).marks ∷ []) (Some x ∷ []) (newcomer K x first))
  opens first x le chapter are nothing = record {
    value = x;
    marks_of = first_marks (tagged (K.history x).chapter (own_in K 0 (K.history x)));
    door = door_opens K first x le chapter;
    known = known_opens K x (newcomer K x first).knows are nothing refl;
  }

  -- the first pass is between turns
  pub first_idle : (first : ℕ) (x : T) (me : Mine) → AreOf K.whose 0 (K.history x).marks → me ≡ (newcomer K x first, []) → IsIdle me false × RestsIn K me.0
  first_idle first x me are e = subst (λ (z : Mine). IsIdle z false × RestsIn K z.0) (sym e) (record { stage = refl; slot = refl; parts = omega arith; named = refl; spent = refl }, first_rests K x are)

  some_parts_not_none : (p : ℕ) → 0 < p → p ≡ 0 → ⊥
  some_parts_not_none p l e = omega arith

  -- at the end
  pub closes : (cell : _) (id : ℕ) (v : View T B M S) (ws : List ℕ) (xs : List (Option T)) → v.stage ≡ Idle → v.knows.named ≡ true → v.knows.parts ≡ 4611686018427387904 → Final (Seen Rule id v) ws xs → (value : T) × (get_elem? xs 0 ≡ some (Some value)) × Closes K (passed cell v) value
  closes cell id v ws xs idle named all (s, seen, words, length, here) =
      let r = seen.0 in
      let at = seen.1 in
      let x : T = r.value in
      let some_parts : 0 < v.knows.parts = omega (arith, all) in
      let there = at_map (λ (u : View T B M S). u.knows) s.views id v at in
      let alone : (j : ℕ) (u : Knows B M S) → get_elem? (knowledge s.views) j ≡ some u → 0 < u.parts → j ≡ id = λ j u e parts. dite (ℕ_discrete j id) (λ same. same)
      (λ other. let o = at_mapped (λ (y : View T B M S). y.knows) s.views j u e in absurd (some_parts_not_none u.parts parts (ap (λ (y : Knows B M S). y.parts) (sym o.2) ∙ stands_alone K s x r.door id v all at j o.0 o.1 other))) in
      ⊎_elim
      (λ home.
      let finds = known_finds K x r.marks_of (knowledge s.views) r.known id v.knows there some_parts _ home.1 in
      (x, here 0 (Some x) home.0, record { seen = finds.seen; mine = finds.mine named; share = finds.share named; ended = finds.ended; apart = finds.apart named; all = known_among K x r.marks_of (knowledge s.views) r.known id v.knows there some_parts named alone }))
      (λ out. absurd (nobody_else s r id v out.0 out.1 idle all at out.2 out.3))
      r.door.placed
    where
      nobody_else : (s : St) (r : Rule s) (id : ℕ) (v : View T B M S) (i : ℕ) (u : View T B M S) → v.stage ≡ Idle → v.knows.parts ≡ 4611686018427387904 → get_elem? s.views id ≡ some v → get_elem? s.views i ≡ some u → has_turn u.stage ≡ true → ⊥
      nobody_else s r id v i u idle all at e holds = dite (ℕ_discrete i id)
          (λ same. true≢false (sym holds ∙ (ap (λ (z : View T B M S). has_turn z.stage) (one_at s.views i id u v e at same) ∙ ap has_turn idle)))
          (λ other. true≢false (sym holds ∙ ap has_turn ((r.door.each i u e).used_up (stands_alone K s r.value r.door id v all at i u e other))))

  -- the seat that put the value back into the slot, in the turn that may leave it
  pub put_back-publishes : NoMarkLowers K → NewBaseKeeps K → (slots id : ℕ) (before me : Mine) (left : T) (m : ℕ) → me ≡ (before.0, (0, Some left) ∷ rest before.1) → Leaves K before left → m ≡ length (K.history left).marks
      → Allows Rule slots id me 2 (λ _. m) (λ _. publishes K (step slots 2 m 0 none) me m)
  put_back-publishes lowers keeps slots id before me left m e turn count =
      let view : me.0 ≡ before.0 = ap (λ (z : Mine). z.0) e in
      let carried : me.1 ≡ (0, Some left) ∷ [] = ap (λ (z : Mine). z.1) e ∙ ap (λ (l : List (ℕ × Option T)). (0, Some left) ∷ rest l) turn.turn.slot in
      let number : me.0.knows.number ≡ before.0.knows.number = ap (λ (v : View T B M S). v.knows.number) view in
      publishes_moves lowers keeps slots id me turn.turn.ticket turn.turn.found left m
      (ap (λ (v : View T B M S). v.stage) view ∙ turn.turn.stage)
      carried
      (subst (λ (v : View T B M S). 0 < v.knows.parts) (sym view) turn.turn.parts)
      (ap (λ (v : View T B M S). v.knows.named) view ∙ turn.turn.named)
      turn.goes_on
      (subst (λ (n : ℕ). AreOf K.whose n (added (K.history turn.turn.found) (K.history left))) (sym number) turn.marks)
      (subst (λ (n : ℕ). SameShare K n turn.turn.found left) (sym number) turn.others)
      count

  -- what it then is
  pub published_as : (before me now : Mine) (left : T) (m : ℕ) → me ≡ (before.0, (0, Some left) ∷ rest before.1) → IsTurn before → publishes K (step 1 2 m 0 none) me m now
      → now ≡ (left_at K before.0.stage before.0 left, (0, Some left) ∷ [])
  published_as before me now left m e turn told =
      let carried : me.1 ≡ (0, Some left) ∷ [] = ap (λ (z : Mine). z.1) e ∙ ap (λ (l : List (ℕ × Option T)). (0, Some left) ∷ rest l) turn.slot in
      told left carried ∙ (λ i. (ap (λ (v : View T B M S). left_at K v.stage v left) (ap (λ (z : Mine). z.0) e) i, carried i))

  left_parts : (st : Stage T) (v : View T B M S) (left : T) → 0 < v.knows.parts → 0 < (left_at K st v left).knows.parts
  left_parts Idle v left p = p
  left_parts (Waiting t) v left p = p
  left_parts (Holding t x) v left p = p
  left_parts (Published t x) v left p = p

  left_named : (st : Stage T) (v : View T B M S) (left : T) → (left_at K st v left).knows.named ≡ v.knows.named
  left_named Idle v left = refl
  left_named (Waiting t) v left = refl
  left_named (Holding t x) v left = refl
  left_named (Published t x) v left = refl

  -- what it knows once it has
  pub passed-rests : (n : ℕ) (before me now : Mine) (left : T) → me ≡ (left_at K before.0.stage before.0 left, (0, Some left) ∷ []) → IsTurn before → passes_on K (step 1 1 1 0 none) me n now → RestsIn K now.0
  passed-rests n before me now left e turn told =
      let named : me.0.knows.named ≡ true = ap (λ (z : Mine). z.0.knows.named) e ∙ (left_named before.0.stage before.0 left ∙ turn.named) in
      subst (λ (z : Mine). RestsIn K z.0) (sym told.0) (told.1 named)

  -- so it may pass the turn on
  pub published-passes : (slots id : ℕ) (before me : Mine) (left : T) → me ≡ (left_at K before.0.stage before.0 left, (0, Some left) ∷ []) → IsTurn before → Allows Rule slots id me 1 (λ n. (n + 1) % 2 ^ 64) (passes_on K (step slots 1 1 0 none) me)
  published-passes slots id before me left e turn =
      passes_moves slots id me turn.ticket left
      (ap (λ (z : Mine). z.0.stage) e ∙ ap (λ (st : Stage T). (left_at K st before.0 left).stage) turn.stage)
      (ap (λ (z : Mine). z.1) e)
      (subst (λ (v : View T B M S). 0 < v.knows.parts) (sym (ap (λ (z : Mine). z.0) e)) (left_parts before.0.stage before.0 left turn.parts))

  pub has_slot : (l : List (ℕ × Option T)) (now : Mine) (w : View T B M S) (value : T) → now ≡ (w, (0, Some value) ∷ l) → (x : Option T) × (now.1 ≡ (0, x) ∷ rest now.1)
  has_slot l now w value e = let p : now.1 ≡ (0, Some value) ∷ l = ap (λ (m : Mine). m.1) e in (Some value, p ∙ ap (λ (k : List (ℕ × Option T)). (0, Some value) ∷ rest k) (sym p))
