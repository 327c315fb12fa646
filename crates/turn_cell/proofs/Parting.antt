-- The rule's second half where a pass is cut in two, and where two are put together.
use Rattle.std.proofs.Common.{◌≡◌, ◌⊎◌, ℕ, ◌+◌, ◌-◌, ◌<◌, ◌≤◌, Bool, true, false, List, [], ◌∷◌, ◌++◌, length, set, refl, sym, ap, ◌∙◌, subst, ⊎_elim, inl, arith, length-set, length-append}
use Rattle.std.proofs.lemmas.Bool.{cases_lt}
use mathlib.Core.Option.{some}
use mathlib.Core.Logic.{dite}
use native.Mathlib.Decide.{ℕ_discrete}
use lib.ListN.{get_elem?}
use Rattle.atomic_table.proofs.Lists.{at_longer, at_last, set_else, set_here}
use Rattle.history_spec.specs.declared.history.History.{History}
use Rattle.history_spec.specs.declared.history.Ended.{Ended}
use Rattle.history_spec.specs.Front.{longer_history}
use Rattle.history_spec.specs.Begins.{IsPrefix, SameChapter, LaterChapter}
use Rattle.history_spec.specs.Chapter.{in_chapter}
use Rattle.history_spec.proofs.Beginnings.{prefix_whole, begins_itself}
use Rattle.history_spec.proofs.Marks.{own-append}
use Rattle.turn_cell.specs.Meaning.{Meaning}
use Rattle.turn_cell.specs.declared.view.Knows.{Knows}
use Rattle.turn_cell.specs.Known.{IsBegun, own_in, HasMarks, IsAmong, AllEnded, Knowing, Known}
use Rattle.turn_cell.specs.Steps.{IsNew}
use Rattle.turn_cell.proofs.Views.{each_set, at_end, at_length, one_at}
use Rattle.turn_cell.proofs.Knowledge.{ended_moved, living_apart, same_ended, named_number, stands_same}

module _ {B M S : Type 0} where
  -- the view that keeps the rest
  abbrev pub rest_of : Knows B M S → Knows B M S
  rest_of k = record k { parts = k.parts - 1 }

  abbrev pub cut_off : S → Knows B M S → Knows B M S
  cut_off nothing k = record { named = false; number = k.number; parts = 1; seen = k.seen; met = (k.seen, k.seen); mine = []; held = k.seen; share = nothing; ended = []; older = k.ended }

  abbrev pub named_as : ℕ → Knows B M S → Knows B M S
  named_as n k = record k { named = true; number = n }

  abbrev pub both_of : ℕ → Knows B M S → Knows B M S → Knows B M S
  both_of turns a b = record a {
    parts = a.parts + b.parts;
    seen = longer_history a.seen b.seen;
    met = (a.seen, b.seen);
    ended = a.ended ++ record { number = b.number; turns = turns; mine = b.mine } ∷ b.ended;
  }

module _ {T B M S : Type 0} (K : Meaning T B M S) where
  pub ended_append : (value : T) (marks_of : ℕ → List (ℕ × M)) (all : List (Knows B M S)) (xs ys : List (Ended M)) → AllEnded K value marks_of all xs → AllEnded K value marks_of all ys → AllEnded K value marks_of all (xs ++ ys)
  ended_append value marks_of all [] ys p q = q
  ended_append value marks_of all (x ∷ xs) ys p q = (p.0, ended_append value marks_of all xs ys p.1 q)

  -- ended numbers stay so in another list of views
  pub ended_there : (value : T) (marks_of : ℕ → List (ℕ × M)) (all after : List (Knows B M S)) → length all ≤ length after → ((n : ℕ) → n < length all → ((u : Knows B M S) → get_elem? all n ≡ some u → u.parts ≡ 0) → (u : Knows B M S) → get_elem? after n ≡ some u → u.parts ≡ 0)
      → (es : List (Ended M)) → AllEnded K value marks_of all es → AllEnded K value marks_of after es
  ended_there value marks_of all after long kept = ended_moved K value value marks_of marks_of all after long (λ n l gone. (refl, refl, kept n l gone))

  pub still_ended : (all : List (Knows B M S)) (id : ℕ) (k w : Knows B M S) → get_elem? all id ≡ some k → 0 < k.parts → (n : ℕ) → ((u : Knows B M S) → get_elem? all n ≡ some u → u.parts ≡ 0) → (u : Knows B M S) → get_elem? (set all id w) n ≡ some u → u.parts ≡ 0
  still_ended all id k w at some_parts n gone u there = gone u (sym (set_else all id n w (living_apart K all id n k at some_parts gone)) ∙ there)

  -- the marks that a number had are those that it has in what it learns
  pub own_further : (i : ℕ) (mine : List (ℕ × M)) (a b : History B M) → IsBegun K a b → HasMarks K i mine a → ((c : ℕ) → a.chapter < c → in_chapter c mine ≡ []) → IsPrefix (own_in K i b) (in_chapter b.chapter mine) → HasMarks K i mine b
  own_further i mine a b p has later within = ⊎_elim
      (λ (x : SameChapter a b).
      let cut : own_in K i b ≡ own_in K i a ++ _ = ap (λ (ms : List M). Rattle.history_spec.specs.Pass.own K.whose i ms) (sym x.marks.1) ∙ own-append K.whose i a.marks x.marks.0 in
      let there : in_chapter b.chapter mine ≡ own_in K i a = ap (λ (c : ℕ). in_chapter c mine) (sym x.chapter) ∙ sym has in
      prefix_whole (own_in K i b) (in_chapter b.chapter mine) within (omega (arith, ap (λ (l : List M). length l) cut, length-append (own_in K i a) (Rattle.history_spec.specs.Pass.own K.whose i x.marks.0), ap (λ (l : List M). length l) there)))
      (λ (x : LaterChapter K.rising a b).
      let none : in_chapter b.chapter mine ≡ [] = later b.chapter x.chapter in
      prefix_whole (own_in K i b) (in_chapter b.chapter mine) within (subst (λ (l : List M). length l ≤ length (own_in K i b)) (sym none) (omega arith)))
      p

  among_made : (value : T) (marks_of : ℕ → List (ℕ × M)) (all : List (Knows B M S)) (n : ℕ) (es : List (Ended M)) → AllEnded K value marks_of all es → IsAmong n es → n < length all
  among_made value marks_of all n [] h m = absurd m
  among_made value marks_of all n (e ∷ es) h m = ⊎_elim (λ (is : e.number ≡ n). subst (λ (i : ℕ). i < length all) is h.0.made) (λ (o : IsAmong n es). among_made value marks_of all n es h.1 o) m

  -- a part is cut off
  pub known_splits : (value : T) (marks_of : ℕ → List (ℕ × M)) (all : List (Knows B M S)) → Known K value marks_of all → (id : ℕ) (k : Knows B M S) → get_elem? all id ≡ some k → 1 < k.parts → k.named ≡ true
      → Known K value marks_of (set all id (rest_of k) ++ cut_off K.nothing k ∷ [])
  known_splits value marks_of all g id k at two_parts named =
      let w : Knows B M S = rest_of k in
      let u : Knows B M S = cut_off K.nothing k in
      let mid : List (Knows B M S) = set all id w in
      let after : List (Knows B M S) = mid ++ u ∷ [] in
      let some_parts : 0 < k.parts = omega arith in
      let long : length mid ≡ length all = length-set all id w in
      let longer_by_one : length after ≡ length all + 1 = omega (arith, length-append mid (u ∷ []), long) in
      let mine = g.each id k at some_parts in
      let is : k.number ≡ id = named_number K k.named k.number id named mine.number in
      let new = g.unmade (length all) (omega arith) in
      let none_yet : own_in K (length all) k.seen ≡ [] = prefix_whole (own_in K (length all) k.seen) [] (subst (λ (l : List (ℕ × M)). IsPrefix (own_in K (length all) k.seen) (in_chapter k.seen.chapter l)) new.0 (mine.others (length all))) (omega arith) in
      let ended : (es : List (Ended M)) → AllEnded K value marks_of all es → AllEnded K value marks_of after es = ended_there value marks_of all after (omega arith)
      (λ n l gone x there. ⊎_elim (λ (e : get_elem? mid n ≡ some x). still_ended all id k w at some_parts n gone x e) (λ (e : (n ≡ length mid) × (u ≡ x)). absurd (omega (arith, e.0, long))) (at_end mid u x n there)) in
      -- what was at a place before
      let before : (i : ℕ) (a : Knows B M S) → get_elem? mid i ≡ some a → 0 < a.parts → (b : Knows B M S) × (get_elem? all i ≡ some b) × (0 < b.parts) × (a.seen ≡ b.seen) × (a.ended ≡ b.ended) =
      each_set (λ i a. 0 < a.parts → (b : Knows B M S) × (get_elem? all i ≡ some b) × (0 < b.parts) × (a.seen ≡ b.seen) × (a.ended ≡ b.ended)) all id w (λ _. (k, at, some_parts, refl, refl)) (λ j a ne e p. (a, e, p, refl, refl)) in
      -- each view that saw something, and who had seen it before
      let seer : (i : ℕ) (a : Knows B M S) → get_elem? after i ≡ some a → 0 < a.parts → (j : ℕ) × (b : Knows B M S) × (get_elem? all j ≡ some b) × (0 < b.parts) × (a.seen ≡ b.seen) = λ i a e p. ⊎_elim
      (λ (x : get_elem? mid i ≡ some a). let b = before i a x p in (i, b.0, b.1, b.2, b.3))
      (λ (x : (i ≡ length mid) × (u ≡ a)). (id, k, at, some_parts, ap (λ (z : Knows B M S). z.seen) (sym x.1)))
      (at_end mid u a i e) in
      record {
        each = λ j x e parts. ⊎_elim
            (λ (there : get_elem? mid j ≡ some x). each_set (λ j x. 0 < x.parts → Knowing K value marks_of after j x) all id w
            (λ _. record { seen = mine.seen; held = mine.held; met = mine.met; number = mine.number; mine = mine.mine; share = mine.share; own = mine.own; later = mine.later; others = mine.others; ended = ended k.ended mine.ended; once = mine.once; older = mine.older })
            (λ i y _ f p. let theirs = g.each i y f p in record { seen = theirs.seen; held = theirs.held; met = theirs.met; number = theirs.number; mine = theirs.mine; share = theirs.share; own = theirs.own; later = theirs.later; others = theirs.others; ended = ended y.ended theirs.ended; once = theirs.once; older = theirs.older })
            j x there parts)
            (λ (there : (j ≡ length mid) × (u ≡ x)). subst (λ (z : ℕ × Knows B M S). Knowing K value marks_of after z.0 z.1) (λ n. (sym (there.0 ∙ long) n, there.1 n)) (record {
              seen = mine.seen;
              held = begins_itself K.rising k.seen;
              met = (begins_itself K.rising k.seen, begins_itself K.rising k.seen);
              number = omega (arith, is, at_length all id k at);
              mine = sym new.0;
              share = new.1;
              own = none_yet;
              later = λ c l. refl;
              others = mine.others;
              ended = tt;
              once = tt;
              older = λ n m. omega (arith, long, among_made value marks_of all n k.ended mine.ended m);
            }))
            (at_end mid u x j e);
        one_history = λ i j a b e f p q. let x = seer i a e p in let y = seer j b f q in subst (λ (z : History B M × History B M). IsBegun K z.0 z.1 ⊎ IsBegun K z.1 z.0) (λ n. (sym x.4 n, sym y.4 n)) (g.one_history x.0 y.0 x.1 y.1 x.2 y.2 x.3 y.3);
        joined_once = λ i j a b n e f p q x y. ⊎_elim
            (λ (there : get_elem? mid i ≡ some a). ⊎_elim
            (λ (there' : get_elem? mid j ≡ some b). let c = before i a there p in let d = before j b there' q in g.joined_once i j c.0 d.0 n c.1 d.1 c.2 d.2 (subst (IsAmong n) c.4 x) (subst (IsAmong n) d.4 y))
            (λ (there' : (j ≡ length mid) × (u ≡ b)). absurd (subst (λ (z : Knows B M S). IsAmong n z.ended) (sym there'.1) y))
            (at_end mid u b j f))
            (λ (there : (i ≡ length mid) × (u ≡ a)). absurd (subst (λ (z : Knows B M S). IsAmong n z.ended) (sym there.1) x))
            (at_end mid u a i e);
        whole = g.whole;
        no_later = g.no_later;
        unmade = λ i le. g.unmade i (omega (arith, longer_by_one));
        made = λ i l. ⊎_elim
            (λ (old : i < length all). let m = g.made i old in dite (ℕ_discrete m.0 id)
            (λ same. (id, w, at_longer mid (u ∷ []) id w (set_here all id w (at_length all id k at)), omega arith, stands_same K k m.1 m.0 id i same (one_at all m.0 id m.1 k m.2 at same) m.4))
            (λ other. (m.0, m.1, at_longer mid (u ∷ []) m.0 m.1 (set_else all id m.0 w other ∙ m.2), m.3, m.4)))
            (λ (le : length all ≤ i). (length mid, u, at_last mid u (length mid) refl, omega arith, inl (omega (arith, long, longer_by_one))))
            (cases_lt i (length all));
      }

  -- a new view takes the number of its place, which is later than that of the view it was cut off
  pub known_named : (value : T) (marks_of : ℕ → List (ℕ × M)) (all : List (Knows B M S)) → Known K value marks_of all → (id : ℕ) (k : Knows B M S) → get_elem? all id ≡ some k → 0 < k.parts
      → Known K value marks_of (set all id (named_as id k))
  known_named value marks_of all g id k at some_parts =
      let w : Knows B M S = named_as id k in
      let mine = g.each id k at some_parts in
      let long : length (set all id w) ≡ length all = length-set all id w in
      let ended : (es : List (Ended M)) → AllEnded K value marks_of all es → AllEnded K value marks_of (set all id w) es = ended_there value marks_of all (set all id w) (omega arith) (λ n l gone. still_ended all id k w at some_parts n gone) in
      let seer : (i : ℕ) (a : Knows B M S) → get_elem? (set all id w) i ≡ some a → 0 < a.parts → (b : Knows B M S) × (get_elem? all i ≡ some b) × (0 < b.parts) × (a.seen ≡ b.seen) =
      each_set (λ i a. 0 < a.parts → (b : Knows B M S) × (get_elem? all i ≡ some b) × (0 < b.parts) × (a.seen ≡ b.seen)) all id w (λ _. (k, at, some_parts, refl)) (λ j a ne e p. (a, e, p, refl)) in
      record {
        each = each_set (λ j x. 0 < x.parts → Knowing K value marks_of (set all id w) j x) all id w
            (λ _. record { seen = mine.seen; held = mine.held; met = mine.met; number = refl; mine = mine.mine; share = mine.share; own = mine.own; later = mine.later; others = mine.others; ended = ended k.ended mine.ended; once = mine.once; older = mine.older })
            (λ i y _ f p. let theirs = g.each i y f p in record { seen = theirs.seen; held = theirs.held; met = theirs.met; number = theirs.number; mine = theirs.mine; share = theirs.share; own = theirs.own; later = theirs.later; others = theirs.others; ended = ended y.ended theirs.ended; once = theirs.once; older = theirs.older });
        one_history = λ i j a b e f p q. let x = seer i a e p in let y = seer j b f q in subst (λ (z : History B M × History B M). IsBegun K z.0 z.1 ⊎ IsBegun K z.1 z.0) (λ n. (sym x.3 n, sym y.3 n)) (g.one_history i j x.0 y.0 x.1 y.1 x.2 y.2);
        joined_once = λ i j x y n e f p q m o. let u = same_ended K all id k w at refl some_parts i n x e p m in let v = same_ended K all id k w at refl some_parts j n y f q o in g.joined_once i j u.0 v.0 n u.1 v.1 u.2 v.2 u.3 v.3;
        whole = g.whole;
        no_later = g.no_later;
        unmade = λ i le. g.unmade i (omega (arith, long));
        made = λ i l. let m = g.made i (omega (arith, long)) in dite (ℕ_discrete m.0 id)
            (λ same. (id, w, set_here all id w (at_length all id k at), some_parts, stands_same K k m.1 m.0 id i same (one_at all m.0 id m.1 k m.2 at same) m.4))
            (λ other. (m.0, m.1, set_else all id m.0 w other ∙ m.2, m.3, m.4));
      }

  -- its number is new to what it knows
  pub new_number : (value : T) (marks_of : ℕ → List (ℕ × M)) (all : List (Knows B M S)) → Known K value marks_of all → (id : ℕ) (k : Knows B M S) → get_elem? all id ≡ some k → 0 < k.parts → k.named ≡ false → k.mine ≡ [] → IsNew K id k
  new_number value marks_of all g id k at some_parts unnamed nothing =
      let mine = g.each id k at some_parts in
      record {
        number = λ e. by k.named unnamed mine.number e;
        ended = λ m. let l = mine.older id m in omega arith;
        marks = mine.own ∙ ap (in_chapter k.seen.chapter) nothing;
      }
    where
      by : (b : Bool) → b ≡ false → Rattle.std.specs.Prelude.MatchBool b (k.number ≡ id) (k.number < id) → id ≡ k.number → ⊥
      by true is h e = absurd cc
      by false is h e = omega arith
