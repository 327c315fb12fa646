-- The rule's second half: what passes know, after a turn and at the start.
use Rattle.std.proofs.Common.{◌≡◌, ◌≢◌, ◌⊎◌, ℕ, zero, suc, ◌+◌, ◌<◌, ◌≤◌, Bool, true, false, true≢false, cond, eqb, List, [], ◌∷◌, ◌++◌, length, set, Option, None, Some, refl, sym, ap, ◌∙◌, subst, ⊎_elim, inl, inr, arith, length-set, append-nil, eq-eqb, ne_eqb}
use Rattle.std.specs.Prelude.{MatchBool}
use Rattle.std.proofs.lemmas.Bool.{cases_lt}
use mathlib.Core.Option.{some}
use mathlib.Core.Logic.{dite}
use native.Mathlib.Decide.{ℕ_discrete}
use lib.ListN.{get_elem?}
use Rattle.atomic_table.proofs.Lists.{at_set, set_else, set_here}
use Rattle.history_spec.specs.declared.history.History.{History}
use Rattle.history_spec.specs.declared.history.Ended.{Ended}
use Rattle.history_spec.specs.Begins.{IsPrefix, SameChapter}
use Rattle.history_spec.specs.Chapter.{BeginsChapter, GoesOn, added, in_chapter, tagged}
use Rattle.history_spec.specs.Pass.{bears, own, AreOf, held_if, mine_after}
use Rattle.history_spec.proofs.Beginnings.{prefix_itself, prefix_through, begins_itself, begins_through}
use Rattle.history_spec.proofs.Marks.{in_chapter-append, in_chapter-here, in_chapter-other, own-append, own-of_others, added-same, added-next}
use Rattle.turn_cell.specs.Meaning.{Meaning, NoMarkLowers, NewBaseKeeps}
use Rattle.turn_cell.specs.declared.view.Knows.{Knows}
use Rattle.turn_cell.specs.Known.{IsBegun, own_in, HasMarks, IsAmong, AreApart, Rests, AllEnded, Knowing, Stands, Known}
use Rattle.turn_cell.specs.Steps.{HasEnded, Finds, knows_after}
use Rattle.turn_cell.specs.Passes.{SameShare, KeepsNothing, BelongsTo, AreAmong}
use Rattle.turn_cell.proofs.Views.{each_set, at_length, one_at, only}

module _ {M : Type 0} where
  -- the marks of each number, where one has more
  abbrev pub marks_after : (ℕ → List (ℕ × M)) → ℕ → List (ℕ × M) → ℕ → List (ℕ × M)
  marks_after marks_of id more j = cond (eqb j id) (marks_of j ++ more) (marks_of j)

  marks_after-here : (marks_of : ℕ → List (ℕ × M)) (id : ℕ) (more : List (ℕ × M)) → marks_after marks_of id more id ≡ marks_of id ++ more
  marks_after-here marks_of id more = ap (λ (b : Bool). cond b (marks_of id ++ more) (marks_of id)) (eq-eqb id id refl)

  marks_after-other : (marks_of : ℕ → List (ℕ × M)) (id : ℕ) (more : List (ℕ × M)) (j : ℕ) → j ≢ id → marks_after marks_of id more j ≡ marks_of j
  marks_after-other marks_of id more j ne = ap (λ (b : Bool). cond b (marks_of j ++ more) (marks_of j)) (ne_eqb j id ne)

  -- a number's marks only grow
  marks_grow : (marks_of : ℕ → List (ℕ × M)) (id : ℕ) (more : List (ℕ × M)) (c j : ℕ) → IsPrefix (in_chapter c (marks_of j)) (in_chapter c (marks_after marks_of id more j))
  marks_grow marks_of id more c j = by (eqb j id)
    where
      by : (b : Bool) → IsPrefix (in_chapter c (marks_of j)) (in_chapter c (cond b (marks_of j ++ more) (marks_of j)))
      by true = (in_chapter c more, sym (in_chapter-append c (marks_of j) more))
      by false = prefix_itself (in_chapter c (marks_of j))

  -- the marks of the first number, and none of the others
  abbrev pub first_marks : List (ℕ × M) → ℕ → List (ℕ × M)
  first_marks kept zero = kept
  first_marks kept (suc n) = []

  same_prefix : (xs ys : List M) → xs ≡ ys → IsPrefix xs ys
  same_prefix xs ys e = ([], append-nil xs ∙ e)

module _ {T B M S : Type 0} (K : Meaning T B M S) where
  -- what a turn may leave goes on from what it found
  pub goes_on_begins : NewBaseKeeps K → (found left : T) → GoesOn (K.next_base found) (K.history found) (K.history left) → IsBegun K (K.history found) (K.history left)
  goes_on_begins keeps found left p = ⊎_elim
      (λ (x : SameChapter (K.history found) (K.history left)). inl x)
      (λ (x : BeginsChapter (K.next_base found) (K.history found) (K.history left)). inr (record {
        chapter = let e = x.chapter in omega arith;
        rises = subst (λ (b : B). K.rising (K.history found).base (K.history found).marks ≤ K.rising b []) (sym x.base) (keeps found);
      }))
      p

  pub goes_on_chapter : (found left : T) → GoesOn (K.next_base found) (K.history found) (K.history left) → ((K.history found).chapter ≤ (K.history left).chapter) × ((K.history left).chapter ≤ (K.history found).chapter + 1)
  goes_on_chapter found left p = ⊎_elim
      (λ (x : SameChapter (K.history found) (K.history left)). let e = x.chapter in omega arith)
      (λ (x : BeginsChapter (K.next_base found) (K.history found) (K.history left)). let e = x.chapter in omega arith)
      p

  -- the own marks after a turn
  own_after : (found left : T) (n : ℕ) (kept : List (ℕ × M)) → GoesOn (K.next_base found) (K.history found) (K.history left) → HasMarks K n kept (K.history found) → ((c : ℕ) → (K.history found).chapter < c → in_chapter c kept ≡ [])
      → own_in K n (K.history left) ≡ in_chapter (K.history left).chapter kept ++ own K.whose n (added (K.history found) (K.history left))
  own_after found left n kept p has later =
      let a = K.history found in
      let b = K.history left in
      ⊎_elim
      (λ (x : SameChapter a b). ap (own K.whose n) (sym (added-same a b x)) ∙ (own-append K.whose n a.marks (added a b) ∙ ap (λ (l : List M). l ++ own K.whose n (added a b)) (has ∙ ap (λ (c : ℕ). in_chapter c kept) x.chapter)))
      (λ (x : BeginsChapter (K.next_base found) a b). ap (own K.whose n) (sym (added-next (K.next_base found) a b x)) ∙ ap (λ (l : List M). l ++ own K.whose n (added a b)) (sym (later b.chapter (let e = x.chapter in omega arith))))
      p

  mine_after-has : (found left : T) (n : ℕ) (kept : List (ℕ × M)) → GoesOn (K.next_base found) (K.history found) (K.history left) → HasMarks K n kept (K.history found) → ((c : ℕ) → (K.history found).chapter < c → in_chapter c kept ≡ [])
      → HasMarks K n (mine_after K.whose n (K.history found) (K.history left) kept) (K.history left)
  mine_after-has found left n kept p has later =
      let b = K.history left in
      let new : List M = own K.whose n (added (K.history found) b) in
      own_after found left n kept p has later ∙ (ap (λ (l : List M). in_chapter b.chapter kept ++ l) (sym (in_chapter-here b.chapter new)) ∙ sym (in_chapter-append b.chapter kept (tagged b.chapter new)))

  others_marks : (found left : T) (n j : ℕ) (kept : List (ℕ × M)) → GoesOn (K.next_base found) (K.history found) (K.history left) → AreOf K.whose n (added (K.history found) (K.history left)) → j ≢ n → HasMarks K j kept (K.history found) → ((c : ℕ) → (K.history found).chapter < c → in_chapter c kept ≡ [])
      → HasMarks K j kept (K.history left)
  others_marks found left n j kept p are ne has later =
      own_after found left j kept p has later ∙ (ap (λ (l : List M). in_chapter (K.history left).chapter kept ++ l) (own-of_others K.whose n j (added (K.history found) (K.history left)) are ne) ∙ append-nil (in_chapter (K.history left).chapter kept))

  later_after : (found left : T) (n : ℕ) (kept : List (ℕ × M)) (new : List M) → (K.history found).chapter ≤ (K.history left).chapter → ((c : ℕ) → (K.history found).chapter < c → in_chapter c kept ≡ [])
      → (c : ℕ) → (K.history left).chapter < c → in_chapter c (kept ++ tagged (K.history left).chapter new) ≡ []
  later_after found left n kept new le later c l =
      in_chapter-append c kept (tagged (K.history left).chapter new)
      ∙ (ap (λ (x : List M). x ++ in_chapter c (tagged (K.history left).chapter new)) (later c (omega arith)) ∙ in_chapter-other c (K.history left).chapter new (λ e. omega arith))

  held_begins : NoMarkLowers K → (new : List M) (h held : History B M) → IsBegun K held h → IsBegun K (held_if new h held) h
  held_begins lowers [] h held p = p
  held_begins lowers (m ∷ ms) h held p = begins_itself K.rising h

  -- ended numbers stay so, where the value keeps their shares, their marks are the same, and no used-up view comes back
  pub ended_moved : (value now : T) (marks_of marks : ℕ → List (ℕ × M)) (all after : List (Knows B M S)) → length all ≤ length after
      → ((n : ℕ) → n < length all → ((u : Knows B M S) → get_elem? all n ≡ some u → u.parts ≡ 0) → (marks_of n ≡ marks n) × (K.share now n ≡ K.share value n) × ((u : Knows B M S) → get_elem? after n ≡ some u → u.parts ≡ 0))
      → (es : List (Ended M)) → AllEnded K value marks_of all es → AllEnded K now marks after es
  ended_moved value now marks_of marks all after long kept [] h = tt
  ended_moved value now marks_of marks all after long kept (e ∷ es) h =
      let k = kept e.number h.0.made h.0.used_up in
      (record { mine = h.0.mine ∙ k.0; share = k.1 ∙ h.0.share; made = omega (arith, h.0.made, long); used_up = k.2 }, ended_moved value now marks_of marks all after long kept es h.1)

  -- a view that is not used up is no ended number
  pub living_apart : (all : List (Knows B M S)) (id n : ℕ) (k : Knows B M S) → get_elem? all id ≡ some k → 0 < k.parts → ((u : Knows B M S) → get_elem? all n ≡ some u → u.parts ≡ 0) → n ≢ id
  living_apart all id n k at some_parts none same = let zero_parts : k.parts ≡ 0 = none k (ap (λ (i : ℕ). get_elem? all i) same ∙ at) in omega arith

  ended_after : (found left : T) (marks_of : ℕ → List (ℕ × M)) (more : List (ℕ × M)) (all : List (Knows B M S)) (id n : ℕ) (k w : Knows B M S) → get_elem? all id ≡ some k → 0 < k.parts → n ≡ id → SameShare K n found left
      → (es : List (Ended M)) → AllEnded K found marks_of all es → AllEnded K left (marks_after marks_of id more) (set all id w) es
  ended_after found left marks_of more all id n k w at some_parts is others = ended_moved found left marks_of (marks_after marks_of id more) all (set all id w) (omega (arith, length-set all id w))
      (λ i l none. let ne : i ≢ id = living_apart all id i k at some_parts none in (sym (marks_after-other marks_of id more i ne), others i (λ x. ne (x ∙ is)), λ u there. none u (sym (set_else all id i w ne) ∙ there)))

  -- a view that is where the old ones were, with the same ended ones
  pub same_ended : (all : List (Knows B M S)) (id : ℕ) (k w : Knows B M S) → get_elem? all id ≡ some k → w.ended ≡ k.ended → 0 < k.parts → (i n : ℕ) (a : Knows B M S) → get_elem? (set all id w) i ≡ some a → 0 < a.parts → IsAmong n a.ended
      → (b : Knows B M S) × (get_elem? all i ≡ some b) × (0 < b.parts) × IsAmong n b.ended
  same_ended all id k w at e some_parts i n a there parts among = ⊎_elim
      (λ (x : (i ≡ id) × (w ≡ a)). (k, ap (λ (j : ℕ). get_elem? all j) x.0 ∙ at, some_parts, subst (IsAmong n) (ap (λ (u : Knows B M S). u.ended) (sym x.1) ∙ e) among))
      (λ (x : (i ≢ id) × (get_elem? all i ≡ some a)). (a, x.1, parts, among))
      (at_set all id i w a there)

  pub stands_same : (k u : Knows B M S) (j id i : ℕ) → j ≡ id → u ≡ k → Stands i j u → Stands i id k
  stands_same k u j id i e same h = subst (λ (z : ℕ × Knows B M S). Stands i z.0 z.1) (λ n. (e n, same n)) h

  pub named_number : (b : Bool) (n i : ℕ) → b ≡ true → MatchBool b (n ≡ i) (n < i) → n ≡ i
  named_number true n i is h = h
  named_number false n i is h = absurd cc

  -- after a turn of the view id
  pub known_left : NoMarkLowers K → NewBaseKeeps K → (found left : T) (marks_of : ℕ → List (ℕ × M)) (all : List (Knows B M S)) → Known K found marks_of all
      → (id : ℕ) (k : Knows B M S) → get_elem? all id ≡ some k → 0 < k.parts → k.named ≡ true
      → GoesOn (K.next_base found) (K.history found) (K.history left) → AreOf K.whose k.number (added (K.history found) (K.history left)) → SameShare K k.number found left
      → Known K left (marks_after marks_of id (tagged (K.history left).chapter (own K.whose k.number (added (K.history found) (K.history left))))) (set all id (knows_after K found left k))
  known_left lowers keeps found left marks_of all g id k at some_parts named goes are others =
      let a = K.history found in
      let b = K.history left in
      let new : List M = own K.whose k.number (added a b) in
      let more : List (ℕ × M) = tagged b.chapter new in
      let w : Knows B M S = knows_after K found left k in
      let marks : ℕ → List (ℕ × M) = marks_after marks_of id more in
      let mine = g.each id k at some_parts in
      let is : k.number ≡ id = named_number k.named k.number id named mine.number in
      let begun : IsBegun K a b = goes_on_begins keeps found left goes in
      let through = begins_through K.rising lowers in
      let later : (i c : ℕ) → a.chapter < c → in_chapter c (marks_of i) ≡ [] = g.no_later in
      let here : k.mine ++ more ≡ marks id = ap (λ (l : List (ℕ × M)). l ++ more) mine.mine ∙ sym (marks_after-here marks_of id more) in
      let whole_id : HasMarks K id (k.mine ++ more) b =
      subst (λ (n : ℕ). own_in K n b ≡ in_chapter b.chapter (k.mine ++ more)) is
      (mine_after-has found left k.number k.mine goes (subst (λ (z : ℕ × List (ℕ × M)). own_in K z.0 a ≡ in_chapter a.chapter z.1) (λ i. (sym is i, sym mine.mine i)) (g.whole id)) (λ c l. ap (in_chapter c) mine.mine ∙ later id c l)) in
      let whole : (i : ℕ) → HasMarks K i (marks i) b = λ i. dite (ℕ_discrete i id)
      (λ e. subst (λ (j : ℕ). HasMarks K j (marks j) b) (sym e) (whole_id ∙ ap (in_chapter b.chapter) here))
      (λ ne. others_marks found left k.number i (marks_of i) goes are (λ e. ne (e ∙ is)) (g.whole i) (later i) ∙ ap (in_chapter b.chapter) (sym (marks_after-other marks_of id more i ne))) in
      let grown : a.chapter ≤ b.chapter = (goes_on_chapter found left goes).0 in
      let later_id : (c : ℕ) → b.chapter < c → in_chapter c (k.mine ++ more) ≡ [] = later_after found left id k.mine new grown (λ c l. ap (in_chapter c) mine.mine ∙ later id c l) in
      let no_later : (i c : ℕ) → b.chapter < c → in_chapter c (marks i) ≡ [] = λ i c l. dite (ℕ_discrete i id)
      (λ e. subst (λ (j : ℕ). in_chapter c (marks j) ≡ []) (sym e) (ap (in_chapter c) (sym here) ∙ later_id c l))
      (λ ne. ap (in_chapter c) (marks_after-other marks_of id more i ne) ∙ later i c (omega arith)) in
      let seen : IsBegun K k.seen b = through k.seen a b mine.seen begun in
      let begins_left : (j : ℕ) (y : Knows B M S) → get_elem? (set all id w) j ≡ some y → 0 < y.parts → IsBegun K y.seen b =
      each_set (λ _ y. 0 < y.parts → IsBegun K y.seen b) all id w (λ _. begins_itself K.rising b) (λ j u _ e p. through u.seen a b (g.each j u e p).seen begun) in
      let Each : ℕ → Knows B M S → Type 0 = λ j u. 0 < u.parts → Knowing K left marks (set all id w) j u in
      record {
        each = each_set Each all id w
            (λ _. record {
              seen = begins_itself K.rising b;
              held = held_begins lowers new b k.held (through k.held k.seen b mine.held seen);
              met = (begins_itself K.rising b, begins_itself K.rising b);
              number = mine.number;
              mine = here;
              share = ap (K.share left) (sym is);
              own = whole_id;
              later = later_id;
              others = λ j. same_prefix (own_in K j b) (in_chapter b.chapter (marks j)) (whole j);
              ended = ended_after found left marks_of more all id k.number k w at some_parts is others k.ended mine.ended;
              once = mine.once;
              older = mine.older;
            })
            (λ j u ne there parts. let theirs = g.each j u there parts in record {
              seen = through u.seen a b theirs.seen begun;
              held = theirs.held;
              met = theirs.met;
              number = theirs.number;
              mine = theirs.mine ∙ sym (marks_after-other marks_of id more j ne);
              share = others j (λ e. ne (e ∙ is)) ∙ theirs.share;
              own = theirs.own;
              later = theirs.later;
              others = λ i. prefix_through (own_in K i u.seen) (in_chapter u.seen.chapter (marks_of i)) (in_chapter u.seen.chapter (marks i)) (theirs.others i) (marks_grow marks_of id more u.seen.chapter i);
              ended = ended_after found left marks_of more all id k.number k w at some_parts is others u.ended theirs.ended;
              once = theirs.once;
              older = theirs.older;
            });
        one_history = λ i j x y e f p q. ⊎_elim
            (λ (z : (i ≡ id) × (w ≡ x)). inr (subst (λ (r : Knows B M S). IsBegun K y.seen r.seen) z.1 (begins_left j y f q)))
            (λ (z : (i ≢ id) × (get_elem? all i ≡ some x)). ⊎_elim
            (λ (r : (j ≡ id) × (w ≡ y)). inl (subst (λ (t : Knows B M S). IsBegun K x.seen t.seen) r.1 (through x.seen a b (g.each i x z.1 p).seen begun)))
            (λ (r : (j ≢ id) × (get_elem? all j ≡ some y)). g.one_history i j x y z.1 r.1 p q)
            (at_set all id j w y f))
            (at_set all id i w x e);
        joined_once = λ i j x y n e f p q m o. let u = same_ended all id k w at refl some_parts i n x e p m in let v = same_ended all id k w at refl some_parts j n y f q o in g.joined_once i j u.0 v.0 n u.1 v.1 u.2 v.2 u.3 v.3;
        whole = whole;
        no_later = no_later;
        unmade = λ i le. let far : i ≢ id = λ e. omega (arith, at_length all id k at, length-set all id w) in let before = g.unmade i (omega (arith, length-set all id w)) in
            (marks_after-other marks_of id more i far ∙ before.0, others i (λ e. far (e ∙ is)) ∙ before.1);
        made = λ i l. let before = g.made i (omega (arith, length-set all id w)) in dite (ℕ_discrete before.0 id)
            (λ same. (id, w, set_here all id w (at_length all id k at), some_parts, stands_same k before.1 before.0 id i same (one_at all before.0 id before.1 k before.2 at same) before.4))
            (λ other. (before.0, before.1, set_else all id before.0 w other ∙ before.2, before.3, before.4));
      }

  -- at the start
  first_marks-has : (x : T) (i : ℕ) → AreOf K.whose 0 (K.history x).marks → HasMarks K i (first_marks (tagged (K.history x).chapter (own_in K 0 (K.history x))) i) (K.history x)
  first_marks-has x zero are = sym (in_chapter-here (K.history x).chapter (own_in K 0 (K.history x)))
  first_marks-has x (suc n) are = own-of_others K.whose 0 (suc n) (K.history x).marks are (λ e. omega arith)

  first_marks-later : (x : T) (i c : ℕ) → (K.history x).chapter < c → in_chapter c (first_marks (tagged (K.history x).chapter (own_in K 0 (K.history x))) i) ≡ []
  first_marks-later x zero c l = in_chapter-other c (K.history x).chapter (own_in K 0 (K.history x)) (λ e. omega arith)
  first_marks-later x (suc n) c l = refl

  first_marks-none : (kept : List (ℕ × M)) (i : ℕ) → 1 ≤ i → first_marks kept i ≡ []
  first_marks-none kept zero l = absurd (omega arith)
  first_marks-none kept (suc n) l = refl

  pub known_opens : (x : T) (k : Knows B M S) → AreOf K.whose 0 (K.history x).marks → KeepsNothing K x
      → k ≡ record { named = true; number = 0; parts = 4611686018427387904; seen = K.history x; met = (K.history x, K.history x); mine = tagged (K.history x).chapter (own_in K 0 (K.history x)); held = K.history x; share = K.share x 0; ended = []; older = [] }
      → Known K x (first_marks (tagged (K.history x).chapter (own_in K 0 (K.history x)))) (k ∷ [])
  known_opens x k are nothing is =
      let h = K.history x in
      let kept = tagged h.chapter (own_in K 0 h) in
      let first : Knowing K x (first_marks kept) (k ∷ []) 0 k = subst (λ (u : Knows B M S). Knowing K x (first_marks kept) (u ∷ []) 0 u) (sym is) (record {
        seen = begins_itself K.rising h;
        held = begins_itself K.rising h;
        met = (begins_itself K.rising h, begins_itself K.rising h);
        number = refl;
        mine = refl;
        share = refl;
        own = first_marks-has x 0 are;
        later = first_marks-later x 0;
        others = λ j. same_prefix (own_in K j h) (in_chapter h.chapter (first_marks kept j)) (first_marks-has x j are);
        ended = tt;
        once = tt;
        older = λ n m. absurd m;
      }) in
      record {
        each = λ i u e parts. let o = only k i u e in subst (λ (z : ℕ × Knows B M S). Knowing K x (first_marks kept) (k ∷ []) z.0 z.1) (λ n. (sym o.0 n, o.1 n)) first;
        one_history = λ i j u w e f p q. let o = only k i u e in let r = only k j w f in inl (subst (λ (z : Knows B M S × Knows B M S). IsBegun K z.0.seen z.1.seen) (λ n. (o.1 n, r.1 n)) (begins_itself K.rising k.seen));
        joined_once = λ i j u w n e f p q a b. let o = only k i u e in let r = only k j w f in omega (arith, o.0, r.0);
        whole = λ i. first_marks-has x i are;
        no_later = first_marks-later x;
        unmade = λ i le. (first_marks-none kept i le, nothing i le);
        made = λ i l. (0, k, refl, subst (λ (u : Knows B M S). 0 < u.parts) (sym is) (omega arith), inl (omega arith));
      }

  ended_has : (value : T) (marks_of : ℕ → List (ℕ × M)) (all : List (Knows B M S)) → ((i : ℕ) → HasMarks K i (marks_of i) (K.history value)) → (es : List (Ended M)) → AllEnded K value marks_of all es → HasEnded K value es
  ended_has value marks_of all whole [] h = tt
  ended_has value marks_of all whole (e ∷ es) h = (whole e.number ∙ ap (in_chapter (K.history value).chapter) (sym h.0.mine), h.0.share, ended_has value marks_of all whole es h.1)

  -- no ended number is that of a living view
  pub among_ended : (value : T) (marks_of : ℕ → List (ℕ × M)) (all : List (Knows B M S)) (n : ℕ) (es : List (Ended M)) → AllEnded K value marks_of all es → IsAmong n es → (u : Knows B M S) → get_elem? all n ≡ some u → u.parts ≡ 0
  among_ended value marks_of all n [] h m u at = absurd m
  among_ended value marks_of all n (e ∷ es) h m u at = ⊎_elim (λ (is : e.number ≡ n). h.0.used_up u (ap (λ (i : ℕ). get_elem? all i) is ∙ at)) (λ (o : IsAmong n es). among_ended value marks_of all n es h.1 o u at) m

  pub known_apart : (value : T) (marks_of : ℕ → List (ℕ × M)) (all : List (Knows B M S)) → Known K value marks_of all → (id : ℕ) (k : Knows B M S) → get_elem? all id ≡ some k → 0 < k.parts → k.named ≡ true → AreApart k.number k.ended
  known_apart value marks_of all g id k at some_parts named =
      let mine = g.each id k at some_parts in
      let is : k.number ≡ id = named_number k.named k.number id named mine.number in
      (λ m. let zero_parts : k.parts ≡ 0 = among_ended value marks_of all k.number k.ended mine.ended m k (ap (λ (i : ℕ). get_elem? all i) is ∙ at) in omega arith, mine.once)

  -- what a view knows between turns
  pub known_rests : (value : T) (marks_of : ℕ → List (ℕ × M)) (all : List (Knows B M S)) → Known K value marks_of all → (id : ℕ) (k : Knows B M S) → get_elem? all id ≡ some k → 0 < k.parts → k.named ≡ true → Rests K k.number k.seen k.held k.mine k.ended
  known_rests value marks_of all g id k at some_parts named =
      let mine = g.each id k at some_parts in
      record {
        own = subst (λ (n : ℕ). HasMarks K n k.mine k.seen) (sym (named_number k.named k.number id named mine.number)) mine.own;
        later = mine.later;
        held_begins = mine.held;
        apart = known_apart value marks_of all g id k at some_parts named;
      }

  -- the first pass
  pub first_rests : (x : T) → AreOf K.whose 0 (K.history x).marks → Rests K 0 (K.history x) (K.history x) (tagged (K.history x).chapter (own_in K 0 (K.history x))) []
  first_rests x are = record { own = first_marks-has x 0 are; later = first_marks-later x 0; held_begins = begins_itself K.rising (K.history x); apart = (λ m. m, tt) }

  -- what a view finds in the value
  pub known_finds : (value : T) (marks_of : ℕ → List (ℕ × M)) (all : List (Knows B M S)) → Known K value marks_of all → (id : ℕ) (k : Knows B M S) → get_elem? all id ≡ some k → 0 < k.parts → (t : ℕ) → (K.history value).chapter ≤ t → Finds K value t k
  known_finds value marks_of all g id k at some_parts t chapter =
      let h = K.history value in
      let mine = g.each id k at some_parts in
      let is : k.named ≡ true → k.number ≡ id = λ named. named_number k.named k.number id named mine.number in
      record {
        seen = mine.seen;
        chapter = chapter;
        mine = λ named. subst (λ (z : ℕ × List (ℕ × M)). HasMarks K z.0 z.1 h) (λ n. (sym (is named) n, sym mine.mine n)) (g.whole id);
        share = λ named. subst (λ (n : ℕ). K.share value n ≡ k.share) (sym (is named)) mine.share;
        held = mine.held;
        own = λ named. subst (λ (n : ℕ). HasMarks K n k.mine k.seen) (sym (is named)) mine.own;
        later = mine.later;
        ended = ended_has value marks_of all g.whole k.ended mine.ended;
        apart = known_apart value marks_of all g id k at some_parts;
      }

  -- a number whose marks are in the history was made
  tail_none : (b : Bool) (m : M) (ms : List M) → cond b (m ∷ ms) ms ≡ [] → (b ≡ false) × (ms ≡ [])
  tail_none true m ms e = absurd cc
  tail_none false m ms e = (refl, e)

  bears_own : (n : ℕ) → bears n (Some n) ≡ true
  bears_own n = eq-eqb n n refl

  among : (number : ℕ) (ended : List (Ended M)) (ms : List M) → ((n : ℕ) → (own K.whose n ms ≡ []) ⊎ ((n ≡ number) ⊎ IsAmong n ended)) → AreAmong K number ended ms
  among number ended [] h = tt
  among number ended (m ∷ ms) h = (belongs (K.whose m) refl, among number ended ms (λ n. ⊎_elim (λ (none : own K.whose n (m ∷ ms) ≡ []). inl (tail_none (bears n (K.whose m)) m (own K.whose n ms) none).1) (λ (s : (n ≡ number) ⊎ IsAmong n ended). inr s) (h n)))
    where
      belongs : (o : Option ℕ) → K.whose m ≡ o → BelongsTo number ended o
      belongs None is = tt
      belongs (Some n) is = ⊎_elim (λ (none : own K.whose n (m ∷ ms) ≡ []). absurd (true≢false (sym (ap (bears n) is ∙ bears_own n) ∙ (tail_none (bears n (K.whose m)) m (own K.whose n ms) none).0))) (λ (s : (n ≡ number) ⊎ IsAmong n ended). s) (h n)

  pub known_among : (value : T) (marks_of : ℕ → List (ℕ × M)) (all : List (Knows B M S)) → Known K value marks_of all → (id : ℕ) (k : Knows B M S) → get_elem? all id ≡ some k → 0 < k.parts → k.named ≡ true
      → ((j : ℕ) (u : Knows B M S) → get_elem? all j ≡ some u → 0 < u.parts → j ≡ id) → AreAmong K k.number k.ended (K.history value).marks
  known_among value marks_of all g id k at some_parts named alone =
      let mine = g.each id k at some_parts in
      let is : k.number ≡ id = named_number k.named k.number id named mine.number in
      among k.number k.ended (K.history value).marks (λ n. ⊎_elim
      (λ (l : n < length all). let made = g.made n l in let same : made.0 ≡ id = alone made.0 made.1 made.2 made.3 in
      inr (⊎_elim (λ (e : id ≡ n). inl (sym e ∙ sym is)) (λ (e : IsAmong n k.ended). inr e) (stands_same k made.1 made.0 id n same (one_at all made.0 id made.1 k made.2 at same) made.4)))
      (λ (le : length all ≤ n). inl (g.whole n ∙ ap (in_chapter (K.history value).chapter) (g.unmade n le).0))
      (cases_lt n (length all)))
