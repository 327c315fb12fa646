-- The rule's second half where two passes are put together, and what they then know.
use Rattle.std.proofs.Common.{◌≡◌, ◌≢◌, ◌⊎◌, ℕ, ◌<◌, true, List, ◌∷◌, length, set, sym, ap, ◌∙◌, subst, ⊎_elim, inl, inr, arith, length-set}
use mathlib.Core.Option.{some}
use mathlib.Core.Logic.{dite}
use native.Mathlib.Decide.{ℕ_discrete}
use lib.ListN.{get_elem?}
use Rattle.atomic_table.proofs.Lists.{at_set, set_else, set_here}
use Rattle.history_spec.specs.declared.history.History.{History}
use Rattle.history_spec.specs.declared.history.Ended.{Ended}
use Rattle.history_spec.specs.Front.{longer_history}
use Rattle.history_spec.specs.Begins.{IsPrefix}
use Rattle.history_spec.specs.Chapter.{in_chapter}
use Rattle.history_spec.proofs.Beginnings.{begins_itself, begins_through, begins_chapter, both_begin, longer_either}
use Rattle.turn_cell.specs.Meaning.{Meaning, NoMarkLowers}
use Rattle.turn_cell.specs.declared.view.Knows.{Knows}
use Rattle.turn_cell.specs.Known.{IsBegun, own_in, IsAmong, NoTwice, AllEnded, Knowing, Stands, Known}
use Rattle.turn_cell.proofs.Views.{at_length, one_at}
use Rattle.turn_cell.proofs.Knowledge.{living_apart, named_number, among_ended}
use Rattle.turn_cell.proofs.Among.{among_append, among_left, among_right, once_append}
use Rattle.turn_cell.proofs.Parting.{both_of, ended_append, ended_there, own_further}

module _ {T B M S : Type 0} (K : Meaning T B M S) where
  pub known_joins : NoMarkLowers K → (value : T) (marks_of : ℕ → List (ℕ × M)) (all : List (Knows B M S)) → Known K value marks_of all
      → (id other turns : ℕ) (a b gone : Knows B M S) → get_elem? all id ≡ some a → get_elem? all other ≡ some b → other ≢ id → 0 < a.parts → 0 < b.parts → b.named ≡ true → b.share ≡ K.nothing → gone.parts ≡ 0
      → Known K value marks_of (set (set all id (both_of turns a b)) other gone)
  known_joins lowers value marks_of all g id other turns a b gone at there apart some_parts some_parts' named empty no_parts =
      let both : Knows B M S = both_of turns a b in
      let mid : List (Knows B M S) = set all id both in
      let after : List (Knows B M S) = set mid other gone in
      let far : History B M = longer_history a.seen b.seen in
      let long : length after ≡ length all = length-set mid other gone ∙ length-set all id both in
      let mine = g.each id a at some_parts in
      let theirs = g.each other b there some_parts' in
      let is : b.number ≡ other = named_number K b.named b.number other named theirs.number in
      let begun = both_begin K.rising a.seen b.seen (g.one_history id other a b at there some_parts some_parts') in
      let there_mid : get_elem? mid other ≡ some b = set_else all id other both apart ∙ there in
      let at_after : get_elem? after id ≡ some both = set_else mid other id gone (λ e. apart (sym e)) ∙ set_here all id both (at_length all id a at) in
      let gone_after : get_elem? after other ≡ some gone = set_here mid other gone (at_length mid other b there_mid) in
      let kept : (es : List (Ended M)) → AllEnded K value marks_of all es → AllEnded K value marks_of after es = ended_there K value marks_of all after (omega (arith, long))
      (λ n l used u e.
      let ne : n ≢ id = living_apart K all id n a at some_parts used in
      let ne' : n ≢ other = living_apart K all other n b there some_parts' used in
      used u (sym (set_else all id n both ne) ∙ (sym (set_else mid other n gone ne') ∙ e))) in
      let last : Ended M = record { number = b.number; turns = turns; mine = b.mine } in
      let more : List (Ended M) = last ∷ b.ended in
      let ended : AllEnded K value marks_of after both.ended = ended_append K value marks_of after a.ended more (kept a.ended mine.ended) (
        record {
          mine = theirs.mine ∙ ap marks_of (sym is);
          share = ap (K.share value) is ∙ (theirs.share ∙ empty);
          made = omega (arith, is, long, at_length all other b there);
          used_up = λ u e. ap (λ (z : Knows B M S). z.parts) (one_at after b.number other u gone e gone_after is) ∙ no_parts;
        },
        kept b.ended theirs.ended,
      ) in
      -- no ended number is that of a living view
      let alive : (n i : ℕ) (u : Knows B M S) → get_elem? all i ≡ some u → 0 < u.parts → IsAmong n u.ended → (j : ℕ) (v : Knows B M S) → get_elem? all j ≡ some v → 0 < v.parts → n ≢ j =
      λ n i u e p m j v f q same. let zero_parts : v.parts ≡ 0 = among_ended K value marks_of all n u.ended (g.each i u e p).ended m v (ap (λ (h : ℕ). get_elem? all h) same ∙ f) in omega arith in
      let once : NoTwice both.ended = once_append a.ended more mine.once
      ((λ m. alive b.number other b there some_parts' m other b there some_parts' is), theirs.once)
      (λ n m o. ⊎_elim
      (λ (e : b.number ≡ n). alive n id a at some_parts m other b there some_parts' (sym e ∙ is))
      (λ (e : IsAmong n b.ended). apart (sym (g.joined_once id other a b n at there some_parts some_parts' m e)))
      o) in
      -- a living view there: the one that has both, or one that was there before
      let living : (i : ℕ) (u : Knows B M S) → get_elem? after i ≡ some u → 0 < u.parts → ((i ≡ id) × (both ≡ u)) ⊎ ((i ≢ id) × (i ≢ other) × (get_elem? all i ≡ some u)) = λ i u e p. ⊎_elim
      (λ (x : (i ≡ other) × (gone ≡ u)). absurd (let none_left : u.parts ≡ 0 = ap (λ (z : Knows B M S). z.parts) (sym x.1) ∙ no_parts in omega arith))
      (λ (x : (i ≢ other) × (get_elem? mid i ≡ some u)). ⊎_elim
      (λ (y : (i ≡ id) × (both ≡ u)). inl y)
      (λ (y : (i ≢ id) × (get_elem? all i ≡ some u)). inr (y.0, x.0, y.1))
      (at_set all id i both u x.1))
      (at_set mid other i gone u e) in
      -- what is among the ended of both, and of another
      let among_two : (n j : ℕ) (v : Knows B M S) → get_elem? all j ≡ some v → 0 < v.parts → j ≢ id → j ≢ other → IsAmong n both.ended → IsAmong n v.ended → ⊥ = λ n j v f q ne ne' m o. ⊎_elim
      (λ (x : IsAmong n a.ended). ne (sym (g.joined_once id j a v n at f some_parts q x o)))
      (λ (x : IsAmong n more). ⊎_elim
      (λ (e : b.number ≡ n). alive n j v f q o other b there some_parts' (sym e ∙ is))
      (λ (e : IsAmong n b.ended). ne' (sym (g.joined_once other j b v n there f some_parts' q e o)))
      x)
      (among_append n a.ended more m) in
      let compared : (j : ℕ) (v : Knows B M S) → get_elem? all j ≡ some v → 0 < v.parts → IsBegun K far v.seen ⊎ IsBegun K v.seen far = λ j v f q.
      longer_either K.rising (λ (h : History B M). IsBegun K h v.seen ⊎ IsBegun K v.seen h) a.seen b.seen (g.one_history id j a v at f some_parts q) (g.one_history other j b v there f some_parts' q) in
      record {
        each = λ i u e p. ⊎_elim
            (λ (x : (i ≡ id) × (both ≡ u)). subst (λ (z : ℕ × Knows B M S). Knowing K value marks_of after z.0 z.1) (λ n. (sym x.0 n, x.1 n)) (record {
              seen = longer_either K.rising (λ (h : History B M). IsBegun K h (K.history value)) a.seen b.seen mine.seen theirs.seen;
              held = begins_through K.rising lowers a.held a.seen far mine.held begun.0;
              met = begun;
              number = mine.number;
              mine = mine.mine;
              share = mine.share;
              own = own_further K id a.mine a.seen far begun.0 mine.own mine.later (subst (λ (l : List (ℕ × M)). IsPrefix (own_in K id far) (in_chapter far.chapter l)) (sym mine.mine)
                  (longer_either K.rising (λ (h : History B M). IsPrefix (own_in K id h) (in_chapter h.chapter (marks_of id))) a.seen b.seen (mine.others id) (theirs.others id)));
              later = λ c l. mine.later c (omega (arith, begins_chapter K.rising a.seen far begun.0));
              others = λ j. longer_either K.rising (λ (h : History B M). IsPrefix (own_in K j h) (in_chapter h.chapter (marks_of j))) a.seen b.seen (mine.others j) (theirs.others j);
              ended = ended;
              once = once;
              older = mine.older;
            }))
            (λ (x : (i ≢ id) × (i ≢ other) × (get_elem? all i ≡ some u)). let f = g.each i u x.2 p in
            record { seen = f.seen; held = f.held; met = f.met; number = f.number; mine = f.mine; share = f.share; own = f.own; later = f.later; others = f.others; ended = kept u.ended f.ended; once = f.once; older = f.older })
            (living i u e p);
        one_history = λ i j u v e f p q. ⊎_elim
            (λ (x : (i ≡ id) × (both ≡ u)). ⊎_elim
            (λ (y : (j ≡ id) × (both ≡ v)). inl (subst (λ (z : Knows B M S × Knows B M S). IsBegun K z.0.seen z.1.seen) (λ n. (x.1 n, y.1 n)) (begins_itself K.rising far)))
            (λ (y : (j ≢ id) × (j ≢ other) × (get_elem? all j ≡ some v)). subst (λ (z : Knows B M S). IsBegun K z.seen v.seen ⊎ IsBegun K v.seen z.seen) x.1 (compared j v y.2 q))
            (living j v f q))
            (λ (x : (i ≢ id) × (i ≢ other) × (get_elem? all i ≡ some u)). ⊎_elim
            (λ (y : (j ≡ id) × (both ≡ v)). subst (λ (z : Knows B M S). IsBegun K u.seen z.seen ⊎ IsBegun K z.seen u.seen) y.1 (⊎_elim (λ (o : IsBegun K far u.seen). inr o) (λ (o : IsBegun K u.seen far). inl o) (compared i u x.2 p)))
            (λ (y : (j ≢ id) × (j ≢ other) × (get_elem? all j ≡ some v)). g.one_history i j u v x.2 y.2 p q)
            (living j v f q))
            (living i u e p);
        joined_once = λ i j u v n e f p q m o. ⊎_elim
            (λ (x : (i ≡ id) × (both ≡ u)). ⊎_elim
            (λ (y : (j ≡ id) × (both ≡ v)). x.0 ∙ sym y.0)
            (λ (y : (j ≢ id) × (j ≢ other) × (get_elem? all j ≡ some v)). absurd (among_two n j v y.2 q y.0 y.1 (subst (λ (z : Knows B M S). IsAmong n z.ended) (sym x.1) m) o))
            (living j v f q))
            (λ (x : (i ≢ id) × (i ≢ other) × (get_elem? all i ≡ some u)). ⊎_elim
            (λ (y : (j ≡ id) × (both ≡ v)). absurd (among_two n i u x.2 p x.0 x.1 (subst (λ (z : Knows B M S). IsAmong n z.ended) (sym y.1) o) m))
            (λ (y : (j ≢ id) × (j ≢ other) × (get_elem? all j ≡ some v)). g.joined_once i j u v n x.2 y.2 p q m o)
            (living j v f q))
            (living i u e p);
        whole = g.whole;
        no_later = g.no_later;
        unmade = λ i le. g.unmade i (omega (arith, long));
        made = λ i l. let m = g.made i (omega (arith, long)) in
            let both_stands : Stands i id both → (j : ℕ) × (k : Knows B M S) × (get_elem? after j ≡ some k) × (0 < k.parts) × Stands i j k = λ s. (id, both, at_after, omega arith, s) in
            dite (ℕ_discrete m.0 id)
            (λ same. both_stands (⊎_elim (λ (e : m.0 ≡ i). inl (sym same ∙ e)) (λ (e : IsAmong i m.1.ended). inr (among_left i a.ended more (subst (λ (z : Knows B M S). IsAmong i z.ended) (one_at all m.0 id m.1 a m.2 at same) e))) m.4))
            (λ ne. dite (ℕ_discrete m.0 other)
            (λ same. both_stands (inr (among_right i a.ended more (⊎_elim (λ (e : m.0 ≡ i). inl (is ∙ (sym same ∙ e))) (λ (e : IsAmong i m.1.ended). inr (subst (λ (z : Knows B M S). IsAmong i z.ended) (one_at all m.0 other m.1 b m.2 there same) e)) m.4))))
            (λ ne'. (m.0, m.1, set_else mid other m.0 gone ne' ∙ (set_else all id m.0 both ne ∙ m.2), m.3, m.4)));
      }
