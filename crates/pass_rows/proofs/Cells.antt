-- Where rows became one, so did the passes of each cell.
use Rattle.std.proofs.Common.{◌≡◌, ℕ, suc, zero, ◌+◌, ◌<◌, List, [], ◌∷◌, ◌++◌, length, map, take, drop, get_or, refl, sym, ap, ◌∙◌, subst, arith}
use Rattle.std.specs.List.{flat_map}
use Rattle.std.proofs.lemmas.List.{append-nil, append_assoc, drop_more, map_push}
use Rattle.turn_cell.specs.Meaning.{Meaning}
use Rattle.turn_cell.specs.Passes.{Passed}
use Rattle.pass_rows.specs.Rows.{PassRow}
use Rattle.pass_rows.specs.Joining.{AreJoined, AreJoinedRows, HasJoined, IsJoined, IsJoinedRow}
use Rattle.pass_rows.specs.Closing.{ArePut, HasGathered, HasGatheredEach, passes_at, RowsGather}

module _ {T B M S : Type 0} (K : Meaning T B M S) where
  -- of passes that were put together one by one, those at one place
  joined_at : (ps qs rs : List (Passed B M S)) (i : ℕ) (d : Passed B M S) → AreJoined K ps qs rs → i < length rs → IsJoined K (get_or ps i d) (get_or qs i d) (get_or rs i d)
  joined_at [] [] [] i d all in' = absurd (omega arith)
  joined_at [] [] (r ∷ rs) i d all in' = absurd all
  joined_at [] (q ∷ qs) rs i d all in' = absurd all
  joined_at (p ∷ ps) [] rs i d all in' = absurd all
  joined_at (p ∷ ps) (q ∷ qs) [] i d all in' = absurd all
  joined_at (p ∷ ps) (q ∷ qs) (r ∷ rs) zero d all in' = all.0
  joined_at (p ∷ ps) (q ∷ qs) (r ∷ rs) (suc i) d all in' = joined_at ps qs rs i d all.1 (omega arith)

  joined_long : (ps qs rs : List (Passed B M S)) → AreJoined K ps qs rs → (length ps ≡ length rs) × (length qs ≡ length rs)
  joined_long [] [] [] all = (refl, refl)
  joined_long [] [] (r ∷ rs) all = absurd all
  joined_long [] (q ∷ qs) rs all = absurd all
  joined_long (p ∷ ps) [] rs all = absurd all
  joined_long (p ∷ ps) (q ∷ qs) [] all = absurd all
  joined_long (p ∷ ps) (q ∷ qs) (r ∷ rs) all = let rest = joined_long ps qs rs all.1 in (ap suc rest.0, ap suc rest.1)

one_at : {X : Type 0} (xs : List X) (i : ℕ) (d : X) → i < length xs → take 1 (drop i xs) ≡ get_or xs i d ∷ []
one_at xs i d in' = ap (take 1) (drop_more xs i d in')

module _ {TL BL ML SL TS BS MS SS TD BD MD SD : Type 0} (L : Meaning TL BL ML SL) (S : Meaning TS BS MS SS) (D : Meaning TD BD MD SD) (G : Type 0) where
  abbrev pub R : Type 0
  R = PassRow BL ML SL BS MS SS BD MD SD G

  lists_put : (own : R) (others : List R) (all : R) → AreJoinedRows L S D own others all → ArePut L own.list (map (λ (r : R). r.list) others) all.list
  lists_put own [] all is = ap (λ (r : R). r.list) is
  lists_put own (r ∷ rs) all put = (put.0.list, lists_put own rs put.0 put.1, put.2.list)

  stores_put : (own : R) (others : List R) (all : R) → AreJoinedRows L S D own others all → ArePut S own.store (map (λ (r : R). r.store) others) all.store
  stores_put own [] all is = ap (λ (r : R). r.store) is
  stores_put own (r ∷ rs) all put = (put.0.store, stores_put own rs put.0 put.1, put.2.store)

  -- those of one slot, and there is one in the last row too
  record PutAt (slot : ℕ) (d : Passed BD MD SD) (own : R) (others : List R) (all : R) : Type 0 where
    last : slot < length own.domains
    put : ArePut D (get_or own.domains slot d) (passes_at slot others) (get_or all.domains slot d)

  domains_put : (slot : ℕ) (d : Passed BD MD SD) (own : R) (others : List R) (all : R) → AreJoinedRows L S D own others all → slot < length all.domains → PutAt slot d own others all
  domains_put slot d own [] all is in' = record {
    last = subst (λ (r : R). slot < length r.domains) is in';
    put = ap (λ (r : R). get_or r.domains slot d) is;
  }
  domains_put slot d own (r ∷ rs) all put in' =
      let long = joined_long D put.0.domains r.domains all.domains put.2.domains in
      let in_mid : slot < length put.0.domains = omega (arith, long.0) in
      let in_row : slot < length r.domains = omega (arith, long.1) in
      let before : PutAt slot d own rs put.0 = domains_put slot d own rs put.0 put.1 in_mid in
      let here : take 1 (drop slot r.domains) ≡ get_or r.domains slot d ∷ [] = one_at r.domains slot d in_row in
      record {
        last = before.last;
        put = subst (λ (ps : List (Passed BD MD SD)). ArePut D (get_or own.domains slot d) (ps ++ passes_at slot rs) (get_or all.domains slot d)) (sym here)
            (get_or put.0.domains slot d, before.put, joined_at D put.0.domains r.domains all.domains slot d put.2.domains in');
      }

  flat_push : (slot : ℕ) (d : Passed BD MD SD) (own : R) (others : List R) → slot < length own.domains → passes_at slot (others ++ own ∷ []) ≡ passes_at slot others ++ get_or own.domains slot d ∷ []
  flat_push slot d own [] in' = append-nil (take 1 (drop slot own.domains)) ∙ one_at own.domains slot d in'
  flat_push slot d own (r ∷ rs) in' =
      ap (λ (ps : List (Passed BD MD SD)). take 1 (drop slot r.domains) ++ ps) (flat_push slot d own rs in')
      ∙ sym (append_assoc (take 1 (drop slot r.domains)) (passes_at slot rs) (get_or own.domains slot d ∷ []))

  pub rows_gather : RowsGather L S D G
  rows_gather rows all h = record {
    list = record {
      others = map (λ (r : R). r.list) h.others;
      own = h.own.list;
      passes_are = ap (map (λ (r : R). r.list)) h.rows_are ∙ map_push (λ (r : R). r.list) h.others h.own;
      put_are = lists_put h.own h.others all h.joined_are;
    };
    store = record {
      others = map (λ (r : R). r.store) h.others;
      own = h.own.store;
      passes_are = ap (map (λ (r : R). r.store)) h.rows_are ∙ map_push (λ (r : R). r.store) h.others h.own;
      put_are = stores_put h.own h.others all h.joined_are;
    };
    domains = λ slot d in'. let at : PutAt slot d h.own h.others all = domains_put slot d h.own h.others all h.joined_are in' in record {
      others = passes_at slot h.others;
      own = get_or h.own.domains slot d;
      passes_are = ap (passes_at slot) h.rows_are ∙ flat_push slot d h.own h.others at.last;
      put_are = at.put;
    };
  }
