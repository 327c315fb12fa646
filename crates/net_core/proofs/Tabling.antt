-- The first entry that passes, found by its place.
use Rattle.std.proofs.Common.{◌≡◌, ℕ, ◌<◌, ◌≤◌, Bool, true, false, cond, ltb, List, [], ◌∷◌, length, ◌++◌, bytes_eq, get_or, set, find, position, Option, None, Some, is_some, zero, suc, refl, sym, ap, ◌∙◌, subst, ⊎_elim, arith}
use Rattle.std.specs.List.{remove, position_or_len}
use Rattle.std.specs.Option.{unwrap_or}
use Rattle.std.proofs.lemmas.Bool.{cases_Bool, cases_lt, cond-true, lt-ltb, le-ltb, ltb-true, false≢true}
use Rattle.std.proofs.lemmas.List.Quantifiers.{position-Some}
use Rattle.std.proofs.lemmas.Option.{none-some}
use Rattle.std.proofs.lemmas.List.Sums.{fails_before_first}
use Rattle.book_spec.specs.declared.book.Network.{Network}
use Rattle.uuid.specs.Text.{hyphenated_text, lower}
use Rattle.virt_types.specs.Below.types_base.declared.network_def.NetDef.{NetDef}
use Rattle.virt_types.specs.Below.types_base.declared.refusal.Refusal.{Refusal}
use Rattle.virt_types.specs.Below.types_base.declared.mac.Mac.{Mac}
use Rattle.book_spec.specs.Leases.{address_for, with_lease}
use Rattle.book_spec.specs.declared.book.LeaseFault.TheVariants.{Class}
use Rattle.book_spec.specs.declared.book.NetAnswer.{NetAnswer}
use Rattle.book_spec.specs.declared.book.NetAnswer.TheVariants.{Done, Leased, NotLeased, Refused}
use Rattle.book_spec.specs.declared.book.NetCall.TheVariants as call
use Rattle.book_spec.specs.Networks.{Networks, has, identifier, name_of, network_of, new_network, with_changed, without, uuid_of}
use Rattle.book_spec.specs.NetCalls.{answer, networks_after, leased, leased_in, book_full, defined, if_inactive, network_exists, newly_defined, redefined, with_def, with_network}

module _ {X : Type 0} (p : X → Bool) where
  record IsAt (xs : List X) (i : ℕ) (d : X) : Type 0 where
    pub within : i < length xs
    pub here : p (get_or xs i d) ≡ true
    pub before : (k : ℕ) → k < i → p (get_or xs k d) ≡ false

  is_at : (xs : List X) (i : ℕ) (d : X) → position p xs ≡ Some i → IsAt xs i d
  is_at xs i d is = let found = position-Some p xs i d is in record { within = found.0; here = found.1; before = found.2 }

  tail_at : (x : X) (xs : List X) (i : ℕ) (d : X) → IsAt (x ∷ xs) (suc i) d → IsAt xs i d
  tail_at x xs i d at = record { within = omega (arith, at.within); here = at.here; before = λ k h. at.before (suc k) (omega (arith, h)) }

  find_by : (xs : List X) (i : ℕ) (d : X) → IsAt xs i d → find p xs ≡ Some (get_or xs i d)
  find_by [] i d at = absurd (omega (arith, at.within))
  find_by (x ∷ xs) zero d at = ap (λ (b : Bool). cond b (Some x) (find p xs)) at.here
  find_by (x ∷ xs) (suc i) d at = ap (λ (b : Bool). cond b (Some x) (find p xs)) (at.before 0 (omega arith)) ∙ find_by xs i d (tail_at x xs i d at)

  pub find-at : (xs : List X) (i : ℕ) (d : X) → position p xs ≡ Some i → find p xs ≡ Some (get_or xs i d)
  find-at xs i d is = find_by xs i d (is_at xs i d is)

  -- none passes
  AllFail : List X → Type 0
  AllFail xs = (k : ℕ) (d : X) → k < length xs → p (get_or xs k d) ≡ false

  tail_fails : (x : X) (xs : List X) → AllFail (x ∷ xs) → AllFail xs
  unfolding AllFail
  tail_fails x xs all k d h = all (suc k) d (omega (arith, h))

  find_fails : (xs : List X) → AllFail xs → find p xs ≡ None
  unfolding AllFail
  find_fails [] all = refl
  find_fails (x ∷ xs) all = ap (λ (b : Bool). cond b (Some x) (find p xs)) (all 0 x (omega arith)) ∙ find_fails xs (tail_fails x xs all)

  none_at : (xs : List X) → position p xs ≡ None → AllFail xs
  unfolding AllFail
  none_at xs none k d within =
      let n : ℕ = position_or_len p xs in
      ⊎_elim
      (λ (lt : n < length xs). absurd (none-some n (sym none ∙ cond-true (ltb n (length xs)) (Some n) None (lt-ltb n (length xs) lt))))
      (λ (le : length xs ≤ n). fails_before_first p xs k d (omega (arith, within, le)))
      (cases_lt n (length xs))

  pub find-none_at : (xs : List X) → position p xs ≡ None → find p xs ≡ None
  find-none_at xs none = find_fails xs (none_at xs none)

module _ (key : Network → List ℕ) (bytes : List ℕ) where
  changed_by : (change : Network → Network) (ns : Networks) (i : ℕ) (d : Network) → IsAt (has key bytes) ns i d → with_changed key bytes change ns ≡ set ns i (change (get_or ns i d))
  unfolding with_changed
  changed_by change [] i d at = absurd (omega (arith, at.within))
  changed_by change (n ∷ ns) zero d at = ap (λ (b : Bool). cond b (change n ∷ ns) (n ∷ with_changed key bytes change ns)) at.here
  changed_by change (n ∷ ns) (suc i) d at = ap (λ (b : Bool). cond b (change n ∷ ns) (n ∷ with_changed key bytes change ns)) (at.before 0 (omega arith)) ∙ ap (λ (rest : Networks). n ∷ rest) (changed_by change ns i d (tail_at (has key bytes) n ns i d at))

  -- the entry in that place is changed
  pub changed-at : (change : Network → Network) (ns : Networks) (i : ℕ) (d : Network) → position (has key bytes) ns ≡ Some i → with_changed key bytes change ns ≡ set ns i (change (get_or ns i d))
  changed-at change ns i d is = changed_by change ns i d (is_at (has key bytes) ns i d is)

  changed_fails : (change : Network → Network) (ns : Networks) → AllFail (has key bytes) ns → with_changed key bytes change ns ≡ ns
  unfolding with_changed AllFail
  changed_fails change [] all = refl
  changed_fails change (n ∷ ns) all = ap (λ (b : Bool). cond b (change n ∷ ns) (n ∷ with_changed key bytes change ns)) (all 0 n (omega arith)) ∙ ap (λ (rest : Networks). n ∷ rest) (changed_fails change ns (tail_fails (has key bytes) n ns all))

  -- where there is none nothing changes
  pub changed-none : (change : Network → Network) (ns : Networks) → position (has key bytes) ns ≡ None → with_changed key bytes change ns ≡ ns
  changed-none change ns none = changed_fails change ns (none_at (has key bytes) ns none)

  pub network-at : (ns : Networks) (i : ℕ) (d : Network) → position (has key bytes) ns ≡ Some i → network_of key bytes ns ≡ Some (get_or ns i d)
  unfolding network_of
  network-at ns i d is = find-at (has key bytes) ns i d is

  pub network-none : (ns : Networks) → position (has key bytes) ns ≡ None → network_of key bytes ns ≡ None
  unfolding network_of
  network-none ns none = find-none_at (has key bytes) ns none

module _ (uuid : List ℕ) where
  without_by : (ns : Networks) (i : ℕ) (d : Network) → IsAt (has uuid_of uuid) ns i d → without uuid ns ≡ remove ns i
  unfolding without
  without_by [] i d at = absurd (omega (arith, at.within))
  without_by (n ∷ ns) zero d at = ap (λ (b : Bool). cond b ns (n ∷ without uuid ns)) at.here
  without_by (n ∷ ns) (suc i) d at = ap (λ (b : Bool). cond b ns (n ∷ without uuid ns)) (at.before 0 (omega arith)) ∙ ap (λ (rest : Networks). n ∷ rest) (without_by ns i d (tail_at (has uuid_of uuid) n ns i d at))

  pub without-at : (ns : Networks) (i : ℕ) (d : Network) → position (has uuid_of uuid) ns ≡ Some i → without uuid ns ≡ remove ns i
  without-at ns i d is = without_by ns i d (is_at (has uuid_of uuid) ns i d is)

  without_fails : (ns : Networks) → AllFail (has uuid_of uuid) ns → without uuid ns ≡ ns
  unfolding without AllFail
  without_fails [] all = refl
  without_fails (n ∷ ns) all = ap (λ (b : Bool). cond b ns (n ∷ without uuid ns)) (all 0 n (omega arith)) ∙ ap (λ (rest : Networks). n ∷ rest) (without_fails ns (tail_fails (has uuid_of uuid) n ns all))

  pub without-none : (ns : Networks) → position (has uuid_of uuid) ns ≡ None → without uuid ns ≡ ns
  without-none ns none = without_fails ns (none_at (has uuid_of uuid) ns none)

-- the same, as the table's calls see it: a slice of the entries, and the place that was found there
module _ (key : Network → List ℕ) (bytes : List ℕ) (ns view slice : Networks) (o : Option ℕ) (sliced : slice ≡ ns) (viewed : ns ≡ view) (found : o ≡ position (has key bytes) slice) where
  abbrev place : (r : Option ℕ) → o ≡ r → position (has key bytes) ns ≡ r
  place r is = ap (position (has key bytes)) (sym sliced) ∙ (sym found ∙ is)

  pub change_seen : (change : Network → Network) (i : ℕ) (now new : Network) → o ≡ Some i → now ≡ get_or ns i now → new ≡ change now → set ns i new ≡ with_changed key bytes change view
  change_seen change i now new is there changed = ap (set ns i) (changed ∙ ap change there) ∙ (sym (changed-at key bytes change ns i now (place (Some i) is)) ∙ ap (with_changed key bytes change) viewed)

  pub none_seen : (change : Network → Network) → o ≡ None → view ≡ with_changed key bytes change view
  none_seen change is = subst (λ (x : Networks). x ≡ with_changed key bytes change x) viewed (sym (changed-none key bytes change ns (place None is)))

  pub network_seen : (i : ℕ) (now : Network) → o ≡ Some i → now ≡ get_or ns i now → network_of key bytes view ≡ Some now
  network_seen i now is there = ap (network_of key bytes) (sym viewed) ∙ (network-at key bytes ns i now (place (Some i) is) ∙ ap Some (sym there))

  pub no_network_seen : o ≡ None → network_of key bytes view ≡ None
  no_network_seen is = ap (network_of key bytes) (sym viewed) ∙ network-none key bytes ns (place None is)

module _ (uuid : List ℕ) (ns view slice : Networks) (o : Option ℕ) (sliced : slice ≡ ns) (viewed : ns ≡ view) (found : o ≡ position (has uuid_of uuid) slice) where
  pub removed_seen : (i : ℕ) (d : Network) (left : Networks) → o ≡ Some i → left ≡ remove ns i → left ≡ without uuid view
  removed_seen i d left is was = was ∙ (sym (without-at uuid ns i d (place uuid_of uuid ns view slice o sliced viewed found (Some i) is)) ∙ ap (without uuid) viewed)

  pub none_removed : o ≡ None → view ≡ without uuid view
  none_removed is = subst (λ (x : Networks). x ≡ without uuid x) viewed (sym (without-none uuid ns (place uuid_of uuid ns view slice o sliced viewed found None is)))

-- what defining a network makes of the book
pub with_network-some : (def : NetDef) (ns : Networks) (uuid : List ℕ) (n : Network) → uuid ≡ identifier def → network_of uuid_of uuid ns ≡ Some n → with_changed uuid_of uuid (with_def def) ns ≡ with_network def ns
with_network-some def ns uuid n is = subst (λ (u : List ℕ). network_of uuid_of u ns ≡ Some n → with_changed uuid_of u (with_def def) ns ≡ with_network def ns) (sym is)
    (λ at. sym (ap (λ (o : Option Network). cond (is_some o) (with_changed uuid_of (identifier def) (with_def def) ns) (ns ++ new_network def ∷ [])) at))

pub with_network-none : (def : NetDef) (ns : Networks) (uuid : List ℕ) → uuid ≡ identifier def → network_of uuid_of uuid ns ≡ None → ns ++ new_network def ∷ [] ≡ with_network def ns
with_network-none def ns uuid is = subst (λ (u : List ℕ). network_of uuid_of u ns ≡ None → ns ++ new_network def ∷ [] ≡ with_network def ns) (sym is)
    (λ at. sym (ap (λ (o : Option Network). cond (is_some o) (with_changed uuid_of (identifier def) (with_def def) ns) (ns ++ new_network def ∷ [])) at))

-- what one test finds, another that finds nothing does not pass
fails_at : {X : Type 0} → (X → Bool) → Option X → Type 0
fails_at q None = Unit {0}
fails_at q (Some z) = q z ≡ false

passes_not : {X : Type 0} (p q : X → Bool) (xs : List X) (x : X) → find p xs ≡ Some x → find q xs ≡ None → q x ≡ false
unfolding fails_at
passes_not p q [] x is none = absurd (none-some x is)
passes_not p q (y ∷ ys) x is none = ⊎_elim
    (λ (is_so : q y ≡ true). absurd (none-some y (sym none ∙ ap (λ (b : Bool). cond b (Some y) (find q ys)) is_so)))
    (λ (not_so : q y ≡ false). ⊎_elim
    (λ (here : p y ≡ true). subst (fails_at q) (sym (ap (λ (b : Bool). cond b (Some y) (find p ys)) here) ∙ is) not_so)
    (λ (after : p y ≡ false). passes_not p q ys x (sym (ap (λ (b : Bool). cond b (Some y) (find p ys)) after) ∙ is) (sym (ap (λ (b : Bool). cond b (Some y) (find q ys)) not_so) ∙ none))
    (cases_Bool (p y)))
    (cases_Bool (q y))

is_done : NetAnswer → Bool
is_done Done = true
is_done (Leased a) = false
is_done (NotLeased f) = false
is_done (Refused r) = false

not_done : {P : Type 0} (r : Refusal) → Refused r ≡ Done → P
unfolding is_done
not_done r is = absurd (false≢true (ap is_done is))

-- a network that is new and may be defined has room
room_by : (def : NetDef) (ns : Networks) (o : Option Network) → network_of name_of def.name ns ≡ o → network_of uuid_of (identifier def) ns ≡ None → defined (identifier def) ns o None ≡ Done → length ns < 64
unfolding network_of
room_by def ns (Some n) found none done =
    let apart : bytes_eq (uuid_of n) (identifier def) ≡ false = passes_not (has name_of def.name) (has uuid_of (identifier def)) ns n found none in
    let other : Refusal = network_exists (hyphenated_text lower (uuid_of n)) in
    not_done other (sym (ap (λ (b : Bool). cond b (if_inactive (identifier def) (Some n)) (Refused other)) apart) ∙ done)
room_by def ns None found none done = ⊎_elim
    (λ (room : ltb (length ns) 64 ≡ true). ltb-true (length ns) 64 room)
    (λ (full : ltb (length ns) 64 ≡ false). not_done book_full (sym (ap (λ (b : Bool). cond b Done (Refused book_full)) full) ∙ done))
    (cases_Bool (ltb (length ns) 64))

pub has-room : (def : NetDef) (ns : Networks) (uuid : List ℕ) → uuid ≡ identifier def → network_of uuid_of uuid ns ≡ None → answer (call.Define def) ns ≡ Done → length ns < 64
unfolding answer
has-room def ns uuid is none done =
    let gone : network_of uuid_of (identifier def) ns ≡ None = ap (λ (u : List ℕ). network_of uuid_of u ns) (sym is) ∙ none in
    room_by def ns (network_of name_of def.name ns) refl gone (ap (defined (identifier def) ns (network_of name_of def.name ns)) (sym gone) ∙ done)

-- what a lease answers, by what is there
module _ (name : List ℕ) (mac : Mac) (ns : Networks) where
  pub lease-absent : network_of name_of name ns ≡ None → answer (call.Lease name mac) ns ≡ NotLeased (Class 11)
  unfolding answer
  lease-absent none = ap (leased_in mac) none

  pub lease-inactive : (n : Network) → network_of name_of name ns ≡ Some n → n.active ≡ false → answer (call.Lease name mac) ns ≡ NotLeased (Class 12)
  unfolding answer
  lease-inactive n there not_so = ap (leased_in mac) there ∙ ap (λ (b : Bool). cond b (leased (address_for mac n)) (NotLeased (Class 12))) not_so

  pub lease-given : (n : Network) (o : Option ℕ) → network_of name_of name ns ≡ Some n → n.active ≡ true → address_for mac n ≡ o → answer (call.Lease name mac) ns ≡ leased o
  unfolding answer
  lease-given n o there is_so is = ap (leased_in mac) there ∙ (ap (λ (b : Bool). cond b (leased (address_for mac n)) (NotLeased (Class 12))) is_so ∙ ap leased is)

  pub after-lease : (address : ℕ) → networks_after (call.Lease name mac) (Leased address) ns ≡ with_changed name_of name (with_lease mac address) ns
  unfolding networks_after
  after-lease address = refl

-- what is found twice is the same
pub same_one : (x y : Network) (o : Option Network) → o ≡ Some x → o ≡ Some y → x ≡ y
same_one x y o is also = ap (λ (p : Option Network). unwrap_or p x) (sym is ∙ also)

-- what defining a network answers, by what is there
module _ (def : NetDef) (ns : Networks) where
  pub define-named : (n : Network) → network_of name_of def.name ns ≡ Some n → answer (call.Define def) ns ≡ redefined (identifier def) n
  unfolding answer
  define-named n is = ap (λ (o : Option Network). defined (identifier def) ns o (network_of uuid_of (identifier def) ns)) is

  pub define-other : (n : Network) → network_of name_of def.name ns ≡ None → network_of uuid_of (identifier def) ns ≡ Some n → answer (call.Define def) ns ≡ Refused (network_exists (name_of n))
  unfolding answer
  define-other n none is = λ i. defined (identifier def) ns (none i) (is i)

  define-new : network_of name_of def.name ns ≡ None → network_of uuid_of (identifier def) ns ≡ None → answer (call.Define def) ns ≡ newly_defined ns
  unfolding answer
  define-new none neither = λ i. defined (identifier def) ns (none i) (neither i)

  pub define-room : network_of name_of def.name ns ≡ None → network_of uuid_of (identifier def) ns ≡ None → length ns < 64 → answer (call.Define def) ns ≡ Done
  define-room none neither room = define-new none neither ∙ ap (λ (b : Bool). cond b Done (Refused book_full)) (lt-ltb (length ns) 64 room)

  pub define-full : network_of name_of def.name ns ≡ None → network_of uuid_of (identifier def) ns ≡ None → 64 ≤ length ns → answer (call.Define def) ns ≡ Refused book_full
  define-full none neither full = define-new none neither ∙ ap (λ (b : Bool). cond b Done (Refused book_full)) (le-ltb (length ns) 64 full)
