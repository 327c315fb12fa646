-- What rows stand for, after a change.
use Rattle.std.proofs.Common.{◌≡◌, ◌⊎◌, inl, inr, ⊎_elim, ◌&&◌, Bool, true, false, cond, List, ◌∷◌, ℕ, Option, None, Some, Result, Ok, Err, OnOk, OnErr, bytes_eq, get_or, refl, sym, ◌∙◌, ap, subst, arith}
use Rattle.std.specs.Cmp.Lexicographic.{bytes_decides, nat_list_eq_equiv}
use Rattle.std.specs.Option.{IsSome}
use Rattle.std.proofs.lemmas.Bool.{cases_Bool, cond-true, cond-false}
use Rattle.store_spec.specs.declared.change.Change.TheVariants as change
use Rattle.store_spec.specs.declared.entry.Entry.{Entry}
use Rattle.store_spec.specs.declared.kind.BookKind.{BookKind}
use Rattle.store_spec.specs.declared.kind.BookKind.TheVariants as kind
use Rattle.store_spec.specs.Changes.{Definitions, changed, is_of, same_kind}
use Rattle.store_spec.proofs.Stands.{changed_else, changed_here, eq_of, kind_by_test}
use Rattle.def_map.specs.Map.{FindsTheSame, HasNoBareRow, IsFree, IsHolder, IsMade, IsNamed, IsReady, MapRows, NamesLead, entry_in, found, key_of, kind_byte, no_rows}
use Rattle.def_map.specs.Rows.{at, Stays, Updates}

-- two keys are the same where kinds and bytes are
pub same_key : (k l : BookKind) (one other : List ℕ) → bytes_eq (key_of k one) (key_of l other) ≡ (same_kind l k && bytes_eq other one)
same_key kind.Domain kind.Domain one other = nat_list_eq_equiv.symm one other
same_key kind.Domain kind.Network one other = refl
same_key kind.Domain kind.Pool one other = refl
same_key kind.Network kind.Domain one other = refl
same_key kind.Network kind.Network one other = nat_list_eq_equiv.symm one other
same_key kind.Network kind.Pool one other = refl
same_key kind.Pool kind.Domain one other = refl
same_key kind.Pool kind.Network one other = refl
same_key kind.Pool kind.Pool one other = nat_list_eq_equiv.symm one other

kinds_of : (k l : BookKind) → kind_byte k ≡ kind_byte l → k ≡ l
kinds_of kind.Domain kind.Domain same = refl
kinds_of kind.Domain kind.Network same = absurd (omega (arith, same))
kinds_of kind.Domain kind.Pool same = absurd (omega (arith, same))
kinds_of kind.Network kind.Domain same = absurd (omega (arith, same))
kinds_of kind.Network kind.Network same = refl
kinds_of kind.Network kind.Pool same = absurd (omega (arith, same))
kinds_of kind.Pool kind.Domain same = absurd (omega (arith, same))
kinds_of kind.Pool kind.Network same = absurd (omega (arith, same))
kinds_of kind.Pool kind.Pool same = refl

-- a key is of one kind, and of the same bytes
pub key_apart : (k l : BookKind) (one other : List ℕ) → key_of k one ≡ key_of l other → (k ≡ l) × (one ≡ other)
key_apart k l one other same =
    let bytes : kind_byte k ≡ kind_byte l = ap (λ (x : List ℕ). get_or x 0 0) same in
    (kinds_of k l bytes, tails (kind_byte k) (kind_byte l) one other same)
  where
    tails : (a b : ℕ) (xs ys : List ℕ) → (a ∷ xs) ≡ (b ∷ ys) → xs ≡ ys
    tails a b xs ys is = cc

pub lead_none : NamesLead no_rows
unfolding found at
lead_none k uuid e is = absurd (never e is)
  where
    never : (e : Entry) → None ≡ Some e → ⊥
    never e is = cc

-- an entry that is put
pub found_put : (old new : MapRows) (k : BookKind) (uuid : List ℕ) (e : Entry) → Updates (key_of k uuid) (Some (Some e)) old.entries new.entries → (l : BookKind) (other : List ℕ) → found new l other ≡ changed (change.Put k uuid e) (found old) l other
unfolding found changed
found_put old new k uuid e updates l other =
    ap entry_in (updates (key_of l other))
    ∙ ap (λ (b : Bool). entry_in (cond b (Some (Some e)) (at old.entries (key_of l other)))) (same_key k l uuid other)
    ∙ by_case (same_kind l k && bytes_eq other uuid)
  where
    by_case : (b : Bool) → entry_in (cond b (Some (Some e)) (at old.entries (key_of l other))) ≡ cond b (Some e) (entry_in (at old.entries (key_of l other)))
    by_case true = refl
    by_case false = refl

-- an entry that is dropped
pub found_dropped : (old new : MapRows) (k : BookKind) (uuid : List ℕ) → Updates (key_of k uuid) None old.entries new.entries → (l : BookKind) (other : List ℕ) → found new l other ≡ changed (change.Drop k uuid) (found old) l other
unfolding found changed
found_dropped old new k uuid updates l other =
    ap entry_in (updates (key_of l other))
    ∙ ap (λ (b : Bool). entry_in (cond b None (at old.entries (key_of l other)))) (same_key k l uuid other)
    ∙ by_case (same_kind l k && bytes_eq other uuid)
  where
    by_case : (b : Bool) → entry_in (cond b None (at old.entries (key_of l other))) ≡ cond b None (entry_in (at old.entries (key_of l other)))
    by_case true = refl
    by_case false = refl

-- a row without an entry, where there was none
pub found_row : (old new : MapRows) (k : BookKind) (uuid : List ℕ) → at old.entries (key_of k uuid) ≡ None → Updates (key_of k uuid) (Some None) old.entries new.entries → FindsTheSame old new
unfolding found
found_row old new k uuid none updates l other =
    ap entry_in (updates (key_of l other)) ∙ ⊎_elim
    (λ (same : bytes_eq (key_of k uuid) (key_of l other) ≡ true).
    ap entry_in (cond-true (bytes_eq (key_of k uuid) (key_of l other)) (Some None) (at old.entries (key_of l other)) same)
    ∙ ap entry_in (sym none ∙ ap (at old.entries) ((bytes_decides (key_of k uuid) (key_of l other)).0 same)))
    (λ (apart : bytes_eq (key_of k uuid) (key_of l other) ≡ false). ap entry_in (cond-false (bytes_eq (key_of k uuid) (key_of l other)) (Some None) (at old.entries (key_of l other)) apart))
    (cases_Bool (bytes_eq (key_of k uuid) (key_of l other)))

pub found_stays : (old new : MapRows) → Stays old.entries new.entries → FindsTheSame old new
unfolding found
found_stays old new stays l other = ap entry_in (stays (key_of l other))

-- what bytes have after an update, where they are those or others
pub update_here : {V : Type 0} (bytes : List ℕ) (value : Option V) (old new : List (List ℕ × V)) → Updates bytes value old new → (other : List ℕ) → bytes ≡ other → at new other ≡ value
update_here bytes value old new updates other same = updates other ∙ cond-true (bytes_eq bytes other) value (at old other) ((bytes_decides bytes other).1 same)

pub update_else : {V : Type 0} (bytes : List ℕ) (value : Option V) (old new : List (List ℕ × V)) → Updates bytes value old new → (other : List ℕ) → (bytes ≡ other → ⊥) → at new other ≡ at old other
update_else bytes value old new updates other differ = updates other ∙ ⊎_elim
    (λ (same : bytes_eq bytes other ≡ true). absurd (differ ((bytes_decides bytes other).0 same)))
    (λ (apart : bytes_eq bytes other ≡ false). cond-false (bytes_eq bytes other) value (at old other) apart)
    (cases_Bool (bytes_eq bytes other))

pub same_or_apart : (one other : List ℕ) → (one ≡ other) ⊎ (one ≡ other → ⊥)
same_or_apart one other = ⊎_elim
    (λ (same : bytes_eq one other ≡ true). inl ((bytes_decides one other).0 same))
    (λ (apart : bytes_eq one other ≡ false). inr (λ same. let no : true ≡ false = sym ((bytes_decides one other).1 same) ∙ apart in cc))
    (cases_Bool (bytes_eq one other))

-- a name that nobody else of the kind has is given an identifier
pub lead_named : (old new : MapRows) (k : BookKind) (uuid name : List ℕ) → IsFree k uuid name (found old) → FindsTheSame old new → Updates (key_of k name) (Some uuid) old.names new.names → NamesLead old → NamesLead new
lead_named old new k uuid name free same updates lead l other e is = ⊎_elim
    (λ (here : key_of k name ≡ key_of l e.name).
    let apart = key_apart k l name e.name here in
    let there : found old k other ≡ Some e = ap (λ (m : BookKind). found old m other) apart.0 ∙ sym (same l other) ∙ is in
    update_here (key_of k name) (Some uuid) old.names new.names updates (key_of l e.name) here ∙ ap (λ (u : List ℕ). Some u) (sym (free other e there (sym apart.1))))
    (λ (else : key_of k name ≡ key_of l e.name → ⊥). update_else (key_of k name) (Some uuid) old.names new.names updates (key_of l e.name) else ∙ lead l other e (sym (same l other) ∙ is))
    (same_or_apart (key_of k name) (key_of l e.name))

pub lead_stays : (old new : MapRows) → FindsTheSame old new → Stays old.names new.names → NamesLead old → NamesLead new
lead_stays old new same stays lead l other e is = stays (key_of l e.name) ∙ lead l other e (sym (same l other) ∙ is)

some_same : (one other : Entry) → Some one ≡ Some other → one ≡ other
some_same one other is = cc

-- an entry whose name leads to it is put
pub lead_put : (old new : MapRows) (k : BookKind) (uuid : List ℕ) (e : Entry) → IsReady k uuid e.name old → new.names ≡ old.names → Updates (key_of k uuid) (Some (Some e)) old.entries new.entries → NamesLead old → NamesLead new
unfolding found
lead_put old new k uuid e ready names updates lead l other f is = ap (λ (n : List (List ℕ × List ℕ)). at n (key_of l f.name)) names ∙ ⊎_elim
    (λ (here : key_of k uuid ≡ key_of l other).
    let apart = key_apart k l uuid other here in
    let this : e ≡ f = some_same e f (sym (ap entry_in (update_here (key_of k uuid) (Some (Some e)) old.entries new.entries updates (key_of l other) here)) ∙ is) in
    (λ i. at old.names (key_of (sym apart.0 i) (sym this i).name)) ∙ ready.named ∙ ap (λ (u : List ℕ). Some u) apart.1)
    (λ (else : key_of k uuid ≡ key_of l other → ⊥). lead l other f (sym (ap entry_in (update_else (key_of k uuid) (Some (Some e)) old.entries new.entries updates (key_of l other) else)) ∙ is))
    (same_or_apart (key_of k uuid) (key_of l other))

no_entry : (e : Entry) → None ≡ Some e → ⊥
no_entry e is = cc

-- where an object has an entry, its row is not bare
pub not_bare : (m : MapRows) (k : BookKind) (uuid : List ℕ) (e : Entry) → Some e ≡ found m k uuid → HasNoBareRow k uuid m
unfolding found
not_bare m k uuid e is bare = no_entry e (sym (ap entry_in bare) ∙ sym is)

-- an entry is dropped
pub lead_dropped : (old new : MapRows) (k : BookKind) (uuid : List ℕ) → new.names ≡ old.names → Updates (key_of k uuid) None old.entries new.entries → NamesLead old → NamesLead new
unfolding found
lead_dropped old new k uuid names updates lead l other f is = ap (λ (n : List (List ℕ × List ℕ)). at n (key_of l f.name)) names ∙ ⊎_elim
    (λ (here : key_of k uuid ≡ key_of l other). absurd (no_entry f (sym (ap entry_in (update_here (key_of k uuid) None old.entries new.entries updates (key_of l other) here)) ∙ is)))
    (λ (else : key_of k uuid ≡ key_of l other → ⊥). lead l other f (sym (ap entry_in (update_else (key_of k uuid) None old.entries new.entries updates (key_of l other) else)) ∙ is))
    (same_or_apart (key_of k uuid) (key_of l other))

pub made_by : {E : Type 0} (r : Result (Unit {0}) E) (key : List ℕ) (old new : List (List ℕ × Option Entry)) → at old key ≡ None → OnOk r (Updates key (Some None) old new) → OnErr r (Stays old new) → IsMade key old new
made_by (Ok x) key old new none ok err = inr (inr (none, ok))
made_by (Err e) key old new none ok err = inr (inl err)

pub named_by : {E : Type 0} (r : Result (Unit {0}) E) (key uuid : List ℕ) (old new : List (List ℕ × List ℕ)) → OnOk r (Updates key (Some uuid) old new) → OnErr r (Stays old new) → IsNamed key uuid old new
named_by (Ok x) key uuid old new ok err = inr ok
named_by (Err e) key uuid old new ok err = inl err

-- after an update there is a value
pub there_by : {V E : Type 0} (r : Result (Unit {0}) E) (key : List ℕ) (v : V) (old new : List (List ℕ × V)) → OnOk r (Updates key (Some v) old new) → OnOk r (at new key ≡ Some v)
there_by (Ok x) key v old new updates = update_here key (Some v) old new updates key refl
there_by (Err e) key v old new updates = tt

pub some_by : {V E : Type 0} (r : Result (Unit {0}) E) (o : Option V) (v : V) → OnOk r (o ≡ Some v) → OnOk r (IsSome o)
some_by (Ok x) o v is = subst IsSome (sym is) refl
some_by (Err e) o v is = tt

made_same : (old new : MapRows) (k : BookKind) (uuid : List ℕ) → IsMade (key_of k uuid) old.entries new.entries → FindsTheSame old new
unfolding found
made_same old new k uuid (inl same) l other = ap (λ (es : List (List ℕ × Option Entry)). entry_in (at es (key_of l other))) same
made_same old new k uuid (inr (inl stays)) l other = ap entry_in (stays (key_of l other))
made_same old new k uuid (inr (inr (none, updates))) l other = found_row old new k uuid none updates l other

-- what is found stays, and names lead
pub prepared : (old new : MapRows) (k : BookKind) (uuid name : List ℕ) → IsFree k uuid name (found old) → NamesLead old → IsMade (key_of k uuid) old.entries new.entries → IsNamed (key_of k name) uuid old.names new.names → NamesLead new × FindsTheSame old new
prepared old new k uuid name free lead made (inl stays) = let same = made_same old new k uuid made in (lead_stays old new same stays lead, same)
prepared old new k uuid name free lead made (inr updates) = let same = made_same old new k uuid made in (lead_named old new k uuid name free same updates lead, same)

none_some : (a b : List ℕ) → None ≡ Some a → ⊥
none_some a b is = cc

some_uuid : (a b : List ℕ) → Some a ≡ Some b → a ≡ b
some_uuid a b is = cc

-- a name that leads nowhere is nobody's
pub held_by_none : (m : MapRows) (k : BookKind) (name : List ℕ) → NamesLead m → at m.names (key_of k name) ≡ None → IsHolder k name (found m) None
held_by_none m k name lead none uuid e is same = none_some uuid uuid (sym none ∙ ap (λ (n : List ℕ). at m.names (key_of k n)) (sym same) ∙ lead k uuid e is)

-- and so is one that leads to an object of another name, or to none
pub held_by_other : (m : MapRows) (k : BookKind) (name uuid : List ℕ) (f : Option Entry) → NamesLead m → at m.names (key_of k name) ≡ Some uuid → found m k uuid ≡ f → ((e : Entry) → f ≡ Some e → e.name ≡ name → ⊥) → IsHolder k name (found m) None
held_by_other m k name uuid f lead there is differ other e found_is same =
    let here : uuid ≡ other = some_uuid uuid other (sym there ∙ ap (λ (n : List ℕ). at m.names (key_of k n)) (sym same) ∙ lead k other e found_is) in
    differ e (sym is ∙ ap (λ (u : List ℕ). found m k u) here ∙ found_is) same

-- the object itself has its name, and so nobody else has
pub free_own : (m : MapRows) (k : BookKind) (uuid name : List ℕ) (e : Entry) → NamesLead m → found m k uuid ≡ Some e → e.name ≡ name → IsFree k uuid name (found m)
free_own m k uuid name e lead is named other f found_is same =
    some_uuid other uuid (sym (lead k other f found_is) ∙ ap (λ (n : List ℕ). at m.names (key_of k n)) (same ∙ sym named) ∙ lead k uuid e is)

pub found_none : (k : BookKind) (uuid : List ℕ) → found no_rows k uuid ≡ None
unfolding found at
found_none k uuid = refl

-- what is found rests on the entries alone
pub found_entries : (es : List (List ℕ × Option Entry)) (ns ms : List (List ℕ × List ℕ)) (k : BookKind) (uuid : List ℕ) → found (record { entries = es; names = ns }) k uuid ≡ found (record { entries = es; names = ms }) k uuid
unfolding found
found_entries es ns ms k uuid = refl

-- a name that nobody has is forgotten
pub lead_forgotten : (old new : MapRows) (k : BookKind) (name : List ℕ) → new.entries ≡ old.entries → IsHolder k name (found old) None → Updates (key_of k name) None old.names new.names → NamesLead old → NamesLead new
unfolding found
lead_forgotten old new k name entries none updates lead l uuid e is =
    let there : found old l uuid ≡ Some e = ap (λ (es : List (List ℕ × Option Entry)). entry_in (at es (key_of l uuid))) (sym entries) ∙ is in
    ⊎_elim
    (λ (here : key_of k name ≡ key_of l e.name). let apart = key_apart k l name e.name here in
    absurd (none uuid e (ap (λ (m : BookKind). found old m uuid) apart.0 ∙ there) (sym apart.1)))
    (λ (else : key_of k name ≡ key_of l e.name → ⊥). update_else (key_of k name) None old.names new.names updates (key_of l e.name) else ∙ lead l uuid e there)
    (same_or_apart (key_of k name) (key_of l e.name))

-- to drop what is not there changes nothing
pub dropped_same : (map : Definitions) (k : BookKind) (uuid : List ℕ) (l : BookKind) (other : List ℕ) → map k uuid ≡ None → changed (change.Drop k uuid) map l other ≡ map l other
dropped_same map k uuid l other none = ⊎_elim
    (λ (this : is_of (change.Drop k uuid) l other ≡ true). changed_here (change.Drop k uuid) map l other this ∙ sym none
    ∙ (λ i. map (sym (kinds_here this) i) (sym (uuids_here this) i)))
    (λ (apart : is_of (change.Drop k uuid) l other ≡ false). changed_else (change.Drop k uuid) map l other apart)
    (cases_Bool (is_of (change.Drop k uuid) l other))
  where
    both_true : (a b : Bool) → (a && b) ≡ true → (a ≡ true) × (b ≡ true)
    both_true true b is = (refl, is)
    both_true false b is = cc

    kinds_here : is_of (change.Drop k uuid) l other ≡ true → l ≡ k
    kinds_here this = kind_by_test l k (both_true (same_kind l k) (bytes_eq other uuid) this).0

    uuids_here : is_of (change.Drop k uuid) l other ≡ true → other ≡ uuid
    uuids_here this = eq_of other uuid (both_true (same_kind l k) (bytes_eq other uuid) this).1
