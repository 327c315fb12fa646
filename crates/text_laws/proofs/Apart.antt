-- Interfaces that are filled in keep apart from one another.
use Rattle.std.proofs.Common.{◌≡◌, ℕ, ◌<◌, List, [], ◌∷◌, ◌++◌, length, Bool, true, false, true≢false, Option, Some, None, refl, sym, ◌∙◌, ap, subst, arith, length-append}
use Rattle.std.specs.Prelude.{◌||◌, bytes_eq}
use Rattle.std.specs.List.{AllByRecursion}
use Rattle.std.proofs.lemmas.Slice.Eq.{bytes_eq-Decides}
use Rattle.types_base.specs.declared.device_def.Interface.{Interface}
use Rattle.types_base.specs.declared.mac.Mac.{Mac}
use Rattle.text_spec.specs.Fill.{tails, has_mac, is_taken, mac_among, IsMacFilled, AreMacsFilled}
use Rattle.text_spec.specs.MacText.{mac_of}
use Rattle.types_base.specs.Mac.{mac_text}
use Rattle.text_spec.specs.Tag.{is_among}
use Rattle.text_laws.specs.Given.{IsMac, IsMacOf, IsInterface, mac_key, IsApart, with_mac_key, AreInterfacesApart}
use Rattle.text_laws.proofs.Allowed.{both_all, front_of_all}
use Rattle.text_laws.proofs.Filled.{among_is}
use Rattle.text_laws.proofs.Free.{same_bytes, not_both, free_among}
use Rattle.text_laws.proofs.Macs.{mac_back}
use Rattle.text_laws.proofs.ReadMacs.{key_text}

-- ---- two addresses
-- both are there, and the same
abbrev clash : Option Mac → Option Mac → Bool
clash None other = false
clash (Some m) None = false
clash (Some m) (Some n) = bytes_eq m.bytes n.bytes

either_false : (a b : Bool) → (a || b) ≡ false → (a ≡ false) × (b ≡ false)
either_false true b e = absurd cc
either_false false b e = (refl, e)

both_false : (a b : Bool) → a ≡ false → b ≡ false → (a || b) ≡ false
both_false true b p q = absurd cc
both_false false b p q = q

eq_bytes : (xs ys : List ℕ) → xs ≡ ys → bytes_eq xs ys ≡ true
eq_bytes xs ys e = (bytes_eq-Decides xs ys).1 e

turned : (xs ys : List ℕ) → bytes_eq xs ys ≡ false → bytes_eq ys xs ≡ false
turned xs ys e = not_both (bytes_eq ys xs) (λ h. true≢false (sym (eq_bytes xs ys (sym (same_bytes ys xs h))) ∙ e))

turned_clash : (a b : Option Mac) → clash a b ≡ false → clash b a ≡ false
turned_clash None None e = refl
turned_clash None (Some n) e = refl
turned_clash (Some m) None e = refl
turned_clash (Some m) (Some n) e = turned m.bytes n.bytes e

-- keys differ as addresses do
same_key : (m n : Mac) → m.bytes ≡ n.bytes → mac_key m ≡ mac_key n
same_key m n e = ap (λ bytes. mac_key (record { bytes = bytes })) e

keys_apart : (m n : Mac) → bytes_eq (mac_key m) (mac_key n) ≡ false → bytes_eq m.bytes n.bytes ≡ false
keys_apart m n e =
    not_both (bytes_eq m.bytes n.bytes) (λ h. true≢false (sym (eq_bytes (mac_key m) (mac_key n) (same_key m n (same_bytes m.bytes n.bytes h))) ∙ e))

one_mac : (m n : Mac) → IsMac m → IsMac n → mac_key m ≡ mac_key n → m.bytes ≡ n.bytes
one_mac m n p q e =
    let texts : mac_text m ≡ mac_text n = sym (key_text m p) ∙ (e ∙ key_text n q) in
    let macs : Some m ≡ Some n = sym (mac_back m p) ∙ (ap mac_of texts ∙ mac_back n q) in
    cc

macs_apart : (m n : Mac) → IsMac m → IsMac n → bytes_eq m.bytes n.bytes ≡ false → bytes_eq (mac_key m) (mac_key n) ≡ false
macs_apart m n p q e =
    not_both (bytes_eq (mac_key m) (mac_key n)) (λ h. true≢false (sym (eq_bytes m.bytes n.bytes (one_mac m n p q (same_bytes (mac_key m) (mac_key n) h))) ∙ e))

-- ---- each interface and those after it
abbrev Clear : Option Mac → Interface → Type 0
Clear own k = clash own k.mac ≡ false

abbrev AllApart : List Interface → Type 0
AllApart [] = Unit {0}
AllApart (i ∷ is) = AllByRecursion (Clear i.mac) is × AllApart is

each_all : {A : Type 0} (P Q : A → Type 0) → ((x : A) → P x → Q x) → (xs : List A) → AllByRecursion P xs → AllByRecursion Q xs
each_all P Q f [] all = tt
each_all P Q f (x ∷ xs) all = (f x all.0, each_all P Q f xs all.1)

two_all : {A : Type 0} (P Q R : A → Type 0) → ((x : A) → P x → Q x → R x) → (xs : List A) → AllByRecursion P xs → AllByRecursion Q xs → AllByRecursion R xs
two_all P Q R f [] p q = tt
two_all P Q R f (x ∷ xs) p q = (f x p.0 q.0, two_all P Q R f xs p.1 q.1)

-- the keys say as much
fewer_keys : (keys : List (List ℕ)) (own other : Option Mac) → IsApart (with_mac_key own keys) other → IsApart keys other
fewer_keys keys own None is = tt
fewer_keys keys None (Some n) is = is
fewer_keys keys (Some m) (Some n) is = (either_false (bytes_eq (mac_key m) (mac_key n)) (is_among (mac_key n) keys) is).1

all_fresh : (keys : List (List ℕ)) (is : List Interface) → AreInterfacesApart keys is → AllByRecursion (λ k. IsApart keys k.mac) is
all_fresh keys [] are = tt
all_fresh keys (i ∷ is) are = (
  are.0,
  each_all (λ k. IsApart (with_mac_key i.mac keys) k.mac) (λ k. IsApart keys k.mac) (λ k h. fewer_keys keys i.mac k.mac h) is
      (all_fresh (with_mac_key i.mac keys) is are.1),
)

clear_by : (keys : List (List ℕ)) (own other : Option Mac) → IsApart (with_mac_key own keys) other → clash own other ≡ false
clear_by keys None other is = refl
clear_by keys (Some m) None is = refl
clear_by keys (Some m) (Some n) is = keys_apart m n (either_false (bytes_eq (mac_key m) (mac_key n)) (is_among (mac_key n) keys) is).0

all_apart : (keys : List (List ℕ)) (is : List Interface) → AreInterfacesApart keys is → AllApart is
all_apart keys [] are = tt
all_apart keys (i ∷ is) are = (
  each_all (λ k. IsApart (with_mac_key i.mac keys) k.mac) (Clear i.mac) (λ k h. clear_by keys i.mac k.mac h) is
      (all_fresh (with_mac_key i.mac keys) is are.1),
  all_apart (with_mac_key i.mac keys) is are.1,
)

more_keys : (keys : List (List ℕ)) (own other : Option Mac) → IsMacOf own → IsMacOf other → clash own other ≡ false → IsApart keys other
    → IsApart (with_mac_key own keys) other
more_keys keys own None p q clear is = tt
more_keys keys None (Some n) p q clear is = is
more_keys keys (Some m) (Some n) p q clear is =
    both_false (bytes_eq (mac_key m) (mac_key n)) (is_among (mac_key n) keys) (macs_apart m n p q clear) is

keys_from : (keys : List (List ℕ)) (is : List Interface) → AllByRecursion IsInterface is → AllApart is → AllByRecursion (λ k. IsApart keys k.mac) is
    → AreInterfacesApart keys is
keys_from keys [] all apart fresh = tt
keys_from keys (i ∷ is) all apart fresh =
    let others = two_all IsInterface (λ k. Clear i.mac k × IsApart keys k.mac) (λ k. IsApart (with_mac_key i.mac keys) k.mac)
    (λ k is h. more_keys keys i.mac k.mac all.0 is h.0 h.1) is all.1
    (two_all (Clear i.mac) (λ k. IsApart keys k.mac) (λ k. Clear i.mac k × IsApart keys k.mac) (λ k p q. (p, q)) is apart.0 fresh.1) in
    (fresh.0, keys_from (with_mac_key i.mac keys) is all.1 apart.1 others)

any_fresh : (own : Option Mac) → IsApart [] own
any_fresh None = tt
any_fresh (Some m) = refl

all_free : (is : List Interface) → AllByRecursion (λ k. IsApart [] k.mac) is
all_free [] = tt
all_free (i ∷ is) = (any_fresh i.mac, all_free is)

-- ---- filling in
-- no interface of these has this address
has_by : (mac : Mac) (i : Interface) (own : Option Mac) → i.mac ≡ own → has_mac mac i ≡ false → clash own (Some mac) ≡ false
unfolding has_mac
has_by mac i None e is = refl
has_by mac i (Some m) e is = rw e at is

clear_of : (mac : Mac) (is : List Interface) → is_taken is mac ≡ false → AllByRecursion (λ k. clash k.mac (Some mac) ≡ false) is
clear_of mac [] e = tt
clear_of mac (i ∷ is) e =
    let parts = either_false (has_mac mac i) (is_taken is mac) e in
    (has_by mac i i.mac refl parts.0, clear_of mac is parts.1)

-- an interface that was filled in, among those filled in before it and those after it
record Settled (before is : List Interface) (i j : Interface) : Type 0 where
  front : AllByRecursion (λ b. clash b.mac j.mac ≡ false) before
  back : AllByRecursion (Clear j.mac) is

back_of_all : {A : Type 0} (P : A → Type 0) (xs ys : List A) → AllByRecursion P (xs ++ ys) → AllByRecursion P ys
back_of_all P [] ys all = all
back_of_all P (x ∷ xs) ys all = back_of_all P xs ys all.1

settled : (words : List ℕ) (before is : List Interface) (i j : Interface) (own : Option Mac) → i.mac ≡ own → IsMacFilled words (before ++ i ∷ is) i own j
    → length (before ++ i ∷ is) < tails → AllByRecursion (λ b. clash b.mac i.mac ≡ false) before → AllByRecursion (Clear i.mac) is
    → Settled before is i j
settled words before is i j None e filled few front back =
    let mac = mac_among (before ++ i ∷ is) filled.0 in
    let clear = clear_of mac (before ++ i ∷ is) (free_among (before ++ i ∷ is) filled.0 few) in
    subst (Settled before is i) (sym filled.1)
    (record {
      front = front_of_all (λ k. clash k.mac (Some mac) ≡ false) before (i ∷ is) clear;
      back = each_all (λ k. clash k.mac (Some mac) ≡ false) (Clear (Some mac)) (λ k h. turned_clash k.mac (Some mac) h) is
          (back_of_all (λ k. clash k.mac (Some mac) ≡ false) before (i ∷ is) clear).1;
    })
settled words before is i j (Some m) e filled few front back =
    subst (Settled before is i) (sym filled.0) (record { front = front; back = back })

-- each of these interfaces, apart from those filled in before it
abbrev Behind : List Interface → Interface → Type 0
Behind before k = AllByRecursion (λ b. clash b.mac k.mac ≡ false) before

record Kept (before js : List Interface) : Type 0 where
  apart : AllApart js
  behind : AllByRecursion (Behind before) js

filled_apart : (words : List ℕ) (before is js : List Interface) → AreMacsFilled words before is js → length (before ++ is) < tails → AllApart is → AllByRecursion (Behind before) is
    → Kept before js
filled_apart words before [] [] filled few apart behind = record { apart = tt; behind = tt }
filled_apart words before [] (j ∷ js) filled few apart behind = absurd filled
filled_apart words before (i ∷ is) [] filled few apart behind = absurd filled
filled_apart words before (i ∷ is) (j ∷ js) filled few apart behind =
    let now = settled filled.0 before is i j i.mac refl filled.2 few behind.0 apart.0 in
    let more : AllByRecursion (Behind (before ++ j ∷ [])) is =
    two_all (Behind before) (Clear j.mac) (Behind (before ++ j ∷ []))
    (λ k p q. both_all (λ b. clash b.mac k.mac ≡ false) before (j ∷ []) p (q, tt)) is behind.1 now.back in
    let long : length ((before ++ j ∷ []) ++ is) < tails =
    omega (arith, few, length-append (before ++ j ∷ []) is, length-append before (j ∷ []), length-append before (i ∷ is)) in
    let rest = filled_apart filled.1 (before ++ j ∷ []) is js filled.3 long apart.1 more in
    record {
      apart = (
        each_all (Behind (before ++ j ∷ [])) (Clear j.mac) (λ k h. (back_of_all (λ b. clash b.mac k.mac ≡ false) before (j ∷ []) h).0) js rest.behind,
        rest.apart,
      );
      behind = (
        now.front,
        each_all (Behind (before ++ j ∷ [])) (Behind before) (λ k h. front_of_all (λ b. clash b.mac k.mac ≡ false) before (j ∷ []) h) js rest.behind,
      );
    }

none_before : (is : List Interface) → AllByRecursion (Behind []) is
none_before [] = tt
none_before (i ∷ is) = (tt, none_before is)

-- ---- all interfaces
address_by : (words : List ℕ) (before : List Interface) (i j : Interface) (own : Option Mac) → i.mac ≡ own → IsMacFilled words before i own j → IsInterface i → IsInterface j
address_by words before i j None e filled is = subst IsInterface (sym filled.1) (among_is before filled.0)
address_by words before i j (Some m) e filled is = subst IsInterface (sym filled.0) is

addresses : (words : List ℕ) (before is js : List Interface) → AreMacsFilled words before is js → AllByRecursion IsInterface is → AllByRecursion IsInterface js
addresses words before [] [] filled all = tt
addresses words before [] (j ∷ js) filled all = absurd filled
addresses words before (i ∷ is) [] filled all = absurd filled
addresses words before (i ∷ is) (j ∷ js) filled all =
    (address_by filled.0 (before ++ i ∷ is) i j i.mac refl filled.2 all.0, addresses filled.1 (before ++ j ∷ []) is js filled.3 all.1)

pub filled_addresses : (words : List ℕ) (is js : List Interface) → AreMacsFilled words [] is js → AllByRecursion IsInterface is → AllByRecursion IsInterface js
filled_addresses words is js filled all = addresses words [] is js filled all

pub filled_keys : (words : List ℕ) (is js : List Interface) → AreMacsFilled words [] is js → length is < tails → AllByRecursion IsInterface is → AreInterfacesApart [] is
    → AreInterfacesApart [] js
filled_keys words is js filled few all apart =
    let kept = filled_apart words [] is js filled few (all_apart [] is apart) (none_before is) in
    keys_from [] js (filled_addresses words is js filled all) kept.apart (all_free js)
