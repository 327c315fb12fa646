-- Which address is free, and how far a range is taken.
use Rattle.std.proofs.Common.{◌≡◌, ℕ, ◌+◌, ◌-◌, ◌<◌, ◌≤◌, ◌==◌, ◌||◌, not, Bool, true, false, cond, List, [], ◌∷◌, ◌++◌, find, option_map, bytes_eq, is_some, Option, None, Some, zero, suc, refl, sym, ap, ◌∙◌, subst, ⊎_elim, eq-eqb, eqb-true, le_refl, arith}
use Rattle.std.specs.List.{list_any, range_with_len}
use Rattle.std.specs.Cmp.Lexicographic.{bytes_decides}
use Rattle.std.proofs.Math.Bool.{or-false, or-true}
use Rattle.std.proofs.lemmas.Bool.{cases_Bool, cases_lt, false≢true, true≢false, not-false, not-true}
use Rattle.std.proofs.lemmas.List.Folds.{list_any-append}
use Rattle.std.proofs.lemmas.Option.{none-some}
use Rattle.virt_types.specs.Below.types_base.declared.mac.Mac.{Mac}
use Rattle.virt_types.specs.declared.value.LeaseRow.{LeaseRow}
use Rattle.virt_types.specs.Below.types_base.declared.network_def.AddressRange.{AddressRange}
use Rattle.virt_types.specs.Below.types_base.declared.network_def.HostLine.{HostLine}
use Rattle.book_spec.specs.declared.book.Network.{Network}
use Rattle.book_spec.specs.Leases.{same_mac, leased_to, hosted_for, is_hosted, is_leased, least_free, or_else, address_for, hosts_of, range_of}
use Rattle.net_core.specs.declared.mac_index.MacIndex.{MacIndex}
use Rattle.net_core.specs.Index.{address_at, Updates}
use Rattle.net_core.specs.Entries.{IsIndexed, IsFirst, IsAhead, KeepsNext, Begins}

or_zero : Option ℕ → ℕ
or_zero None = 0
or_zero (Some n) = n

same_some : (a b : ℕ) → Some a ≡ Some b → a ≡ b
unfolding or_zero
same_some a b is = ap or_zero is

-- the first of the numbers from a on that passes
find-first : (p : ℕ → Bool) (a n i : ℕ) → a ≤ i → i < a + n → p i ≡ true → ((k : ℕ) → a ≤ k → k < i → p k ≡ false) → find p (range_with_len a n) ≡ Some i
find-first p a zero i low high is_so before = absurd (omega (arith, low, high))
find-first p a (suc n) i low high is_so before = ⊎_elim
    (λ (lt : a < i). ap (λ (b : Bool). cond b (Some a) (find p (range_with_len (a + 1) n))) (before a (le_refl a) lt) ∙ find-first p (a + 1) n i (omega (arith, lt)) (omega (arith, high)) is_so (λ k l h. before k (omega (arith, l)) h))
    (λ (ge : i ≤ a). let is : a ≡ i = omega (arith, low, ge) in ap (λ (b : Bool). cond b (Some a) (find p (range_with_len (a + 1) n))) (ap p is ∙ is_so) ∙ ap Some is)
    (cases_lt a i)

find-none : (p : ℕ → Bool) (a n : ℕ) → ((k : ℕ) → a ≤ k → k < a + n → p k ≡ false) → find p (range_with_len a n) ≡ None
find-none p a zero all = refl
find-none p a (suc n) all = ap (λ (b : Bool). cond b (Some a) (find p (range_with_len (a + 1) n))) (all a (le_refl a) (omega arith)) ∙ find-none p (a + 1) n (λ k l h. all k (omega (arith, l)) (omega (arith, h)))

record FindsAt (p : ℕ → Bool) (a n i : ℕ) : Type 0 where
  pub after : a ≤ i
  pub within : i < a + n
  pub is_so : p i ≡ true
  pub before : (k : ℕ) → a ≤ k → k < i → p k ≡ false

find-found : (p : ℕ → Bool) (a n i : ℕ) → find p (range_with_len a n) ≡ Some i → FindsAt p a n i
find-found p a zero i is = absurd (none-some i is)
find-found p a (suc n) i is = ⊎_elim
    (λ (is_so : p a ≡ true).
    let here : a ≡ i = same_some a i (sym (ap (λ (b : Bool). cond b (Some a) (find p (range_with_len (a + 1) n))) is_so) ∙ is) in
    record { after = omega (arith, here); within = omega (arith, here); is_so = subst (λ (x : ℕ). p x ≡ true) here is_so; before = λ k l h. absurd (omega (arith, here, l, h)) })
    (λ (not_so : p a ≡ false).
    let rest : FindsAt p (a + 1) n i = find-found p (a + 1) n i (sym (ap (λ (b : Bool). cond b (Some a) (find p (range_with_len (a + 1) n))) not_so) ∙ is) in
    record { after = omega (arith, rest.after); within = omega (arith, rest.within); is_so = rest.is_so; before = λ k l h. ⊎_elim (λ (lt : a < k). rest.before k (omega (arith, lt)) h) (λ (ge : k ≤ a). subst (λ (x : ℕ). p x ≡ false) (omega (arith, l, ge)) not_so) (cases_lt a k) })
    (cases_Bool (p a))

-- the address is taken
abbrev taken : List LeaseRow → List HostLine → ℕ → Bool
taken leases hosts a = is_leased a leases || is_hosted a hosts

by_host : (leases : List LeaseRow) (hosts : List HostLine) (a : ℕ) → is_hosted a hosts ≡ true → taken leases hosts a ≡ true
by_host leases hosts a is_so = ap (λ (b : Bool). is_leased a leases || b) is_so ∙ or-true (is_leased a leases)

-- what was found past the addresses that are taken is the least free address
pub least : (range : AddressRange) (hosts : List HostLine) (leases : List LeaseRow) (next : ℕ) (o : Option ℕ) → IsAhead range hosts leases next → IsFirst hosts next range.end o → o ≡ least_free (Some range) hosts leases
unfolding least_free
least range hosts leases next None ahead first = sym (find-none (λ a. not (taken leases hosts a)) range.start (range.end + 1 - range.start)
    (λ k l h. ⊎_elim
    (λ (lt : k < next). ap not (ahead.passed k l lt))
    (λ (ge : next ≤ k). ap not (by_host leases hosts k (first k ge (omega (arith, l, h)))))
    (cases_lt k next)))
least range hosts leases next (Some address) ahead first = sym (find-first (λ a. not (taken leases hosts a)) range.start (range.end + 1 - range.start) address
    (omega (arith, ahead.begun, first.after)) (omega (arith, ahead.begun, first.after, first.within))
    (λ i. not (not_leased i || first.free i))
    (λ k l h. ⊎_elim
    (λ (lt : k < next). ap not (ahead.passed k l lt))
    (λ (ge : next ≤ k). ap not (by_host leases hosts k (first.before k ge h)))
    (cases_lt k next)))
  where
    not_leased : is_leased address leases ≡ false
    not_leased = ⊎_elim
        (λ (is_so : is_leased address leases ≡ true). absurd (true≢false (sym (ahead.ahead address first.after is_so) ∙ first.free)))
        (λ (not_so : is_leased address leases ≡ false). not_so)
        (cases_Bool (is_leased address leases))

-- a range of which nothing is leased
pub keeps-new : (range : Option AddressRange) (hosts : List HostLine) (leases : List LeaseRow) (next : ℕ) → leases ≡ [] → Begins range next → KeepsNext range hosts leases next
unfolding is_leased
keeps-new None hosts leases next none begins = tt
keeps-new (Some range) hosts leases next none begins = record {
  begun = omega (arith, begins);
  passed = λ a l h. absurd (omega (arith, begins, l, h));
  ahead = λ a l is. absurd (false≢true (ap (list_any (λ (lease : LeaseRow). lease.address == a)) (sym none) ∙ is));
}

-- a lease more
abbrev more : List LeaseRow → Mac → ℕ → List LeaseRow
more leases mac address = leases ++ record { mac = mac; address = address } ∷ []

leased-more : (leases : List LeaseRow) (mac : Mac) (address a : ℕ) → is_leased a (more leases mac address) ≡ (is_leased a leases || (address == a))
unfolding is_leased
leased-more leases mac address a = list_any-append (λ (lease : LeaseRow). lease.address == a) leases (record { mac = mac; address = address } ∷ []) ∙ ap (λ (b : Bool). is_leased a leases || b) (or-false (address == a))

still_leased : (leases : List LeaseRow) (mac : Mac) (address a : ℕ) → is_leased a leases ≡ true → is_leased a (more leases mac address) ≡ true
still_leased leases mac address a is_so = leased-more leases mac address a ∙ ap (λ (b : Bool). b || (address == a)) is_so

leased_now : (leases : List LeaseRow) (mac : Mac) (address a : ℕ) → address ≡ a → is_leased a (more leases mac address) ≡ true
leased_now leases mac address a is = leased-more leases mac address a ∙ (ap (λ (b : Bool). is_leased a leases || b) (eq-eqb address a is) ∙ or-true (is_leased a leases))

-- what has an address now had it before, or it is the new one
leased_before : (leases : List LeaseRow) (mac : Mac) (address a : ℕ) {P : Type 0} → is_leased a (more leases mac address) ≡ true → (is_leased a leases ≡ true → P) → (address ≡ a → P) → P
leased_before leases mac address a now old new = ⊎_elim
    old
    (λ (not_so : is_leased a leases ≡ false). new (eqb-true address a (sym (ap (λ (b : Bool). b || (address == a)) not_so) ∙ (sym (leased-more leases mac address a) ∙ now))))
    (cases_Bool (is_leased a leases))

still_taken : (hosts : List HostLine) (leases : List LeaseRow) (mac : Mac) (address a : ℕ) → taken leases hosts a ≡ true → taken (more leases mac address) hosts a ≡ true
still_taken hosts leases mac address a was = ⊎_elim
    (λ (is_so : is_hosted a hosts ≡ true). by_host (more leases mac address) hosts a is_so)
    (λ (not_so : is_hosted a hosts ≡ false).
    let leased : is_leased a leases ≡ true = sym (or-false (is_leased a leases)) ∙ (ap (λ (b : Bool). is_leased a leases || b) (sym not_so) ∙ was) in
    ap (λ (b : Bool). b || is_hosted a hosts) (still_leased leases mac address a leased))
    (cases_Bool (is_hosted a hosts))

-- the address of a host line is leased
pub keeps-hosted : (range : Option AddressRange) (hosts : List HostLine) (leases : List LeaseRow) (next : ℕ) (mac : Mac) (address : ℕ) → is_hosted address hosts ≡ true → KeepsNext range hosts leases next → KeepsNext range hosts (more leases mac address) next
keeps-hosted None hosts leases next mac address is_so keeps = tt
keeps-hosted (Some range) hosts leases next mac address is_so keeps = record {
  begun = keeps.begun;
  passed = λ a l h. still_taken hosts leases mac address a (keeps.passed a l h);
  ahead = λ a l is. leased_before leases mac address a is (keeps.ahead a l) (λ (here : address ≡ a). subst (λ (x : ℕ). is_hosted x hosts ≡ true) here is_so);
}

-- the least free address is leased
pub keeps-free : (range : Option AddressRange) (hosts : List HostLine) (leases : List LeaseRow) (next : ℕ) (mac : Mac) (address : ℕ) → least_free range hosts leases ≡ Some address → KeepsNext range hosts leases next → KeepsNext range hosts (more leases mac address) (address + 1)
unfolding least_free
keeps-free None hosts leases next mac address is keeps = tt
keeps-free (Some range) hosts leases next mac address is keeps =
    let found = find-found (λ a. not (taken leases hosts a)) range.start (range.end + 1 - range.start) address is in
    let free : taken leases hosts address ≡ false = not-true (taken leases hosts address) found.is_so in
    let far : next ≤ address = ⊎_elim (λ (lt : address < next). absurd (true≢false (sym (keeps.passed address found.after lt) ∙ free))) (λ (ge : next ≤ address). ge) (cases_lt address next) in
    record {
      begun = omega (arith, found.after);
      passed = λ a l h. ⊎_elim
          (λ (lt : a < address). still_taken hosts leases mac address a (not-false (taken leases hosts a) (found.before a l lt)))
          (λ (ge : address ≤ a). ap (λ (b : Bool). b || is_hosted a hosts) (leased_now leases mac address a (omega (arith, ge, h))))
          (cases_lt a address);
      ahead = λ a l now. leased_before leases mac address a now (keeps.ahead a (omega (arith, far, l))) (λ (here : address ≡ a). absurd (omega (arith, here, l)));
    }

-- an interface's host line is a host line
hosted_for-hosted : (mac : Mac) (hosts : List HostLine) (a : ℕ) → hosted_for mac hosts ≡ Some a → is_hosted a hosts ≡ true
unfolding hosted_for is_hosted
hosted_for-hosted mac [] a is = absurd (none-some a is)
hosted_for-hosted mac (host ∷ hosts) a is = ⊎_elim
    (λ (is_so : same_mac host.mac mac ≡ true).
    let here : host.address ≡ a = same_some host.address a (sym (ap (λ (b : Bool). option_map (λ (h : HostLine). h.address) (cond b (Some host) (find (λ (h : HostLine). same_mac h.mac mac) hosts))) is_so) ∙ is) in
    ap (λ (b : Bool). b || list_any (λ (h : HostLine). h.address == a) hosts) (eq-eqb host.address a here))
    (λ (not_so : same_mac host.mac mac ≡ false).
    ap (λ (b : Bool). (host.address == a) || b) (hosted_for-hosted mac hosts a (sym (ap (λ (b : Bool). option_map (λ (h : HostLine). h.address) (cond b (Some host) (find (λ (h : HostLine). same_mac h.mac mac) hosts))) not_so) ∙ is)) ∙ or-true (host.address == a))
    (cases_Bool (same_mac host.mac mac))

free_by : (hosts : List HostLine) (o l : Option ℕ) (address : ℕ) → ((a : ℕ) → o ≡ Some a → is_hosted a hosts ≡ true) → or_else o l ≡ Some address → is_hosted address hosts ≡ false → l ≡ Some address
free_by hosts None l address host is not_so = is
free_by hosts (Some b) l address host is not_so = absurd (true≢false (sym (subst (λ (x : ℕ). is_hosted x hosts ≡ true) (same_some b address is) (host b refl)) ∙ not_so))

-- an address that an interface gets without a lease or a host line is the least free one
pub address-free : (mac : Mac) (network : Network) (address : ℕ) → address_for mac network ≡ Some address → leased_to mac network.leases ≡ None → is_hosted address (hosts_of network) ≡ false → least_free (range_of network) (hosts_of network) network.leases ≡ Some address
unfolding address_for
address-free mac network address is none not_so = free_by (hosts_of network) (hosted_for mac (hosts_of network)) (least_free (range_of network) (hosts_of network) network.leases) address
    (hosted_for-hosted mac (hosts_of network))
    (ap (λ (o : Option ℕ). or_else o (or_else (hosted_for mac (hosts_of network)) (least_free (range_of network) (hosts_of network) network.leases))) (sym none) ∙ is) not_so

-- the index finds nothing where nothing is leased
pub indexed-new : (index : MacIndex) → ((bytes : List ℕ) → address_at index bytes ≡ None) → IsIndexed index []
unfolding leased_to
indexed-new index none mac is = none mac.bytes

leased_to-cons : (mac : Mac) (lease : LeaseRow) (leases : List LeaseRow) → leased_to mac (lease ∷ leases) ≡ cond (same_mac lease.mac mac) (Some lease.address) (leased_to mac leases)
unfolding leased_to
leased_to-cons mac lease leases = ⊎_elim
    (λ (is_so : same_mac lease.mac mac ≡ true). ap (λ (b : Bool). option_map (λ (l : LeaseRow). l.address) (cond b (Some lease) (find (λ (l : LeaseRow). same_mac l.mac mac) leases))) is_so ∙ sym (ap (λ (b : Bool). cond b (Some lease.address) (leased_to mac leases)) is_so))
    (λ (not_so : same_mac lease.mac mac ≡ false). ap (λ (b : Bool). option_map (λ (l : LeaseRow). l.address) (cond b (Some lease) (find (λ (l : LeaseRow). same_mac l.mac mac) leases))) not_so ∙ sym (ap (λ (b : Bool). cond b (Some lease.address) (leased_to mac leases)) not_so))
    (cases_Bool (same_mac lease.mac mac))

leased_to-nil : (mac : Mac) → leased_to mac [] ≡ None
unfolding leased_to
leased_to-nil mac = refl

some_none : {P : Type 0} (a : ℕ) → Some a ≡ None → P
some_none a is = absurd (none-some a (sym is))

-- a lease more, to an interface that had none
leased_to-more : (mac : Mac) (address : ℕ) (leases : List LeaseRow) → leased_to mac leases ≡ None → (other : Mac) → leased_to other (more leases mac address) ≡ cond (same_mac mac other) (Some address) (leased_to other leases)
leased_to-more mac address [] none other = leased_to-cons other (record { mac = mac; address = address }) []
leased_to-more mac address (lease ∷ leases) none other = ⊎_elim
    (λ (is_mac : same_mac lease.mac mac ≡ true). some_none lease.address (sym (leased_to-cons mac lease leases ∙ ap (λ (b : Bool). cond b (Some lease.address) (leased_to mac leases)) is_mac) ∙ none))
    (λ (not_mac : same_mac lease.mac mac ≡ false).
    let none_left : leased_to mac leases ≡ None = sym (leased_to-cons mac lease leases ∙ ap (λ (b : Bool). cond b (Some lease.address) (leased_to mac leases)) not_mac) ∙ none in
    let rest = leased_to-more mac address leases none_left other in
    ⊎_elim
    (λ (is_other : same_mac lease.mac other ≡ true).
    let apart : same_mac mac other ≡ false = ⊎_elim
    (λ (is_so : same_mac mac other ≡ true).
    let bytes : mac.bytes ≡ other.bytes = (bytes_decides mac.bytes other.bytes).0 is_so in
    absurd (true≢false (sym is_other ∙ (ap (bytes_eq lease.mac.bytes) (sym bytes) ∙ not_mac))))
    (λ (not_so : same_mac mac other ≡ false). not_so)
    (cases_Bool (same_mac mac other)) in
    leased_to-cons other lease (more leases mac address) ∙ (ap (λ (b : Bool). cond b (Some lease.address) (leased_to other (more leases mac address))) is_other
    ∙ sym (ap (λ (b : Bool). cond b (Some address) (leased_to other (lease ∷ leases))) apart ∙ (leased_to-cons other lease leases ∙ ap (λ (b : Bool). cond b (Some lease.address) (leased_to other leases)) is_other))))
    (λ (not_other : same_mac lease.mac other ≡ false).
    leased_to-cons other lease (more leases mac address) ∙ (ap (λ (b : Bool). cond b (Some lease.address) (leased_to other (more leases mac address))) not_other
    ∙ (rest ∙ ap (cond (same_mac mac other) (Some address)) (sym (leased_to-cons other lease leases ∙ ap (λ (b : Bool). cond b (Some lease.address) (leased_to other leases)) not_other)))))
    (cases_Bool (same_mac lease.mac other)))
    (cases_Bool (same_mac lease.mac mac))

pub indexed-more : (old new : MacIndex) (leases : List LeaseRow) (mac : Mac) (address : ℕ) → IsIndexed old leases → leased_to mac leases ≡ None → Updates mac.bytes (Some address) old new → IsIndexed new (more leases mac address)
indexed-more old new leases mac address indexed none updates other is =
    updates other.bytes is ∙ (ap (cond (same_mac mac other) (Some address)) (indexed other is) ∙ sym (leased_to-more mac address leases none other))

-- what an entry sees of its network
pub least-none : (network : Network) (range : Option AddressRange) → range ≡ range_of network → range ≡ None → None ≡ least_free (range_of network) (hosts_of network) network.leases
unfolding least_free
least-none network range is none = ap (λ (r : Option AddressRange). least_free r (hosts_of network) network.leases) (sym none ∙ is)

pub least-some : (network : Network) (range : Option AddressRange) (r : AddressRange) (hosts : List HostLine) (next : ℕ) (o : Option ℕ) → range ≡ range_of network → range ≡ Some r → hosts ≡ hosts_of network → KeepsNext (range_of network) (hosts_of network) network.leases next → IsFirst hosts next r.end o → o ≡ least_free (range_of network) (hosts_of network) network.leases
least-some network range r hosts next o is some same keeps first =
    least r (hosts_of network) network.leases next o (subst (λ (x : Option AddressRange). KeepsNext x (hosts_of network) network.leases next) (sym is ∙ some) keeps) (subst (λ (h : List HostLine). IsFirst h next r.end o) same first)
    ∙ ap (λ (x : Option AddressRange). least_free x (hosts_of network) network.leases) (sym some ∙ is)

pub address-leased : (mac : Mac) (network : Network) (a : ℕ) → leased_to mac network.leases ≡ Some a → Some a ≡ address_for mac network
unfolding address_for
address-leased mac network a is = sym (ap (λ (o : Option ℕ). or_else o (or_else (hosted_for mac (hosts_of network)) (least_free (range_of network) (hosts_of network) network.leases))) is)

pub address-hosted : (mac : Mac) (network : Network) (o : Option ℕ) → leased_to mac network.leases ≡ None → hosted_for mac (hosts_of network) ≡ o → or_else o (least_free (range_of network) (hosts_of network) network.leases) ≡ address_for mac network
unfolding address_for
address-hosted mac network o none is = sym ((λ i. or_else (none i) (or_else (is i) (least_free (range_of network) (hosts_of network) network.leases))))

-- where nothing was found, nothing is there
pub gone : {A : Type 0} (o : Option A) → is_some o ≡ false → o ≡ None
gone None not_so = refl
gone (Some a) not_so = absurd (true≢false not_so)
