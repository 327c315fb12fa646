-- An address that is raised until no interface has it is found among few interfaces.
use Rattle.std.proofs.Common.{◌≡◌, ℕ, zero, suc, ◌+◌, ◌/◌, ◌%◌, ◌^◌, ◌<◌, ◌≤◌, List, [], ◌∷◌, length, Bool, true, false, true≢false, Option, Some, None, refl, sym, ◌∙◌, ap, arith}
use Rattle.std.specs.Prelude.{◌||◌, not, filter, bytes_eq, if◌then◌else◌}
use Rattle.std.specs.Option.{option_map_or}
use Rattle.std.proofs.lemmas.Slice.Eq.{bytes_eq-Decides}
use Rattle.types_base.specs.declared.device_def.Interface.{Interface}
use Rattle.types_base.specs.declared.mac.Mac.{Mac}
use Rattle.text_spec.specs.Fill.{tails, local_mac, has_mac, is_taken, next_tail, raised, mac_among}

-- ---- addresses of the range
pub local_same : (s t : ℕ) → s < tails → t < tails → (local_mac s).bytes ≡ (local_mac t).bytes → s ≡ t
unfolding local_mac
local_same s t p q e =
    let high : s / 2 ^ 16 ≡ t / 2 ^ 16 = cc in
    let middle : s / 2 ^ 8 % 2 ^ 8 ≡ t / 2 ^ 8 % 2 ^ 8 = cc in
    let low : s % 2 ^ 8 ≡ t % 2 ^ 8 = cc in
    omega (arith, high, middle, low)

-- ---- interfaces with one address left out
pub not_both : (b : Bool) → (b ≡ true → ⊥) → b ≡ false
not_both true h = absurd (h refl)
not_both false h = refl

pub same_bytes : (xs ys : List ℕ) → bytes_eq xs ys ≡ true → xs ≡ ys
same_bytes xs ys e = (bytes_eq-Decides xs ys).0 e

has_one : (a b : Mac) (own : Option Mac) → option_map_or (λ m. bytes_eq m.bytes a.bytes) own false ≡ true
    → option_map_or (λ m. bytes_eq m.bytes b.bytes) own false ≡ true → a.bytes ≡ b.bytes
has_one a b None p q = absurd cc
has_one a b (Some m) p q = sym (same_bytes m.bytes a.bytes p) ∙ same_bytes m.bytes b.bytes q

Others : Mac → Mac → Type 0
Others a b = a.bytes ≡ b.bytes → ⊥

only_one : (a b : Mac) (i : Interface) → Others a b → has_mac a i ≡ true → has_mac b i ≡ false
unfolding has_mac Others
only_one a b i other p = not_both (option_map_or (λ m. bytes_eq m.bytes b.bytes) i.mac false) (λ q. other (has_one a b i.mac p q))

without : Mac → List Interface → List Interface
without mac is = filter (λ i. not (has_mac mac i)) is

without_first : (mac : Mac) (i : Interface) (is : List Interface) → has_mac mac i ≡ true → without mac (i ∷ is) ≡ without mac is
unfolding without
without_first mac i is e = rw e

with_first : (mac : Mac) (i : Interface) (is : List Interface) → has_mac mac i ≡ false → without mac (i ∷ is) ≡ i ∷ without mac is
unfolding without
with_first mac i is e = rw e

no_longer_by : (mac : Mac) (i : Interface) (is : List Interface) (b : Bool) → has_mac mac i ≡ b → length (without mac is) ≤ length is
    → length (without mac (i ∷ is)) ≤ length (i ∷ is)
no_longer_by mac i is true e rest = rw (without_first mac i is e) (omega (arith, rest))
no_longer_by mac i is false e rest = rw (with_first mac i is e) (omega (arith, rest))

no_longer : (mac : Mac) (is : List Interface) → length (without mac is) ≤ length is
unfolding without
no_longer mac [] = omega arith
no_longer mac (i ∷ is) = no_longer_by mac i is (has_mac mac i) refl (no_longer mac is)

shorter_by : (mac : Mac) (i : Interface) (is : List Interface) (b : Bool) → has_mac mac i ≡ b → (b || is_taken is mac) ≡ true
    → (is_taken is mac ≡ true → length (without mac is) < length is) → length (without mac (i ∷ is)) < length (i ∷ is)
shorter_by mac i is true e taken rest = rw (without_first mac i is e) (omega (arith, no_longer mac is))
shorter_by mac i is false e taken rest = rw (with_first mac i is e) (omega (arith, rest taken))

shorter : (mac : Mac) (is : List Interface) → is_taken is mac ≡ true → length (without mac is) < length is
shorter mac [] taken = absurd cc
shorter mac (i ∷ is) taken = shorter_by mac i is (has_mac mac i) refl taken (λ e. shorter mac is e)

either_true : (a b : Bool) → b ≡ true → (a || b) ≡ true
either_true true b e = refl
either_true false b e = e

still_by : (a b : Mac) (i : Interface) (is : List Interface) (c d : Bool) → Others a b → has_mac a i ≡ c → has_mac b i ≡ d → (d || is_taken is b) ≡ true
    → (is_taken is b ≡ true → is_taken (without a is) b ≡ true) → is_taken (without a (i ∷ is)) b ≡ true
still_by a b i is true d other p q taken rest =
    let no : d ≡ false = sym q ∙ only_one a b i other p in
    rw (without_first a i is p) (rest (rw no at taken))
still_by a b i is false true other p q taken rest = rw (with_first a i is p, q)
still_by a b i is false false other p q taken rest = rw (with_first a i is p) (either_true (has_mac b i) (is_taken (without a is) b) (rest taken))

-- another address is still taken
still : (a b : Mac) (is : List Interface) → Others a b → is_taken is b ≡ true → is_taken (without a is) b ≡ true
still a b [] other taken = absurd cc
still a b (i ∷ is) other taken =
    still_by a b i is (has_mac a i) (has_mac b i) other refl refl taken (λ e. still a b is other e)

-- ---- addresses that are taken one after another
-- the address that is so many steps on
abbrev mac_on : ℕ → ℕ → Mac
mac_on tail steps = local_mac ((tail + steps) % tails)

AllTaken : ℕ → List Interface → ℕ → Type 0
AllTaken n is tail = (j : ℕ) → j < n → is_taken is (mac_on tail j) ≡ true

first_on : (tail : ℕ) → tail < tails → mac_on tail 0 ≡ local_mac tail
first_on tail h = let same : (tail + 0) % tails ≡ tail = omega arith in ap local_mac same

next_on : (tail j : ℕ) → tail < tails → mac_on (next_tail tail) j ≡ mac_on tail (j + 1)
next_on tail j h = let same : (next_tail tail + j) % tails ≡ (tail + (j + 1)) % tails = omega arith in ap local_mac same

other_on : (tail j : ℕ) → tail < tails → j + 1 < tails → Others (local_mac tail) (mac_on tail (j + 1))
unfolding Others
other_on tail j h k e =
    let same : tail ≡ (tail + (j + 1)) % tails = local_same tail ((tail + (j + 1)) % tails) h (omega arith) e in
    omega (arith, same)

-- as many interfaces have them
as_many : (n : ℕ) (is : List Interface) (tail : ℕ) → n ≤ tails → tail < tails → AllTaken n is tail → n ≤ length is
unfolding AllTaken
as_many zero is tail small h taken = omega arith
as_many (suc n) is tail small h taken =
    let here : is_taken is (local_mac tail) ≡ true = ap (is_taken is) (sym (first_on tail h)) ∙ taken 0 (omega arith) in
    let fewer = shorter (local_mac tail) is here in
    let others : AllTaken n (without (local_mac tail) is) (next_tail tail) =
    λ j k. ap (is_taken (without (local_mac tail) is)) (next_on tail j h)
    ∙ still (local_mac tail) (mac_on tail (j + 1)) is (other_on tail j h (omega (arith, k, small))) (taken (j + 1) (omega (arith, k))) in
    let more = as_many n (without (local_mac tail) is) (next_tail tail) (omega (arith, small)) (omega arith) others in
    omega (arith, fewer, more)

raised_by : (n : ℕ) (is : List Interface) (tail : ℕ) (b : Bool) → is_taken is (local_mac tail) ≡ b
    → raised (suc n) is tail ≡ (if b then raised n is (next_tail tail) else tail)
unfolding raised
raised_by n is tail b e = rw e

all_taken_by : (n : ℕ) (is : List Interface) (tail : ℕ) (b : Bool) → tail < tails → is_taken is (local_mac tail) ≡ b
    → is_taken is (local_mac (raised (suc n) is tail)) ≡ true
    → (is_taken is (local_mac (raised n is (next_tail tail))) ≡ true → AllTaken n is (next_tail tail)) → AllTaken (suc n) is tail
unfolding AllTaken
all_taken_by n is tail true h e taken rest zero k = ap (is_taken is) (first_on tail h) ∙ e
all_taken_by n is tail true h e taken rest (suc j) k =
    let last : is_taken is (local_mac (raised n is (next_tail tail))) ≡ true =
    ap (λ x. is_taken is (local_mac x)) (sym (raised_by n is tail true e)) ∙ taken in
    let same : suc j ≡ j + 1 = omega arith in
    ap (λ x. is_taken is (mac_on tail x)) same ∙ (ap (is_taken is) (sym (next_on tail j h)) ∙ rest last j (omega (arith, k)))
all_taken_by n is tail false h e taken rest j k =
    absurd (true≢false (sym taken ∙ (ap (λ x. is_taken is (local_mac x)) (raised_by n is tail false e) ∙ e)))

all_taken : (n : ℕ) (is : List Interface) (tail : ℕ) → tail < tails → is_taken is (local_mac (raised n is tail)) ≡ true → AllTaken n is tail
unfolding AllTaken
all_taken zero is tail h taken = λ j k. absurd (omega (arith, k))
all_taken (suc n) is tail h taken =
    all_taken_by n is tail (is_taken is (local_mac tail)) h refl taken (λ e. all_taken n is (next_tail tail) (omega arith) e)

pub free_among : (is : List Interface) (word : ℕ) → length is < tails → is_taken is (mac_among is word) ≡ false
free_among is word few =
    let tail = word % tails in
    let within : tail < tails = omega arith in
    not_both (is_taken is (mac_among is word))
    (λ taken. let many = as_many tails is tail (omega arith) within (all_taken tails is tail within taken) in omega (arith, many, few))
