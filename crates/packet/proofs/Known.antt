-- What a source reports of the bytes it has left, and a sink of those it holds, from call to call.
use Rattle.std.proofs.Common.{ℕ, List, [], ◌++◌, Option, None, Some, refl, sym, ap, ◌∙◌, append_assoc}
use Rattle.std.proofs.lemmas.List.{append-nil}
use Rattle.std.specs.Io.KnownBytes.{Appends, Consumes, Keeps}

pub Appends-then : (a b c : Option (List ℕ)) (xs ys : List ℕ) → Appends a b xs → Appends b c ys → Appends a c (xs ++ ys)
Appends-then None b c xs ys h k = tt
Appends-then (Some a) None c xs ys h k = absurd h
Appends-then (Some a) (Some b) None xs ys h k = absurd k
Appends-then (Some a) (Some b) (Some c) xs ys h k = k ∙ ap (λ (t : List ℕ). t ++ ys) h ∙ append_assoc a xs ys

pub Appends-none : (a : Option (List ℕ)) → Appends a a []
Appends-none None = tt
Appends-none (Some a) = sym (append-nil a)

pub Appends-kept : (a b c : Option (List ℕ)) (xs : List ℕ) → Appends a b xs → Keeps b c → Appends a c xs
Appends-kept None b c xs h k = tt
Appends-kept (Some a) None c xs h k = absurd h
Appends-kept (Some a) (Some b) None xs h k = absurd k
Appends-kept (Some a) (Some b) (Some c) xs h k = k ∙ h

pub Consumes-then : (a b c : Option (List ℕ)) (xs ys : List ℕ) → Consumes a b xs → Consumes b c ys → Consumes a c (xs ++ ys)
Consumes-then None b c xs ys h k = tt
Consumes-then (Some a) None c xs ys h k = absurd h
Consumes-then (Some a) (Some b) None xs ys h k = absurd k
Consumes-then (Some a) (Some b) (Some c) xs ys h k = h ∙ ap (λ (t : List ℕ). xs ++ t) k ∙ sym (append_assoc xs ys c)

pub Consumes-none : (a : Option (List ℕ)) → Consumes a a []
Consumes-none None = tt
Consumes-none (Some a) = refl

pub Consumes-kept : (a b c : Option (List ℕ)) (xs : List ℕ) → Consumes a b xs → Keeps b c → Consumes a c xs
Consumes-kept None b c xs h k = tt
Consumes-kept (Some a) None c xs h k = absurd h
Consumes-kept (Some a) (Some b) None xs h k = absurd k
Consumes-kept (Some a) (Some b) (Some c) xs h k = h ∙ ap (λ (t : List ℕ). xs ++ t) (sym k)
