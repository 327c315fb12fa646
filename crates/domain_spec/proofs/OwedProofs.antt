-- Why what is owed are the transitions after a registration, up to its end.
use Rattle.std.proofs.Common.{◌≡◌, ℕ, ◌==◌, List, [], ◌∷◌, ◌++◌, Bool, true, false, if◌then◌else◌, refl, sym, ap, ◌∙◌, append_assoc, append-nil, eq-eqb}
use Rattle.domain_spec.specs.Types.{Transition}
use Rattle.domain_spec.specs.declared.mark.Mark.{Mark}
use Rattle.domain_spec.specs.declared.mark.Mark.TheVariants as mark
use Rattle.domain_spec.specs.declared.owed.Owed.{Owed}
use Rattle.domain_spec.specs.HistoryLaws.{IsRegistered, OwedExactly}
use Rattle.domain_spec.specs.Owed.{all_transitions, owed, owed_all, owed_cut, owed_from}

-- marks of which none ends the registration bring all their transitions
abbrev Brings : ℕ → List Transition → List (Mark ℕ) → List (Mark ℕ) → Type 0
Brings client so_far marks rest = owed_from client 0 so_far (marks ++ rest) ≡ owed_from client 0 (so_far ++ all_transitions marks) rest

one_more : (client : ℕ) (so_far more all : List Transition) (x : Owed) (rest : List (Mark ℕ))
    → x ≡ owed_from client 0 ((so_far ++ more) ++ all) rest → x ≡ owed_from client 0 (so_far ++ (more ++ all)) rest
one_more client so_far more all x rest h = h ∙ ap (λ (l : List Transition). owed_from client 0 l rest) (append_assoc so_far more all)

not_by : (b : Bool) (x y z : Owed) → b ≡ false → y ≡ z → (if b then x else y) ≡ z
not_by true x y z is h = cc
not_by false x y z is h = h

pub brings : (client : ℕ) (so_far : List Transition) (marks rest : List (Mark ℕ)) → IsRegistered client marks → Brings client so_far marks rest
brings client so_far [] rest none = ap (λ (l : List Transition). owed_from client 0 l rest) (sym (append-nil so_far))
brings client so_far (mark.Unwatch n other ∷ marks) rest none =
    not_by (other == client) (owed_all so_far) (owed_from client 0 so_far (marks ++ rest)) _ none.0 (brings client so_far marks rest none.1)
brings client so_far (mark.Cut other total taken ∷ marks) rest none =
    not_by (other == client) (owed_cut so_far total 0) (owed_from client 0 so_far (marks ++ rest)) _ none.0 (brings client so_far marks rest none.1)
brings client so_far (mark.Done number who c boot asks answers r events ∷ marks) rest none = one_more client so_far events (all_transitions marks) _ rest (brings client (so_far ++ events) marks rest none.1)
brings client so_far (mark.Refused number who c why held ∷ marks) rest none = one_more client so_far [] (all_transitions marks) _ rest (brings client (so_far ++ []) marks rest none.1)
brings client so_far (mark.Start number who c boot ∷ marks) rest none = one_more client so_far [] (all_transitions marks) _ rest (brings client (so_far ++ []) marks rest none.1)
brings client so_far (mark.Phase number who p asks answers next events ∷ marks) rest none = one_more client so_far events (all_transitions marks) _ rest (brings client (so_far ++ events) marks rest none.1)
brings client so_far (mark.TakeUp number who c ∷ marks) rest none = one_more client so_far [] (all_transitions marks) _ rest (brings client (so_far ++ []) marks rest none.1)
brings client so_far (mark.End number who r ∷ marks) rest none = one_more client so_far [] (all_transitions marks) _ rest (brings client (so_far ++ []) marks rest none.1)
brings client so_far (mark.Exit boot why events ∷ marks) rest none = one_more client so_far events (all_transitions marks) _ rest (brings client (so_far ++ events) marks rest none.1)
brings client so_far (mark.Event boot e events ∷ marks) rest none = one_more client so_far events (all_transitions marks) _ rest (brings client (so_far ++ events) marks rest none.1)
brings client so_far (mark.Watch number other ∷ marks) rest none = one_more client so_far [] (all_transitions marks) _ rest (brings client (so_far ++ []) marks rest none.1)
brings client so_far (mark.Admit number who j c boot ∷ marks) rest none = one_more client so_far [] (all_transitions marks) _ rest (brings client (so_far ++ []) marks rest none.1)

ends_by : (b : Bool) (x y : Owed) → b ≡ true → (if b then x else y) ≡ x
ends_by true x y is = refl
ends_by false x y is = cc

still : (client : ℕ) (marks : List (Mark ℕ)) → IsRegistered client marks → owed client marks ≡ owed_all (all_transitions marks)
still client marks none = ap (owed_from client 0 []) (sym (append-nil marks)) ∙ brings client [] marks [] none

pub owed_exactly : OwedExactly
owed_exactly client marks later none = record {
  still = still client marks none;
  left = λ n. brings client [] marks (mark.Unwatch n client ∷ later) none ∙ ends_by (client == client) _ _ (eq-eqb client client refl);
  cut = λ total taken. brings client [] marks (mark.Cut client total taken ∷ later) none ∙ ends_by (client == client) _ _ (eq-eqb client client refl);
}
