-- What a crash leaves after one operation more.
use Rattle.std.proofs.Common.{◌≡◌, ◌⊎◌, inl, inr, ⊎_elim, ◌++◌, Bool, true, false, cond, ◌||◌, List, [], ◌∷◌, ℕ, Option, None, Some, option_map, refl, sym, ◌∙◌, ap, subst, append_assoc, append-nil}
use Rattle.std.specs.List.{list_any}
use Rattle.std.proofs.lemmas.List.{same_from_push}
use Rattle.std.proofs.lemmas.List.Folds.{list_any-append}
use Rattle.store_spec.specs.declared.operation.Operation.{Operation}
use Rattle.store_spec.specs.declared.operation.Operation.TheVariants as op
use Rattle.store_spec.specs.Directory.{Directory, File, directory, files_after}
use Rattle.store_spec.specs.Disk.{CanBeLost, Leaves, MayLeave, is_renaming, syncs_directory, writes}
use Rattle.store_spec.specs.Laws.{ImagesGoOn, IsUpToDate, ReadsAsAnImage, SameBut}

leaves_read : (f : Option File) → Leaves f (option_map (λ g. g.bytes) f)
leaves_read None = refl
leaves_read (Some f) = λ synced. refl

pub reads_as_an_image : ReadsAsAnImage
reads_as_an_image os = record { kept = os; lost = []; parts = append-nil os; loses = tt; files = λ n none. leaves_read (files_after os n) }

-- the last of a list
snoc : {A : Type 0} (xs : List A) → (xs ≡ []) ⊎ ((init : List A) × (last : A) × (xs ≡ init ++ last ∷ []))
snoc [] = inl refl
snoc {A} (x ∷ xs) = ⊎_elim
    (λ none. inr ([], x, ap (λ (l : List A). x ∷ l) none))
    (λ some. inr (x ∷ some.0, some.1, ap (λ (l : List A). x ∷ l) some.2))
    (snoc xs)

neither : (a b : Bool) → (a || b) ≡ false → (a ≡ false) × (b ≡ false)
neither true b is = cc
neither false b is = (refl, is)

-- an operation that changes names syncs nothing and writes nothing
renaming_syncs_not : (o : Operation) → is_renaming o ≡ true → syncs_directory o ≡ false
renaming_syncs_not (op.Write name content) is = refl
renaming_syncs_not (op.Sync name) is = refl
renaming_syncs_not (op.Rename from to) is = refl
renaming_syncs_not (op.Remove name) is = refl
renaming_syncs_not op.SyncDirectory is = cc

pub renaming_writes_not : (n : List ℕ) (o : Operation) → is_renaming o ≡ true → writes n o ≡ false
renaming_writes_not n (op.Write name content) is = cc
renaming_writes_not n (op.Sync name) is = refl
renaming_writes_not n (op.Rename from to) is = refl
renaming_writes_not n (op.Remove name) is = refl
renaming_writes_not n op.SyncDirectory is = refl

-- what may be lost without the last of it
shorter : (init : List Operation) (o : Operation) → CanBeLost (init ++ o ∷ []) → CanBeLost init × (syncs_directory o ≡ false)
shorter [] o loses = (tt, renaming_syncs_not o loses.0)
shorter (x ∷ xs) o loses =
    let both = neither (list_any syncs_directory xs) (syncs_directory o || false) (sym (list_any-append syncs_directory xs (o ∷ [])) ∙ loses.1) in
    ((loses.0, both.0), (neither (syncs_directory o) false both.1).0)

cond_true : {A : Type 0} (b : Bool) (x y : A) → b ≡ true → cond b x y ≡ x
cond_true true x y is = refl
cond_true false x y is = cc

cond_false : {A : Type 0} (b : Bool) (x y : A) → b ≡ false → cond b x y ≡ y
cond_false true x y is = cc
cond_false false x y is = refl

-- a crash left this before, where it leaves that now
abbrev before_of : Operation → List Operation → Directory → Directory
before_of o kept left n = cond (writes n o) (directory kept n) (left n)

fits_before : (f : Option File) (b : Bool) (left : Option (List ℕ)) → (b ≡ false → Leaves f left) → Leaves f (cond b (option_map (λ g. g.bytes) f) left)
fits_before f true left fits = leaves_read f
fits_before f false left fits = fits refl

or_false : (a b : Bool) → a ≡ false → b ≡ false → (a || b) ≡ false
or_false true b x y = cc
or_false false b x y = y

any_more : (n : List ℕ) (init : List Operation) (o : Operation) → list_any (writes n) init ≡ false → writes n o ≡ false → list_any (writes n) (init ++ o ∷ []) ≡ false
any_more n init o none not = list_any-append (writes n) init (o ∷ []) ∙ or_false (list_any (writes n) init) (writes n o || false) none (or_false (writes n o) false not refl)

-- where something is lost, the last operation is lost too
lost_too : (os : List Operation) (o last : Operation) (left : Directory) (m : MayLeave (os ++ o ∷ []) left) (init : List Operation) → m.lost ≡ init ++ last ∷ []
    → (syncs_directory o ≡ false) × (before : Directory) × MayLeave os before × SameBut o left before
lost_too os o last left m init is =
    let cut = same_from_push (m.kept ++ init) os last o (append_assoc m.kept init (last ∷ []) ∙ ap (λ (l : List Operation). m.kept ++ l) (sym is) ∙ m.parts) in
    let lost : m.lost ≡ init ++ o ∷ [] = is ∙ ap (λ (x : Operation). init ++ x ∷ []) cut.1 in
    let loses = shorter init o (subst CanBeLost lost m.loses) in (
      loses.1,
      before_of o m.kept left,
      record {
        kept = m.kept;
        lost = init;
        parts = cut.0;
        loses = loses.0;
        files = λ n none. fits_before (files_after m.kept n) (writes n o) (left n) (λ not. m.files n (ap (λ (l : List Operation). list_any (writes n) l) lost ∙ any_more n init o none not));
      },
      λ n not. sym (cond_false (writes n o) (directory m.kept n) (left n) not),
    )

-- where nothing is lost, all that was done is on the disk
none_lost : (os : List Operation) (left : Directory) (m : MayLeave os left) → m.lost ≡ [] → IsUpToDate os left
none_lost os left m none n =
    let all : m.kept ≡ os = sym (append-nil m.kept) ∙ ap (λ (l : List Operation). m.kept ++ l) (sym none) ∙ m.parts in
    subst (λ (l : List Operation). Leaves (files_after l n) (left n)) all (m.files n (ap (λ (l : List Operation). list_any (writes n) l) none))

pub images_go_on : ImagesGoOn
images_go_on os o left m = ⊎_elim
    (λ none. inl (none_lost (os ++ o ∷ []) left m none))
    (λ some. inr (lost_too os o some.1 left m some.0 some.2))
    (snoc m.lost)
