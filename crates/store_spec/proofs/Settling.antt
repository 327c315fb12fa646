-- A directory in which nothing is in doubt, after one operation more.
use Rattle.std.proofs.Common.{◌≡◌, ◌⊎◌, inl, inr, ⊎_elim, ◌++◌, true, false, List, [], ◌∷◌, ℕ, Option, option_map, sym, ◌∙◌, ap, subst}
use Rattle.store_spec.specs.declared.change.Change.{Change}
use Rattle.store_spec.specs.declared.operation.Operation.{Operation}
use Rattle.store_spec.specs.declared.operation.Operation.TheVariants as op
use Rattle.store_spec.specs.Changes.{Definitions, changed, entry_of, kind_of, uuid_of}
use Rattle.store_spec.specs.Directory.{Directory, File, Files, directory, files_after, operated}
use Rattle.store_spec.specs.Disk.{MayLeave, syncs_directory, writes}
use Rattle.store_spec.specs.FileNames.{IsDefinitionName, IsUuid, definition_name}
use Rattle.store_spec.specs.Laws.{IsUpToDate, SameBut}
use Rattle.store_spec.specs.Settled.{IsSettled, IsSure}
use Rattle.store_spec.specs.StandsFor.{Holds, StandsFor}
use Rattle.store_spec.proofs.Crashes.{images_go_on}
use Rattle.store_spec.proofs.Operating.{files_more, same_or_not}
use Rattle.store_spec.proofs.Stands.{stands_alike, stands_changed, up_to_date_alike}

-- the operation changes no file of a definition
pub record IsAside (o : Operation) : Type 0 where
  pub files : (fs : Files) (n : List ℕ) → IsDefinitionName n → operated o fs n ≡ fs n
  pub writes_none : (n : List ℕ) → IsDefinitionName n → writes n o ≡ false

pub settled_aside : (os : List Operation) (o : Operation) (map : Definitions) → IsAside o → IsSettled os map → IsSettled (os ++ o ∷ []) map
settled_aside os o map aside s = record { stands = now; sure = sure; images = images }
  where
    files : (n : List ℕ) → IsDefinitionName n → files_after (os ++ o ∷ []) n ≡ files_after os n
    files n is = ap (λ (fs : Files). fs n) (files_more os o) ∙ aside.files (files_after os) n is

    sure : (n : List ℕ) → IsDefinitionName n → IsSure (files_after (os ++ o ∷ []) n)
    sure n is = subst IsSure (sym (files n is)) (s.sure n is)

    now : StandsFor (directory (os ++ o ∷ [])) map
    now = stands_alike (directory os) (directory (os ++ o ∷ [])) map (λ n is. ap (λ (f : Option File). option_map (λ g. g.bytes) f) (files n is)) s.stands

    images : (left : Directory) → MayLeave (os ++ o ∷ []) left → StandsFor left map
    images left m = ⊎_elim
        (λ (done : IsUpToDate (os ++ o ∷ []) left). stands_alike (directory (os ++ o ∷ [])) left map (up_to_date_alike (os ++ o ∷ []) left sure done) now)
        (λ (before : (syncs_directory o ≡ false) × (b : Directory) × MayLeave os b × SameBut o left b). stands_alike before.1 left map (λ n is. before.3 n (aside.writes_none n is)) (s.images before.1 before.2))
        (images_go_on os o left m)

-- the file of one definition was changed, which a crash may undo
pub record IsChanging (os : List Operation) (map next : Definitions) : Type 0 where
  pub stands : StandsFor (directory os) next
  pub sure : (n : List ℕ) → IsDefinitionName n → IsSure (files_after os n)
  pub images : (left : Directory) → MayLeave os left → StandsFor left map ⊎ StandsFor left next

-- the operation gives the change's file what it is to have, and changes no other file of a definition
pub record Makes (os : List Operation) (o : Operation) (c : Change) : Type 0 where
  pub file : Option File
  pub here : files_after (os ++ o ∷ []) (definition_name (kind_of c) (uuid_of c)) ≡ file
  pub holds : Holds (option_map (λ f. f.bytes) file) (entry_of c)
  pub sure : IsSure file
  pub others : (n : List ℕ) → IsDefinitionName n → (n ≡ definition_name (kind_of c) (uuid_of c) → ⊥) → files_after (os ++ o ∷ []) n ≡ files_after os n
  pub writes_none : (n : List ℕ) → writes n o ≡ false

pub changing : (os : List Operation) (o : Operation) (map : Definitions) (c : Change) → IsUuid (uuid_of c) → Makes os o c → IsSettled os map → IsChanging (os ++ o ∷ []) map (changed c map)
changing os o map c of makes s = record { stands = now; sure = sure; images = images }
  where
    name : List ℕ
    name = definition_name (kind_of c) (uuid_of c)

    sure : (n : List ℕ) → IsDefinitionName n → IsSure (files_after (os ++ o ∷ []) n)
    sure n is = ⊎_elim
        (λ (same : n ≡ definition_name (kind_of c) (uuid_of c)). subst IsSure (sym (ap (λ (m : List ℕ). files_after (os ++ o ∷ []) m) same ∙ makes.here)) makes.sure)
        (λ (differ : n ≡ definition_name (kind_of c) (uuid_of c) → ⊥). subst IsSure (sym (makes.others n is differ)) (s.sure n is))
        (same_or_not n (definition_name (kind_of c) (uuid_of c)))

    bytes_of : Option File → Option (List ℕ)
    bytes_of f = option_map (λ g. g.bytes) f

    now : StandsFor (directory (os ++ o ∷ [])) (changed c map)
    now = stands_changed (directory os) (directory (os ++ o ∷ [])) map c of s.stands
        (subst (λ (f : Option File). Holds (option_map (λ g. g.bytes) f) (entry_of c)) (sym makes.here) makes.holds)
        (λ n is differ. ap (λ (f : Option File). option_map (λ g. g.bytes) f) (makes.others n is differ))

    images : (left : Directory) → MayLeave (os ++ o ∷ []) left → StandsFor left map ⊎ StandsFor left (changed c map)
    images left m = ⊎_elim
        (λ (done : IsUpToDate (os ++ o ∷ []) left). inr (stands_alike (directory (os ++ o ∷ [])) left (changed c map) (up_to_date_alike (os ++ o ∷ []) left sure done) now))
        (λ (before : (syncs_directory o ≡ false) × (b : Directory) × MayLeave os b × SameBut o left b). inl (stands_alike before.1 left map (λ n is. before.3 n (makes.writes_none n)) (s.images before.1 before.2)))
        (images_go_on os o left m)

true_false : true ≡ false → ⊥
true_false e = cc

-- a sync of the directory ends the doubt
pub settled_synced : (os : List Operation) (map next : Definitions) → IsChanging os map next → IsSettled (os ++ op.SyncDirectory ∷ []) next
settled_synced os map next s = record { stands = now; sure = sure; images = images }
  where
    files : (n : List ℕ) → files_after (os ++ op.SyncDirectory ∷ []) n ≡ files_after os n
    files n = ap (λ (fs : Files). fs n) (files_more os op.SyncDirectory)

    sure : (n : List ℕ) → IsDefinitionName n → IsSure (files_after (os ++ op.SyncDirectory ∷ []) n)
    sure n is = subst IsSure (sym (files n)) (s.sure n is)

    now : StandsFor (directory (os ++ op.SyncDirectory ∷ [])) next
    now = stands_alike (directory os) (directory (os ++ op.SyncDirectory ∷ [])) next (λ n is. ap (λ (f : Option File). option_map (λ g. g.bytes) f) (files n)) s.stands

    images : (left : Directory) → MayLeave (os ++ op.SyncDirectory ∷ []) left → StandsFor left next
    images left m = ⊎_elim
        (λ (done : IsUpToDate (os ++ op.SyncDirectory ∷ []) left). stands_alike (directory (os ++ op.SyncDirectory ∷ [])) left next (up_to_date_alike (os ++ op.SyncDirectory ∷ []) left sure done) now)
        (λ (before : (true ≡ false) × (b : Directory) × MayLeave os b × SameBut op.SyncDirectory left b). absurd (true_false before.0))
        (images_go_on os op.SyncDirectory left m)
