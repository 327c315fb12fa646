-- One operation more, in the try of a change.
use Rattle.std.proofs.Common.{◌≡◌, ◌⊎◌, inl, inr, ⊎_elim, ◌<◌, ◌≤◌, ◌++◌, true, false, List, [], ◌∷◌, ℕ, Option, option_map, length, take, refl, sym, ◌∙◌, ap, subst, length-append, arith}
use Rattle.std.proofs.lemmas.Bool.{cases_lt}
use Rattle.std.proofs.lemmas.List.{take_all, take-append-le}
use Rattle.store_spec.specs.declared.change.Change.{Change}
use Rattle.store_spec.specs.declared.entry.Entry.{Entry}
use Rattle.store_spec.specs.declared.operation.Operation.{Operation}
use Rattle.store_spec.specs.declared.operation.Operation.TheVariants as op
use Rattle.store_spec.specs.Changes.{Definitions, changed, entry_of, kind_of, uuid_of}
use Rattle.store_spec.specs.Directory.{Directory, File, Files, directory, files_after}
use Rattle.store_spec.specs.Disk.{LeftSince, MayLeave, syncs_directory}
use Rattle.store_spec.specs.FileNames.{IsDefinitionName, IsUuid, definition_name}
use Rattle.store_spec.specs.Laws.{IsUpToDate, SameBut}
use Rattle.store_spec.specs.Prefix.{IsPrefixAt, LeavesPrefixes, Try}
use Rattle.store_spec.specs.Settled.{IsSettled, IsSure}
use Rattle.store_spec.specs.StandsFor.{Holds, IsNamed, StandsFor}
use Rattle.store_spec.proofs.Crashes.{images_go_on, reads_as_an_image}
use Rattle.store_spec.proofs.Names.{is_named, says_definition}
use Rattle.store_spec.proofs.Operating.{files_more, same_or_not}
use Rattle.store_spec.proofs.Settling.{IsAside, Makes}
use Rattle.store_spec.proofs.Stands.{changed_else, changed_here, of_or_apart, stands_alike, up_to_date_alike}
use Rattle.def_keeper.specs.Keeping.{Goes, IsAmong, StandsBut, after_all}
use Rattle.def_keeper.proofs.Tries.{after_try, none_more, tried}

-- the name of the file of a change's definition
abbrev pub name_of : Change → List ℕ
name_of c = definition_name (kind_of c) (uuid_of c)

read_same : (os now : List Operation) (n : List ℕ) → files_after now n ≡ files_after os n → directory now n ≡ directory os n
read_same os now n same = ap (λ (f : Option File). option_map (λ g. g.bytes) f) same

among_alike : (reach : ℕ) (base : Definitions) (tries : List Try) (d left : Directory) → ((n : List ℕ) → IsDefinitionName n → left n ≡ d n) → IsAmong reach base tries d → IsAmong reach base tries left
among_alike reach base tries d left same a = record { count = a.count; least = a.least; most = a.most; stands = stands_alike d left (after_all base (take a.count tries)) same a.stands }

but_alike : (name : List ℕ) (d left : Directory) (map : Definitions) → ((n : List ℕ) → IsDefinitionName n → left n ≡ d n) → StandsBut name d map → StandsBut name left map
but_alike name d left map same but = record {
  files = λ k uuid u differ. subst (λ (o : Option (List ℕ)). Holds o (map k uuid)) (sym (same (definition_name k uuid) (says_definition k uuid))) (but.files k uuid u differ);
  no_other = λ n is other. same n is ∙ but.no_other n is other;
}

pub but_of : (name : List ℕ) (d : Directory) (map : Definitions) → StandsFor d map → StandsBut name d map
but_of name d map stands = record { files = λ k uuid u differ. stands.files k uuid u; no_other = stands.no_other }

-- all of them
pub among_all : (reach : ℕ) (base : Definitions) (tries : List Try) (left : Directory) → reach ≤ length tries → StandsFor left (after_all base tries) → IsAmong reach base tries left
among_all reach base tries left within stands = record {
  count = length tries;
  least = within;
  most = omega arith;
  stands = subst (λ (l : List Try). StandsFor left (after_all base l)) (sym (take_all (length tries) tries (omega arith))) stands;
}

-- one try more leaves the first ones
pub among_more : (reach : ℕ) (base : Definitions) (tries : List Try) (x : Try) (left : Directory) → IsAmong reach base tries left → IsAmong reach base (tries ++ x ∷ []) left
among_more reach base tries x left a = record {
  count = a.count;
  least = a.least;
  most = omega (arith, a.most, length-append tries (x ∷ []));
  stands = subst (λ (l : List Try). StandsFor left (after_all base l)) (sym (take-append-le a.count tries (x ∷ []) a.most)) a.stands;
}

prefixes_more : (begun : ℕ) (os : List Operation) (base : Definitions) (tries : List Try) (c : Change) → LeavesPrefixes begun os base tries → LeavesPrefixes begun os base (tries ++ tried c ∷ [])
prefixes_more begun os base tries c lp t left le since = let p = lp t left le since in record {
  count = p.count;
  tried = omega (arith, p.tried, length-append tries (tried c ∷ []));
  stands = subst (λ (l : List Try). StandsFor left (after_all base l)) (sym (take-append-le p.count tries (tried c ∷ []) p.tried)) p.stands;
  acknowledged = none_more t p.count tries (tried c) p.acknowledged refl;
}

-- a crash after one operation more, or before it
pub since_cases : (os : List Operation) (o : Operation) (t : ℕ) (left : Directory) → LeftSince t (os ++ o ∷ []) left → MayLeave (os ++ o ∷ []) left ⊎ LeftSince t os left
since_cases os o t left s = ⊎_elim
    (λ (past : length os < s.at). inl (subst (λ (l : List Operation). MayLeave l left) (take_all s.at (os ++ o ∷ []) (omega (arith, past, length-append os (o ∷ [])))) s.leaves))
    (λ (within : s.at ≤ length os). inr (record { at = s.at; later = s.later; so_far = within; leaves = subst (λ (l : List Operation). MayLeave l left) (take-append-le s.at os (o ∷ []) within) s.leaves }))
    (cases_lt (length os) s.at)

-- one of the first ones, with all that were acknowledged
pub prefix_of : (t begun : ℕ) (os : List Operation) (base : Definitions) (tries : List Try) (reach : ℕ) (left : Directory) → Goes begun os base tries reach → IsAmong reach base tries left → IsPrefixAt t base tries left
prefix_of t begun os base tries reach left g a = record { count = a.count; tried = a.most; stands = a.stands; acknowledged = g.covers t a.count a.least }

-- one operation more, whose images are known
goes_more : (begun : ℕ) (os : List Operation) (o : Operation) (base : Definitions) (tries : List Try) (reach : ℕ) → Goes begun os base tries reach
    → ((n : List ℕ) → IsDefinitionName n → IsSure (files_after (os ++ o ∷ []) n))
    → ((left : Directory) → MayLeave (os ++ o ∷ []) left → IsAmong reach base tries left)
    → Goes begun (os ++ o ∷ []) base tries reach
goes_more begun os o base tries reach g sure images = record {
  later = omega (arith, g.later, length-append os (o ∷ []));
  within = g.within;
  covers = g.covers;
  sure = sure;
  images = images;
  prefixes = λ t left le since. ⊎_elim
      (λ now. prefix_of t begun os base tries reach left g (images left now))
      (λ earlier. g.prefixes t left le earlier)
      (since_cases os o t left since);
}

-- one try more that is not acknowledged
pub goes_tried : (begun : ℕ) (os : List Operation) (base : Definitions) (tries : List Try) (reach : ℕ) (c : Change) → Goes begun os base tries reach → Goes begun os base (tries ++ tried c ∷ []) reach
goes_tried begun os base tries reach c g = record {
  later = g.later;
  within = omega (arith, g.within, length-append tries (tried c ∷ []));
  covers = λ t count le. none_more t count tries (tried c) (g.covers t count le) refl;
  sure = g.sure;
  images = λ left m. among_more reach base tries (tried c) left (g.images left m);
  prefixes = prefixes_more begun os base tries c g.prefixes;
}

-- an operation aside of the files of definitions
files_aside : (os : List Operation) (o : Operation) → IsAside o → (n : List ℕ) → IsDefinitionName n → files_after (os ++ o ∷ []) n ≡ files_after os n
files_aside os o aside n is = ap (λ (fs : Files). fs n) (files_more os o) ∙ aside.files (files_after os) n is

pub goes_aside : (begun : ℕ) (os : List Operation) (o : Operation) (base : Definitions) (tries : List Try) (reach : ℕ) → IsAside o → Goes begun os base tries reach → Goes begun (os ++ o ∷ []) base tries reach
goes_aside begun os o base tries reach aside g = goes_more begun os o base tries reach g sure images
  where
    sure : (n : List ℕ) → IsDefinitionName n → IsSure (files_after (os ++ o ∷ []) n)
    sure n is = subst IsSure (sym (files_aside os o aside n is)) (g.sure n is)

    images : (left : Directory) → MayLeave (os ++ o ∷ []) left → IsAmong reach base tries left
    images left m = ⊎_elim
        (λ (now : IsUpToDate (os ++ o ∷ []) left). among_alike reach base tries (directory os) left
        (λ n is. up_to_date_alike (os ++ o ∷ []) left sure now n is ∙ read_same os (os ++ o ∷ []) n (files_aside os o aside n is))
        (g.images (directory os) (reads_as_an_image os)))
        (λ (before : (syncs_directory o ≡ false) × (b : Directory) × MayLeave os b × SameBut o left b). among_alike reach base tries before.1 left (λ n is. before.3 n (aside.writes_none n is)) (g.images before.1 before.2))
        (images_go_on os o left m)

pub but_aside : (os : List Operation) (o : Operation) (name : List ℕ) (map : Definitions) → IsAside o → StandsBut name (directory os) map → StandsBut name (directory (os ++ o ∷ [])) map
but_aside os o name map aside but = but_alike name (directory os) (directory (os ++ o ∷ [])) map (λ n is. read_same os (os ++ o ∷ []) n (files_aside os o aside n is)) but

pub stands_aside : (os : List Operation) (o : Operation) (map : Definitions) → IsAside o → StandsFor (directory os) map → StandsFor (directory (os ++ o ∷ [])) map
stands_aside os o map aside stands = stands_alike (directory os) (directory (os ++ o ∷ [])) map (λ n is. read_same os (os ++ o ∷ []) n (files_aside os o aside n is)) stands

-- a sync of the directory is one
pub sync_aside : IsAside op.SyncDirectory
sync_aside = record { files = λ fs n is. refl; writes_none = λ n is. refl }

-- a directory in which one file was put for its entry, or removed
stands_put : (d left : Directory) (map : Definitions) (c : Change) → IsUuid (uuid_of c) → StandsBut (name_of c) d map
    → Holds (left (name_of c)) (entry_of c) → ((n : List ℕ) → IsDefinitionName n → (n ≡ name_of c → ⊥) → left n ≡ d n) → StandsFor left (changed c map)
stands_put d left map c of but here others = record {
  files = λ k uuid u. ⊎_elim
      (λ same. subst (λ (o : Option Entry). Holds (left (definition_name k uuid)) o) (sym (changed_here c map k uuid same.0)) (subst (λ (n : List ℕ). Holds (left n) (entry_of c)) (sym same.1) here))
      (λ apart. subst (λ (o : Option Entry). Holds (left (definition_name k uuid)) o) (sym (changed_else c map k uuid apart.0)) (subst (λ (o : Option (List ℕ)). Holds o (map k uuid)) (sym (others (definition_name k uuid) (says_definition k uuid) apart.1)) (but.files k uuid u apart.1)))
      (of_or_apart c k uuid of u);
  no_other = λ n is other. others n is (λ same. other (subst IsNamed (sym same) (is_named (kind_of c) (uuid_of c) of))) ∙ but.no_other n is other;
}

-- but for its file, a change leaves the map
pub but_changed : (d : Directory) (map : Definitions) (c : Change) → IsUuid (uuid_of c) → StandsBut (name_of c) d map → StandsBut (name_of c) d (changed c map)
but_changed d map c of but = record {
  files = λ k uuid u differ. subst (λ (o : Option Entry). Holds (d (definition_name k uuid)) o)
      (sym (changed_else c map k uuid (⊎_elim (λ same. absurd (differ same.1)) (λ apart. apart.0) (of_or_apart c k uuid of u)))) (but.files k uuid u differ);
  no_other = but.no_other;
}

-- the operation that gives the change's file what it is to have
pub goes_made : (begun : ℕ) (os : List Operation) (o : Operation) (base : Definitions) (tries : List Try) (reach : ℕ) (c : Change) → IsUuid (uuid_of c) → Makes os o c
    → StandsBut (name_of c) (directory os) (after_all base tries) → Goes begun os base (tries ++ tried c ∷ []) reach
    → Goes begun (os ++ o ∷ []) base (tries ++ tried c ∷ []) reach × StandsFor (directory (os ++ o ∷ [])) (after_all base (tries ++ tried c ∷ []))
goes_made begun os o base tries reach c of makes but g = (goes_more begun os o base (tries ++ tried c ∷ []) reach g sure images, now)
  where
    sure : (n : List ℕ) → IsDefinitionName n → IsSure (files_after (os ++ o ∷ []) n)
    sure n is = ⊎_elim
        (λ (same : n ≡ name_of c). subst IsSure (sym (ap (λ (m : List ℕ). files_after (os ++ o ∷ []) m) same ∙ makes.here)) makes.sure)
        (λ (differ : n ≡ name_of c → ⊥). subst IsSure (sym (makes.others n is differ)) (g.sure n is))
        (same_or_not n (name_of c))

    put : StandsFor (directory (os ++ o ∷ [])) (changed c (after_all base tries))
    put = stands_put (directory os) (directory (os ++ o ∷ [])) (after_all base tries) c of but
        (subst (λ (f : Option File). Holds (option_map (λ g. g.bytes) f) (entry_of c)) (sym makes.here) makes.holds)
        (λ n is differ. read_same os (os ++ o ∷ []) n (makes.others n is differ))

    now : StandsFor (directory (os ++ o ∷ [])) (after_all base (tries ++ tried c ∷ []))
    now = subst (λ (m : Definitions). StandsFor (directory (os ++ o ∷ [])) m) (sym (after_try base tries (tried c))) put

    images : (left : Directory) → MayLeave (os ++ o ∷ []) left → IsAmong reach base (tries ++ tried c ∷ []) left
    images left m = ⊎_elim
        (λ (done : IsUpToDate (os ++ o ∷ []) left). among_all reach base (tries ++ tried c ∷ []) left g.within (stands_alike (directory (os ++ o ∷ [])) left (after_all base (tries ++ tried c ∷ [])) (up_to_date_alike (os ++ o ∷ []) left sure done) now))
        (λ (before : (syncs_directory o ≡ false) × (b : Directory) × MayLeave os b × SameBut o left b). among_alike reach base (tries ++ tried c ∷ []) before.1 left (λ n is. before.3 n (makes.writes_none n)) (g.images before.1 before.2))
        (images_go_on os o left m)

true_false : true ≡ false → ⊥
true_false e = cc

-- a sync of the directory ends the doubt, where the files of definitions are sure
pub settled_sure : (os : List Operation) (map : Definitions) → ((n : List ℕ) → IsDefinitionName n → IsSure (files_after os n)) → StandsFor (directory os) map → IsSettled (os ++ op.SyncDirectory ∷ []) map
settled_sure os map sure_before stands = record { stands = now; sure = sure; images = images }
  where
    sure : (n : List ℕ) → IsDefinitionName n → IsSure (files_after (os ++ op.SyncDirectory ∷ []) n)
    sure n is = subst IsSure (sym (files_aside os op.SyncDirectory sync_aside n is)) (sure_before n is)

    now : StandsFor (directory (os ++ op.SyncDirectory ∷ [])) map
    now = stands_aside os op.SyncDirectory map sync_aside stands

    images : (left : Directory) → MayLeave (os ++ op.SyncDirectory ∷ []) left → StandsFor left map
    images left m = ⊎_elim
        (λ (done : IsUpToDate (os ++ op.SyncDirectory ∷ []) left). stands_alike (directory (os ++ op.SyncDirectory ∷ [])) left map (up_to_date_alike (os ++ op.SyncDirectory ∷ []) left sure done) now)
        (λ (before : (true ≡ false) × (b : Directory) × MayLeave os b × SameBut op.SyncDirectory left b). absurd (true_false before.0))
        (images_go_on os op.SyncDirectory left m)

pub settled_now : (begun : ℕ) (os : List Operation) (base : Definitions) (tries : List Try) (reach : ℕ) → Goes begun os base tries reach → StandsFor (directory os) (after_all base tries) → IsSettled (os ++ op.SyncDirectory ∷ []) (after_all base tries)
settled_now begun os base tries reach g stands = settled_sure os (after_all base tries) g.sure stands
