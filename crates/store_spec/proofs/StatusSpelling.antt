-- The line of a status file is taken apart again.
use Rattle.std.proofs.Common.{◌≡◌, ◌<◌, ◌^◌, ◌++◌, ⊎_elim, Bool, true, false, eqb, ◌||◌, List, [], ◌∷◌, ℕ, Option, None, Some, get_or, codes, decimal, find, refl, sym, ◌∙◌, ap, subst, arith}
use Rattle.std.specs.List.{list_any}
use Rattle.std.specs.Char.{digit_value}
use Rattle.std.specs.Str.Parse.{AllDigits}
use Rattle.std.proofs.lemmas.Bool.Decides.{eqb_tells}
use Rattle.std.proofs.lemmas.Fmt.{decimal_injective, decimal_is_IsNumeral}
use Rattle.std.proofs.lemmas.List.{append_assoc, append_cancel_left, append_cancel_right}
use Rattle.virt_types.specs.declared.operation.OpKind.{OpKind}
use Rattle.virt_types.specs.declared.operation.OpKind.TheVariants as op
use Rattle.virt_types.specs.declared.operation.Phase.{Phase}
use Rattle.virt_types.specs.declared.operation.Phase.TheVariants as phase
use Rattle.virt_types.specs.declared.run_state.DomainState.{DomainState}
use Rattle.virt_types.specs.declared.run_state.DomainState.TheVariants as state
use Rattle.virt_types.specs.declared.status.Status.{Status}
use Rattle.virt_types.specs.Numbers.{job_number, phase_number, state_number}
use Rattle.store_spec.specs.DefinitionFile.{line_feed}
use Rattle.store_spec.specs.StatusFile.{status_bytes}
use Rattle.store_spec.specs.FileLaws.{HoldsOneStatus}
use Rattle.store_spec.proofs.Names.{same_uuid}

-- a space
abbrev space : ℕ
space = 32

abbrev spaces : List ℕ → Bool
spaces l = list_any (λ b. eqb b space) l

starts : (y : ℕ) (b : List ℕ) → y ≡ 32 → spaces (y ∷ b) ≡ false → ⊥
starts y b is none = let wrong : true ≡ false = ap (λ (x : ℕ). spaces (x ∷ b)) (sym is) ∙ none in cc

second : (p q : Bool) → (p || q) ≡ false → q ≡ false
second true q is = cc
second false q is = is

-- a space ends the first word
pub ends_word : (a b rest other : List ℕ) → spaces a ≡ false → spaces b ≡ false → (a ++ space ∷ rest) ≡ (b ++ space ∷ other) → (a ≡ b) × (rest ≡ other)
ends_word [] [] rest other none none' same = (refl, let e : rest ≡ other = cc in e)
ends_word [] (y ∷ b) rest other none none' same = let e : y ≡ 32 = sym (ap (λ (l : List ℕ). get_or l 0 0) same) in absurd (starts y b e none')
ends_word (x ∷ a) [] rest other none none' same = let e : x ≡ 32 = ap (λ (l : List ℕ). get_or l 0 0) same in absurd (starts x a e none)
ends_word (x ∷ a) (y ∷ b) rest other none none' same =
    let heads : x ≡ y = ap (λ (l : List ℕ). get_or l 0 0) same in
    let tails : (a ++ space ∷ rest) ≡ (b ++ space ∷ other) = cc in
    let more = ends_word a b rest other (second (eqb x 32) (spaces a) none) (second (eqb y 32) (spaces b) none') tails in
    ((λ i. heads i ∷ more.0 i), more.1)

or_false : (a b : Bool) → a ≡ false → b ≡ false → (a || b) ≡ false
or_false true b x y = cc
or_false false b x y = y

digit_space : (x : ℕ) → digit_value x < 10 → x ≡ 32 → ⊥
digit_space x low is = let wrong : digit_value 32 < 10 = subst (λ (y : ℕ). digit_value y < 10) is low in omega (arith, wrong)

pub digits_space : (ds : List ℕ) → AllDigits 10 ds → spaces ds ≡ false
digits_space [] all = refl
digits_space (x ∷ xs) all = or_false (eqb x 32) (spaces xs) (⊎_elim (λ same. absurd (digit_space x all.0 same.1)) (λ other. other.0) (eqb_tells x 32)) (digits_space xs all.1)

-- a number, a word that begins with a space, and what comes after them
same_number : (m n : ℕ) (word rest other : List ℕ) → m < 2 ^ 64 → n < 2 ^ 64 → decimal m ++ (space ∷ word ++ rest) ≡ decimal n ++ (space ∷ word ++ other) → (m ≡ n) × (rest ≡ other)
same_number m n word rest other m_fits n_fits same =
    let words = ends_word (decimal m) (decimal n) (word ++ rest) (word ++ other) (digits_space (decimal m) (decimal_is_IsNumeral m m_fits).0.1) (digits_space (decimal n) (decimal_is_IsNumeral n n_fits).0.1) same in
    (decimal_injective m n m_fits n_fits words.0, append_cancel_left word rest other words.1)

-- the numbers say what they are of
abbrev state_of : ℕ → Option DomainState
state_of n = find (λ x. eqb (state_number x) n) (state.Running ∷ state.Paused ∷ state.ShutOff ∷ state.Crashed ∷ [])

state_known : (x : DomainState) → state_of (state_number x) ≡ Some x
state_known state.Running = refl
state_known state.Paused = refl
state_known state.ShutOff = refl
state_known state.Crashed = refl

pub state_fits : (x : DomainState) → state_number x < 2 ^ 64
state_fits state.Running = omega arith
state_fits state.Paused = omega arith
state_fits state.ShutOff = omega arith
state_fits state.Crashed = omega arith

same_state : (x y : DomainState) → state_number x ≡ state_number y → x ≡ y
same_state x y same = let some : Some x ≡ Some y = sym (state_known x) ∙ ap state_of same ∙ state_known y in cc

abbrev phase_of : ℕ → Option Phase
phase_of n = find (λ x. eqb (phase_number x) n) (phase.Nothing ∷ phase.Make ∷ phase.Run ∷ phase.Load ∷ phase.Copy ∷ phase.Poll ∷ phase.Take ∷ phase.Quit ∷ phase.Cancel ∷ phase.MigrateCopy ∷ phase.MigrateTake ∷ phase.MigrateCancel ∷ phase.MigrateLoad ∷ phase.Resting ∷ phase.MigrateQuit ∷ phase.MigrateBack ∷ phase.MigrateRun ∷ phase.MigrateDrop ∷ [])

phase_known : (x : Phase) → phase_of (phase_number x) ≡ Some x
phase_known phase.Nothing = refl
phase_known phase.Make = refl
phase_known phase.Run = refl
phase_known phase.Load = refl
phase_known phase.Copy = refl
phase_known phase.Poll = refl
phase_known phase.Take = refl
phase_known phase.Quit = refl
phase_known phase.Cancel = refl
phase_known phase.MigrateCopy = refl
phase_known phase.MigrateTake = refl
phase_known phase.MigrateCancel = refl
phase_known phase.MigrateLoad = refl
phase_known phase.Resting = refl
phase_known phase.MigrateQuit = refl
phase_known phase.MigrateBack = refl
phase_known phase.MigrateRun = refl
phase_known phase.MigrateDrop = refl

pub phase_fits : (x : Phase) → phase_number x < 2 ^ 64
phase_fits phase.Nothing = omega arith
phase_fits phase.Make = omega arith
phase_fits phase.Run = omega arith
phase_fits phase.Load = omega arith
phase_fits phase.Copy = omega arith
phase_fits phase.Poll = omega arith
phase_fits phase.Take = omega arith
phase_fits phase.Quit = omega arith
phase_fits phase.Cancel = omega arith
phase_fits phase.MigrateCopy = omega arith
phase_fits phase.MigrateTake = omega arith
phase_fits phase.MigrateCancel = omega arith
phase_fits phase.MigrateLoad = omega arith
phase_fits phase.Resting = omega arith
phase_fits phase.MigrateQuit = omega arith
phase_fits phase.MigrateBack = omega arith
phase_fits phase.MigrateRun = omega arith
phase_fits phase.MigrateDrop = omega arith

same_phase : (x y : Phase) → phase_number x ≡ phase_number y → x ≡ y
same_phase x y same = let some : Some x ≡ Some y = sym (phase_known x) ∙ ap phase_of same ∙ phase_known y in cc

abbrev job_of : ℕ → Option (Option OpKind)
job_of n = find (λ x. eqb (job_number x) n) (None ∷ (Some op.Start) ∷ (Some op.Save) ∷ (Some op.Dump) ∷ (Some op.Snapshot) ∷ (Some op.Restore) ∷ (Some op.Revert) ∷ (Some op.MigrateOut) ∷ (Some op.MigrateIn) ∷ [])

job_known : (x : (Option OpKind)) → job_of (job_number x) ≡ Some x
job_known None = refl
job_known (Some op.Start) = refl
job_known (Some op.Save) = refl
job_known (Some op.Dump) = refl
job_known (Some op.Snapshot) = refl
job_known (Some op.Restore) = refl
job_known (Some op.Revert) = refl
job_known (Some op.MigrateOut) = refl
job_known (Some op.MigrateIn) = refl

pub job_fits : (x : (Option OpKind)) → job_number x < 2 ^ 64
job_fits None = omega arith
job_fits (Some op.Start) = omega arith
job_fits (Some op.Save) = omega arith
job_fits (Some op.Dump) = omega arith
job_fits (Some op.Snapshot) = omega arith
job_fits (Some op.Restore) = omega arith
job_fits (Some op.Revert) = omega arith
job_fits (Some op.MigrateOut) = omega arith
job_fits (Some op.MigrateIn) = omega arith

same_job : (x y : (Option OpKind)) → job_number x ≡ job_number y → x ≡ y
same_job x y same = let some : Some x ≡ Some y = sym (job_known x) ∙ ap job_of same ∙ job_known y in cc

-- the words of a status file, one after the other
abbrev pub words_of : ℕ → ℕ → ℕ → ℕ → List ℕ → List ℕ
words_of boot state job phase name =
    codes "run 1 boot=" ++ (decimal boot ++ (codes " state=" ++ (decimal state ++ (codes " op=" ++ (decimal job ++ (codes " phase=" ++ (decimal phase ++ (codes " name=" ++ name))))))))

onward : (a b c : List ℕ) → (a ++ b) ++ c ≡ a ++ (b ++ c)
onward a b c = append_assoc a b c

pub bytes_of_status : (s : Status) → status_bytes s ≡ words_of s.boot (state_number s.state) (job_number s.op) (phase_number s.phase) s.name ++ line_feed ∷ []
unfolding status_bytes
bytes_of_status s =
    let b = decimal s.boot in
    let t = decimal (state_number s.state) in
    let j = decimal (job_number s.op) in
    let p = decimal (phase_number s.phase) in
    let n = s.name in
    ap (λ (l : List ℕ). l ++ line_feed ∷ [])
    (onward (codes "run 1 boot=" ++ b ++ codes " state=" ++ t ++ codes " op=" ++ j ++ codes " phase=" ++ p) (codes " name=") n
    ∙ onward (codes "run 1 boot=" ++ b ++ codes " state=" ++ t ++ codes " op=" ++ j ++ codes " phase=") p (codes " name=" ++ n)
    ∙ onward (codes "run 1 boot=" ++ b ++ codes " state=" ++ t ++ codes " op=" ++ j) (codes " phase=") (p ++ (codes " name=" ++ n))
    ∙ onward (codes "run 1 boot=" ++ b ++ codes " state=" ++ t ++ codes " op=") j (codes " phase=" ++ (p ++ (codes " name=" ++ n)))
    ∙ onward (codes "run 1 boot=" ++ b ++ codes " state=" ++ t) (codes " op=") (j ++ (codes " phase=" ++ (p ++ (codes " name=" ++ n))))
    ∙ onward (codes "run 1 boot=" ++ b ++ codes " state=") t (codes " op=" ++ (j ++ (codes " phase=" ++ (p ++ (codes " name=" ++ n)))))
    ∙ onward (codes "run 1 boot=" ++ b) (codes " state=") (t ++ (codes " op=" ++ (j ++ (codes " phase=" ++ (p ++ (codes " name=" ++ n))))))
    ∙ onward (codes "run 1 boot=") b (codes " state=" ++ (t ++ (codes " op=" ++ (j ++ (codes " phase=" ++ (p ++ (codes " name=" ++ n))))))))

same_status : (s t : Status) → s.uuid ≡ t.uuid → s.name ≡ t.name → s.boot ≡ t.boot → s.state ≡ t.state → s.op ≡ t.op → s.phase ≡ t.phase → s ≡ t
same_status s t uuids names boots states jobs phases = λ i. record { uuid = uuids i; name = names i; boot = boots i; state = states i; op = jobs i; phase = phases i }

pub holds_one_status : HoldsOneStatus
holds_one_status name bytes s t a b =
    let same = append_cancel_right (words_of s.boot (state_number s.state) (job_number s.op) (phase_number s.phase) s.name) (words_of t.boot (state_number t.state) (job_number t.op) (phase_number t.phase) t.name) (line_feed ∷ [])
    (sym (bytes_of_status s) ∙ sym a.spelling ∙ b.spelling ∙ bytes_of_status t) in
    let boots = same_number s.boot t.boot (codes "state=") _ _ (omega (arith, a.boot_most)) (omega (arith, b.boot_most)) (append_cancel_left (codes "run 1 boot=") _ _ same) in
    let states = same_number (state_number s.state) (state_number t.state) (codes "op=") _ _ (state_fits s.state) (state_fits t.state) boots.1 in
    let jobs = same_number (job_number s.op) (job_number t.op) (codes "phase=") _ _ (job_fits s.op) (job_fits t.op) states.1 in
    let phases = same_number (phase_number s.phase) (phase_number t.phase) (codes "name=") s.name t.name (phase_fits s.phase) (phase_fits t.phase) jobs.1 in
    same_status s t (same_uuid (codes "run") (codes ".sta") s.uuid t.uuid a.uuid b.uuid (sym a.named ∙ b.named)) phases.1 boots.0 (same_state s.state t.state states.0) (same_job s.op t.op jobs.0) (same_phase s.phase t.phase phases.0)
