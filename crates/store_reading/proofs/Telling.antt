-- The line of a status file is read.
use Rattle.std.proofs.Common.{◌≡◌, ◌⊎◌, ◌<◌, ◌≤◌, ◌^◌, ◌++◌, ◌||◌, ⊎_elim, Bool, true, false, eqb, List, [], ◌∷◌, ℕ, Option, None, Some, Result, Ok, Err, codes, decimal, get_or, refl, sym, ◌∙◌, ap, subst, arith, append_assoc}
use Rattle.std.specs.Borrow.{Bor}
use Rattle.std.specs.Char.{digit_value}
use Rattle.std.specs.Str.Parse.{AllDigits, ParsesUnsigned}
use Rattle.std.proofs.lemmas.Bool.Decides.{eqb_tells}
use Rattle.std.proofs.lemmas.Fmt.{decimal_injective, decimal_is_IsNumeral, parse-decimal}
use Rattle.std.proofs.lemmas.List.{append_cancel_left, append_cancel_right}
use Rattle.virt_types.specs.declared.operation.OpKind.{OpKind}
use Rattle.virt_types.specs.declared.operation.Phase.{Phase}
use Rattle.virt_types.specs.declared.run_state.DomainState.{DomainState}
use Rattle.virt_types.specs.declared.status.Status.{Status}
use Rattle.virt_types.specs.Name.{IsName}
use Rattle.virt_types.specs.Numbers.{job_number, phase_number, state_number}
use Rattle.store_spec.specs.DefinitionFile.{line_feed}
use Rattle.store_spec.specs.FileNames.{IsUuid, status_name}
use Rattle.store_spec.specs.StatusFile.{IsStatusFile, status_bytes}
use Rattle.store_spec.proofs.StatusSpelling.{bytes_of_status, digits_space, ends_word, job_fits, phase_fits, state_fits, words_of}
use Rattle.store_reading.specs.declared.status.StatusLine.{StatusLine}
use Rattle.store_reading.specs.FileName.{IsStatusOf}
use Rattle.store_reading.specs.Lines.{Cuts, has}
use Rattle.store_reading.specs.Status.{AreNumbers, HasNumber, IsBootOf, IsLineOf, IsNumberOf, IsToldBy, Names, TellsStatus, space, status_line}
use Rattle.store_reading.proofs.Cutting.{mark_there}

true_false : true ≡ false → ⊥
true_false e = cc

-- digits have no space
no_space : (n : ℕ) → n < 2 ^ 64 → has space (decimal n) ≡ false
no_space n fits = digits_space (decimal n) (decimal_is_IsNumeral n fits).0.1

-- a number is read one way
same_number : (digits left : List ℕ) (n : ℕ) (rest : List ℕ) → has space digits ≡ false → n < 2 ^ 64 → digits ++ space ∷ left ≡ decimal n ++ space ∷ rest → (digits ≡ decimal n) × (left ≡ rest)
same_number digits left n rest none fits same = ends_word digits (decimal n) left rest none (no_space n fits) same

pub number_none : (label bytes : List ℕ) → ((rest : List ℕ) → bytes ≡ label ++ rest → ⊥) → HasNumber label bytes None
number_none label bytes never n rest fits is = never (decimal n ++ space ∷ rest) is

pub number_uncut : (label bytes left : List ℕ) → bytes ≡ label ++ left → has space left ≡ false → HasNumber label bytes None
number_uncut label bytes left front none n rest fits is =
    let same : left ≡ decimal n ++ space ∷ rest = append_cancel_left label left (decimal n ++ space ∷ rest) (sym front ∙ is) in
    true_false (sym (mark_there space (decimal n) rest) ∙ ap (λ (l : List ℕ). has space l) (sym same) ∙ none)

pub number_else : (label bytes left digits rest' : List ℕ) → bytes ≡ label ++ left → left ≡ digits ++ space ∷ rest' → has space digits ≡ false → IsNumberOf digits None → HasNumber label bytes None
number_else label bytes left digits rest' front cut none never n rest fits is =
    let same : left ≡ decimal n ++ space ∷ rest = append_cancel_left label left (decimal n ++ space ∷ rest) (sym front ∙ is) in
    never n fits (same_number digits rest' n rest none fits (sym cut ∙ same)).0

pub number_some : (label bytes left digits rest : List ℕ) (n : ℕ) → bytes ≡ label ++ left → left ≡ digits ++ space ∷ rest → digits ≡ decimal n → bytes ≡ label ++ (decimal n ++ space ∷ rest)
number_some label bytes left digits rest n front cut is = front ∙ ap (λ (l : List ℕ). label ++ l) (cut ∙ ap (λ (l : List ℕ). l ++ space ∷ rest) is)

ok_same : {E : Type 0} (a b : ℕ) → ◌≡◌ {A = Result ℕ E} (Ok a) (Ok b) → a ≡ b
ok_same a b is = cc

-- what was parsed is the number, where it is one
pub parsed_none : {E : Type 0} (digits : List ℕ) (r : Result ℕ E) → ((n : ℕ) → r ≡ Ok n → ⊥) → ParsesUnsigned 64 10 digits r → IsNumberOf digits None
parsed_none digits r never parses n fits is = never n (parse-decimal 64 n digits r fits fits is parses)

pub parsed_else : {E : Type 0} (digits : List ℕ) (r : Result ℕ E) (m : ℕ) → r ≡ Ok m → ParsesUnsigned 64 10 digits r → (digits ≡ decimal m → ⊥) → IsNumberOf digits None
parsed_else digits r m got parses differ n fits is =
    let same : m ≡ n = ok_same m n (sym got ∙ parse-decimal 64 n digits r fits fits is parses) in
    differ (is ∙ ap (λ (x : ℕ). decimal x) (sym same))

-- what was read of a number's word is what any line has there
same_word : (label bytes : List ℕ) (x : ℕ × Bor (List ℕ)) (n : ℕ) (rest : List ℕ) → HasNumber label bytes (Some x) → n < 2 ^ 64 → bytes ≡ label ++ (decimal n ++ space ∷ rest) → x.1.now ≡ rest
same_word label bytes x n rest read fits is =
    (same_number (decimal x.0) x.1.now n rest (no_space x.0 read.0) fits (append_cancel_left label (decimal x.0 ++ space ∷ x.1.now) (decimal n ++ space ∷ rest) (sym read.1 ∙ is))).1

-- the words after the first, the second and the third number
abbrev after_boot : ℕ → ℕ → ℕ → List ℕ → List ℕ
after_boot state job phase name = codes "state=" ++ (decimal state ++ space ∷ (codes "op=" ++ (decimal job ++ space ∷ (codes "phase=" ++ (decimal phase ++ space ∷ (codes "name=" ++ (name ++ line_feed ∷ [])))))))

abbrev after_state : ℕ → ℕ → List ℕ → List ℕ
after_state job phase name = codes "op=" ++ (decimal job ++ space ∷ (codes "phase=" ++ (decimal phase ++ space ∷ (codes "name=" ++ (name ++ line_feed ∷ [])))))

abbrev after_job : ℕ → List ℕ → List ℕ
after_job phase name = codes "phase=" ++ (decimal phase ++ space ∷ (codes "name=" ++ (name ++ line_feed ∷ [])))

pub line_state : (bytes : List ℕ) (x : ℕ × Bor (List ℕ)) → HasNumber (codes "run 1 boot=") bytes (Some x) → HasNumber (codes "state=") x.1.now None → IsLineOf bytes None
line_state bytes x read never boot state job phase name b s j p is =
    never state (after_state job phase name) s (same_word (codes "run 1 boot=") bytes x boot (after_boot state job phase name) read b is)

second : (bytes : List ℕ) (x y : ℕ × Bor (List ℕ)) (boot state job phase : ℕ) (name : List ℕ) → HasNumber (codes "run 1 boot=") bytes (Some x) → HasNumber (codes "state=") x.1.now (Some y) → boot < 2 ^ 64 → state < 2 ^ 64
    → bytes ≡ status_line boot state job phase name → y.1.now ≡ after_state job phase name
second bytes x y boot state job phase name read read' b s is =
    same_word (codes "state=") x.1.now y state (after_state job phase name) read' s (same_word (codes "run 1 boot=") bytes x boot (after_boot state job phase name) read b is)

pub line_job : (bytes : List ℕ) (x y : ℕ × Bor (List ℕ)) → HasNumber (codes "run 1 boot=") bytes (Some x) → HasNumber (codes "state=") x.1.now (Some y) → HasNumber (codes "op=") y.1.now None → IsLineOf bytes None
line_job bytes x y read read' never boot state job phase name b s j p is = never job (after_job phase name) j (second bytes x y boot state job phase name read read' b s is)

third : (bytes : List ℕ) (x y z : ℕ × Bor (List ℕ)) (boot state job phase : ℕ) (name : List ℕ) → HasNumber (codes "run 1 boot=") bytes (Some x) → HasNumber (codes "state=") x.1.now (Some y) → HasNumber (codes "op=") y.1.now (Some z)
    → boot < 2 ^ 64 → state < 2 ^ 64 → job < 2 ^ 64 → bytes ≡ status_line boot state job phase name → z.1.now ≡ after_job phase name
third bytes x y z boot state job phase name read read' read'' b s j is =
    same_word (codes "op=") y.1.now z job (after_job phase name) read'' j (second bytes x y boot state job phase name read read' b s is)

pub line_phase : (bytes : List ℕ) (x y z : ℕ × Bor (List ℕ)) → HasNumber (codes "run 1 boot=") bytes (Some x) → HasNumber (codes "state=") x.1.now (Some y) → HasNumber (codes "op=") y.1.now (Some z) → HasNumber (codes "phase=") z.1.now None → IsLineOf bytes None
line_phase bytes x y z read read' read'' never boot state job phase name b s j p is =
    never phase (codes "name=" ++ (name ++ line_feed ∷ [])) p (third bytes x y z boot state job phase name read read' read'' b s j is)

pub line_name : (bytes : List ℕ) (x y z w : ℕ × Bor (List ℕ)) → HasNumber (codes "run 1 boot=") bytes (Some x) → HasNumber (codes "state=") x.1.now (Some y) → HasNumber (codes "op=") y.1.now (Some z) → HasNumber (codes "phase=") z.1.now (Some w) → Names w.1.now None → IsLineOf bytes None
line_name bytes x y z w read read' read'' read4 never boot state job phase name b s j p is =
    never name (same_word (codes "phase=") z.1.now w phase (codes "name=" ++ (name ++ line_feed ∷ [])) read4 p (third bytes x y z boot state job phase name read read' read'' b s j is))

-- a file's line and what it reports
line_told : (s : Status) → status_bytes s ≡ status_line s.boot (state_number s.state) (job_number s.op) (phase_number s.phase) s.name
line_told s =
    let e : words_of s.boot (state_number s.state) (job_number s.op) (phase_number s.phase) s.name ++ line_feed ∷ [] ≡ status_line s.boot (state_number s.state) (job_number s.op) (phase_number s.phase) s.name = simp append_assoc in
    bytes_of_status s ∙ e

pub whole : (bytes : List ℕ) (x y z w : ℕ × Bor (List ℕ)) (name : List ℕ) → HasNumber (codes "run 1 boot=") bytes (Some x) → HasNumber (codes "state=") x.1.now (Some y) → HasNumber (codes "op=") y.1.now (Some z) → HasNumber (codes "phase=") z.1.now (Some w)
    → w.1.now ≡ codes "name=" ++ (name ++ line_feed ∷ []) → bytes ≡ status_line x.0 y.0 z.0 w.0 name
whole bytes x y z w name a b c d is =
    a.1 ∙ ap (λ (l : List ℕ). codes "run 1 boot=" ++ (decimal x.0 ++ space ∷ l)) (b.1
    ∙ ap (λ (l : List ℕ). codes "state=" ++ (decimal y.0 ++ space ∷ l)) (c.1
    ∙ ap (λ (l : List ℕ). codes "op=" ++ (decimal z.0 ++ space ∷ l)) (d.1
    ∙ ap (λ (l : List ℕ). codes "phase=" ++ (decimal w.0 ++ space ∷ l)) is)))

-- one number of two words that are the same, and what comes after it
same_count : (label : List ℕ) (m n : ℕ) (left rest : List ℕ) → m < 2 ^ 64 → n < 2 ^ 64 → label ++ (decimal m ++ space ∷ left) ≡ label ++ (decimal n ++ space ∷ rest) → (m ≡ n) × (left ≡ rest)
same_count label m n left rest fits fits' same =
    let both = same_number (decimal m) left n rest (no_space m fits) fits' (append_cancel_left label (decimal m ++ space ∷ left) (decimal n ++ space ∷ rest) same) in
    (decimal_injective m n fits fits' both.0, both.1)

-- a line is of one boot
same_boot : (bytes : List ℕ) (l : StatusLine) (s : Status) → AreNumbers l → bytes ≡ status_line l.boot l.state l.job l.phase l.name.now → bytes ≡ status_bytes s → 1 ≤ s.boot → s.boot ≤ 2 ^ 62 → IsName s.name → IsBootOf l s
same_boot bytes l s fits is told least most named =
    let boots = same_count (codes "run 1 boot=") l.boot s.boot (after_boot l.state l.job l.phase l.name.now) (after_boot (state_number s.state) (job_number s.op) (phase_number s.phase) s.name) fits.boot_fits (omega (arith, most)) (sym is ∙ told ∙ line_told s) in
    let states = same_count (codes "state=") l.state (state_number s.state) (after_state l.job l.phase l.name.now) (after_state (job_number s.op) (phase_number s.phase) s.name) fits.state_fits (state_fits s.state) boots.1 in
    let jobs = same_count (codes "op=") l.job (job_number s.op) (after_job l.phase l.name.now) (after_job (phase_number s.phase) s.name) fits.job_fits (job_fits s.op) states.1 in
    let phases = same_count (codes "phase=") l.phase (phase_number s.phase) (codes "name=" ++ (l.name.now ++ line_feed ∷ [])) (codes "name=" ++ (s.name ++ line_feed ∷ [])) fits.phase_fits (phase_fits s.phase) jobs.1 in
    record {
      boot_is = sym boots.0;
      state_is = sym states.0;
      job_is = sym jobs.0;
      phase_is = sym phases.0;
      name_is = sym (append_cancel_right l.name.now s.name (line_feed ∷ []) (append_cancel_left (codes "name=") (l.name.now ++ line_feed ∷ []) (s.name ++ line_feed ∷ []) phases.1));
      least = least;
      most = most;
      named = named;
    }

pub no_file : (name bytes : List ℕ) → IsStatusOf name None → TellsStatus name bytes None
no_file name bytes never s is = never s.uuid is.uuid is.named

pub no_line : (name bytes : List ℕ) → IsLineOf bytes None → TellsStatus name bytes None
no_line name bytes never s is =
    never s.boot (state_number s.state) (job_number s.op) (phase_number s.phase) s.name (omega (arith, is.boot_most)) (state_fits s.state) (job_fits s.op) (phase_fits s.phase) (is.spelling ∙ line_told s)

pub told_so : (name bytes uuid : List ℕ) (l : StatusLine) (r : Option Status) → IsStatusOf name (Some uuid) → IsLineOf bytes (Some l) → IsToldBy uuid l r → TellsStatus name bytes r
told_so name bytes uuid l None file line never = λ s is. never s (same_boot bytes l s line.0 line.1 is.spelling is.boot_least is.boot_most is.name_is)
told_so name bytes uuid l (Some s) file line (uuids, is) = record {
  named = file.1 ∙ ap status_name (sym uuids);
  spelling = line.1 ∙ (λ i. status_line (sym is.boot_is i) (sym is.state_is i) (sym is.job_is i) (sym is.phase_is i) (sym is.name_is i)) ∙ sym (line_told s);
  uuid = subst IsUuid (sym uuids) file.0;
  boot_least = is.least;
  boot_most = is.most;
  name_is = is.named;
}
