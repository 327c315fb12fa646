-- Jobs, each in its line.
use Rattle.std.proofs.Common.{◌≡◌, ◌+◌, ◌≤◌, ◌<◌, ◌∙◌, ℕ, List, [], ◌∷◌, ◌++◌, length, get_or, take, map, Option, None, refl, sym, ap, subst, arith}
use Rattle.std.specs.List.{flat_map}
use Rattle.std.proofs.lemmas.Grind.{flat_map-append}
use Rattle.std.proofs.lemmas.List.{append-nil, get_or-map, length-append, length-map, map-append, take_all, take_more}
use Rattle.virt_types.specs.declared.value.JobInfo.{JobInfo}
use Rattle.virt_types.specs.declared.value.Value.{Value}
use Rattle.virt_types.specs.declared.value.Value.TheVariants as value
use Rattle.command_spec.specs.Output.{ImagePrints}
use Rattle.command_spec.specs.Printed.{job_text}
use Rattle.virsh_text.specs.Objects.{JobsPrint}
use Rattle.virsh_text.specs.Texts.{IsTextOf}

pub no_jobs : (text : List ℕ) → text ≡ [] → JobsPrint [] text
no_jobs text is = record { jobs = []; values_are = refl; text_is = is }

pushed : (values : List Value) (text : List ℕ) (job : JobInfo) → JobsPrint values text → JobsPrint (values ++ value.Job job ∷ []) (text ++ job_text job)
pushed values text job before = record {
  jobs = before.jobs ++ job ∷ [];
  values_are = ap (λ (x : List Value). x ++ value.Job job ∷ []) before.values_are ∙ sym (map-append value.Job before.jobs (job ∷ []));
  text_is = ap (λ (x : List ℕ). x ++ job_text job) before.text_is ∙ (ap (λ (x : List ℕ). flat_map job_text before.jobs ++ x) (sym (append-nil (job_text job))) ∙ sym (flat_map-append job_text before.jobs (job ∷ [])));
}

-- one job more
pub one_more : (values : List Value) (i : ℕ) (v : Value) (job : JobInfo) (text after : List ℕ) → i < length values → v ≡ get_or values i v → v ≡ value.Job job → after ≡ text ++ job_text job
    → JobsPrint (take i values) text → JobsPrint (take (i + 1) values) after
one_more values i v job text after below at is put before =
    let front : take (i + 1) values ≡ take i values ++ value.Job job ∷ [] = take_more values i v below ∙ ap (λ (x : Value). take i values ++ x ∷ []) (sym at ∙ is) in
    subst (λ (x : List Value). JobsPrint x after) (sym front) (subst (λ (x : List ℕ). JobsPrint (take i values ++ value.Job job ∷ []) x) (sym put) (pushed (take i values) text job before))

pub all_jobs : (values : List Value) (i : ℕ) (text : List ℕ) → length values ≤ i → JobsPrint (take i values) text → JobsPrint values text
all_jobs values i text over before = subst (λ (x : List Value). JobsPrint x text) (take_all i values over) before

job_at : (values : List Value) (jobs : List JobInfo) (i : ℕ) (v : Value) → values ≡ map value.Job jobs → i < length values → (job : JobInfo) × (get_or values i v ≡ value.Job job)
job_at values [] i v are below = let none : length values ≡ 0 = ap length are in absurd (omega (arith, none, below))
job_at values (j ∷ jobs) i v are below =
    let long : length values ≡ length (j ∷ jobs) = ap length are ∙ length-map (j ∷ jobs) value.Job in
    (get_or (j ∷ jobs) i j, ap (λ (x : List Value). get_or x i v) are ∙ get_or-map value.Job (j ∷ jobs) i j v (omega (arith, long, below)))

-- lists that are the same with one value more each
before_last : (xs ys : List Value) (x y : Value) → xs ++ x ∷ [] ≡ ys ++ y ∷ [] → xs ≡ ys
before_last [] [] x y e = refl
before_last [] (b ∷ ys) x y e = let long = ap length e in absurd (omega (arith, long, length-append ys (y ∷ [])))
before_last (a ∷ xs) [] x y e = let long = ap length e in absurd (omega (arith, long, length-append xs (x ∷ [])))
before_last (a ∷ xs) (b ∷ ys) x y e =
    let head : a ≡ b = cc in
    let tail : xs ++ x ∷ [] ≡ ys ++ y ∷ [] = cc in
    let more = before_last xs ys x y tail in
    cc

-- something else is among them
pub no_job : (values : List Value) (i : ℕ) (v : Value) → i < length values → v ≡ get_or values i v → ((job : JobInfo) → v ≡ value.Job job → ⊥) → (text : List ℕ) → JobsPrint values text → ⊥
no_job values i v below at other text prints = let found = job_at values prints.jobs i v prints.values_are below in other found.0 (at ∙ found.1)

no_front : (values front : List Value) (kind name action : List ℕ) (last : Value) → values ≡ front ++ last ∷ [] → ((t : List ℕ) → JobsPrint front t → ⊥) → (t : List ℕ) → ImagePrints kind name action values t → ⊥
no_front values front kind name action last are none t prints =
    let same : front ++ last ∷ [] ≡ map value.Job prints.jobs ++ value.Nothing ∷ [] = sym are ∙ prints.values_are in
    none (flat_map job_text prints.jobs) (record { jobs = prints.jobs; values_are = before_last front (map value.Job prints.jobs) last value.Nothing same; text_is = refl })

-- what an image prints has its jobs before the last value
pub no_image : (values : List Value) (n : ℕ) (kind name action : List ℕ) (o : Option (List ℕ)) → IsTextOf (JobsPrint (take n values)) o → o ≡ None → n + 1 ≡ length values → (t : List ℕ) → ImagePrints kind name action values t → ⊥
no_image values n kind name action o said is long =
    let none = subst (λ (x : Option (List ℕ)). IsTextOf (JobsPrint (take n values)) x) is said in
    let all : take (n + 1) values ≡ values = take_all (n + 1) values (omega (arith, long)) in
    no_front values (take n values) kind name action (get_or values n value.Nothing) (sym all ∙ take_more values n value.Nothing (omega (arith, long))) none
