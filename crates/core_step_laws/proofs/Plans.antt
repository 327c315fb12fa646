-- What was asked by some answers is the beginning of what was asked by more.
use Rattle.std.proofs.Common.{◌≡◌, ℕ, ◌+◌, ◌≤◌, List, [], ◌∷◌, ◌++◌, length, take, drop, replicate, not, Bool, true, false, Option, None, Some, if◌then◌else◌, refl, sym, ap, ◌∙◌, arith}
use Rattle.std.proofs.lemmas.List.{append_assoc, length-append, length-take}
use Rattle.domain_spec.specs.Types.{Answer, Ask, Call, Domain, Job, Live, Op, State}
use Rattle.domain_spec.specs.Types.answer
use Rattle.domain_spec.specs.Types.job
use Rattle.domain_spec.specs.Types.state
use Rattle.domain_spec.specs.declared.open.OpenJob.{OpenJob}
use Rattle.domain_spec.specs.declared.open.OpenOperation.{OpenOperation}
use Rattle.domain_spec.specs.declared.planned.PlannedAsk.{PlannedAsk}
use Rattle.domain_spec.specs.declared.standing.Standing.{Standing}
use Rattle.domain_spec.specs.Asks.{asks_left, asks_made, course, is_ok_answer, is_undone, value_of}
use Rattle.domain_spec.specs.Cell.{as_let_in, asks_so_far, call_asks, phase_asks, planned_at}
use Rattle.domain_spec.specs.Phase.{phase_asked, phase_still_asked, plan_in, plan_on}
use Rattle.domain_spec.specs.PhaseAsks.{copied_bytes, phase_plan}
use Rattle.domain_spec.specs.Reading.{boot_in, carries_ended, live_boot}
use Rattle.domain_spec.specs.Sequential.{asked, still_asked}
use Rattle.core_rules.specs.Next.{next_of}
use Rattle.core_steps.specs.OfAsks.{made_along}
use Rattle.core_steps.specs.OfAsks.{written}
use Rattle.core_steps.proofs.OfAsks.{made_more, made_so}
use Rattle.core_steps.proofs.OfAsks.{asked_planned, still_planned}
use Rattle.core_steps.specs.OfAsks.{planned}
use Rattle.core_steps.proofs.OfAsks.{in_later, plans_follow}
use Rattle.core_steps.proofs.OfAsks.{in_written}
use Rattle.core_step_laws.specs.Told.{is_no_memory, told}
use Rattle.core_step_laws.proofs.Entering.{starved_told}

-- what was told

kept_if : (b : Bool) (p : Ask × Answer) (xs ys : List (Ask × Answer)) → (if b then p ∷ (xs ++ ys) else (xs ++ ys)) ≡ (if b then p ∷ xs else xs) ++ ys
kept_if true p xs ys = refl
kept_if false p xs ys = refl

pub no_answers : (asks : List Ask) → told asks [] ≡ []
no_answers [] = refl
no_answers (a ∷ asks) = refl

pub told_more : (before : List Ask) (y : Ask) (rest : List Ask) (xs : List Answer) (x : Answer) (more : ℕ) → length before ≡ length xs
    → told ((before ++ y ∷ []) ++ rest) (xs ++ x ∷ replicate more answer.NoMemory) ≡ told (before ++ y ∷ []) xs ++ told (y ∷ []) (x ∷ [])
told_more [] y rest [] x more e = ap (λ (ts : List (Ask × Answer)). if not (is_no_memory x) then (y, x) ∷ ts else ts) (starved_told rest more)
told_more [] y rest (a ∷ xs) x more e = cc
told_more (b ∷ before) y rest [] x more e = cc
told_more (b ∷ before) y rest (a ∷ xs) x more e =
    let same : length before ≡ length xs = omega (arith, e) in
    ap (λ (ts : List (Ask × Answer)). if not (is_no_memory a) then (b, a) ∷ ts else ts) (told_more before y rest xs x more same)
    ∙ kept_if (not (is_no_memory a)) (b, a) (told (before ++ y ∷ []) xs) (told (y ∷ []) (x ∷ []))

-- a plan

undone_grows : (undone : Bool) (xs ys : List Answer) (undo : List Ask) → (rest : List Ask) × ((if undone then take (length (xs ++ ys)) undo else []) ≡ (if undone then take (length xs) undo else []) ++ rest)
undone_grows false xs ys undo = ([], refl)
undone_grows true [] ys undo = (take (length ys) undo, refl)
undone_grows true (x ∷ xs) ys [] = ([], refl)
undone_grows true (x ∷ xs) ys (u ∷ undo) = let h = undone_grows true xs ys undo in (h.0, ap (λ (asks : List Ask). u ∷ asks) h.1)

behind_grows : (ok : Bool) (p : PlannedAsk) (plan : List PlannedAsk) (a : Answer) (xs ys : List Answer) → ((rest : List Ask) × (made_along plan (xs ++ ys) ≡ made_along plan xs ++ rest))
    → (rest : List Ask) × (p.ask ∷ (if ok then made_along plan (xs ++ ys) else if is_undone a then take (length (xs ++ ys)) p.undo else [])
    ≡ (p.ask ∷ (if ok then made_along plan xs else if is_undone a then take (length xs) p.undo else [])) ++ rest)
behind_grows true p plan a xs ys h = (h.0, ap (λ (asks : List Ask). p.ask ∷ asks) h.1)
behind_grows false p plan a xs ys h = let g = undone_grows (is_undone a) xs ys p.undo in (g.0, ap (λ (asks : List Ask). p.ask ∷ asks) g.1)

along_grows : (plan : List PlannedAsk) (xs ys : List Answer) → (rest : List Ask) × (made_along plan (xs ++ ys) ≡ made_along plan xs ++ rest)
along_grows plan [] ys = (made_along plan ys, refl)
along_grows [] (a ∷ xs) ys = ([], refl)
along_grows (p ∷ plan) (a ∷ xs) ys = behind_grows (is_ok_answer a) p plan a xs ys (along_grows plan xs ys)

made_grows : (plan : List PlannedAsk) (xs ys : List Answer) → (rest : List Ask) × (asks_made plan (xs ++ ys) ≡ asks_made plan xs ++ rest)
made_grows plan xs ys =
    let h = along_grows plan xs ys in
    (h.0, sym (made_so plan (xs ++ ys)) ∙ h.1 ∙ ap (λ (asks : List Ask). asks ++ h.0) (made_so plan xs))

-- what a plan asked after these answers, with the ask that waits
abbrev pub so_far : List PlannedAsk → List Answer → List Ask
so_far plan answers = asks_made plan answers ++ take 1 (asks_left plan answers)

few_made : (plan : List PlannedAsk) (answers : List Answer) → length (asks_made plan answers) ≤ length answers
few_made plan answers = rw (length-take (length answers) (course plan answers)) (omega arith)

not_waiting : (plan : List PlannedAsk) (answers : List Answer) → length (asks_made plan answers ++ []) ≡ length answers + 1 → ⊥
not_waiting plan answers e =
    let few : length (asks_made plan answers) ≤ length answers = few_made plan answers in
    let long : length (asks_made plan answers ++ []) ≡ length (asks_made plan answers) + 0 = length-append (asks_made plan answers) [] in
    omega (arith, e, few, long)

plan_by : (left : List Ask) (plan : List PlannedAsk) (xs : List Answer) (x : Answer) (ys : List Answer) → asks_left plan xs ≡ left → length (asks_made plan xs ++ take 1 left) ≡ length xs + 1
    → (rest : List Ask) × (asks_made plan (xs ++ x ∷ ys) ≡ (asks_made plan xs ++ take 1 left) ++ rest)
plan_by [] plan xs x ys is e = absurd (not_waiting plan xs e)
plan_by (a ∷ left) plan xs x ys is e =
    let more : asks_made plan (xs ++ x ∷ []) ≡ asks_made plan xs ++ a ∷ [] = made_more plan xs x a (ap next_of is) in
    let grown = made_grows plan (xs ++ x ∷ []) ys in
    (grown.0, ap (λ (zs : List Answer). asks_made plan zs) (sym (append_assoc xs (x ∷ []) ys)) ∙ grown.1 ∙ ap (λ (asks : List Ask). asks ++ grown.0) more)

plan_more : (plan : List PlannedAsk) (xs : List Answer) (x : Answer) (ys : List Answer) → length (so_far plan xs) ≡ length xs + 1 → (rest : List Ask) × (asks_made plan (xs ++ x ∷ ys) ≡ so_far plan xs ++ rest)
plan_more plan xs x ys e = plan_by (asks_left plan xs) plan xs x ys refl e

-- a call

pub call_is : (s : State) (j : OpenJob) (answers : List Answer) → call_asks s j answers ≡ so_far (planned s j.call j.boot) answers
call_is s j answers =
    ap (λ (asks : List Ask). asks ++ take 1 (still_asked s j.call j.boot answers)) (sym (asked_planned s j.call j.boot answers))
    ∙ ap (λ (asks : List Ask). asks_made (planned s j.call j.boot) answers ++ take 1 asks) (sym (still_planned s j.call j.boot answers))

pub call_more : (s : State) (j : OpenJob) (xs : List Answer) (x : Answer) (ys : List Answer) → length (call_asks s j xs) ≡ length xs + 1
    → (rest : List Ask) × (asks_made (planned s j.call j.boot) (xs ++ x ∷ ys) ≡ call_asks s j xs ++ rest)
call_more s j xs x ys e =
    let h = plan_more (planned s j.call j.boot) xs x ys (sym (ap length (call_is s j xs)) ∙ e) in
    (h.0, h.1 ∙ ap (λ (asks : List Ask). asks ++ h.0) (sym (call_is s j xs)))

-- a phase

first_written : (bytes : List ℕ) (plan : List PlannedAsk) (x : Answer) (ys : List Answer) → length (so_far plan []) ≡ 1 → (rest : List Ask) × (made_along (written bytes plan) (x ∷ ys) ≡ so_far plan [] ++ rest)
first_written bytes [] x ys e = cc
first_written bytes (p ∷ []) x ys e = ((if is_ok_answer x then made_along [] ys else if is_undone x then take (length ys) p.undo else []), refl)
first_written bytes (p ∷ q ∷ plan) x ys e = (drop 1 (made_along (written bytes (p ∷ q ∷ plan)) (x ∷ ys)), refl)

live_by : (s : State) (c : Call) (xs : List Answer) (x : Answer) (ys : List Answer) → length (so_far (plan_in s c xs) xs) ≡ length xs + 1
    → (rest : List Ask) × (asks_made (plan_in s c (xs ++ x ∷ ys)) (xs ++ x ∷ ys) ≡ so_far (plan_in s c xs) xs ++ rest)
live_by s c [] x ys e =
    let bytes : List ℕ = copied_bytes (value_of x) in
    let plan : plan_in s c (x ∷ ys) ≡ written bytes (plan_in s c []) = in_later s c x ys [] ∙ plans_follow s c [] x ∙ in_written s c x in
    let first = first_written bytes (plan_in s c []) x ys e in
    (first.0, ap (λ (p : List PlannedAsk). asks_made p (x ∷ ys)) plan ∙ sym (made_so (written bytes (plan_in s c [])) (x ∷ ys)) ∙ first.1)
live_by s c (a ∷ xs) x ys e =
    let plan : plan_in s c (a ∷ xs ++ x ∷ ys) ≡ plan_in s c (a ∷ xs) = in_later s c a (xs ++ x ∷ ys) xs in
    let h = plan_more (plan_in s c (a ∷ xs)) (a ∷ xs) x ys e in
    (h.0, ap (λ (p : List PlannedAsk). asks_made p (a ∷ xs ++ x ∷ ys)) plan ∙ h.1)

phase_by : (ended : Bool) (s : State) (o : OpenOperation) (xs : List Answer) (x : Answer) (ys : List Answer)
    → length ((if ended then [] else asks_made (plan_in s o.call xs) xs) ++ take 1 (if ended then [] else asks_left (plan_in s o.call xs) xs)) ≡ length xs + 1
    → (rest : List Ask) × ((if ended then [] else asks_made (plan_in s o.call (xs ++ x ∷ ys)) (xs ++ x ∷ ys))
    ≡ ((if ended then [] else asks_made (plan_in s o.call xs) xs) ++ take 1 (if ended then [] else asks_left (plan_in s o.call xs) xs)) ++ rest)
phase_by true s o xs x ys e = absurd (omega (arith, e))
phase_by false s o xs x ys e = live_by s o.call xs x ys e

pub phase_more : (s : State) (o : OpenOperation) (xs : List Answer) (x : Answer) (ys : List Answer) → length (phase_asks s (Some o) xs) ≡ length xs + 1
    → (rest : List Ask) × (phase_asked s o (xs ++ x ∷ ys) ≡ phase_asks s (Some o) xs ++ rest)
phase_more s o xs x ys e = phase_by (carries_ended s o.boot) s o xs x ys e

-- without a guest a phase asks nothing

no_guest : (d : Domain) (live : Option Live) (op : Op) (c : Call) (answers : List Answer) → boot_in live ≡ None → phase_plan d live op c answers ≡ []
no_guest d None op c answers e = refl
no_guest d (Some l) op c answers e = cc

no_plan_on : (d : Domain) (op : Option Op) (c : Call) (answers : List Answer) → boot_in d.live ≡ None → plan_on d op c answers ≡ []
no_plan_on d None c answers e = refl
no_plan_on d (Some op) c answers e = no_guest d d.live op c answers e

pub no_plan : (s : State) (c : Call) (answers : List Answer) → live_boot s ≡ None → plan_in s c answers ≡ []
no_plan (state.Vacant boots) c answers e = refl
no_plan (state.Held d) c answers e = no_plan_on d d.op c answers e

along_none : (answers : List Answer) → made_along [] answers ≡ []
along_none [] = refl
along_none (a ∷ answers) = refl

pub made_none : (answers : List Answer) → asks_made [] answers ≡ []
made_none answers = sym (made_so [] answers) ∙ along_none answers

pub nothing_asked : (xs : List Answer) → length (so_far [] xs) ≡ length xs + 1 → ⊥
nothing_asked xs e =
    let h = plan_more [] xs answer.NoMemory [] e in
    let none : length (so_far [] xs ++ h.0) ≡ 0 = ap length (sym h.1 ∙ made_none (xs ++ answer.NoMemory ∷ [])) in
    let long : length (so_far [] xs ++ h.0) ≡ length (so_far [] xs) + length h.0 = length-append (so_far [] xs) h.0 in
    omega (arith, e, none, long)

no_phase_by : (ended : Bool) (s : State) (o : OpenOperation) (xs : List Answer) → live_boot s ≡ None
    → length ((if ended then [] else asks_made (plan_in s o.call xs) xs) ++ take 1 (if ended then [] else asks_left (plan_in s o.call xs) xs)) ≡ length xs + 1 → ⊥
no_phase_by true s o xs none e = omega (arith, e)
no_phase_by false s o xs none e = nothing_asked xs (sym (ap (λ (plan : List PlannedAsk). length (so_far plan xs)) (no_plan s o.call xs none)) ∙ e)

pub no_phase : (s : State) (o : OpenOperation) (xs : List Answer) → live_boot s ≡ None → length (phase_asks s (Some o) xs) ≡ length xs + 1 → ⊥
no_phase s o xs none e = no_phase_by (carries_ended s o.boot) s o xs none e

-- what is open

-- what a call, or a phase, that is open has asked
abbrev pub asks_by : State → Option OpenOperation → Job → OpenJob → List Answer → List Ask
asks_by s q job.Nested j answers = phase_asks s q answers
asks_by s q other j answers = call_asks s j answers

pub asks_are : (s : Standing) (w : Job) (j : OpenJob) (answers : List Answer) → asks_so_far s w j answers ≡ asks_by (planned_at s.state j) s.operation w (as_let_in j) answers
asks_are s job.Nested j answers = refl
asks_are s other j answers = refl

phase_grows : (s : State) (q : Option OpenOperation) (xs : List Answer) (x : Answer) (ys : List Answer) → length (phase_asks s q xs) ≡ length xs + 1
    → (rest : List Ask) × (phase_asks s q (xs ++ x ∷ ys) ≡ phase_asks s q xs ++ rest)
phase_grows s None xs x ys e = absurd (omega (arith, e))
phase_grows s (Some o) xs x ys e =
    let h = phase_more s o xs x ys e in
    let last : List Ask = take 1 (phase_still_asked s o (xs ++ x ∷ ys)) in
    (h.0 ++ last, ap (λ (asks : List Ask). asks ++ last) h.1 ∙ append_assoc (phase_asks s (Some o) xs) h.0 last)

call_grows : (s : State) (j : OpenJob) (xs : List Answer) (x : Answer) (ys : List Answer) → length (call_asks s j xs) ≡ length xs + 1
    → (rest : List Ask) × (call_asks s j (xs ++ x ∷ ys) ≡ call_asks s j xs ++ rest)
call_grows s j xs x ys e =
    let h = call_more s j xs x ys e in
    let last : List Ask = take 1 (asks_left (planned s j.call j.boot) (xs ++ x ∷ ys)) in
    (h.0 ++ last, call_is s j (xs ++ x ∷ ys) ∙ ap (λ (asks : List Ask). asks ++ last) h.1 ∙ append_assoc (call_asks s j xs) h.0 last)

-- with more answers it has asked more, and first what it asked before
pub asks_grow : (s : State) (q : Option OpenOperation) (w : Job) (j : OpenJob) (xs : List Answer) (x : Answer) (ys : List Answer) → length (asks_by s q w j xs) ≡ length xs + 1
    → (rest : List Ask) × (asks_by s q w j (xs ++ x ∷ ys) ≡ asks_by s q w j xs ++ rest)
asks_grow s q job.Nested j xs x ys e = phase_grows s q xs x ys e
asks_grow s q other j xs x ys e = call_grows s j xs x ys e
