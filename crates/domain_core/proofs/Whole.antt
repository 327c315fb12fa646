-- What holds between two turns holds after a turn.
use Rattle.std.proofs.Common.{◌≡◌, ◌⊎◌, ◌≤◌, ◌+◌, ℕ, inl, inr, List, [], ◌∷◌, length, Bool, Option, None, Some, refl, sym, ap, ◌∙◌, subst, arith}
use Rattle.domain_spec.specs.Types.{Answer, Call, DomainDef, Who}
use Rattle.domain_spec.specs.declared.core_step.CoreStep.{CoreStep}
use Rattle.domain_spec.specs.declared.core_step.CoreStep.TheVariants as step
use Rattle.domain_spec.specs.declared.core_step.First.{First}
use Rattle.domain_spec.specs.declared.mark.Mark.{Mark}
use Rattle.domain_spec.specs.declared.open.OpenJob.{OpenJob}
use Rattle.domain_spec.specs.declared.standing.Base.{Base}
use Rattle.domain_spec.specs.declared.standing.Standing.{Standing}
use Rattle.domain_spec.specs.CanTake.{CanLook, CanTake}
use Rattle.domain_spec.specs.Cell.{Cell, HeldEvent, LentEars, Queue}
use Rattle.domain_spec.specs.Fold.{at_base}
use Rattle.domain_spec.specs.Kept.{held_by}
use Rattle.domain_spec.specs.Laws.{IsCounted}
use Rattle.domain_spec.specs.Reading.{live_boot}
use Rattle.domain_spec.specs.Turns.{AllHaveRoom}
use Rattle.core_steps.specs.OfAsks.{Asked}
use Rattle.core_steps.specs.OfLedger.{WaitsWith}
use Rattle.core_steps.specs.Below.core_flight.Ledger.{standing_in}
use Rattle.core_steps.specs.OfLedger.{Chaptered}
use Rattle.event_queue.specs.Listening.{registrations}
use Rattle.core_steps.specs.OfRecord.{Recorded, force_of}
use Rattle.core_steps.specs.Looking.{IsKnownFirst, Looks, LooksSo, boot_first, Waits}
use Rattle.core_steps.specs.Refusing.{IsSetAside, GivesUp, HasRefused}
use Rattle.core_steps.specs.Rooms.{HasEnd, rooms_lent, rooms_needed, ends_needed, marks_needed}
use Rattle.core_steps.specs.TurnLaws.{CanLookSo}
use Rattle.core_steps.specs.Turning.{Takes, FitsJob, HasTurned, Turning, cell_of, turning}
use Rattle.core_steps.specs.declared.looking.Looked.{Looked}
use Rattle.core_steps.specs.declared.looking.Looked.TheVariants as looked
use Rattle.core_steps.specs.declared.refusing.Refusable.{Refusable}
use Rattle.core_steps.proofs.Looks.{free_by, looks_are}
use Rattle.domain_core.specs.Core.{IsWhole}
use Rattle.core_steps.proofs.Refused.{refused_are}
use Rattle.core_steps.proofs.Backed.{phases_go_back}
use Rattle.domain_spec.specs.Call.{job_of}
use Rattle.domain_spec.specs.Open.{job_held, operation_held}
use Rattle.core_steps.proofs.Backs.{goes_back}
use Rattle.core_steps.proofs.OfRecord.{force_after}
use Rattle.domain_spec.specs.Chapter.{first_base}
use Rattle.core_steps.proofs.Staying.{answer_stays, applies_course}
use Rattle.core_steps.proofs.MayAnswer.{numbered_by}
use Rattle.core_steps.specs.OfLedger.back_variants as back
use Rattle.domain_spec.specs.declared.mark.Mark.TheVariants as mark
use Rattle.domain_spec.specs.Types.code
use Rattle.core_steps.proofs.Admitting.{admit_lawful}
use Rattle.domain_spec.specs.declared.open.OpenOperation.{OpenOperation}
use Rattle.domain_spec.specs.JobTable.{May}
use Rattle.domain_spec.specs.Legal.{IsLawful}
use Rattle.core_steps.specs.OfLedger.{Back}
use Rattle.core_steps.specs.Answering.{GoesBack, Answers, IsNumbered, LeavesRooms, MayBeAnswered, held_after}

-- nothing is held after a turn where no call is open

fits_by : (c : Cell) (t : CoreStep ℕ) (s : Standing) (j : Option OpenJob) (held : List HeldEvent) → held ≡ held_by c t s j → FitsJob j held
fits_by c (step.Event b e) s None held is = is
fits_by c (step.Event b e) s (Some j) held is = tt
fits_by c other s None held is = is
fits_by c other s (Some j) held is = tt

pub fits_after : (old : Turning) (new : Recorded) (q : Queue) (held : List HeldEvent) (ears : Option LentEars) (t : CoreStep ℕ) (left : List (Mark ℕ))
    → HasTurned old (turning new q held ears) t left → FitsJob (force_of new).job held
unfolding standing_in
fits_after old new q held ears t left turned = fits_by old.cell t (force_of new) (force_of new).job held turned.leads.held

-- the boots are counted still, where no chapter began
pub counted_after : (old : Turning) (new : Recorded) (q : Queue) (held : List HeldEvent) (ears : Option LentEars) → new.history.base ≡ old.cell.base → IsCounted (at_base old.cell.base) → IsCounted (at_base new.history.base)
counted_after old new q held ears same counted = subst (λ (b : Base). IsCounted (at_base b)) (sym same) counted

-- a look

pub looks_turned : (n : ℕ) (who : Who) (d : Call) (f : First) (old new : Turning) (result : Looked) → Looks n who d f old new result → (left : List (Mark ℕ)) × HasTurned old new (step.Look n who d f) left
looks_turned n who d f old new (looked.Done r) h = (h.0, h.1)
looks_turned n who d f old new (looked.Away x) h = (h.0, h.1)
looks_turned n who d f old new (looked.Excluded held boot looks) h = (h.0, h.1)
looks_turned n who d f old new (looked.WaitersFull w) h = (h.0, h.1)
looks_turned n who d f old new looked.NoMemory h = (h.0, h.1)

pub can_look_so : (old : Recorded) (q : Queue) (held : List HeldEvent) (ears : Option LentEars) (x : Option Refusable) (rooms places n : ℕ) (who : Who) (d : Call) (f : First) → IsWhole old q held ears x rooms places
    → CanLook (cell_of old q held ears) n who d f → IsKnownFirst f (cell_of old q held ears) → (force_of old).lost ≡ None → WaitsWith (force_of old) (force_of old).job old.course → AllHaveRoom (registrations old.listeners)
    → CanLookSo old q held ears n who d f
can_look_so old q held ears x rooms places n who d f whole can known lost waits room =
    record { can = can; known = known; settled = record { lost = lost; waits = waits }; room = room; fits = whole.kept.fits }

pub look_turn : (old new : Recorded) (q p : Queue) (held : List HeldEvent) (ears : Option LentEars) (x : Option Refusable) (rooms places n : ℕ) (who : Who) (d : Call) (f : First) (result : Looked) → IsWhole old q held ears x rooms places
    → CanLook (cell_of old q held ears) n who d f → IsKnownFirst f (cell_of old q held ears) → (force_of old).lost ≡ None → WaitsWith (force_of old) (force_of old).job old.course → AllHaveRoom (registrations old.listeners)
    → (force_of new).lost ≡ None → WaitsWith (force_of new) (force_of new).job new.course → LooksSo n who d (boot_first f (live_boot (force_of old).state)) old new q p result
    → Looks n who d f (turning old q held ears) (turning new p held ears) result
look_turn old new q p held ears x rooms places n who d f result whole can known lost waits room lost_now waits_now so =
    looks_are old new q p held ears n who d f result (can_look_so old q held ears x rooms places n who d f whole can known lost waits room) (record { lost = lost_now; waits = waits_now }) so

pub look_lawful : (r : Recorded) (q : Queue) (held : List HeldEvent) (ears : Option LentEars) (x : Option Refusable) (rooms places n : ℕ) (who : Who) (d : Call) (f : First) → IsWhole r q held ears x rooms places
    → CanLook (cell_of r q held ears) n who d f → IsKnownFirst f (cell_of r q held ears) → (force_of r).lost ≡ None → May (job_held (force_of r).job) (operation_held (force_of r).operation) (job_of d) who
    → IsLawful (force_of r) (mark.Admit n who (job_of d) d (boot_first f (live_boot (force_of r).state)))
look_lawful r q held ears x rooms places n who d f whole can known lost may = admit_lawful r q held ears n who d f can known whole.kept.counted lost may

pub few_needed : (a : Option Asked) → rooms_needed a ≤ 1
few_needed None = omega arith
few_needed (Some a) = omega arith

pub same_rooms : (old new : Recorded) (held : List HeldEvent) (lent rooms more : ℕ) → new.course ≡ old.course → rooms ≤ more → length held + rooms_needed old.course + lent ≤ rooms → length held + rooms_needed new.course + lent ≤ more
same_rooms old new held lent rooms more same grown enough =
    subst (λ (a : Option Asked). length held + rooms_needed a + lent ≤ more) (sym same) (omega (arith, grown, enough))

pub none_held : (held : List HeldEvent) (new : Recorded) (lent more : ℕ) → held ≡ [] → 1 + lent ≤ more → length held + rooms_needed new.course + lent ≤ more
none_held held new lent more none le =
    let few = few_needed new.course in
    subst (λ (hs : List HeldEvent). length hs + rooms_needed new.course + lent ≤ more) (sym none) (omega (arith, le, few))

pub stays_course : (n : ℕ) (who : Who) (d : Call) (old new : Recorded) (q p : Queue) (result : Looked) → Waits n who d old new q p result → new.course ≡ old.course
stays_course n who d old new q p (looked.Excluded held boot looks) h = ap (λ (r : Recorded). r.course) h.0
stays_course n who d old new q p (looked.WaitersFull w) h = h.2.course
stays_course n who d old new q p looked.NoMemory h = ap (λ (r : Recorded). r.course) h.0
stays_course n who d old new q p (looked.Done r) h = absurd h
stays_course n who d old new q p (looked.Away x) h = absurd h

look_rooms : (n : ℕ) (who : Who) (d : Call) (b : Option ℕ) (old new : Recorded) (q p : Queue) (held : List HeldEvent) (result : Looked) (lent rooms more : ℕ) → FitsJob (force_of old).job held → LooksSo n who d b old new q p result
    → (1 + lent ≤ more) ⊎ (new.course ≡ old.course) → rooms ≤ more → length held + rooms_needed old.course + lent ≤ rooms → length held + rooms_needed new.course + lent ≤ more
look_rooms n who d b old new q p held result lent rooms more fits h (inr same) grown enough = same_rooms old new held lent rooms more same grown enough
look_rooms n who d b old new q p held result lent rooms more fits (inr h) (inl le) grown enough = same_rooms old new held lent rooms more (stays_course n who d old new q p result h.1) grown enough
look_rooms n who d b old new q p held result lent rooms more fits (inl h) (inl le) grown enough =
    none_held held new lent more (free_by (force_of old).job (operation_held (force_of old).operation) (job_of d) who held h.0 fits) le

pub look_keeps : (old new : Recorded) (q p : Queue) (held : List HeldEvent) (ears : Option LentEars) (x y : Option Refusable) (rooms more places lent n : ℕ) (who : Who) (d : Call) (f : First) (b : Option ℕ) (result : Looked)
    → IsWhole old q held ears x rooms places → lent ≡ rooms_lent ears → Looks n who d f (turning old q held ears) (turning new p held ears) result → LooksSo n who d b old new q p result
    → (1 + lent ≤ more) ⊎ (new.course ≡ old.course) → rooms ≤ more → more ≤ 128 → HasEnd new more → IsSetAside new p more y → IsWhole new p held ears y more places
look_keeps old new q p held ears x y rooms more places lent n who d f b result whole is looks so room grown few ends set =
    let turned = looks_turned n who d f (turning old q held ears) (turning new p held ears) result looks in
    let enough : length held + rooms_needed old.course + lent ≤ rooms =
    subst (λ (k : ℕ). length held + rooms_needed old.course + k ≤ rooms) (sym is) whole.kept.has_rooms.enough in
    record {
      kept = record {
        fits = fits_after (turning old q held ears) new p held ears (step.Look n who d f) turned.0 turned.1;
        few_held = whole.kept.few_held;
        counted = counted_after (turning old q held ears) new p held ears turned.1.leads.base whole.kept.counted;
        has_rooms = record {
          marks = let e = ends in omega (arith, e);
          enough =
              subst (λ (k : ℕ). length held + rooms_needed new.course + k ≤ more) is
              (look_rooms n who d b old new q p held result lent rooms more whole.kept.fits so room grown enough);
          few = few;
        };
      };
      ends = ends;
      places = whole.places;
      set_aside = set;
    }

-- a domain as the store was opened

counted_first : (stored : Option DomainDef) (autostart : Bool) → IsCounted (at_base (first_base stored autostart))
counted_first None autostart = tt
counted_first (Some def) autostart = tt

pub new_whole : (r : Recorded) (q : Queue) (stored : Option DomainDef) (autostart : Bool) (places : ℕ) → r.history ≡ record { chapter = 0; base = first_base stored autostart; marks = [] } → r.course ≡ None
    → IsWhole r q [] None None 0 places
unfolding standing_in
new_whole r q stored autostart places is none =
    let job : (force_of r).job ≡ None = ap (λ (h : Chaptered). (standing_in h).job) is in
    let operation : (force_of r).operation ≡ None = ap (λ (h : Chaptered). (standing_in h).operation) is in
    record {
      kept = record {
        fits = subst (λ (j : Option OpenJob). FitsJob j []) (sym job) refl;
        few_held = omega arith;
        counted = subst (λ (h : Chaptered). IsCounted (at_base h.base)) (sym is) (counted_first stored autostart);
        has_rooms = record {
          marks = subst (λ (a : Option Asked). marks_needed a + 0 ≤ r.spare) (sym none) (omega arith);
          enough = subst (λ (a : Option Asked). 0 + rooms_needed a + 0 ≤ 0) (sym none) (omega arith);
          few = omega arith;
        };
      };
      ends =
          subst (λ (o : Option OpenOperation). ends_needed o + (marks_needed r.course + 0) ≤ r.spare) (sym operation)
          (subst (λ (a : Option Asked). 0 + (marks_needed a + 0) ≤ r.spare) (sym none) (omega arith));
      places = omega arith;
      set_aside = tt;
    }

-- an answer

pub left_turned : (n : ℕ) (x : Answer) (old new : Turning) (left : Back) → GoesBack n x old new left → (marks : List (Mark ℕ)) × HasTurned old new (step.Back n x) marks
left_turned n x old new (back.Done r) h = (h.0, h.1)
left_turned n x old new (back.Away y) h = (h.0, h.1)
left_turned n x old new (back.Phased st) h = (h.0, h.1)

pub back_turn : (old new : Recorded) (q : Queue) (held : List HeldEvent) (ears : Option LentEars) (n : ℕ) (x : Answer) (left : Back)
    → CanTake (cell_of old q held ears) (step.Back n x) → (force_of old).lost ≡ None → WaitsWith (force_of old) (force_of old).job old.course → AllHaveRoom (registrations old.listeners)
    → (force_of new).lost ≡ None → WaitsWith (force_of new) (force_of new).job new.course → Answers n old.course x held old new left
    → GoesBack n x (turning old q held ears) (turning new q (held_after left held) ears) left
back_turn old new q held ears n x (back.Phased st) can lost waits room lost_now waits_now h =
    phases_go_back old new q held ears n x st can room (record { lost = lost; waits = waits }) (record { lost = lost_now; waits = waits_now }) h
back_turn old new q held ears n x (back.Done r) can lost waits room lost_now waits_now h =
    goes_back old new q held ears n x (back.Done r) can room (record { lost = lost; waits = waits }) (record { lost = lost_now; waits = waits_now }) h tt
back_turn old new q held ears n x (back.Away y) can lost waits room lost_now waits_now h =
    goes_back old new q held ears n x (back.Away y) can room (record { lost = lost; waits = waits }) (record { lost = lost_now; waits = waits_now }) h tt

-- the call that is open is of this number
pub numbered : (r : Recorded) (q : Queue) (held : List HeldEvent) (ears : Option LentEars) (n : ℕ) (x : Answer) → CanTake (cell_of r q held ears) (step.Back n x) → IsNumbered (force_of r).job n
unfolding standing_in
numbered r q held ears n x can = numbered_by (cell_of r q held ears) (force_of r).job n can

-- which rooms an answer needs, and leaves

pub marks_away : (s : Standing) (j : Option OpenJob) (a : Option Asked) (x : Answer) → MayBeAnswered s j a x → (marks_needed a ≡ 2) × (rooms_needed a ≡ 1)
marks_away s None a x h = absurd h
marks_away s (Some j) None x h = absurd h
marks_away s (Some j) (Some a) x h = (refl, refl)

none_needed : (held : List HeldEvent) (new : Option Asked) (lent rooms more : ℕ) → new ≡ None → rooms ≤ more + (length held + 1) → length held + 1 + lent ≤ rooms → 0 + rooms_needed new + lent ≤ more
none_needed held new lent rooms more none le enough = subst (λ (a : Option Asked). 0 + rooms_needed a + lent ≤ more) (sym none) (omega (arith, le, enough))

back_rooms : (n : ℕ) (course : Option Asked) (x : Answer) (held : List HeldEvent) (old new : Recorded) (left : Back) (lent rooms more : ℕ) → Answers n course x held old new left → LeavesRooms left held rooms more
    → length held + 1 + lent ≤ rooms → length (held_after left held) + rooms_needed new.course + lent ≤ more
back_rooms n None x held old new left lent rooms more h leaves enough = absurd h
back_rooms n (Some a) x held old new (back.Done r) lent rooms more h leaves enough =
    none_needed held new.course lent rooms more (applies_course held h.3 new h.6 ∙ h.4.none_away) leaves enough
back_rooms n (Some a) x held old new (back.Phased st) lent rooms more h leaves enough =
    none_needed held new.course lent rooms more (applies_course held h.3 new h.6 ∙ h.4.none_away) leaves enough
back_rooms n (Some a) x held old new (back.Away y) lent rooms more h leaves enough =
    let few = few_needed new.course in subst (λ (k : ℕ). length held + rooms_needed new.course + lent ≤ k) (sym leaves) (omega (arith, few, enough))

fewer_held : (left : Back) (held : List HeldEvent) → length (held_after left held) ≤ length held
fewer_held (back.Done r) held = omega arith
fewer_held (back.Phased st) held = omega arith
fewer_held (back.Away y) held = omega arith

pub back_keeps : (old new : Recorded) (q : Queue) (held : List HeldEvent) (ears : Option LentEars) (z : Option Refusable) (rooms more places n : ℕ) (x : Answer) (left : Back)
    → IsWhole old q held ears z rooms places → (marks_needed old.course ≡ 2) × (rooms_needed old.course ≡ 1) → GoesBack n x (turning old q held ears) (turning new q (held_after left held) ears) left
    → Answers n old.course x held old new left → LeavesRooms left held rooms more → more ≤ rooms → old.spare + (marks_needed new.course + more) ≤ new.spare + (2 + rooms)
    → IsWhole new q (held_after left held) ears None more places
back_keeps old new q held ears z rooms more places n x left whole needs goes answers leaves fewer balance =
    let turned = left_turned n x (turning old q held ears) (turning new q (held_after left held) ears) left goes in
    let less = fewer_held left held in
    let few_held = whole.kept.few_held in
    let few = whole.kept.has_rooms.few in
    let room = whole.places in
    let enough : length held + 1 + rooms_lent ears ≤ rooms = subst (λ (k : ℕ). length held + k + rooms_lent ears ≤ rooms) needs.1 whole.kept.has_rooms.enough in
    let ends_old : ends_needed (force_of old).operation + (2 + rooms) ≤ old.spare = subst (λ (k : ℕ). ends_needed (force_of old).operation + (k + rooms) ≤ old.spare) needs.0 whole.ends in
    let ends : HasEnd new more =
    subst (λ (k : ℕ). k + (marks_needed new.course + more) ≤ new.spare) (sym (answer_stays n old.course x held old new left answers)) (omega (arith, ends_old, balance)) in
    record {
      kept = record {
        fits = fits_after (turning old q held ears) new q (held_after left held) ears (step.Back n x) turned.0 turned.1;
        few_held = omega (arith, less, few_held);
        counted = counted_after (turning old q held ears) new q (held_after left held) ears turned.1.leads.base whole.kept.counted;
        has_rooms = record {
          marks = omega (arith, ends);
          enough = back_rooms n old.course x held old new left (rooms_lent ears) rooms more answers leaves enough;
          few = omega (arith, few, fewer);
        };
      };
      ends = ends;
      places = omega (arith, less, room);
      set_aside = tt;
    }

-- a call that gives up

pub give_turn : (old new : Recorded) (q p : Queue) (held : List HeldEvent) (ears : Option LentEars) (z : Refusable) (rooms places n : ℕ) → IsWhole old q held ears (Some z) rooms places
    → CanTake (cell_of old q held ears) (step.GiveUp n z.who z.call) → (force_of old).lost ≡ None → WaitsWith (force_of old) (force_of old).job old.course
    → (force_of new).lost ≡ None → WaitsWith (force_of new) (force_of new).job new.course → GivesUp n z old new q p
    → Takes (turning old q held ears) (turning new p held ears) (step.GiveUp n z.who z.call) (HasRefused n z.who z.call code.OperationTimeout)
give_turn old new q p held ears z rooms places n whole can lost waits lost_now waits_now gives =
    refused_are old new q p held ears n z can (record { lost = lost; waits = waits }) whole.kept.fits (record { lost = lost_now; waits = waits_now }) gives

pub given_keeps : (old new : Recorded) (q p : Queue) (held : List HeldEvent) (ears : Option LentEars) (z : Refusable) (rooms places n : ℕ) → IsWhole old q held ears (Some z) rooms places
    → GivesUp n z old new q p → new.spare + 1 ≡ old.spare → IsWhole new p held ears None rooms places
given_keeps old new q p held ears z rooms places n whole gives spare =
    let there = force_after old new (mark.Refused n z.who z.call code.OperationTimeout gives.0 ∷ []) gives.1.marked in
    let set = whole.set_aside.1 in
    let ends : HasEnd new rooms =
    subst (λ (s : Standing). ends_needed s.operation + (marks_needed new.course + rooms) ≤ new.spare) (sym there)
    (subst (λ (a : Option Asked). ends_needed (force_of old).operation + (marks_needed a + rooms) ≤ new.spare) (sym gives.1.course) (omega (arith, set, spare))) in
    record {
      kept = record {
        fits = subst (λ (s : Standing). FitsJob s.job held) (sym there) whole.kept.fits;
        few_held = whole.kept.few_held;
        counted = subst (λ (b : Base). IsCounted (at_base b)) (sym (ap (λ (h : Chaptered). h.base) gives.1.marked.history)) whole.kept.counted;
        has_rooms = record {
          marks = omega (arith, ends);
          enough = subst (λ (a : Option Asked). length held + rooms_needed a + rooms_lent ears ≤ rooms) (sym gives.1.course) whole.kept.has_rooms.enough;
          few = whole.kept.has_rooms.few;
        };
      };
      ends = ends;
      places = whole.places;
      set_aside = tt;
    }
