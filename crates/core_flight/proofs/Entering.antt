-- A call that is let in.
use Rattle.std.proofs.Common.{◌≡◌, ℕ, [], ◌∷◌, ◌++◌, None, Some, Option, refl, sym, ap, ◌∙◌, subst}
use Rattle.history_spec.specs.declared.stamp.Stamp.{Stamp}
use Rattle.domain_spec.specs.Types.{Ask, Call, Job, Who}
use Rattle.domain_spec.specs.declared.mark.Mark.TheVariants as mark
use Rattle.domain_spec.specs.declared.standing.Standing.{Standing}
use Rattle.domain_spec.specs.Call.{begins, job_of, takes_up}
use Rattle.domain_spec.specs.Fold.{after}
use Rattle.domain_spec.specs.Legal.{IsLawful}
use Rattle.core_rules.specs.declared.next.Next.TheVariants as next
use Rattle.core_plan.specs.Along.{Asked}
use Rattle.core_plan.specs.Starving.{AreAsks, next_in, starved}
use Rattle.core_plan.specs.Going.{first_course}
use Rattle.core_chapter.specs.Standing.{HistoryWithRoom}
use Rattle.core_flight.specs.Away.{IsOut}
use Rattle.core_flight.specs.Ledger.{admitted, with_marks}
use Rattle.core_flight.specs.Turn.{CanGoOn, Enters, IsReady, TurnsTo, force_in, shown}
use Rattle.core_flight.specs.declared.away.Ready.{Ready}
use Rattle.core_flight.specs.declared.out.Out.TheVariants as gone
use Rattle.core_flight.specs.declared.turns.Turn.{Turn}
use Rattle.core_flight.proofs.Histories.{first_goes_on, first_is_kept, force_admitted, shown_more, turns_to}

-- the chapter where a call was let in, with what was set aside for it
pub record Entered (old mid : HistoryWithRoom) (n : ℕ) (who : Who) (c : Call) (boot : Option ℕ) (r : Ready) : Type 0 where
  pub begins_none : begins c ≡ None
  pub takes_none : takes_up c ≡ None
  pub lost : (force_in old).lost ≡ None
  pub lawful : IsLawful (force_in old) (mark.Admit n who (job_of c) c boot)
  pub ready : IsReady (force_in old).state c boot r
  pub marked : shown mid ≡ admitted (shown old) n who c boot
  pub there : force_in mid ≡ after (force_in old) (mark.Admit n who (job_of c) c boot)

entered :
    (old mid : HistoryWithRoom) (by : Stamp) (n : ℕ) (who : Who) (wanted : Job) (c : Call) (boot : Option ℕ) (r : Ready)
    → begins c ≡ None → takes_up c ≡ None → (force_in old).lost ≡ None → IsLawful (force_in old) (mark.Admit n who (job_of c) c boot) → IsReady (force_in old).state c boot r
    → by.number ≡ n → wanted ≡ job_of c → mid.history ≡ record old.history { marks = old.history.marks ++ mark.Admit by who wanted r.own boot ∷ [] }
    → Entered old mid n who c boot r
entered old mid by n who wanted c boot r none takes lost lawful ready numbered own e = record {
  begins_none = none;
  takes_none = takes;
  lost = lost;
  lawful = lawful;
  ready = ready;
  marked =
      shown_more old mid (mark.Admit by who wanted r.own boot ∷ []) e
      ∙ ap (λ (j : Job). with_marks (shown old) (mark.Admit by.number who j r.own boot ∷ [])) own
      ∙ ap (λ (x : Call). with_marks (shown old) (mark.Admit by.number who (job_of c) x boot ∷ [])) ready.own
      ∙ ap (λ (k : ℕ). admitted (shown old) k who c boot) numbered;
  there = force_admitted old mid by who wanted r.own c boot e own ready.own ∙ ap (λ (k : ℕ). after (force_in old) (mark.Admit k who (job_of c) c boot)) numbered;
}

pub is_entered :
    (old mid : HistoryWithRoom) (by again : Stamp) (who : Who) (wanted : Job) (c : Call) (boot : Option ℕ) (r : Ready)
    → begins c ≡ None → takes_up c ≡ None → (force_in old).lost ≡ None → IsLawful (force_in old) (mark.Admit by.number who (job_of c) c boot) → IsReady (force_in old).state c boot r
    → again.number ≡ by.number → wanted ≡ job_of c → mid.history ≡ record old.history { marks = old.history.marks ++ mark.Admit again who wanted r.own boot ∷ [] }
    → Entered old mid by.number who c boot r
is_entered old mid by again who wanted c boot r none takes lost lawful ready numbered own e = entered old mid again by.number who wanted c boot r none takes lost lawful ready numbered own e

pub entered_can :
    (old mid : HistoryWithRoom) (by again : Stamp) (who : Who) (wanted : Job) (c : Call) (boot : Option ℕ) (r : Ready)
    → Entered old mid by.number who c boot r → CanGoOn (force_in mid) r.away.parts by r.away.course
entered_can old mid by again who wanted c boot r h =
    subst (λ (s : Standing). CanGoOn s r.away.parts by r.away.course) (sym h.there)
    (subst (λ (a : Asked). CanGoOn (after (force_in old) (mark.Admit by.number who (job_of c) c boot)) r.away.parts by a) (sym h.ready.course)
    (first_goes_on (force_in old) by by.number who c boot r.away.parts h.lost h.begins_none h.takes_none h.lawful h.ready.parts refl))

entered_out :
    (old mid : HistoryWithRoom) (n : ℕ) (who : Who) (c : Call) (boot : Option ℕ) (r : Ready) → Entered old mid n who c boot r
    → (count : ℕ) (x : Ask) → AreAsks count r.away.course → next_in (starved count r.away.course) ≡ next.Ask x
    → IsOut (force_in mid) (force_in mid).job (Some (gone.Call (record r.away { course = starved count r.away.course })))
entered_out old mid n who c boot r h count x asks waits =
    let rooms = h.ready.rooms in
    subst (λ (s : Standing). IsOut s s.job (Some (gone.Call (record r.away { course = starved count r.away.course })))) (sym h.there)
    (first_is_kept (force_in old) n who c boot (record r.away { course = starved count r.away.course }) count x h.begins_none h.takes_none h.lawful h.ready.parts
    (record { told_empty = rooms.told_empty; told_room = rooms.told_room; end_empty = rooms.end_empty; end_room = rooms.end_room })
    (ap (λ (a : Asked). starved count a) h.ready.course)
    (subst (λ (a : Asked). AreAsks count a) h.ready.course asks)
    (subst (λ (a : Asked). next_in (starved count a) ≡ next.Ask x) h.ready.course waits))

pub entered_turns :
    (old mid new : HistoryWithRoom) (by again : Stamp) (who : Who) (wanted : Job) (c : Call) (boot : Option ℕ) (r : Ready) (t : Turn)
    → Entered old mid by.number who c boot r → TurnsTo by r.away mid new t → Enters by.number who c boot old new t
entered_turns old mid new by again who wanted c boot r t h turned =
    turns_to mid new (admitted (shown old) by.number who c boot) by by.number r.away t (λ count. starved count (first_course (force_in old).state c boot))
    (entered_can old mid by again who wanted c boot r h) (entered_out old mid by.number who c boot r h) h.marked refl (λ count. ap (λ (a : Asked). starved count a) h.ready.course) turned
