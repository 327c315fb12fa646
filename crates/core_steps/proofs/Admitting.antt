-- A call that may be let in is lawful.
use Rattle.std.proofs.Common.{◌≡◌, ℕ, ◌≤◌, inl, inr, List, [], ◌∷◌, Option, None, Some, refl, sym, subst, arith}
use Rattle.domain_spec.specs.Types.{Call, Job, OpKind, State, Who}
use Rattle.domain_spec.specs.Types.call
use Rattle.domain_spec.specs.Types.job
use Rattle.domain_spec.specs.declared.core_step.First.{First}
use Rattle.domain_spec.specs.declared.core_step.First.TheVariants as first
use Rattle.domain_spec.specs.declared.mark.Mark.{Mark}
use Rattle.domain_spec.specs.declared.mark.Mark.TheVariants as mark
use Rattle.domain_spec.specs.declared.open.OpenOperation.{OpenOperation}
use Rattle.domain_spec.specs.declared.standing.Base.{Base}
use Rattle.domain_spec.specs.declared.standing.Standing.{Standing}
use Rattle.domain_spec.specs.Call.{begins, job_of}
use Rattle.domain_spec.specs.CanTake.{CanLook, IsFirst, IsNotOperationOf}
use Rattle.domain_spec.specs.Carried.{WasLive, WasLiveOrBefore}
use Rattle.domain_spec.specs.Cell.{HeldEvent, LentEars, Queue}
use Rattle.domain_spec.specs.Fold.{after, at_base, standing}
use Rattle.domain_spec.specs.JobTable.{May}
use Rattle.domain_spec.specs.Laws.{IsCounted}
use Rattle.domain_spec.specs.Legal.{IsLawful}
use Rattle.domain_spec.specs.Open.{BeginsAlone, IsCarried, IsKnownBoot, IsOwnJob, MayAdmit, job_held, operation_held}
use Rattle.domain_spec.specs.Reading.{boots_of, live_boot}
use Rattle.domain_spec.proofs.EndsOnce.{mark_counted}
use Rattle.domain_spec.proofs.PhaseBoots.{boots_rise}
use Rattle.core_log.specs.Below.core_flight.Ledger.{standing_in}
use Rattle.core_log.specs.Record.{Recorded, force_of}
use Rattle.core_steps.specs.Looking.{IsKnownFirst, boot_first}
use Rattle.core_steps.specs.Turning.{cell_of}
use Rattle.core_steps.proofs.LookedAt.{no_loss}

-- the boot that a Destroy kept was numbered

known_rises : (a b : ℕ) (boot : Option ℕ) → a ≤ b → IsKnownBoot a boot → IsKnownBoot b boot
known_rises a b None le known = tt
known_rises a b (Some boot) le known = let bound = known.1 in (known.0, omega (arith, bound, le))

was_known : (s : Standing) (marks : List (Mark ℕ)) (boot : Option ℕ) → IsCounted s → WasLive s marks boot → IsKnownBoot (boots_of (standing s marks).state) boot
was_known s [] boot counted e = subst (λ (o : Option ℕ). IsKnownBoot (boots_of s.state) o) e counted
was_known s (m ∷ marks) boot counted (inl e) =
    known_rises (boots_of s.state) (boots_of (standing s (m ∷ marks)).state) boot (boots_rise s (m ∷ marks)) (subst (λ (o : Option ℕ). IsKnownBoot (boots_of s.state) o) e counted)
was_known s (m ∷ marks) boot counted (inr later) = was_known (after s m) marks boot (mark_counted s m counted) later

kept_known : (b : Base) (marks : List (Mark ℕ)) (boot : Option ℕ) → IsCounted (at_base b) → WasLiveOrBefore b marks boot → IsKnownBoot (boots_of (standing (at_base b) marks).state) boot
kept_known b marks boot counted (inl was) = was_known (at_base b) marks boot counted was
kept_known b marks boot counted (inr known) = known_rises (boots_of b.state) (boots_of (standing (at_base b) marks).state) boot (boots_rise (at_base b) marks) known

pub counted_at : (s : Standing) (marks : List (Mark ℕ)) → IsCounted s → IsCounted (standing s marks)
counted_at s [] counted = counted
counted_at s (m ∷ marks) counted = counted_at (after s m) marks (mark_counted s m counted)

carried_now : (s : State) (d : Call) (boot : Option ℕ) → IsKnownBoot (boots_of s) (live_boot s) → boot ≡ live_boot s → IsCarried s d boot
carried_now s call.Destroy boot counted e = subst (λ (o : Option ℕ). IsKnownBoot (boots_of s) o) (sym e) counted
carried_now s other boot counted e = e

-- a call's own job

pub not_nested : (d : Call) → job_of d ≡ job.Nested → ⊥
not_nested call.Suspend is = cc
not_nested other is = cc

own_by : (o : Option OpenOperation) (n : ℕ) (wanted : Job) (d : Call) → wanted ≡ job_of d → IsNotOperationOf o n → BeginsAlone (begins d) o → IsOwnJob o n wanted d
own_by None n job.Nested d is free alone = absurd (not_nested d (sym is))
own_by None n other d is free alone = is
own_by (Some o) n job.Nested d is free alone = absurd (not_nested d (sym is))
own_by (Some o) n other d is free alone = (is, free, alone)

none_alone : (k : Option OpKind) (o : Option OpenOperation) → k ≡ None → BeginsAlone k o
none_alone None o e = tt
none_alone (Some k) o e = cc

carried_first : (r : Recorded) (q : Queue) (held : List HeldEvent) (ears : Option LentEars) (n : ℕ) (who : Who) (d : Call) (f : First) → IsCounted (at_base r.history.base)
    → IsFirst (cell_of r q held ears) n who d f → IsKnownFirst f (cell_of r q held ears) → IsCarried (force_of r).state d (boot_first f (live_boot (force_of r).state))
unfolding standing_in
carried_first r q held ears n who d first.Now counted is known =
    carried_now (force_of r).state d (live_boot (force_of r).state) (counted_at (at_base r.history.base) r.history.marks counted) refl
carried_first r q held ears n who d (first.Boot kept) counted is known =
    subst (λ (x : Call). IsCarried (force_of r).state x kept) (sym is.0) (kept_known r.history.base r.history.marks kept counted known)

pub admit_lawful : (r : Recorded) (q : Queue) (held : List HeldEvent) (ears : Option LentEars) (n : ℕ) (who : Who) (d : Call) (f : First) → CanLook (cell_of r q held ears) n who d f
    → IsKnownFirst f (cell_of r q held ears) → IsCounted (at_base r.history.base) → (force_of r).lost ≡ None → May (job_held (force_of r).job) (operation_held (force_of r).operation) (job_of d) who
    → IsLawful (force_of r) (mark.Admit n who (job_of d) d (boot_first f (live_boot (force_of r).state)))
unfolding standing_in
admit_lawful r q held ears n who d f can known counted lost may = record {
  in_order = record {
    may = subst (λ (k : Option OpKind). MayAdmit (job_held (force_of r).job) (operation_held (force_of r).operation) k (job_of d) who) (sym can.takes_none) may;
    own = own_by (force_of r).operation n (job_of d) d refl can.none_open.no_operation (none_alone (begins d) (force_of r).operation can.begins_none);
    carried = carried_first r q held ears n who d f counted can.first_look known;
  };
  loss = no_loss (force_of r) (mark.Admit n who (job_of d) d (boot_first f (live_boot (force_of r).state))) lost;
}
