-- What reports of a boot's status leave of the passes of the domain and of the store.
use Rattle.std.proofs.Common.{◌≡◌, ◌≤◌, ℕ, List, ◌++◌, [], Bool, true, false, length, Option, None, Some, append-nil, inl, inr, refl, sym, ap, ◌∙◌, subst}
use Rattle.boot_status.specs.Keeping.{KeepsStatus}
use Rattle.boot_status.specs.declared.outcome.StatusKept.{StatusKept}
use Rattle.boot_status.specs.declared.outcome.StatusKept.TheVariants as came
use Rattle.boot_status.specs.Below.def_keeper.Turns.{meaning as store_meaning}
use Rattle.list_replies.specs.Below.domain_requests.declared.task.Task.{Task}
use Rattle.list_replies.specs.Below.domain_requests.declared.task.Task.TheVariants as task
use Rattle.domain_spec.specs.Chapter.{rising_number}
use Rattle.domain_spec.specs.Types.{Reply}
use Rattle.domain_spec.specs.declared.mark.Mark.{Mark}
use Rattle.driver_cells.proofs.OfOutcomes.{boots_stay, left_stays}
use Rattle.driver_cells.proofs.Passing.{later_itself, later_spent, later_through, later_went}
use Rattle.driver_cells.specs.Known.{known}
use Rattle.driver_cells.specs.OfCells.{meaning}
use Rattle.driver_cells.specs.OfObjects.{DomainPass}
use Rattle.driver_cells.specs.OfOutcomes.{DomainPass as KnownPass, HasLeft, IsLater, Known, StandsAt, level}
use Rattle.driver_cells.specs.OfTasks.{Answers, ReadsNow}
use Rattle.files_disk.specs.Telling.{Told}
use Rattle.list_replies.proofs.Below.outcome_spec.Staying.{stands_stays}
use Rattle.list_replies.specs.Below.outcome_spec.Done.{IsCallOf, IsDone, call_in}
use Rattle.row_desk.specs.Views.{StorePass}
use Rattle.turn_cell.specs.Turning.{SamePass}
use Rattle.virt_types.specs.declared.call.Call.{Call}
use Rattle.virt_types.specs.Below.types_base.declared.caller.Front.{Front}
use Rattle.virt_types.specs.declared.status.Status.{Status}
use Rattle.held_tasks.specs.Statuses.{HasLooked, HasReadStatus, HasReported, IsTold}
use Rattle.held_tasks.specs.declared.status.StatusRead.{StatusRead}
use Rattle.held_tasks.specs.declared.status.StatusRead.TheVariants as read

-- ---- the pass of the domain

-- it saw more, at most
pub record SawMore (before after : DomainPass) : Type 0 where
  pub later : IsLater rising_number (known before) (known after)
  pub same : SamePass before after
  pub share : after.share ≡ before.share
  pub mine : after.mine ≡ before.mine

saw_itself : (p : DomainPass) → SawMore p p
saw_itself p = record {
  later = later_itself rising_number (known p);
  same = record { cell = refl; first = refl; number = refl; parts = refl; ended = refl };
  share = refl;
  mine = refl;
}

-- no ticket was left
saw_no_more : (before after : DomainPass) → after ≡ record before { spent = true } → SawMore before after
saw_no_more before after is = record {
  later = later_spent rising_number before after is;
  same = record {
    cell = ap (λ (p : DomainPass). p.cell) is;
    first = ap (λ (p : DomainPass). p.first) is;
    number = ap (λ (p : DomainPass). p.number) is;
    parts = ap (λ (p : DomainPass). p.parts) is;
    ended = ap (λ (p : DomainPass). p.ended) is;
  };
  share = ap (λ (p : DomainPass). p.share) is;
  mine = ap (λ (p : DomainPass). p.mine) is;
}

no_more : {A : Type 0} (xs ys : List A) → ys ≡ xs ++ [] → ys ≡ xs
no_more xs ys is = is ∙ append-nil xs

read_saw : (before after : DomainPass) (status : StatusRead) → HasReadStatus before after status → SawMore before after
read_saw before after read.NotDue it = absurd it
read_saw before after (read.Read status) it = record {
  later = later_went meaning 1 [] before after it.0.goes.went;
  same = it.0.goes.went.same;
  share = it.0.share;
  mine = no_more before.mine after.mine it.0.goes.went.mine;
}
read_saw before after read.NoMemory it = record {
  later = later_went meaning 1 [] before after it.goes.went;
  same = it.goes.went.same;
  share = it.share;
  mine = no_more before.mine after.mine it.goes.went.mine;
}
read_saw before after read.Spent it = saw_no_more before after it

same_saw : (before after : DomainPass) → after ≡ before → SawMore before after
same_saw before after same = subst (SawMore before) (sym same) (saw_itself before)

pub looked_saw : (t : Task) (before after : DomainPass) (status : StatusRead) → HasLooked t before after status → SawMore before after
looked_saw (task.Run d) before after status it = read_saw before after status it
looked_saw (task.Read q) before after status it = same_saw before after it.0
looked_saw task.Register before after status it = same_saw before after it.0
looked_saw task.Deregister before after status it = same_saw before after it.0

module _ (old first last new : DomainPass) (saw : SawMore old first) (mid : IsLater rising_number (known first) (known last)) (again : SawMore last new) where
  pub over_later : IsLater rising_number (known old) (known new)
  over_later = later_through rising_number boots_stay (known old) (known first) (known new) saw.later (later_through rising_number boots_stay (known first) (known last) (known new) mid again.later)

  -- a pass that has tickets left had some before
  fresh_then : (b : Bool) → last.spent ≡ b → new.spent ≡ false → last.spent ≡ false
  fresh_then false is fresh = is
  fresh_then true is fresh = absurd (let unlike : true ≡ false = sym (again.later.spent is) ∙ fresh in cc)

  pub over_keeps : (last.spent ≡ false → last.share ≡ first.share) → new.spent ≡ false → new.share ≡ old.share
  over_keeps keeps fresh = again.share ∙ (keeps (fresh_then last.spent refl fresh) ∙ saw.share)

-- ---- what a reply rests on

module _ {B M : Type 0} where
  left_from : (old first after : Known B M) (m : M) → first.mine ≡ old.mine → HasLeft first after m → HasLeft old after m
  left_from old first after m same left = record { at = left.at; chapter = left.chapter; new = subst (λ (l : List (ℕ × M)). length l ≤ left.at) same left.new; mark = left.mark }

  stands_from : (old first after : Known B M) (front : Front) (m : M) → first.mine ≡ old.mine → StandsAt first after front m → StandsAt old after front m
  unfolding left_from
  stands_from old first after front m same stands = record {
    left = left_from old first after m same stands.left;
    chapter = stands.chapter;
    so_far = stands.so_far;
    some = stands.some;
    place = stands.place;
  }

call_over : (old first last new : KnownPass) (c : Call) (m : Mark ℕ) (own : Option Call) → first.mine ≡ old.mine → IsLater rising_number last new → IsCallOf first last c m own → IsCallOf old new c m own
call_over old first last new c m None same on (began, left, is) = (began, left_stays rising_number old last new began (left_from old first last began same left) on, is)
call_over old first last new c m (Some own) same on of = of

done_over : (old first last new : KnownPass) (c : Call) (front : Front) (r : Reply) → first.mine ≡ old.mine → IsLater rising_number last new → IsDone first last c front r → IsDone old new c front r
done_over old first last new c front r same on done = record {
  mark = done.mark;
  said = done.said;
  stands = stands_stays rising_number old last new front done.mark (stands_from old first last front done.mark same done.stands) on;
  says = done.says;
  tells = done.tells;
  of = call_over old first last new c done.mark (call_in done.mark) same on done.of;
}

pub answers_over : (t : Task) (old first last new : DomainPass) (was is : StatusRead) (place : Option Front) (r : Reply) → HasLooked t old first was → HasLooked t last new is → Answers (known first) (known last) t place r → Answers (known old) (known new) t place r
answers_over (task.Run d) old first last new was is place r looks again (inl (front, at, gives)) =
    inl (front, at, done_over (known old) (known first) (known last) (known new) d front r (read_saw old first was looks).mine (read_saw last new is again).later gives)
answers_over (task.Run d) old first last new was is place r looks again (inr (inl (why, says, inl (out, code)))) = inr (inl (why, says, inl ((read_saw last new is again).later.spent out, code)))
answers_over (task.Run d) old first last new was is place r looks again (inr (inl (why, says, inr none))) = inr (inl (why, says, inr none))
answers_over (task.Run d) old first last new was is place r looks again (inr (inr unbuilt)) = inr (inr unbuilt)
answers_over (task.Read q) old first last new was is place r looks again answers =
    subst (λ (x : DomainPass × DomainPass). Answers (known x.0) (known x.1) (task.Read q) place r) (λ i. (looks.0 i, sym again.0 i)) answers
answers_over task.Register old first last new was is place r looks again answers =
    subst (λ (x : DomainPass × DomainPass). Answers (known x.0) (known x.1) task.Register place r) (λ i. (looks.0 i, sym again.0 i)) answers
answers_over task.Deregister old first last new was is place r looks again answers =
    subst (λ (x : DomainPass × DomainPass). Answers (known x.0) (known x.1) task.Deregister place r) (λ i. (looks.0 i, sym again.0 i)) answers

pub now_over : (t : Task) (last new : DomainPass) (is : StatusRead) (place : Option Front) → HasLooked t last new is → ReadsNow (known last) t place → ReadsNow (known new) t place
now_over (task.Run d) last new is place again now = tt
now_over (task.Read q) last new is place again now = subst (λ (p : DomainPass). ReadsNow (known p) (task.Read q) place) (sym again.0) now
now_over task.Register last new is place again now = tt
now_over task.Deregister last new is place again now = tt

-- ---- the pass of the store

-- it went on
pub record WentOn (before after : StorePass) : Type 0 where
  pub later : IsLater level (known before) (known after)
  pub cell : after.cell ≡ before.cell
  pub parts : after.parts ≡ before.parts

same_went : (before after : StorePass) → after ≡ before → WentOn before after
same_went before after same = subst (WentOn before) (sym same) (record { later = later_itself level (known before); cell = refl; parts = refl })

module _ {F : Type 0} (told : F → Told) (stores : F → ℕ) where
  kept_went : (was is : Option Status) (before after : StorePass) (result : StatusKept) → KeepsStatus told stores was is before after result → WentOn before after
  kept_went was is before after came.Unchanged it = same_went before after it.1
  kept_went was is before after came.Done it = record { later = later_went (store_meaning told) 1 [] before after it.1.went; cell = it.1.went.same.cell; parts = it.1.went.same.parts }
  kept_went was is before after came.Failed it = record { later = later_went (store_meaning told) 1 [] before after it.1.went; cell = it.1.went.same.cell; parts = it.1.went.same.parts }
  kept_went was is before after came.NoMemory it = record { later = later_went (store_meaning told) 1 [] before after it.1.went; cell = it.1.went.same.cell; parts = it.1.went.same.parts }
  kept_went was is before after came.Spent it = record {
    later = later_spent level before after it.1.spent;
    cell = ap (λ (p : StorePass). p.cell) it.1.spent;
    parts = ap (λ (p : StorePass). p.parts) it.1.spent;
  }

  pub told_went : (was is : StatusRead) (before after : StorePass) (result : StatusKept) → IsTold told stores was is before after result → WentOn before after
  told_went (read.Read was) (read.Read is) before after result it = kept_went was is before after result it
  told_went (read.Read was) read.NotDue before after result it = same_went before after it.0
  told_went (read.Read was) read.NoMemory before after result it = same_went before after it.0
  told_went (read.Read was) read.Spent before after result it = same_went before after it.0
  told_went read.NotDue is before after result it = same_went before after it.0
  told_went read.NoMemory is before after result it = same_went before after it.0
  told_went read.Spent is before after result it = same_went before after it.0

-- ---- both

module _ {F : Type 0} {told : F → Told} {stores : F → ℕ} {t : Task} {old first last new : DomainPass} {store_was store_is : StorePass} {unkept_was unkept_is : ℕ} (h : HasReported told stores t old first last new store_was store_is unkept_was unkept_is) where
  pub saw_first : SawMore old first
  saw_first = looked_saw t old first h.was h.looks

  pub saw_last : SawMore last new
  saw_last = looked_saw t last new h.is h.looks_again

  pub store_went : WentOn store_was store_is
  store_went = told_went told stores h.was h.is store_was store_is h.kept h.tells
