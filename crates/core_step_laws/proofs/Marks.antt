-- Each mark of a turn bears the number of its step, or belongs to nobody.
use Rattle.std.proofs.Common.{◌≡◌, ℕ, List, [], ◌∷◌, Option, None, Some, sym, ◌∙◌}
use Rattle.history_spec.specs.Pass.{AreOf, IsOf}
use Rattle.domain_spec.specs.Types.{Call, Job, Who}
use Rattle.domain_spec.specs.Types.{RefusalCode}
use Rattle.domain_spec.specs.declared.core_step.CoreStep.{CoreStep}
use Rattle.domain_spec.specs.declared.core_step.CoreStep.TheVariants as step
use Rattle.domain_spec.specs.declared.mark.HeldJobs.{HeldJobs}
use Rattle.domain_spec.specs.declared.mark.Mark.{Mark}
use Rattle.domain_spec.specs.declared.mark.Mark.TheVariants as mark
use Rattle.domain_spec.specs.declared.open.OpenOperation.{OpenOperation}
use Rattle.domain_spec.specs.declared.standing.Standing.{Standing}
use Rattle.domain_spec.specs.CanTake.{CanTake, IsOperationOf}
use Rattle.domain_spec.specs.Cell.{Cell, standing_of}
use Rattle.domain_spec.specs.Fold.{after}
use Rattle.domain_spec.specs.Steps.{IsPhaseLetIn, LetsIn, TurnsAway}
use Rattle.domain_spec.specs.Turns.{BeginsBy, GoOn, GoesOnBy, IsOwn, IsTurn, MayLeave}
use Rattle.core_step_laws.specs.Shares.{IsStepOf, MarksAreOwn, whose}

pub own_is : (t : CoreStep ℕ) (n number : ℕ) → IsStepOf n t → IsOwn t number → number ≡ n
own_is (step.Look k who d first) n number e own = own ∙ e
own_is (step.BeginOp k who d) n number e own = own ∙ e
own_is (step.TakeUp k who d) n number e own = own ∙ e
own_is (step.Back k a) n number e own = own ∙ e
own_is (step.Phase k who) n number e own = own ∙ e
own_is other n number e own = absurd own

pub goes_of : (c : Cell) (t : CoreStep ℕ) (n : ℕ) (s : Standing) (m : Mark ℕ) → IsStepOf n t → GoesOnBy c t s m → IsOf n (whose m)
goes_of c t n s (mark.Done number who d boot asks answers r events) e h = own_is t n number e h.0
goes_of c t n s (mark.Phase number who p asks answers next events) e h = own_is t n number e h.0
goes_of c t n s (mark.Start number who d boot) e h = own_is t n number e h.0
goes_of c t n s (mark.TakeUp number who d) e h = own_is t n number e h.0
goes_of c t n s (mark.Exit boot why events) e h = tt
goes_of c t n s (mark.Event boot g events) e h = tt
goes_of c t n s (mark.Cut client total taken) e h = tt
goes_of c t n s other e h = absurd h

phase_of_number : (s : Standing) (o : Option OpenOperation) (k : ℕ) (who : Who) (number : ℕ) (w : Who) (wanted : Job) (d : Call) (boot : Option ℕ)
    → IsOperationOf o k who → IsPhaseLetIn s o number w wanted d boot → number ≡ k
phase_of_number s None k who number w wanted d boot can h = absurd h
phase_of_number s (Some o) k who number w wanted d boot can h = h.numbered ∙ sym can.0

pub lets_in_of : (c : Cell) (t : CoreStep ℕ) (n number : ℕ) (w : Who) (wanted : Job) (d : Call) (boot : Option ℕ) → IsStepOf n t → CanTake c t → LetsIn c t number w wanted d boot → number ≡ n
lets_in_of c (step.Look k who x first) n number w wanted d boot e can h = h.0.numbered ∙ e
lets_in_of c (step.BeginOp k who x) n number w wanted d boot e can h = h.0.numbered ∙ e
lets_in_of c (step.TakeUp k who x) n number w wanted d boot e can h = h.0.numbered ∙ e
lets_in_of c (step.Phase k who) n number w wanted d boot e can h = phase_of_number (standing_of c) (standing_of c).operation k who number w wanted d boot can h ∙ e
lets_in_of c other n number w wanted d boot e can h = absurd h

turned_of : (c : Cell) (t : CoreStep ℕ) (n number : ℕ) (w : Who) (d : Call) (why : RefusalCode) (held : HeldJobs) → IsStepOf n t → TurnsAway c t number w d why held → number ≡ n
turned_of c (step.Look k who x first) n number w d why held e h = h.0.numbered ∙ e
turned_of c (step.BeginOp k who x) n number w d why held e h = h.0.numbered ∙ e
turned_of c (step.TakeUp k who x) n number w d why held e h = h.0.numbered ∙ e
turned_of c (step.GiveUp k who x) n number w d why held e h = h.0.numbered ∙ e
turned_of c other n number w d why held e h = absurd h

begins_of : (c : Cell) (t : CoreStep ℕ) (n : ℕ) (m : Mark ℕ) → IsStepOf n t → CanTake c t → BeginsBy c t (standing_of c) m → IsOf n (whose m)
begins_of c t n (mark.Admit number w wanted d boot) e can h = lets_in_of c t n number w wanted d boot e can h
begins_of c t n (mark.Refused number w d why held) e can h = turned_of c t n number w d why held e h.0
begins_of c (step.EndOp k who) n (mark.End number w r) e can h = h.0 ∙ e
begins_of c t n (mark.End number w r) e can h = absurd h
begins_of c (step.Watch k) n (mark.Watch number client) e can h = h.0 ∙ e
begins_of c t n (mark.Watch number client) e can h = absurd h
begins_of c (step.Unwatch k x) n (mark.Unwatch number client) e can h = h.0 ∙ e
begins_of c t n (mark.Unwatch number client) e can h = absurd h
begins_of c t n m e can h = goes_of c t n (standing_of c) m e h

go_on_of : (c : Cell) (t : CoreStep ℕ) (n : ℕ) (s : Standing) (marks : List (Mark ℕ)) → IsStepOf n t → GoOn c t s marks → AreOf whose n marks
go_on_of c t n s [] e h = tt
go_on_of c t n s (m ∷ marks) e h = (goes_of c t n s m e h.0, go_on_of c t n (after s m) marks e h.2)

left_of : (c : Cell) (t : CoreStep ℕ) (n : ℕ) (marks : List (Mark ℕ)) → IsStepOf n t → CanTake c t → MayLeave c t marks → AreOf whose n marks
left_of c t n [] e can h = tt
left_of c t n (m ∷ marks) e can h = (begins_of c t n m e can h.0, go_on_of c t n (after (standing_of c) m) marks e h.2)

pub marks_are_own : MarksAreOwn
marks_are_own c t n left e turn = left_of c t n left e turn.can turn.left
