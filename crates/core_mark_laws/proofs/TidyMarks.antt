-- No mark makes a cell untidy.
use Rattle.std.proofs.Common.{ℕ, List, Option, None, Some}
use Rattle.domain_spec.specs.Types.{Answer, Call, Who}
use Rattle.domain_spec.specs.declared.mark.Mark.TheVariants as mark
use Rattle.domain_spec.specs.declared.open.OpenOperation.{OpenOperation}
use Rattle.domain_spec.specs.declared.standing.Standing.{Standing}
use Rattle.domain_spec.specs.declared.step.Outcome.{Outcome}
use Rattle.domain_spec.specs.Fold.{after_phase, after_take_up}
use Rattle.core_mark_laws.specs.Tidy.{EveryMarkKeepsTidy, IsTidy}
use Rattle.core_mark_laws.proofs.TidyCalls.{begin_tidy, event_tidy, exit_tidy, seq_tidy, taken_tidy, without_tidy}
use Rattle.core_mark_laws.proofs.TidyPhases.{phase_tidy}

phase_by : (s : Standing) (o : Option OpenOperation) (answers : List Answer) (next : Outcome) → IsTidy s.state → IsTidy (after_phase s o answers next).state
phase_by s None answers next e = e
phase_by s (Some o) answers next e = phase_tidy s.state o answers e

take_by : (s : Standing) (o : Option OpenOperation) (n : ℕ) (who : Who) (c : Call) → IsTidy s.state → IsTidy (after_take_up s o n who c).state
take_by s None n who c e = e
take_by s (Some o) n who c e = taken_tidy s.state who c e

pub every_mark : EveryMarkKeepsTidy
every_mark s (mark.Done n who c boot asks answers r events) e = seq_tidy s.state c boot answers e
every_mark s (mark.Start n who c boot) e = begin_tidy s.state who c e
every_mark s (mark.TakeUp n who c) e = take_by s s.operation n who c e
every_mark s (mark.Phase n who p asks answers next events) e = phase_by s s.operation answers next e
every_mark s (mark.End n who r) e = without_tidy s.state e
every_mark s (mark.Exit boot why events) e = exit_tidy s.state why e
every_mark s (mark.Event boot g events) e = event_tidy s.state g e
every_mark s other e = e
