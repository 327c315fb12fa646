-- What a reply is that rests on a mark of a legal history: the sequential driver's, in the state in which the mark was left.
use Rattle.std.specs.Prelude.{◌≡◌, ℕ, ◌-◌, take}
use Rattle.history_spec.specs.declared.history.History.{History}
use Rattle.domain_spec.specs.Excluded.{excluded_reply}
use Rattle.domain_spec.specs.Fold.{at_base, standing}
use Rattle.domain_spec.specs.Lawful.{IsDone, IsEnded, IsLawfulRefusal, IsPhased}
use Rattle.domain_spec.specs.declared.mark.Mark.{Mark}
use Rattle.domain_spec.specs.declared.mark.Mark.TheVariants as mark
use Rattle.domain_spec.specs.declared.standing.Base.{Base}
use Rattle.domain_spec.specs.declared.standing.Standing.{Standing}
use Rattle.domain_spec.specs.declared.step.Outcome.TheVariants as next
use Rattle.virt_types.specs.declared.value.Reply.{Reply}

-- what is in force before the last of so many marks of a history
abbrev pub standing_before : History Base (Mark ℕ) → ℕ → Standing
standing_before h marks = standing (at_base h.base) (take (marks - 1) h.marks)

-- in this standing the sequential driver gives this reply, with the commands and transitions of the mark
abbrev pub IsSequential : Standing → Mark ℕ → Reply → Type 0
IsSequential s (mark.Done number who c boot asks answers r events) said = IsDone s s.job number who c boot asks answers said events
IsSequential s (mark.Phase number who p asks answers o events) said = IsPhased s s.job s.operation number who p asks answers (next.Rest said) events
IsSequential s (mark.End number who r) said = IsEnded s s.operation number who said
IsSequential s (mark.Refused number who c why held) said = IsLawfulRefusal s who c why held × (said ≡ excluded_reply why held)
IsSequential s other said = ⊥
