-- The counts of a link after what it said.
use Rattle.std.specs.Prelude.{ℕ, ◌+◌, ◌-◌, ◌^◌, min}
use Rattle.monitor_link.specs.declared.counts.Counts.{Counts}
use Rattle.monitor_link.specs.declared.link.Heard.{Heard}
use Rattle.monitor_link.specs.declared.link.Heard.TheVariants as heard
use Rattle.virt_types.specs.declared.answer.Answer.{Answer}
use Rattle.virt_types.specs.declared.answer.Answer.TheVariants as answer

-- one more; a count of 64 bits stays at its greatest value
abbrev pub one_more : ℕ → ℕ
one_more count = min (count + 1) (2 ^ 64 - 1)

-- an end and a lost link are counted
abbrev pub after_answer : Counts → Answer → Counts
after_answer counts (answer.Ended reason) = record counts { ends = one_more counts.ends }
after_answer counts answer.Lost = record counts { faults = one_more counts.faults }
after_answer counts other = counts

-- the same of what is heard
abbrev pub after_heard : Counts → Heard → Counts
after_heard counts (heard.Ended reason) = record counts { ends = one_more counts.ends }
after_heard counts heard.Lost = record counts { faults = one_more counts.faults }
after_heard counts other = counts
