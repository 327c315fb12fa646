-- An answer that a boot has ended marks its end first.
use Rattle.std.specs.Prelude.{◌≡◌, ℕ, [], ◌∷◌, Bool, true, false, Option, None, Some}
use Rattle.domain_spec.specs.Types.{Answer, EndReason}
use Rattle.domain_spec.specs.Types.answer
use Rattle.domain_spec.specs.declared.mark.Mark.TheVariants as mark
use Rattle.domain_spec.specs.declared.open.OpenJob.{OpenJob}
use Rattle.domain_spec.specs.Exit.{exit_transitions}
use Rattle.domain_spec.specs.Reading.{is_live}
use Rattle.core_log.specs.Record.{Recorded, Tells, force_of}

-- the end of this boot is marked and told where it is live
abbrev pub EndsLive : Bool → ℕ → EndReason → Recorded → Recorded → Type 0
EndsLive true boot why old new = Tells old new (mark.Exit boot why (exit_transitions why) ∷ []) × (new.course ≡ old.course)
EndsLive false boot why old new = new ≡ old

-- of the boot that is carried, if one is
abbrev pub EndsCarried : Option ℕ → EndReason → Recorded → Recorded → Type 0
EndsCarried None why old new = new ≡ old
EndsCarried (Some boot) why old new = EndsLive (is_live (force_of old).state boot) boot why old new

-- the boot that the open call carries
abbrev pub boot_of : Option OpenJob → Option ℕ
boot_of None = None
boot_of (Some j) = j.boot

-- an answer Ended marks the end of its call's boot; no other answer marks anything
abbrev pub EndsFirst : Answer → Recorded → Recorded → Type 0
EndsFirst (answer.Ended why) old new = EndsCarried (boot_of (force_of old).job) why old new
EndsFirst other old new = new ≡ old
