-- What a guest does by itself, and the ears by which it is heard: what each leaves of a domain.
use Rattle.std.specs.Prelude.{◌≡◌, ℕ, List, [], ◌∷◌, ◌++◌, length, nat_lt, option_map, Bool, true, false, ◌&&◌, Option, None, Some, if◌then◌else◌}
use Rattle.domain_spec.specs.Types.{EndReason, State}
use Rattle.domain_spec.specs.declared.mark.Mark.{Mark}
use Rattle.domain_spec.specs.declared.mark.Mark.TheVariants as mark
use Rattle.domain_spec.specs.declared.open.OpenJob.{OpenJob}
use Rattle.domain_spec.specs.declared.standing.Standing.{Standing}
use Rattle.domain_spec.specs.Cell.{HeldEvent, LentEars}
use Rattle.domain_spec.specs.Exit.{event_transitions, exit_transitions}
use Rattle.domain_spec.specs.Kept.{told_of}
use Rattle.domain_spec.specs.Reading.{is_live, live_boot}
use Rattle.event_queue.specs.Listening.{Listening}
use Rattle.core_log.specs.Record.{Recorded, force_of, with_cuts}
use Rattle.core_steps.specs.Applying.{AppliesOne}
use Rattle.core_steps.specs.Ending.{EndsLive}

-- these ears are out, are of this boot, and have told nothing yet
abbrev pub AreUntold : Option LentEars → ℕ → Type 0
AreUntold None boot = ⊥
AreUntold (Some ears) boot = (ears.boot ≡ boot) × (ears.told ≡ false)

-- what the ears heard that are out was told
abbrev pub ears_told : Option LentEars → Option LentEars
ears_told ears = option_map told_of ears

-- a boot ended so: that is marked and told where it is live
abbrev pub Exits : ℕ → EndReason → Recorded → Recorded → Type 0
Exits boot why old new = EndsLive (is_live (force_of old).state boot) boot why old new

-- a guest did this: it applies where no call is open and its boot is live
abbrev pub Happens : Option OpenJob → HeldEvent → Recorded → Recorded → Type 0
Happens None h old new = AppliesOne (is_live (force_of old).state h.boot) h old new
Happens (Some j) h old new = new ≡ old

-- while a call is open it is held, where its boot is live and fewer than 64 are
abbrev pub held_with : Standing → Option OpenJob → HeldEvent → List HeldEvent → List HeldEvent
held_with s None h held = held
held_with s (Some j) h held = if is_live s.state h.boot && nat_lt (length held) 64 then held ++ h ∷ [] else held

-- whether a guest's event is marked now
abbrev pub applies_now : Standing → Option OpenJob → ℕ → Bool
applies_now s None boot = is_live s.state boot
applies_now s (Some j) boot = false

-- one room is used where this holds, and else none
abbrev pub one_if : Bool → ℕ
one_if true = 1
one_if false = 0

-- the marks of a boot's end
abbrev pub exit_marks : Bool → ℕ → EndReason → List Listening → List (Mark ℕ)
exit_marks true boot why ls = with_cuts ls (mark.Exit boot why (exit_transitions why) ∷ [])
exit_marks false boot why ls = []

-- the marks of an event
abbrev pub event_marks : Bool → HeldEvent → State → List Listening → List (Mark ℕ)
event_marks true h s ls = with_cuts ls (mark.Event h.boot h.event (event_transitions s h.event) ∷ [])
event_marks false h s ls = []

-- the boot that is to be heard: the live one, where no ears are out and one more event can be held
abbrev pub boot_to_hear : State → List HeldEvent → Option LentEars → Option ℕ
boot_to_hear s held None = if nat_lt (length held) 64 then live_boot s else None
boot_to_hear s held (Some ears) = None

-- the ears that are out once this number got those of the boot that is to be heard
abbrev pub ears_lent : ℕ → Option ℕ → Option LentEars → Option LentEars
ears_lent n None ears = ears
ears_lent n (Some boot) ears = Some (record { number = n; boot = boot; told = false })
