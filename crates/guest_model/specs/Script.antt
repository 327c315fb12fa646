-- What a script says of one command. Of two entries for the same the first counts.
use Rattle.std.specs.Prelude.{ℕ, ◌==◌, ◌&&◌, Bool, true, false, List, find, Option, Some, None}
use Rattle.std.specs.List.{list_any}
use Rattle.virt_types.specs.Below.types_base.declared.script.ScriptAct.{ScriptAct}
use Rattle.virt_types.specs.Below.types_base.declared.script.ScriptEntry.{ScriptEntry}
use Rattle.virt_types.specs.Below.types_base.declared.script.ScriptEntry.TheVariants as entry

-- the entry is for this command of this boot
abbrev pub is_for : ℕ → ℕ → ScriptEntry → Bool
is_for boot command (entry.At b c act) = (b == boot) && (c == command)
is_for boot command other = false

-- what an entry for a command does
abbrev pub act_of : Option ScriptEntry → Option ScriptAct
act_of (Some (entry.At b c act)) = Some act
act_of other = None

-- what the guest does there in place of an answer
abbrev pub act_at : List ScriptEntry → ℕ → ℕ → Option ScriptAct
act_at script boot command = act_of (find (is_for boot command) script)

-- the entry says how slow a copy is
abbrev pub is_slow : ScriptEntry → Bool
is_slow (entry.Slow polls) = true
is_slow other = false

-- how slow it says that a copy is; one poll, where there is no such entry
abbrev pub slow_of : Option ScriptEntry → ℕ
slow_of (Some (entry.Slow polls)) = polls
slow_of other = 1

-- how many polls a copy takes
abbrev pub slowness : List ScriptEntry → ℕ
slowness script = slow_of (find is_slow script)

-- the entry says that a copy stalls
abbrev pub is_stall : ScriptEntry → Bool
is_stall entry.Stall = true
is_stall other = false

-- no poll takes anything off what is left of a copy
abbrev pub stalls : List ScriptEntry → Bool
stalls script = list_any is_stall script
