-- Marks, operations and registrations with the numbers of their passes, which contracts alone see.
use Rattle.std.specs.Prelude.{ℕ, List, map, Option, None, Some}
use Rattle.history_spec.specs.declared.stamp.Stamp.{Stamp}
use Rattle.domain_spec.specs.declared.mark.Mark.{Mark}
use Rattle.domain_spec.specs.declared.mark.Mark.TheVariants as mark

-- the mark with the number of its pass in place of the stamp
abbrev pub numbered : Mark Stamp → Mark ℕ
numbered (mark.Admit by who wanted c boot) = mark.Admit by.number who wanted c boot
numbered (mark.Done by who c boot asks answers r events) = mark.Done by.number who c boot asks answers r events
numbered (mark.Refused by who c why held) = mark.Refused by.number who c why held
numbered (mark.Start by who c boot) = mark.Start by.number who c boot
numbered (mark.TakeUp by who c) = mark.TakeUp by.number who c
numbered (mark.Phase by who p asks answers o events) = mark.Phase by.number who p asks answers o events
numbered (mark.End by who r) = mark.End by.number who r
numbered (mark.Exit boot why events) = mark.Exit boot why events
numbered (mark.Event boot e events) = mark.Event boot e events
numbered (mark.Watch by client) = mark.Watch by.number client
numbered (mark.Unwatch by client) = mark.Unwatch by.number client
numbered (mark.Cut client total taken) = mark.Cut client total taken

-- the number of a mark's pass; a boot's end, a guest's event and a cut belong to nobody
abbrev pub whose : Mark Stamp → Option ℕ
whose (mark.Admit by who wanted c boot) = Some by.number
whose (mark.Done by who c boot asks answers r events) = Some by.number
whose (mark.Refused by who c why held) = Some by.number
whose (mark.Start by who c boot) = Some by.number
whose (mark.TakeUp by who c) = Some by.number
whose (mark.Phase by who p asks answers o events) = Some by.number
whose (mark.End by who r) = Some by.number
whose (mark.Exit boot why events) = None
whose (mark.Event boot e events) = None
whose (mark.Watch by client) = Some by.number
whose (mark.Unwatch by client) = Some by.number
whose (mark.Cut client total taken) = None

-- all these marks with their numbers
abbrev pub all_numbered : List (Mark Stamp) → List (Mark ℕ)
all_numbered marks = map numbered marks
