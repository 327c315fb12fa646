-- How far a cell's history went that nobody saw.
use Rattle.virt_types.specs.Below.types_base.declared.caller.Front.{Front}

-- the front of a cell of which nothing was seen: no other is shorter
abbrev pub no_front : Front
no_front = record { chapter = 0; marks = 0 }
