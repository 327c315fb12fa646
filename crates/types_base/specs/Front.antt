-- The order of places in a history.
use Rattle.std.specs.Prelude.{Bool, ◌&&◌, ◌||◌, ◌==◌, nat_lt, if◌then◌else◌}
use Rattle.types_base.specs.declared.caller.Front.{Front}

-- a is longer than b: it is in a later chapter, or after more marks of the same chapter
abbrev pub is_longer : Front → Front → Bool
is_longer a b = nat_lt b.chapter a.chapter || (b.chapter == a.chapter && nat_lt b.marks a.marks)

-- the longer of the two
abbrev pub longer : Front → Front → Front
longer a b = if is_longer b a then b else a
