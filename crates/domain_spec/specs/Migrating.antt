-- What an operation that moves a guest to another host, or from one, lets be done beside it.
use Rattle.std.specs.Prelude.{◌==◌, ◌&&◌, Bool, true, false, Option, None, Some}
use Rattle.virt_types.specs.Numbers.{op_number}
use Rattle.domain_spec.specs.Types.{Op, OpKind, Phase}
use Rattle.domain_spec.specs.Types.kind
use Rattle.domain_spec.specs.Types.phase

-- a migration to another host whose guest is not stopped for it yet
abbrev pub is_before_take : OpKind → Phase → Bool
is_before_take kind.MigrateOut phase.MigrateCopy = true
is_before_take kind.MigrateOut phase.Poll = true
is_before_take k p = false

-- the limit of a migration can be set
abbrev pub can_limit : Option Op → Bool
can_limit None = false
can_limit (Some op) = is_before_take op.kind op.phase

-- two kinds of operations are one
abbrev pub is_same_kind : OpKind → OpKind → Bool
is_same_kind a b = op_number a == op_number b

-- an operation of this kind rests
abbrev pub rests_as : OpKind → Option Op → Bool
rests_as k None = false
rests_as k (Some op) = op.rests && is_same_kind op.kind k
