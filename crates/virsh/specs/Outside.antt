-- What the outside gave the client, and what it got.
use Rattle.std.specs.Prelude.{◌≡◌, ℕ, List, Option, None, Some, Result, Ok, Err}
use Rattle.outside_spec.specs.Faults.{Rose}
use Rattle.virt_types.specs.Below.types_base.declared.memory.Failed.{Failed}
use Rattle.virt_types.specs.Below.types_base.declared.memory.Fault.{Fault}
use Rattle.virt_types.specs.Below.types_base.declared.memory.Fault.TheVariants as fault
use Rattle.virsh.specs.Handed.{Handed, one_more}

pub record Outside (S K O : Type 0) : Type 0 where
  -- the addresses that were dialed, the ends of the connections that this gave, and those that came back
  pub addresses : Handed (List ℕ)
  pub made : Handed (S × K)
  pub back : Handed (S × K)
  -- the names and the contents of the files that were read, and how many connections there had been at the last of them
  pub names : Handed (List ℕ)
  pub contents : Handed (List ℕ)
  pub made_before : ℕ
  -- standard output, and the lines on standard error
  pub out : O
  pub lines : Handed (List ℕ)
  -- how often nobody answered at an address, and how often a file could not be read
  pub dial_faults : ℕ
  pub file_faults : ℕ

-- a connection was made with this address
abbrev pub with_made : {S K O : Type 0} → List ℕ → S × K → Outside S K O → Outside S K O
with_made address ends w = record w { addresses = one_more w.addresses address; made = one_more w.made ends }

-- it came back
abbrev pub with_back : {S K O : Type 0} → S × K → Outside S K O → Outside S K O
with_back ends w = record w { back = one_more w.back ends }

-- this was read of the file with this name
abbrev pub with_read : {S K O : Type 0} → List ℕ → List ℕ → Outside S K O → Outside S K O
with_read name content w = record w { names = one_more w.names name; contents = one_more w.contents content; made_before = w.made.count }

-- standard output is this by now
abbrev pub with_out : {S K O : Type 0} → O → Outside S K O → Outside S K O
with_out out w = record w { out = out }

-- this line was said on standard error
abbrev pub with_line : {S K O : Type 0} → List ℕ → Outside S K O → Outside S K O
with_line line w = record w { lines = one_more w.lines line }

-- it was, where there is one
abbrev pub with_said : {S K O : Type 0} → Option (List ℕ) → Outside S K O → Outside S K O
with_said None w = w
with_said (Some line) w = with_line line w

-- nobody answered, which was counted, and nothing else was done
pub record IsUnanswered {S K O : Type 0} (was is : Outside S K O) : Type 0 where
  pub same : is ≡ record was { dial_faults = is.dial_faults }
  pub rose : Rose was.dial_faults is.dial_faults

-- a file could not be read, which was counted, and nothing else was done
pub record IsUnread {S K O : Type 0} (was is : Outside S K O) : Type 0 where
  pub same : is ≡ record was { file_faults = is.file_faults }
  pub rose : Rose was.file_faults is.file_faults

-- an address was dialed
abbrev pub Dials : {S K O : Type 0} → List ℕ → Outside S K O → Outside S K O → Result (S × K) Failed → Type 0
Dials address was is (Ok ends) = is ≡ with_made address ends was
Dials address was is (Err failed) = IsUnanswered was is

-- a file was read
abbrev pub Reads : {S K O : Type 0} → List ℕ → Outside S K O → Outside S K O → Result (List ℕ) Fault → Type 0
Reads name was is (Ok content) = is ≡ with_read name content was
Reads name was is (Err fault.Failed) = IsUnread was is
Reads name was is (Err fault.NoMemory) = is ≡ was
