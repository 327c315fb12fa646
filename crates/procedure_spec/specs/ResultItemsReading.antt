-- Reading the parts of what replies carry: the part and what is left, or the first fault.
use Rattle.std.specs.Prelude.{ℕ, ◌==◌, ◌+◌, Bool, List, Option, None, Some, option_map, Result, Ok, Err, if◌then◌else◌}
use Rattle.virt_types.specs.Limits.{most_state_bytes}
use Rattle.virt_types.specs.Name.{bad_place}
use Rattle.virt_types.specs.declared.operation.OpKind.{OpKind}
use Rattle.virt_types.specs.declared.operation.Phase.{Phase}
use Rattle.virt_types.specs.declared.reference.DomainRef.{DomainRef}
use Rattle.virt_types.specs.declared.run_state.DomainState.{DomainState}
use Rattle.virt_types.specs.declared.value.DomainInfo.{DomainInfo}
use Rattle.virt_types.specs.declared.value.DomainRow.{DomainRow}
use Rattle.virt_types.specs.declared.value.JobInfo.{JobInfo}
use Rattle.virt_types.specs.declared.value.LeaseRow.{LeaseRow}
use Rattle.virt_types.specs.declared.value.MigratedText.{MigratedText}
use Rattle.virt_types.specs.declared.value.PoolRow.{PoolRow}
use Rattle.virt_types.specs.declared.value.TitleRow.{TitleRow}
use Rattle.wire_spec.specs.XdrReading.{Left, first_double_word, first_fixed, first_integer, first_opaque, first_string, first_truth, first_word}
use Rattle.procedure_spec.specs.LeaseText.{address_written, mac_written}
use Rattle.procedure_spec.specs.Numbered.{job_numbered, phase_numbered, state_numbered}
use Rattle.procedure_spec.specs.Reading.{◌>>=◌, item, unless}
use Rattle.procedure_spec.specs.declared.fault.ArgFault.{ArgFault}
use Rattle.procedure_spec.specs.declared.fault.ArgFault.TheVariants as fault
use Rattle.procedure_spec.specs.declared.words.TheConstants.{PACKET_BOUND, TITLE_BOUND}

-- why a string whose length word is at a place is no name
abbrev pub name_fault : ℕ → List ℕ → Option ArgFault
name_fault place bytes = option_map (λ wrong. fault.Name (place + 4 + wrong)) (bad_place bytes)

-- a name: it is a string before it is looked at as a name
unfoldable pub first_name : Left → Result (List ℕ × Left) ArgFault
first_name l = do
  name ← item (first_string PACKET_BOUND) l
  unless (name_fault l.place name.0) name

-- a name that may be absent
abbrev pub name_behind : Bool → Left → Result (Option (List ℕ) × Left) ArgFault
name_behind there l = if there then (first_name l >>= λ name. Ok (Some name.0, name.1)) else Ok (None, l)

unfoldable pub first_optional_name : Left → Result (Option (List ℕ) × Left) ArgFault
first_optional_name l = do
  there ← item first_truth l
  name_behind there.0 there.1

-- a domain: its name, its identifier, and the number of its live boot or -1
unfoldable pub first_reference : Left → Result (DomainRef × Left) ArgFault
first_reference l = do
  name ← first_name l
  uuid ← item (first_fixed 16) name.1
  id ← item first_integer uuid.1
  Ok (record { name = name.0; uuid = uuid.0; id = id.0 }, id.1)

-- a network or a pool, as a value of its own
unfoldable pub first_object : {A : Type 0} → (List ℕ → List ℕ → A) → Left → Result (A × Left) ArgFault
first_object made l = do
  name ← first_name l
  uuid ← item (first_fixed 16) name.1
  Ok (made name.0 uuid.0, uuid.1)

-- what an item at a place stands for, where it stands for something
abbrev pub meant : {A : Type 0} → ℕ → Option A → Left → Result (A × Left) ArgFault
meant place None l = Err (fault.Foreign place)
meant place (Some x) l = Ok (x, l)

unfoldable pub first_state : Left → Result (DomainState × Left) ArgFault
first_state l = do
  number ← item first_word l
  meant l.place (state_numbered number.0) number.1

unfoldable pub first_kind : Left → Result (Option OpKind × Left) ArgFault
first_kind l = do
  number ← item first_word l
  meant l.place (job_numbered number.0) number.1

unfoldable pub first_phase : Left → Result (Phase × Left) ArgFault
first_phase l = do
  number ← item first_word l
  meant l.place (phase_numbered number.0) number.1

-- the processor time, which is always 0
abbrev pub no_time : ℕ → Option (Unit {0})
no_time time = if time == 0 then Some tt else None

unfoldable pub first_time : Left → Result (Unit {0} × Left) ArgFault
first_time l = do
  time ← item first_double_word l
  meant l.place (no_time time.0) time.1

unfoldable pub first_info : Left → Result (DomainInfo × Left) ArgFault
first_info l = do
  state ← first_state l
  memory ← item first_double_word state.1
  current ← item first_double_word memory.1
  vcpus ← item first_word current.1
  time ← first_time vcpus.1
  Ok (record { state = state.0; memory = memory.0; current = current.0; vcpus = vcpus.0 }, time.1)

unfoldable pub first_job : Left → Result (JobInfo × Left) ArgFault
first_job l = do
  kind ← first_kind l
  phase ← first_phase kind.1
  left ← item first_double_word phase.1
  Ok (record { kind = kind.0; phase = phase.0; rest = left.0 }, left.1)

unfoldable pub first_domain_row : Left → Result (DomainRow × Left) ArgFault
first_domain_row l = do
  domain ← first_reference l
  state ← first_state domain.1
  Ok (record { domain = domain.0; state = state.0 }, state.1)

unfoldable pub first_pool_row : Left → Result (PoolRow × Left) ArgFault
first_pool_row l = do
  name ← first_name l
  uuid ← item (first_fixed 16) name.1
  active ← item first_truth uuid.1
  Ok (record { name = name.0; uuid = uuid.0; active = active.0 }, active.1)

unfoldable pub first_title_row : Left → Result (TitleRow × Left) ArgFault
first_title_row l = do
  name ← first_name l
  title ← item (first_string TITLE_BOUND) name.1
  Ok (record { name = name.0; title = title.0 }, title.1)

-- a text that stands for something, where it does
abbrev pub first_written : {A : Type 0} → (List ℕ → Option A) → Left → Result (A × Left) ArgFault
first_written see l = do
  text ← item (first_string PACKET_BOUND) l
  meant l.place (see text.0) text.1

unfoldable pub first_lease_row : Left → Result (LeaseRow × Left) ArgFault
first_lease_row l = do
  mac ← first_written mac_written l
  address ← first_written address_written mac.1
  Ok (record { mac = mac.0; address = address.0 }, address.1)

unfoldable pub first_migrated : Left → Result (MigratedText × Left) ArgFault
first_migrated l = do
  definition ← item (first_string PACKET_BOUND) l
  running ← item first_truth definition.1
  state ← item (first_opaque most_state_bytes) running.1
  Ok (record { definition = definition.0; running = running.0; state = state.0 }, state.1)
