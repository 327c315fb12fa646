-- Rows of a migration: what its operations ask and tell, step by step, and with what they rest or end.
use Rattle.std.specs.Prelude.{◌≡◌, ℕ, List, [], ◌∷◌, map, flat_map, replicate, unwrap_or, pos, Bool, true, false, Option, None, Some}
use Rattle.domain_spec.specs.Types.{Answer, Ask, Call, Domain, DomainDef, Live, Reply, RunState, State, Transition, Who}
use Rattle.domain_spec.specs.Types.answer
use Rattle.domain_spec.specs.Types.ask
use Rattle.domain_spec.specs.Types.call
use Rattle.domain_spec.specs.Types.cause
use Rattle.domain_spec.specs.Types.command
use Rattle.domain_spec.specs.Types.given
use Rattle.domain_spec.specs.Types.kind
use Rattle.domain_spec.specs.Types.phase
use Rattle.domain_spec.specs.Types.reply
use Rattle.domain_spec.specs.Types.run
use Rattle.domain_spec.specs.Types.state
use Rattle.domain_spec.specs.Types.told
use Rattle.domain_spec.specs.Types.value
use Rattle.virt_types.specs.declared.call.Query.TheVariants as query
use Rattle.domain_spec.specs.declared.open.OpenOperation.{OpenOperation}
use Rattle.domain_spec.specs.declared.progress.Progress.{Progress}
use Rattle.domain_spec.specs.declared.step.Outcome.{Outcome}
use Rattle.domain_spec.specs.declared.step.Outcome.TheVariants as outcome
use Rattle.domain_spec.specs.Begin.{begin_state, due_phase, taken_up_state}
use Rattle.domain_spec.specs.Call.{tell}
use Rattle.domain_spec.specs.CallResult.{refused}
use Rattle.domain_spec.specs.Fold.{taken_up}
use Rattle.domain_spec.specs.PhaseAsks.{two}
use Rattle.domain_spec.specs.Read.{read}
use Rattle.domain_spec.specs.Reading.{live_boot, live_of}
use Rattle.domain_spec.specs.Refusals.{invalid}
use Rattle.domain_spec.specs.Sequential.{seq}
use Rattle.domain_spec.specs.WholeLife.{ok, unconnected}
use Rattle.domain_spec.specs.WholeOperation.{whole_operation}

-- a domain without a stored definition whose first guest runs
abbrev pub running_guest : Domain → Live → State
running_guest d l = state.Held (record d { stored = None; live = Some (record l { boot = 1; run = run.Running }); op = None })

-- a domain whose first guest stands still between two hosts
abbrev pub moved_guest : Domain → Live → State
moved_guest d l = state.Held (record d { stored = None; live = Some (record l { boot = 1; run = run.Paused cause.Moved }); op = None })

-- the operation as a call begins it
abbrev pub begun_as : State → Who → Call → OpenOperation
begun_as s who c = record { number = 0; who = who; call = c; boot = live_boot s; outcome = outcome.On (due_phase s) }

-- how far a call's operation comes, where these answers come
abbrev pub begins_with : State → Who → Call → List Answer → Progress
begins_with s who c answers = whole_operation (begin_state s who c) (begun_as (begin_state s who c) who c) answers

-- and that of a call that takes it up
abbrev pub taken_up_with : Progress → Who → Call → List Answer → Progress
taken_up_with p who c answers = whole_operation (taken_up_state p.state who c) (taken_up 1 who c p.operation) answers

-- the guest's memory as a copy gives it: 1,048,576 KiB
abbrev pub copied : List ℕ
copied = 0 ∷ 0 ∷ 0 ∷ 0 ∷ 0 ∷ 16 ∷ 0 ∷ 0 ∷ []

-- done, with this number
abbrev pub number : ℕ → Answer
number n = answer.Ok (given.Number n)

-- a copy that polls see 2, 1 and 0 left of, and that is taken
abbrev pub slow_copy : List Answer
slow_copy = ok ∷ number 2 ∷ number 1 ∷ number 0 ∷ ok ∷ answer.Ok (given.Bytes copied) ∷ []

-- how the guest is, if there is one
abbrev pub run_in : Option Live → Option RunState
run_in None = None
run_in (Some l) = Some l.run

-- an operation asked these, told these, led to this, and left the guest so
pub record Came (p : Progress) (asks : List (List Ask)) (events : List Transition) (next : Outcome) (left : Option RunState) : Type 0 where
  pub asked : map (λ x. x.asks) p.phases ≡ asks
  pub told : flat_map (λ x. x.transitions) p.phases ≡ events
  pub led_to : p.operation.outcome ≡ next
  pub guest : run_in (live_of p.state) ≡ left

-- the guest stands still between two hosts
abbrev pub paused_moved : Option RunState
paused_moved = Some (run.Paused cause.Moved)

-- the operation is over, and was done
abbrev pub over_ok : Outcome
over_ok = outcome.Over (reply.Ok value.Nothing)

-- a guest that leaves is copied, stopped and taken, and rests with what the other host needs
abbrev pub Leaves : Domain → Live → Progress → Type 0
Leaves d l p =
    Came p (tell command.CopyBegin ∷ tell command.CopyPoll ∷ tell command.CopyPoll ∷ tell command.CopyPoll ∷ two command.Stop command.CopyTake ∷ [])
    (told.SUSPENDED_PAUSED ∷ []) (outcome.Rest (reply.Ok (value.MigratedGuest (record { definition = l.def; running = true; state = copied })))) paused_moved

-- where it came, it is made and loaded, and rests
abbrev pub Comes : DomainDef → Reply → Progress → Type 0
Comes def named p =
    Came p ((ask.Make def 1 ∷ []) ∷ tell (command.LoadState copied) ∷ []) [] (outcome.Rest named) paused_moved

-- the refusal of a call that is done
abbrev pub IsInvalid : State → Call → Type 0
IsInvalid s c = seq s c (live_boot s) [] ≡ refused s (invalid (live_of s))

-- what JobInfo reads while a guest is between two hosts: kind 7, phase 13, 0 left
abbrev pub resting_info : Reply
resting_info = reply.Ok (value.Job (record { kind = Some kind.MigrateOut; phase = phase.Resting; rest = 0 }))

-- the rows of a guest that leaves: confirmed, called back, with a limit, and where nothing rests
pub record LeavingRows (d : Domain) (l : Live) (who : Who) : Type 0 where
  pub leaves : Leaves d l (begins_with (running_guest d l) who call.Perform slow_copy)
  pub gone :
      let p = taken_up_with (begins_with (running_guest d l) who call.Perform slow_copy) who (call.Confirm true) (ok ∷ []) in
      Came p (tell command.Quit ∷ []) (told.STOPPED_MIGRATED ∷ []) over_ok None
  pub back :
      let p = taken_up_with (begins_with (running_guest d l) who call.Perform slow_copy) who (call.Confirm false) (ok ∷ []) in
      Came p (tell command.Cont ∷ []) (told.RESUMED_UNPAUSED ∷ []) over_ok (Some run.Running)
  pub info : read (begins_with (running_guest d l) who call.Perform slow_copy).state query.JobInfo ≡ resting_info
  pub not_suspended : IsInvalid (moved_guest d l) call.Suspend
  pub nothing_rests : (verdict : Bool) → IsInvalid (running_guest d l) (call.Confirm verdict)

-- a limit of 2 that is set after the first poll saves one poll
abbrev pub LimitedRow : Domain → Live → Who → Type 0
LimitedRow d l who =
    let p = begins_with (running_guest d l) who call.Perform (ok ∷ number 2 ∷ []) in
    let q = whole_operation (seq p.state (call.Limit 2) (Some 1) []).state p.operation (number 1 ∷ ok ∷ answer.Ok (given.Bytes copied) ∷ []) in
    map (λ x. x.asks) q.phases ≡ tell command.CopyPoll ∷ two command.Stop command.CopyTake ∷ []

-- the rows of a guest that comes
pub record ComingRows (def : DomainDef) (who : Who) (named : Reply) : Type 0 where
  pub comes : Comes def named (begins_with (state.Vacant 0) who (call.Prepare def true copied) (ok ∷ ok ∷ []))
  pub runs :
      let p = taken_up_with (begins_with (state.Vacant 0) who (call.Prepare def true copied) (ok ∷ ok ∷ [])) who (call.Finish true) (ok ∷ []) in
      Came p (tell command.Cont ∷ []) (told.STARTED_MIGRATED ∷ []) over_ok (Some run.Running)
  pub dropped :
      let p = taken_up_with (begins_with (state.Vacant 0) who (call.Prepare def true copied) (ok ∷ ok ∷ [])) who (call.Finish false) (ok ∷ []) in
      Came p (tell command.Quit ∷ []) (told.STOPPED_FAILED ∷ []) over_ok None
  pub active : (d : Domain) (l : Live) → IsInvalid (running_guest d l) (call.Prepare def true copied)

-- how the domain of a guest that came is named
abbrev pub named_as : DomainDef → Reply
named_as def = reply.Ok (value.Domain (record { name = def.name; uuid = unwrap_or def.uuid (replicate 16 0); id = pos 1 }))

-- the rows of migrations hold for each domain and each caller
pub record RowsOfMoves (d : Domain) (l : Live) (def : DomainDef) (who : Who) : Type 0 where
  pub leaving : LeavingRows d l who
  pub limited : LimitedRow d l who
  pub coming : ComingRows (unconnected def) who (named_as def)

-- so it is for each domain, guest, definition and caller
abbrev pub MovesAreMade : Type 0
MovesAreMade = (d : Domain) (l : Live) (def : DomainDef) (who : Who) → RowsOfMoves d l def who
