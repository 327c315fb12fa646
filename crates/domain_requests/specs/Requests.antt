-- What the procedures of one domain ask of it.
use Rattle.std.specs.Prelude.{◌≡◌, ℕ, ℤ, ◌++◌, ◌%◌, List, [], codes, decimal, int_lt, nat_lt, pos, Bool, true, false, Option, None, Some, Result, Ok, Err, if◌then◌else◌}
use Rattle.std.specs.Fmt.{signed_decimal}
use Rattle.session_spec.specs.Refused.{refusal}
use Rattle.text_spec.specs.Fill.{IsDeviceFilledBy}
use Rattle.virt_types.specs.Name.{bad_place}
use Rattle.virt_types.specs.declared.call.Call.{Call}
use Rattle.virt_types.specs.declared.call.Call.TheVariants as call
use Rattle.virt_types.specs.declared.call.Query.{Query}
use Rattle.virt_types.specs.declared.call.Query.TheVariants as query
use Rattle.virt_types.specs.Below.types_base.declared.device_def.DeviceDef.{DeviceDef}
use Rattle.virt_types.specs.Below.types_base.declared.memory.OrNoMemory.{OrNoMemory}
use Rattle.virt_types.specs.Below.types_base.declared.memory.OrNoMemory.TheVariants.{Fault, NoMemory}
use Rattle.virt_types.specs.declared.object_request.DomainRequest.{DomainRequest}
use Rattle.virt_types.specs.declared.object_request.DomainRequest.TheVariants as request
use Rattle.virt_types.specs.declared.domain.SnapInfo.{SnapInfo}
use Rattle.virt_types.specs.Below.types_base.declared.refusal.Refusal.{Refusal}
use Rattle.virt_types.specs.Below.types_base.declared.refusal.RefusalCode.TheVariants as code
use Rattle.domain_requests.specs.Texts.{device_in, snapshot_in}
use Rattle.domain_requests.specs.declared.task.Parsed.{Parsed}
use Rattle.domain_requests.specs.declared.task.Parsed.TheVariants as parsed
use Rattle.domain_requests.specs.declared.task.Task.{Task}
use Rattle.domain_requests.specs.declared.task.Task.TheVariants as task

-- this call
abbrev pub runs : Call → Result Parsed Refusal
runs c = Ok (parsed.Ready (task.Run c))

-- this query
abbrev pub reads : Query → Result Parsed Refusal
reads q = Ok (parsed.Ready (task.Read q))

-- the text has no reading
abbrev pub unread : List ℕ → Result Parsed Refusal
unread kept = Err (refusal code.BadDefinition kept)

-- a call with the device that its text is; one to attach is filled in before
abbrev pub attaches : Result DeviceDef (List ℕ) → Result Parsed Refusal
attaches (Ok d) = Ok (parsed.Attach d)
attaches (Err kept) = unread kept

abbrev pub detaches : Result DeviceDef (List ℕ) → Result Parsed Refusal
detaches (Ok d) = runs (call.Detach d)
detaches (Err kept) = unread kept

-- a call with the snapshot that its text is
abbrev pub takes : Result SnapInfo (List ℕ) → Result Parsed Refusal
takes (Ok s) = runs (call.Snapshot s)
takes (Err kept) = unread kept

-- what is asked with a name; a text that is no name is refused
abbrev pub with_name : List ℕ → Option ℕ → Result Parsed Refusal → Result Parsed Refusal
with_name text None asked = asked
with_name text (Some at) asked = Err (refusal code.InvalidArgument text)

abbrev pub named : List ℕ → Result Parsed Refusal → Result Parsed Refusal
named text asked = with_name text (bad_place text) asked

-- the bound of 0 and 1 that a number passes
abbrev pub passed_one : ℤ → Option ℕ
passed_one n = if int_lt n (pos 0) then Some 0 else (if int_lt (pos 1) n then Some 1 else None)

-- what is asked by 0 for no, or 1 for yes; another number is refused, with the bound that it passes
abbrev pub with_bound : ℤ → Option ℕ → Call → Call → Result Parsed Refusal
with_bound n None one other = runs (if int_lt (pos 0) n then one else other)
with_bound n (Some bound) one other = Err (refusal code.InvalidArgument (signed_decimal n ++ codes " " ++ decimal bound))

abbrev pub yes_or_no : ℤ → (Bool → Call) → Result Parsed Refusal
yes_or_no n c = with_bound n (passed_one n) (c true) (c false)

-- the bit of value 2 asks for the stored definition
abbrev pub wants_stored : ℕ → Bool
wants_stored flags = nat_lt 1 (flags % 4)

-- a request that reads the domain, or is about the caller's registration
abbrev pub parsed_reads : DomainRequest → Result Parsed Refusal
parsed_reads (request.GetXmlDesc flags) = reads (query.Text (wants_stored flags))
parsed_reads request.GetAutostart = reads query.Autostart
parsed_reads request.GetInfo = reads query.Info
parsed_reads request.JobInfo = reads query.JobInfo
parsed_reads request.SnapList = reads query.SnapNames
parsed_reads request.EventRegister = Ok (parsed.Ready task.Register)
parsed_reads other = Ok (parsed.Ready task.Deregister)

-- a request without a text, a name, or a number of such a kind
abbrev pub parsed_plainly : DomainRequest → Result Parsed Refusal
parsed_plainly request.Create = runs call.Start
parsed_plainly request.Destroy = runs call.Destroy
parsed_plainly request.Resume = runs call.Resume
parsed_plainly request.Suspend = runs call.Suspend
parsed_plainly request.Shutdown = runs call.Shutdown
parsed_plainly (request.Reboot flags) = runs call.Reboot
parsed_plainly request.Undefine = runs call.Undefine
parsed_plainly (request.SetMemory memory) = runs (call.SetMemory memory)
parsed_plainly (request.SetVcpus vcpus) = runs (call.SetVcpus vcpus)
parsed_plainly request.JobAbort = runs call.Abort
parsed_plainly request.MemoryStats = runs call.MemoryStats
parsed_plainly (request.Kick action) = runs (call.Kick action)
parsed_plainly request.MigratePerform = runs call.Perform
parsed_plainly (request.MigrateLimit rest) = runs (call.Limit rest)
parsed_plainly other = parsed_reads other

-- what a request for one domain is: names and numbers are looked at in order, and then its text
abbrev pub parsed_as : DomainRequest → Result Parsed Refusal
parsed_as (request.AttachDevice xml) = attaches (device_in xml)
parsed_as (request.DetachDevice xml) = detaches (device_in xml)
parsed_as (request.SnapCreate xml) = takes (snapshot_in xml)
parsed_as (request.SetAutostart n) = yes_or_no n call.SetAutostart
parsed_as (request.MigrateConfirm n) = yes_or_no n call.Confirm
parsed_as (request.MigrateFinish n) = yes_or_no n call.Finish
parsed_as (request.SnapDelete name children) = named name (yes_or_no children (λ all. call.SnapDelete name all))
parsed_as (request.SnapRevert name) = named name (runs (call.Revert name))
parsed_as (request.SnapParent name) = named name (reads (query.SnapParent name))
parsed_as (request.SnapXml name) = named name (reads (query.SnapText name))
parsed_as (request.CoreDump to flags) = named to (runs (call.Dump to))
parsed_as (request.Save to) = named to (runs (call.Save to))
parsed_as plain = parsed_plainly plain

-- why a request is refused, unless there was no memory
abbrev pub Fails : OrNoMemory Refusal → Refusal → Type 0
Fails (Fault r) why = r ≡ why
Fails NoMemory why = Unit {0}

-- a text is refused that is no name
abbrev pub IsUnnamed : List ℕ → OrNoMemory Refusal → Type 0
IsUnnamed text (Fault r) = (at : ℕ) × (bad_place text ≡ Some at) × (r ≡ refusal code.InvalidArgument text)
IsUnnamed text NoMemory = Unit {0}

-- a number is refused that is neither 0 nor 1, with the bound that it passes
abbrev pub IsOutside : ℤ → OrNoMemory Refusal → Type 0
IsOutside n (Fault r) = (bound : ℕ) × (passed_one n ≡ Some bound) × (r ≡ refusal code.InvalidArgument (signed_decimal n ++ codes " " ++ decimal bound))
IsOutside n NoMemory = Unit {0}

-- what these words make of it: a device that is to be attached is filled in, and nothing else
abbrev pub IsTaskOf : List ℕ → Parsed → Task → Type 0
IsTaskOf words (parsed.Attach d) (task.Run (call.Attach filled)) = IsDeviceFilledBy words d filled
IsTaskOf words (parsed.Attach d) other = ⊥
IsTaskOf words (parsed.Ready t) made = (words ≡ []) × (made ≡ t)
