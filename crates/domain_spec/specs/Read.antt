-- What is answered where a domain's cell is read: the value of each query in a state.
use Rattle.std.specs.Prelude.{ℕ, List, map, Bool, true, false, Option, None, Some, unwrap_or}
use Rattle.domain_spec.specs.Types.{Domain, DomainDef, Live, Op, Reply, Snap, State}
use Rattle.domain_spec.specs.Types.phase
use Rattle.domain_spec.specs.Types.reply
use Rattle.domain_spec.specs.Types.state
use Rattle.domain_spec.specs.Types.value
use Rattle.virt_types.specs.declared.call.Query.{Query}
use Rattle.virt_types.specs.declared.call.Query.TheVariants as query
use Rattle.virt_types.specs.declared.value.DomainInfo.{DomainInfo}
use Rattle.virt_types.specs.declared.value.JobInfo.{JobInfo}
use Rattle.domain_spec.specs.Reading.{reference_of, state_in}
use Rattle.domain_spec.specs.Refusals.{no_domain, no_snapshot}
use Rattle.domain_spec.specs.Snapshots.{snapshot_named}

-- the stored definition, if there is one
abbrev pub stored_text : Option DomainDef → Reply
stored_text None = reply.No no_domain
stored_text (Some def) = reply.Ok (value.Definition def)

-- the live part, or the stored definition where that is wanted or there is no guest
abbrev pub text_of : Bool → Option Live → Option DomainDef → Reply
text_of true (Some l) None = reply.Ok (value.Live l)
text_of false (Some l) stored = reply.Ok (value.Live l)
text_of wanted live stored = stored_text stored

-- what a definition gives a guest
abbrev pub info_by : Option Live → DomainDef → DomainInfo
info_by live def = record { state = state_in live; memory = def.memory; current = def.current_memory; vcpus = def.current_vcpus }

-- the definition that counts: the live one, else the stored one
abbrev pub info_of : Option Live → Option DomainDef → Reply
info_of (Some l) stored = reply.Ok (value.Info (info_by (Some l) l.def))
info_of None (Some def) = reply.Ok (value.Info (info_by None def))
info_of None None = reply.No no_domain

-- the operation that is under way, with the phase that is due
abbrev pub job_info : Option Op → JobInfo
job_info None = record { kind = None; phase = phase.Nothing; rest = 0 }
job_info (Some op) = record { kind = Some op.kind; phase = op.phase; rest = unwrap_or op.remaining 0 }

-- a snapshot's parent, if the snapshot is there
abbrev pub parent_reply : List ℕ → Option Snap → Reply
parent_reply name None = reply.No (no_snapshot name)
parent_reply name (Some snap) = reply.Ok (value.Parent snap.parent)

-- a snapshot, if it is there
abbrev pub snapshot_reply : List ℕ → Option Snap → Reply
snapshot_reply name None = reply.No (no_snapshot name)
snapshot_reply name (Some snap) = reply.Ok (value.Snapshot snap)

-- what a query reads of a domain
abbrev pub read_of : Domain → Query → Reply
read_of d query.Reference = reply.Ok (value.Reference (record { domain = reference_of d; state = state_in d.live }))
read_of d (query.Text stored) = text_of stored d.live d.stored
read_of d query.Autostart = reply.Ok (value.Autostart d.autostart)
read_of d query.Info = info_of d.live d.stored
read_of d query.JobInfo = reply.Ok (value.Job (job_info d.op))
read_of d query.SnapNames = reply.Ok (value.Names (map (λ snap. snap.name) d.snaps))
read_of d (query.SnapParent name) = parent_reply name (snapshot_named d.snaps name)
read_of d (query.SnapText name) = snapshot_reply name (snapshot_named d.snaps name)

-- what a query reads of a cell; a vacant one has nothing to be read
abbrev pub read : State → Query → Reply
read (state.Vacant boots) q = reply.No no_domain
read (state.Held d) q = read_of d q
