-- What replies carry, part by part, as their payloads spell it.
use Rattle.std.specs.Prelude.{◌≡◌, ◌≤◌, ℕ, List, ◌++◌, length, Option, IfSome}
use Rattle.std.specs.List.{flat_map}
use Rattle.virt_types.specs.Limits.{most_state_bytes}
use Rattle.virt_types.specs.Mac.{mac_text}
use Rattle.virt_types.specs.Name.{IsName}
use Rattle.virt_types.specs.Numbers.{job_number, phase_number, state_number}
use Rattle.virt_types.specs.declared.operation.OpKind.{OpKind}
use Rattle.virt_types.specs.declared.operation.Phase.{Phase}
use Rattle.virt_types.specs.declared.reference.DomainRef.{DomainRef}
use Rattle.virt_types.specs.declared.run_state.DomainState.{DomainState}
use Rattle.virt_types.specs.declared.value.DomainInfo.{DomainInfo}
use Rattle.virt_types.specs.declared.value.DomainRow.{DomainRow}
use Rattle.virt_types.specs.declared.value.JobInfo.{JobInfo}
use Rattle.virt_types.specs.declared.value.LeaseRow.{LeaseRow}
use Rattle.virt_types.specs.declared.value.MigratedText.{MigratedText}
use Rattle.virt_types.specs.declared.value.PoolRow.{PoolRow}
use Rattle.virt_types.specs.declared.value.TitleRow.{TitleRow}
use Rattle.wire_spec.specs.Xdr.{IsDoubleWord, IsInteger, IsString, IsWord, double_word, fixed, integer, opaque, truth, word}
use Rattle.text_laws.specs.Given.{IsMac}
use Rattle.procedure_spec.specs.LeaseText.{address_text}
use Rattle.procedure_spec.specs.declared.words.TheConstants.{PACKET_BOUND, TITLE_BOUND}

-- a domain: its name, its identifier, and the number of its live boot or -1
abbrev pub domain_reference : DomainRef → List ℕ
domain_reference d = opaque d.name ++ fixed d.uuid ++ integer d.id

pub record IsReference (d : DomainRef) : Type 0 where
  pub name : IsName d.name
  pub uuid : length d.uuid ≡ 16
  pub id : IsInteger d.id

-- a network or a pool: its name and its identifier
abbrev pub object_reference : List ℕ → List ℕ → List ℕ
object_reference name uuid = opaque name ++ fixed uuid

pub record IsObjectReference (n u : List ℕ) : Type 0 where
  pub name : IsName n
  pub uuid : length u ≡ 16

-- a list: how many, then each
abbrev pub listed : {A : Type 0} → (A → List ℕ) → List A → List ℕ
listed spelled xs = word (length xs) ++ flat_map spelled xs

-- a state, the kind of an operation that may be absent, and a phase: each its number
abbrev pub state_item : DomainState → List ℕ
state_item s = word (state_number s)

abbrev pub kind_item : Option OpKind → List ℕ
kind_item kind = word (job_number kind)

abbrev pub phase_item : Phase → List ℕ
phase_item p = word (phase_number p)

-- what a domain has; the processor time is always 0
abbrev pub info : DomainInfo → List ℕ
info i = state_item i.state ++ double_word i.memory ++ double_word i.current ++ word i.vcpus ++ double_word 0

pub record IsInfo (i : DomainInfo) : Type 0 where
  pub memory : IsDoubleWord i.memory
  pub current : IsDoubleWord i.current
  pub vcpus : IsWord i.vcpus

-- the operation that is under way
abbrev pub job : JobInfo → List ℕ
job j = kind_item j.kind ++ phase_item j.phase ++ double_word j.rest

abbrev pub IsJob : JobInfo → Type 0
IsJob j = IsDoubleWord j.rest

-- a domain with its state
abbrev pub domain_row : DomainRow → List ℕ
domain_row r = domain_reference r.domain ++ state_item r.state

abbrev pub IsDomainRow : DomainRow → Type 0
IsDomainRow r = IsReference r.domain

-- a pool, and whether it is active
abbrev pub pool_row : PoolRow → List ℕ
pool_row p = opaque p.name ++ fixed p.uuid ++ truth p.active

abbrev pub IsPoolRow : PoolRow → Type 0
IsPoolRow p = IsObjectReference p.name p.uuid

-- a domain and its title
abbrev pub title_row : TitleRow → List ℕ
title_row t = opaque t.name ++ opaque t.title

pub record IsTitleRow (t : TitleRow) : Type 0 where
  pub name : IsName t.name
  pub title : IsString TITLE_BOUND t.title

-- a lease: the address of an interface, and the one that it has in the network, both as texts
abbrev pub lease_row : LeaseRow → List ℕ
lease_row r = opaque (mac_text r.mac) ++ opaque (address_text r.address)

pub record IsLeaseRow (r : LeaseRow) : Type 0 where
  pub mac : IsMac r.mac
  pub address : IsWord r.address

-- a guest that leaves for another host
abbrev pub migrated : MigratedText → List ℕ
migrated m = opaque m.definition ++ truth m.running ++ opaque m.state

pub record IsMigrated (m : MigratedText) : Type 0 where
  pub definition : IsString PACKET_BOUND m.definition
  pub state : length m.state ≤ most_state_bytes
