-- Host lines, read one after the other.
use Rattle.std.proofs.Common.{◌≡◌, List, [], ◌∷◌, ◌++◌, append_assoc, append-nil, Bool, true, false, cond, Result, Ok, Err, refl, sym, ap, ◌∙◌}
use Rattle.std.specs.Prelude.{codes, filter}
use Rattle.types_base.specs.declared.network_def.HostLine.{HostLine}
use Rattle.text_spec.specs.declared.definition.DefFault.{DefFault}
use Rattle.text_spec.specs.Tree.{Tree}
use Rattle.xml_tables.specs.Called.{is_called}
use Rattle.xml_tables.specs.Rows.{then_read}
use Rattle.network_xml.specs.NetworkText.{host_of, hosts_of}
use Rattle.network_xml.specs.declared.subnet.Subnet.{Subnet}

abbrev Read : Type 0
Read = Result (List HostLine) DefFault

-- what was read so far, and what comes after it
abbrev pub behind : List HostLine → Read → Read
behind hosts (Ok more) = Ok (hosts ++ more)
behind hosts (Err fault) = Err fault

pub at_start : (r : Read) → behind [] r ≡ r
at_start (Ok hosts) = refl
at_start (Err fault) = refl

one_more : (hosts : List HostLine) (host : HostLine) (r : Read) → behind hosts (then_read r (λ more. Ok (host ∷ more))) ≡ behind (hosts ++ host ∷ []) r
one_more hosts host (Ok more) = ap (λ (x : List HostLine). Ok x) (sym (append_assoc hosts (host ∷ []) more))
one_more hosts host (Err fault) = refl

module _ (subnet : Subnet) where
  -- the lines among these elements
  abbrev pub lines_in : List Tree → Read
  lines_in ts = hosts_of subnet (filter (is_called (codes "host")) ts)

  pub at_end : (hosts : List HostLine) → behind hosts (lines_in []) ≡ Ok hosts
  at_end hosts = ap (λ (x : List HostLine). Ok x) (append-nil hosts)

  module _ (hosts : List HostLine) (t : Tree) (ts : List Tree) where
    kept : is_called (codes "host") t ≡ true → lines_in (t ∷ ts) ≡ then_read (host_of subnet t) (λ host. then_read (lines_in ts) (λ more. Ok (host ∷ more)))
    kept is = ap (λ (b : Bool). hosts_of subnet (cond b (t ∷ filter (is_called (codes "host")) ts) (filter (is_called (codes "host")) ts))) is

    pub other_passed : is_called (codes "host") t ≡ false → lines_in (t ∷ ts) ≡ lines_in ts
    other_passed is = ap (λ (b : Bool). hosts_of subnet (cond b (t ∷ filter (is_called (codes "host")) ts) (filter (is_called (codes "host")) ts))) is

    pub host_taken : (host : HostLine) → is_called (codes "host") t ≡ true → host_of subnet t ≡ Ok host → behind hosts (lines_in (t ∷ ts)) ≡ behind (hosts ++ host ∷ []) (lines_in ts)
    host_taken host is read = ap (behind hosts) (kept is ∙ ap (λ r. then_read r (λ one. then_read (lines_in ts) (λ more. Ok (one ∷ more)))) read) ∙ one_more hosts host (lines_in ts)

    pub fault_met : (fault : DefFault) → is_called (codes "host") t ≡ true → host_of subnet t ≡ Err fault → behind hosts (lines_in (t ∷ ts)) ≡ Err fault
    fault_met fault is read = ap (behind hosts) (kept is ∙ ap (λ r. then_read r (λ one. then_read (lines_in ts) (λ more. Ok (one ∷ more)))) read)
