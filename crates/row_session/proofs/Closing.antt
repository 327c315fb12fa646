-- Whoever reads calls, and whatever else it serves, reads the same calls as a close.
use Rattle.std.proofs.Common.{◌≡◌, Bool, true, false, List, ℕ, Option, None, Some, Result, Ok, Err, refl, sym, ap, ◌∙◌}
use Rattle.std.specs.Prelude.{if◌then◌else◌}
use Rattle.procedure_spec.proofs.Asked.{request_found}
use Rattle.procedure_spec.specs.ArgumentsReading.{asked_by, first_call, request_in, request_with}
use Rattle.procedure_spec.specs.Calls.{call_of, in_line, line_of}
use Rattle.procedure_spec.specs.Faults.{xdr}
use Rattle.procedure_spec.specs.RequestsReading.{request_of}
use Rattle.procedure_spec.specs.declared.arguments.Arguments.{Arguments}
use Rattle.procedure_spec.specs.declared.arguments.Target.{Target}
use Rattle.procedure_spec.specs.declared.fault.ArgFault.{ArgFault}
use Rattle.procedure_spec.specs.declared.fault.ArgFault.TheVariants as fault
use Rattle.procedure_spec.specs.declared.procedure.Procedure.{Procedure}
use Rattle.procedure_spec.specs.declared.procedure.Procedure.TheVariants as procedure
use Rattle.procedure_spec.specs.declared.table.Row.{Row}
use Rattle.service_spec.specs.Reading.{is_read, read_line, read_of}
use Rattle.session_spec.specs.Replies.{asks_to_close}
use Rattle.virt_types.specs.declared.request.Request.{Request}
use Rattle.virt_types.specs.declared.request.Request.TheVariants as request
use Rattle.wire_spec.specs.XdrReading.{whole}
use Rattle.wire_spec.specs.declared.fault.XdrFault.{XdrFault}
use Rattle.wire_spec.specs.declared.message.Header.{Header}

closing : (read : Result Request ArgFault) → asks_to_close read ≡ true → read ≡ Ok request.ConnectClose
closing (Err bad) e = absurd cc
closing (Ok request.ConnectClose) e = refl
closing (Ok (request.ConnectOpen name flags)) e = absurd cc
closing (Ok (request.DomainCreateXml xml flags)) e = absurd cc
closing (Ok (request.DomainDefineXml xml)) e = absurd cc
closing (Ok (request.ListDefinedDomains most)) e = absurd cc
closing (Ok (request.DomainLookupByName name)) e = absurd cc
closing (Ok (request.DomainLookupByUuid uuid)) e = absurd cc
closing (Ok (request.ListDefinedNetworks most)) e = absurd cc
closing (Ok (request.ListNetworks most)) e = absurd cc
closing (Ok (request.NetworkDefineXml xml)) e = absurd cc
closing (Ok (request.NetworkLookupByName name)) e = absurd cc
closing (Ok (request.DomainRestore from)) e = absurd cc
closing (Ok request.ListAll) e = absurd cc
closing (Ok request.Titles) e = absurd cc
closing (Ok (request.PoolDefine xml)) e = absurd cc
closing (Ok (request.PoolLookup name)) e = absurd cc
closing (Ok request.PoolList) e = absurd cc
closing (Ok (request.MigratePrepare xml running state)) e = absurd cc
closing (Ok (request.OnDomain domain it)) e = absurd cc
closing (Ok (request.OnNetwork network it)) e = absurd cc
closing (Ok (request.OnPool pool it)) e = absurd cc

asked_is : (o : Option Request) (r : Request) → asked_by o ≡ Ok r → o ≡ Some r
asked_is None r e = absurd cc
asked_is (Some q) r e = let same : q ≡ r = cc in ap (λ (y : Request). Some y) same

-- a request that is read of a line is one of its procedure
read_is : (p : Procedure) (read : Result (Target × Arguments) XdrFault) → request_with p (xdr read) ≡ Ok request.ConnectClose → procedure.ConnectClose ≡ p
read_is p (Ok x) e = (request_found p x.0 x.1 request.ConnectClose (asked_is (request_of p x.0 x.1) request.ConnectClose e)).procedure
read_is p (Err f) e = absurd cc

closing_row : (row : Row) (payload : List ℕ) → asks_to_close (request_in row payload) ≡ true → row.procedure ≡ procedure.ConnectClose
unfolding request_in
closing_row row payload e = sym (read_is row.procedure (whole (first_call row) payload) (closing _ e))

never : (b : Bool) → (b ≡ true → (let no : Bool = false in no ≡ true)) → false ≡ b
never true h = h refl
never false h = refl

-- a line is read, or it is no close
chosen : (is : Bool) (row : Row) (payload : List ℕ) → (asks_to_close (request_in row payload) ≡ true → is ≡ true) → asks_to_close (in_line (if is then Ok row else Err fault.Procedure) payload) ≡ asks_to_close (request_in row payload)
chosen true row payload h = refl
chosen false row payload h = never (asks_to_close (request_in row payload)) h

of_line : (serves : Procedure → Bool) (line : Result Row ArgFault) (payload : List ℕ) → asks_to_close (in_line (read_line serves line) payload) ≡ asks_to_close (in_line line payload)
of_line serves (Ok row) payload = chosen (is_read serves row.procedure) row payload (λ e. ap (is_read serves) (closing_row row payload e))
of_line serves (Err bad) payload = refl

read_in : (serves : Procedure → Bool) (h : Header) (payload : List ℕ) → read_of serves h payload ≡ in_line (read_line serves (line_of h)) payload
unfolding read_of
read_in serves h payload = refl

call_in : (h : Header) (payload : List ℕ) → in_line (line_of h) payload ≡ call_of h payload
unfolding call_of
call_in h payload = refl

pub same_close : (serves : Procedure → Bool) (h : Header) (payload : List ℕ) → asks_to_close (read_of serves h payload) ≡ asks_to_close (call_of h payload)
same_close serves h payload =
    ap asks_to_close (read_in serves h payload) ∙ (of_line serves (line_of h) payload ∙ ap asks_to_close (call_in h payload))
