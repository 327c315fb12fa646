use Rattle.std.proofs.Common.{◌≡◌, ◌++◌, ◌<◌, ◌^◌, ℕ, List, length, sym, subst, ◌∙◌, arith}
use Rattle.std.specs.Prelude.{OnOk}
use Rattle.std.specs.Str.{IsUtf8}
use Rattle.wire_spec.specs.Xdr.{opaque}
use Rattle.procedure_spec.proofs.LeaseTexts.{address_string}
use Rattle.remote_args.proofs.address.put_address.Goals as goal

pub put_string-requires-clause-bound : goal.put_string-requires-clause-bound
put_string-requires-clause-bound c =
    let same = c.as_bytes.ensures.value ∙ c.in_ok-text.ensures in
    subst (λ (t : List ℕ). length t < 2 ^ 32) (sym same) (omega (arith, (address_string c.args.address).bounded))

pub put_string-requires-clause-text : goal.put_string-requires-clause-text
put_string-requires-clause-text c =
    let same = c.as_bytes.ensures.value ∙ c.in_ok-text.ensures in
    subst IsUtf8 (sym same) (address_string c.args.address).text

pub returns : goal.returns
returns c =
    let same = c.as_bytes.ensures.value ∙ c.in_ok-text.ensures in
    subst (λ (t : List ℕ). OnOk c.put_string.result (c.put_string.new.self ≡ c.args.writer.now ++ opaque t)) same c.put_string.ensures.ok
