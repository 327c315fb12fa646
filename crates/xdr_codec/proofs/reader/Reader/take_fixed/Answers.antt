use Rattle.std.proofs.Common.{◌≡◌, length}
use Rattle.wire_spec.specs.Xdr.{fixed}
use Rattle.wire_spec.specs.XdrReading.{first_fixed}
use Rattle.wire_spec.proofs.Strings.{IsItem-fixed}
use Rattle.xdr_codec.proofs.Kept.{copied_answers, copied_reads}
use Rattle.xdr_codec.proofs.reader.Reader.take_fixed.Goals as goal

pub returns : goal.returns
returns c = record {
  value = copied_answers (λ v. length v ≡ c.args.size) fixed (first_fixed c.args.size) (IsItem-fixed c.args.size) _ _ _ _ _ _ c.self.view_is c.fixed-found.ensures c.copied-step.ensures c.keep.ensures;
  fault = copied_reads (first_fixed c.args.size) _ _ _ _ _ _ c.self.view_is c.fixed-found.ensures c.copied-step.ensures c.keep.ensures;
}
