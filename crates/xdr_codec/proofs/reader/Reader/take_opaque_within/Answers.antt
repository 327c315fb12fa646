use Rattle.std.proofs.Common.{◌≤◌, length, arith}
use Rattle.wire_spec.specs.Xdr.{opaque}
use Rattle.wire_spec.specs.XdrReading.{first_opaque}
use Rattle.wire_spec.proofs.Strings.{IsItem-opaque}
use Rattle.xdr_codec.proofs.Kept.{copied_answers, copied_reads}
use Rattle.xdr_codec.proofs.reader.Reader.take_opaque_within.Goals as goal

pub returns : goal.returns
returns c = record {
  value = copied_answers (λ v. length v ≤ c.args.most) opaque (first_opaque c.args.most) (IsItem-opaque c.args.most (omega arith)) _ _ _ _ _ _ c.self.view_is c.opaque-found.ensures c.copied-step.ensures c.keep.ensures;
  fault = copied_reads (first_opaque c.args.most) _ _ _ _ _ _ c.self.view_is c.opaque-found.ensures c.copied-step.ensures c.keep.ensures;
}
