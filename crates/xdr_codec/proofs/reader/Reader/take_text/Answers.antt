use Rattle.std.proofs.Common.{arith}
use Rattle.wire_spec.specs.Xdr.{IsString, opaque}
use Rattle.wire_spec.specs.XdrReading.{first_string}
use Rattle.wire_spec.proofs.Strings.{IsItem-string}
use Rattle.xdr_codec.proofs.Kept.{copied_answers, copied_reads}
use Rattle.xdr_codec.proofs.reader.Reader.take_text.Goals as goal

pub returns : goal.returns
returns c = record {
  value = copied_answers (IsString c.args.most) opaque (first_string c.args.most) (IsItem-string c.args.most (omega arith)) _ _ _ _ _ _ c.self.view_is c.string-found.ensures c.copied_text-step.ensures c.keep.ensures;
  fault = copied_reads (first_string c.args.most) _ _ _ _ _ _ c.self.view_is c.string-found.ensures c.copied_text-step.ensures c.keep.ensures;
}
