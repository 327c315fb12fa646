use Rattle.wire_spec.specs.Xdr.{IsInteger, integer}
use Rattle.wire_spec.specs.XdrReading.{first_integer}
use Rattle.wire_spec.proofs.Seen.{IsItem-integer}
use Rattle.xdr_codec.proofs.Kept.{kept_answers, kept_reads}
use Rattle.xdr_codec.proofs.reader.Reader.take_i32.Goals as goal

pub returns : goal.returns
returns c = record {
  value = kept_answers IsInteger integer first_integer IsItem-integer _ _ _ _ _ c.self.view_is c.integer-step.ensures c.keep.ensures;
  fault = kept_reads first_integer _ _ _ _ _ c.self.view_is c.integer-step.ensures c.keep.ensures;
}
