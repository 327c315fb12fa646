use Rattle.wire_spec.specs.Xdr.{IsTruth, truth}
use Rattle.wire_spec.specs.XdrReading.{first_truth}
use Rattle.wire_spec.proofs.Seen.{IsItem-truth}
use Rattle.xdr_codec.proofs.Kept.{kept_answers, kept_reads}
use Rattle.xdr_codec.proofs.reader.Reader.take_optional.Goals as goal

pub returns : goal.returns
returns c = record {
  value = kept_answers IsTruth truth first_truth IsItem-truth _ _ _ _ _ c.self.view_is c.truth-step.ensures c.keep.ensures;
  fault = kept_reads first_truth _ _ _ _ _ c.self.view_is c.truth-step.ensures c.keep.ensures;
}
