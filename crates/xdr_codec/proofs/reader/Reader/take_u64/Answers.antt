use Rattle.wire_spec.specs.Xdr.{IsDoubleWord, double_word}
use Rattle.wire_spec.specs.XdrReading.{first_double_word}
use Rattle.wire_spec.proofs.Items.{IsItem-double_word}
use Rattle.xdr_codec.proofs.Kept.{kept_answers, kept_reads}
use Rattle.xdr_codec.proofs.reader.Reader.take_u64.Goals as goal

pub returns : goal.returns
returns c = record {
  value = kept_answers IsDoubleWord double_word first_double_word IsItem-double_word _ _ _ _ _ c.self.view_is c.double_word-step.ensures c.keep.ensures;
  fault = kept_reads first_double_word _ _ _ _ _ c.self.view_is c.double_word-step.ensures c.keep.ensures;
}
