use Rattle.wire_spec.specs.Xdr.{IsWord, word}
use Rattle.wire_spec.specs.XdrReading.{first_word}
use Rattle.wire_spec.proofs.Items.{IsItem-word}
use Rattle.xdr_codec.proofs.Kept.{kept_answers, kept_reads}
use Rattle.xdr_codec.proofs.reader.Reader.take_u32.Goals as goal

pub returns : goal.returns
returns c = record {
  value = kept_answers IsWord word first_word IsItem-word _ _ _ _ _ c.self.view_is c.word-step.ensures c.keep.ensures;
  fault = kept_reads first_word _ _ _ _ _ c.self.view_is c.word-step.ensures c.keep.ensures;
}
