use Rattle.remote_args.proofs.Written.{error_parts, on_ok}
use Rattle.remote_args.proofs.error.put_refusal.Goals as goal

pub returns : goal.returns
returns c = record {
  written = on_ok c.put_tail.result _ _ c.put_tail.ensures (λ last. error_parts c.args.writer.now c.args.refusal.now _ _ _ c.in_ok-put_head.ensures c.in_ok-put_kept.ensures.written last);
  text = on_ok c.put_tail.result _ _ c.put_tail.ensures (λ last. c.in_ok-put_kept.ensures.text);
}
