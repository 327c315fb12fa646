use Rattle.row_session.proofs.Complete.{complete}
use Rattle.row_session.proofs.connection.serve.Goals as goal

pub returns-clause-complete : goal.returns-clause-complete
returns-clause-complete g c = λ whole no_source no_sink. complete _ _ _ _ _ _ _ _ _ c.serve_by-fifth.ensures.served.1 whole (λ is. no_source (c.serve_by-fifth.ensures.source_fault is)) (λ is. no_sink (c.serve_by-fifth.ensures.sink_fault is))
