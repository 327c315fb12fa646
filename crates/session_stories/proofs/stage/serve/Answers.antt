use Rattle.driver_sessions.proofs.Below.driver_close.OneRow.{opened_whole}
use Rattle.session_stories.proofs.stage.serve.Goals as goal

pub serve_and_close-requires-clause-whole : goal.serve_and_close-requires-clause-whole
serve_and_close-requires-clause-whole g c κs within = opened_whole _ _ _ _ _ c.in-Ok.ensures.ok
