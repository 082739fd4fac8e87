use Rattle.pipeline.proofs.Together.{idle_out, idle_went}
use Rattle.pipeline.proofs.drive.handle_on.Goals as goal

pub handle_here-requires-in-Err : goal.handle_here-requires-in-Err
handle_here-requires-in-Err g c =
    let w = c.in-Err.ensures.handled in
    record { out = idle_out (g.H.RoundHandler.did c.args.handler.now) g.H.RoundHandler.stopped g.H.RoundHandler.ready _ _ _ _ _ _ _ _ w.0 w.1 c.requires.out }

pub returns-in-Err-clause-handled : goal.returns-in-Err-clause-handled
returns-in-Err-clause-handled g c =
    let w = c.in-Err.ensures.handled in
    idle_went (g.H.RoundHandler.did c.args.handler.now) g.H.RoundHandler.stopped g.H.RoundHandler.ready _ _ _ _ _ _ _ _ _ _ _ _ w.0 w.1 c.handle_here-in-Err.ensures.handled
