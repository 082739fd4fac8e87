use Rattle.std.proofs.Common.{sym, subst, Option}
use Rattle.offload_words.specs.declared.words.Command.TheVariants.{Segment}
use Rattle.offload_run.specs.declared.engine.Engine.{Engine}
use Rattle.offload_run.specs.Engines.{HasRun, LeavesHome}
use Rattle.offload_run.proofs.Engines.{ended, has_segmented, segment_home}
use Rattle.offload_run.proofs.command.segment.Goals as goal

pub returns-clause-ended : goal.returns-clause-ended
returns-clause-ended g c =
    let ran = c.run_segment-status.ensures in
    let is = c.segmenting.ensures.engine in
    ended (Segment c.args.options) _ _ _ _ _ _ _ _ _ _ _ ran.answered
    (λ ok. subst (λ (e : Option Engine). HasRun (Segment c.args.options) e (g.S.Source.left c.args.source.now) (g.S.Source.left c.run_segment-status.new.source)) (sym is) (has_segmented _ _ _ _ _ (ran.left.engine ok)))
    (subst (λ (e : Option Engine). LeavesHome (Segment c.args.options) e) (sym is) (segment_home _ _ ran.left.home))
