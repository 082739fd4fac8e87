use Rattle.std.proofs.Common.{sym, subst, Option}
use Rattle.offload_words.specs.declared.words.Command.TheVariants.{Merge}
use Rattle.offload_run.specs.declared.engine.Engine.{Engine}
use Rattle.offload_run.specs.Engines.{HasRun, LeavesHome}
use Rattle.offload_run.proofs.Engines.{ended, has_merged, merge_home}
use Rattle.offload_run.proofs.command.merge.Goals as goal

pub returns-clause-ended : goal.returns-clause-ended
returns-clause-ended g c =
    let ran = c.run_merge-status.ensures in
    let is = c.merging.ensures.engine in
    ended (Merge c.args.options) _ _ _ _ _ _ _ _ _ _ _ ran.answered
    (λ ok. subst (λ (e : Option Engine). HasRun (Merge c.args.options) e (g.S.Source.left c.args.source.now) (g.S.Source.left c.run_merge-status.new.source)) (sym is) (has_merged _ _ _ _ _ (ran.left.engine ok)))
    (subst (λ (e : Option Engine). LeavesHome (Merge c.args.options) e) (sym is) (merge_home _ _ ran.left.home))
