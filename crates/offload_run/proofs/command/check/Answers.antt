use Rattle.std.proofs.Common.{sym, subst, Option}
use Rattle.offload_words.specs.declared.words.Command.TheVariants.{Check}
use Rattle.offload_run.specs.declared.engine.Engine.{Engine}
use Rattle.offload_run.specs.Engines.{HasRun, LeavesHome}
use Rattle.offload_run.proofs.Engines.{ended, has_checked, merge_home}
use Rattle.offload_run.proofs.command.check.Goals as goal

pub returns-clause-ended : goal.returns-clause-ended
returns-clause-ended g c =
    let ran = c.run_check-status.ensures in
    let is = c.merging.ensures.engine in
    ended (Check c.args.options) _ _ _ _ _ _ _ _ _ _ _ ran.answered
    (λ ok. subst (λ (e : Option Engine). HasRun (Check c.args.options) e (g.S.Source.left c.args.source.now) (g.S.Source.left c.run_check-status.new.source)) (sym is) (has_checked _ _ _ _ _ (ran.engine ok)))
    (subst (λ (e : Option Engine). LeavesHome (Check c.args.options) e) (sym is) (merge_home _ _ ran.home))
