use Rattle.offload_run.proofs.Makings.{made_and_flushed}
use Rattle.offload_run.proofs.make.run_make.Goals as goal

pub returns-in-Ok-clause-made : goal.returns-in-Ok-clause-made
returns-in-Ok-clause-made g c =
    made_and_flushed c.args.options _ _ _ _ c.finish.result c.in-Ok.ensures.ok c.finish.ensures.content c.finish.ensures.answer c.finish.ensures.flushed
