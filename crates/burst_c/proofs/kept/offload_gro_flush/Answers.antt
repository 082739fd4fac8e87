use Rattle.std.proofs.Common.{map, sym, take, subst}
use Rattle.std.specs.List.{AllByRecursion}
use Rattle.frame_bursts.specs.Burst.{ComesBack, frames_of}
use Rattle.frame_bursts.specs.Links.{framed}
use Rattle.frame_bursts.specs.declared.kept.BurstEngine.{BurstEngine}
use Rattle.burst_c.specs.Made.{HasEngine}
use Rattle.burst_c.proofs.kept.offload_gro_flush.Goals as goal

pub returns-in-Ok-clause-back : goal.returns-in-Ok-clause-back
returns-in-Ok-clause-back c = λ ok.
    let P = λ (g : BurstEngine). AllByRecursion
    (λ r. ComesBack (frames_of (map (framed g.link) c.args.frames.now) c.flush-done.new.next r))
    (take c.in-Ok.n c.flush-done.new.runs) in
    let back : P c.deref_mut.result.now = c.in-Ok.ensures.back in
    subst (HasEngine P) (sym c.replace_with-own.ensures.0) (subst P c.deref_mut.ensures.value back)
