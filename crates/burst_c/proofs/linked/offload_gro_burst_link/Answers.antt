use Rattle.std.proofs.Common.{map, take, subst}
use Rattle.std.specs.List.{AllByRecursion}
use Rattle.frame_bursts.specs.Burst.{ComesBack, frames_of}
use Rattle.frame_bursts.specs.Links.{framed}
use Rattle.frame_bursts.specs.declared.link.Link.{Link}
use Rattle.burst_c.proofs.linked.offload_gro_burst_link.Goals as goal

pub returns-in-Ok-clause-back : goal.returns-in-Ok-clause-back
returns-in-Ok-clause-back c = λ ok.
    subst (λ (z : Link). AllByRecursion
    (λ r. ComesBack (frames_of (map (framed z) c.args.frames.now) c.merge_burst.new.next r))
    (take c.in-Ok.n c.merge_burst.new.runs)) c.link_of.ensures.link c.in-Ok.ensures.back
