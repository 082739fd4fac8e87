use Rattle.std.proofs.Common.{ℕ, ◌<◌, get_or, map}
use Rattle.frame_runs.specs.declared.run.Run.{Run}
use Rattle.frame_bursts.specs.declared.told.BurstRun.{BurstRun}
use Rattle.frame_bursts.specs.Burst.{Told}
use Rattle.frame_bursts.proofs.told.put_runs.Given as goal

-- the first i runs are told
abbrev pub invariant-loop-i : goal.invariant-loop-i
invariant-loop-i g l =
    (k : ℕ) (d : Run) (o : BurstRun) → k < l.i
    → Told l.link (map g.F.Frame.packet l.frames) l.engine.next.items (get_or l.engine.runs.items k d) (get_or l.runs k o)
