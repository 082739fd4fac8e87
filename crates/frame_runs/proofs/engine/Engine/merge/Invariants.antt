use Rattle.std.proofs.Common.{◌-◌, length, map}
use Rattle.frame_runs.specs.Engine.{HasReceived, HasPlaces}
use Rattle.frame_runs.proofs.engine.Engine.merge.Given as goal

-- the first i packets are received
abbrev pub invariant-loop-i : goal.invariant-loop-i
invariant-loop-i g l = HasReceived l.limits (map g.F.Frame.packet l.packets) l.i l.self × HasPlaces l.self (length l.packets - l.i)
