use Rattle.std.proofs.Common.{ℕ, ◌≡◌, ◌+◌, ◌-◌, length, map}
use Rattle.frame_runs.specs.Engine.{HasPlaces, HasReceived}
use Rattle.frame_bursts.proofs.kept.receive_behind.Given as goal

-- the first i frames are received, and as many places were taken
abbrev pub invariant-loop-i : goal.invariant-loop-i
invariant-loop-i g l =
    HasReceived l.limits (map g.F.Frame.packet l.frames) l.i l.engine
    × (((n : ℕ) → HasPlaces l.fn.engine (length l.frames - l.from + n) → HasPlaces l.engine (length l.frames - l.i + n))
    × (length l.engine.next.items ≡ length l.fn.engine.next.items))
