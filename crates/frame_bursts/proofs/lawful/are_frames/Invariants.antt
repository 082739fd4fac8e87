use Rattle.std.proofs.Common.{◌≡◌, ℕ, ◌+◌, ◌<◌, length, get_or}
use Rattle.offload_model.specs.Captured.{IsCaptured}
use Rattle.frame_runs.specs.declared.lent.Lent.{Lent}
use Rattle.frame_bursts.specs.Links.{framed}
use Rattle.frame_bursts.proofs.lawful.are_frames.Given as goal

-- the first i frames are such, and their numbers rise
abbrev pub invariant-loop-i : goal.invariant-loop-i
invariant-loop-i l =
    ((k : ℕ) (d : Lent) → k < l.i → k < length l.frames → IsCaptured (framed l.link (get_or l.frames k d)))
    × ((j k : ℕ) (d : Lent) → j ≡ k + 1 → j < l.i → j < length l.frames
    → (get_or l.frames k d).number < (get_or l.frames j d).number)
