use Rattle.std.proofs.Common.{ℕ, ◌≡◌, ◌+◌, ◌-◌, ◌≤◌, length, map, take, vec_len, vec_capacity}
use Rattle.std.specs.List.{AllByRecursion}
use Rattle.frame_bursts.specs.declared.link.Link.TheVariants.{RawIp}
use Rattle.frame_bursts.specs.Links.{framed, raw_packet, IsHeld}
use Rattle.frame_bursts.proofs.raw_frame.push_frames.Given as goal

-- the frames of the first i packets are there, and as many places were taken
abbrev pub invariant-loop-i : goal.invariant-loop-i
invariant-loop-i l =
    (map raw_packet l.frames.items ≡ take l.i (map (framed RawIp) l.packets))
    × (AllByRecursion IsHeld l.frames.items
    × ((n : ℕ) → vec_len l.fn.frames + (length l.packets - l.from + n) ≤ vec_capacity l.fn.frames
    → vec_len l.frames + (length l.packets - l.i + n) ≤ vec_capacity l.frames))
