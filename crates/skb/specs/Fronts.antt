-- First bytes, in which all headers of a frame lie: of a buffer, and of a block that becomes the head of one.
use Rattle.std.specs.Prelude.{ℕ, ◌+◌, ◌≤◌, List, min, slice_range}
use Rattle.raw_block.specs.Views.{SoleState}
use Rattle.skb.specs.SkbState.{SkbState, buffer_size, head_size}

-- the first 200 bytes, or all of fewer, lie in the head
abbrev pub IsFronted : SkbState → Type 0
IsFronted s = min (buffer_size s) 200 ≤ head_size s

-- the first n bytes behind a block's headroom
abbrev pub front_of : SoleState → ℕ → List ℕ
front_of s n = slice_range s.bytes 64 (64 + n)
