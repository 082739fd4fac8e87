-- The sizes of frames and of offload headers, in bytes.
use Rattle.std.specs.Prelude.{ℕ, ◌+◌}

-- a frame, behind an offload header or alone
abbrev pub most_frame : ℕ
most_frame = 262144

-- an offload header of version 1
abbrev pub off_head_size : ℕ
off_head_size = 12

-- and of version 2
abbrev pub off_head2_size : ℕ
off_head2_size = 16

-- what a record of an offload capture may hold
abbrev pub most_record : ℕ
most_record = off_head2_size + most_frame
