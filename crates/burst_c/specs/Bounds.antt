-- The limits that C says in two numbers.
use Rattle.std.specs.Prelude.{ℕ, ◌==◌, if◌then◌else◌}
use Rattle.offload_model.specs.Mergeable.{up_to}
use Rattle.offload_model.specs.declared.limits.Limits.{Limits}

-- at most so many packets, and a merged frame of at most so many bytes; 0 bytes are no bound
abbrev pub limits_for : ℕ → ℕ → Limits
limits_for segs bytes = if bytes == 0 then up_to segs else record { segs = segs; bytes = bytes }
