use Rattle.std.proofs.Common.{◌≡◌, drop}
use Rattle.frame_layout.specs.Candidate.{are_flags_plain}
use Rattle.frame_layout.specs.Headers.{all_headers}
use Rattle.frame_causes.proofs.flags.are_flags_plain.Given as goal

abbrev pub invariant-loop-header : goal.invariant-loop-header
invariant-loop-header l =
    all_headers (are_flags_plain l.frame) (drop l.header-index l.headers) ≡ all_headers (are_flags_plain l.frame) l.headers
