-- A frame whose lengths and sums are filled in is right, and nothing else of it changed.
use Rattle.std.proofs.Common.{ℕ, ◌≤◌, List, length}
use Rattle.frame_layout.specs.Headers.{AreLaid}
use Rattle.frame_layout.specs.declared.layout.Header.{Header}
use Rattle.offload_model.specs.Edits.{with_lengths_and_sums}
use Rattle.offload_model.proofs.Made.{with_lengths_and_sums-leaves, with_lengths_and_sums-long, lengths_right, sums_right, udp_alike}
use Rattle.header_fill.specs.Filled.{IsFilled}

-- a frame with its lengths and sums put is filled in
pub is_filled : (hs : List Header) (end : ℕ) (f : List ℕ) → AreLaid 0 hs end → end ≤ length f → IsFilled hs f (with_lengths_and_sums hs f)
is_filled hs end f laid fits = record {
  len = with_lengths_and_sums-long hs f;
  lengths = lengths_right hs end f laid fits;
  sums = sums_right hs end f laid fits;
  udp_sums = udp_alike hs end f laid fits;
  others = λ k o. with_lengths_and_sums-leaves hs f k o;
}
