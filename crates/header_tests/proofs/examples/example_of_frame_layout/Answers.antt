use Rattle.std.proofs.Common.{◌≡◌, ℕ, ◌<◌, ◌≤◌, List, [], length, sym, arith, append-nil}
use Rattle.net_bytes.specs.Bytes.{byte}
use Rattle.inet_sum.specs.Stands.{FoldAndLength, StandsFor}
use Rattle.frame_layout.specs.Front.{IsFrameOf}
use Rattle.header_tests.proofs.examples.example_of_frame_layout.Goals as goal

-- the frame is all in the first bytes
whole : (f : List ℕ) (none : FoldAndLength) → StandsFor none [] → ((k : ℕ) → byte f k < 256) → IsFrameOf f none f
whole f none sum small = record { tail = []; joined = sym (append-nil f); sum = sum; in_bytes = small }

pub slice_bounds-payload-count : goal.slice_bounds-payload-count
slice_bounds-payload-count g c =
    let f = c.as_slice-frame.result.now in
    let small : (k : ℕ) → byte f k < 256 = λ k. omega (arith, c.type_inv.frame k) in
    let seg = c.in-Some.ensures.candidate f (whole f c.new.result c.new.ensures.sum small) in
    omega (arith, seg.0.payload, c.payload_at.ensures.place)

pub slice_bounds-payload-start : goal.slice_bounds-payload-start
slice_bounds-payload-start g c = slice_bounds-payload-count g c
