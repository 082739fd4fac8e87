-- Where there is room for as many bytes as an output has at most, no output is too long.
use Rattle.std.proofs.Common.{◌≡◌, ℕ, ◌≤◌, List, length, ap, arith}
use Rattle.offload_c.specs.Answers.{IsShort}

pub not_short : (most : ℕ) (old new bytes output : List ℕ) (count result : ℕ) → (result ≡ 9 → IsShort old new count bytes) → bytes ≡ output → length output ≤ most → most ≤ length old → result ≡ 9 → ⊥
not_short most old new bytes output count result short same le room nine =
    let s = short nine in
    omega (arith, s.whole, s.short, ap length same, le, room)
