-- The bytes of a pseudo header.
use Rattle.std.proofs.Common.{◌≡◌, ℕ, ◌+◌, ◌-◌, ◌≤◌, List, ◌++◌, length, length-drop, take, drop, sym, ap, ◌∙◌, arith}
use Rattle.std.proofs.lemmas.List.{drop-append-le, take-append-le}
use Rattle.net_bytes.specs.Bytes.{part}

-- addresses are where they are, whatever follows
pub part_front : (h r : List ℕ) (at n : ℕ) → at + n ≤ length h → part (h ++ r) at n ≡ part h at n
part_front h r at n le =
    ap (take n) (drop-append-le at h r (omega (arith, le))) ∙ take-append-le n (drop at h) r (omega (arith, length-drop at h, le))

pub range_is : (h r : List ℕ) (at from to n : ℕ) → to - from ≡ n → from ≡ at → at + n ≤ length h → take (to - from) (drop from h) ≡ part (h ++ r) at n
range_is h r at from to n size same le =
    ap (λ k. take k (drop from h)) size ∙ ap (λ k. take n (drop k h)) same ∙ sym (part_front h r at n le)
