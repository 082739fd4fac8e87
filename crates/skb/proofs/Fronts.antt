-- First bytes that were written in a block behind its headroom.
use Rattle.std.proofs.Common.{◌≡◌, ℕ, ◌+◌, ◌-◌, ◌≤◌, List, ◌++◌, length, take, drop, slice_range, ap, ◌∙◌, arith}
use Rattle.std.proofs.lemmas.List.{length-take-le}
use Rattle.std.proofs.Math.Seq.{drop-append-add, take-append_seam}
use Rattle.raw_block.specs.Overwriting.{overwritten}
use Rattle.raw_block.proofs.Overwriting.{overwritten-inside, length-overwritten}

module _ (b w : List ℕ) (n : ℕ) (long : length b ≡ 2048) (is : length w ≡ n) (low : n ≤ 200) where
  abbrev behind : List ℕ
  behind = drop (64 + length w) b

  abbrev whole : List ℕ
  whole = take 64 b ++ (w ++ behind)

  pub front_long : length (overwritten b 64 w) ≡ 2048
  front_long = length-overwritten b 64 w (omega (arith, long)) ∙ long

  pub front_is : slice_range (overwritten b 64 w) 64 (64 + n) ≡ w
  front_is =
      let u : (64 + n) - 64 ≡ length w = omega (arith, is) in
      let v : 64 ≡ length (take 64 b) + 0 = omega (arith, length-take-le 64 b (omega (arith, long))) in
      ap (λ (z : List ℕ). slice_range z 64 (64 + n)) (overwritten-inside b 64 w (omega (arith, long, is, low)))
      ∙ ap (λ (z : ℕ). take z (drop 64 whole)) u
      ∙ ap (λ (z : ℕ). take (length w) (drop z whole)) v
      ∙ ap (take (length w)) (drop-append-add (take 64 b) (w ++ behind) 0)
      ∙ take-append_seam w behind
