-- Where a segment's payload lies, and what its headers are made of.
use Rattle.std.proofs.Common.{◌≡◌, ℕ, ◌+◌, ◌-◌, ◌*◌, ◌<◌, List, ◌++◌, length, min, take, drop}
use Rattle.std.proofs.Common.{sym, ap, ◌∙◌, subst, arith, length-drop}
use Rattle.std.proofs.lemmas.List.{length-take-le, drop-drop, take_min}
use Rattle.net_bytes.specs.Bytes.{byte}
use Rattle.inet_sum.specs.Stands.{FoldAndLength, StandsFor}
use Rattle.frame_layout.specs.Headers.{AtHeaders, AreLaid}
use Rattle.offload_model.specs.Mergeable.{IsLengthInRange}
use Rattle.segment_rule.specs.declared.segmentation.Segmentation.{Segmentation}
use Rattle.segment_rule.specs.Segmentations.{segment_at, segment_from, payload_at, IsSegmentationOf}
use Rattle.segment_rule.proofs.Segments.{places, segment_ranges}

-- the first m of some bytes, or all of fewer
first_n : (x : List ℕ) (m n : ℕ) → n ≡ min m (length x) → take n x ≡ take m x
first_n x m n e = ap (λ (z : ℕ). take z x) e ∙ take_min m x

module _ (cut : Segmentation) (f : List ℕ) (i : ℕ) (bytes : (k : ℕ) → byte f k < 256) (is : IsSegmentationOf cut f)
    (there : i < cut.n)
  where
    abbrev at : ℕ
    at = cut.layout.payload_at

    module _ (from len : ℕ) (from_is : from ≡ at + i * cut.m) (len_is : len ≡ min cut.m (length f - from)) where
      abbrev own : List ℕ
      own = take len (drop from f)

      pub own_is : own ≡ payload_at cut f i
      own_is =
          let all : length (drop from f) ≡ length f - from = length-drop from f in
          first_n (drop from f) cut.m len (len_is ∙ ap (min cut.m) (sym all))
          ∙ ap (λ (z : ℕ). take cut.m (drop z f)) from_is
          ∙ ap (take cut.m) (sym (drop-drop (i * cut.m) at f))

      module _ (head : List ℕ) (headers : head ≡ take at f) where
        pub head_long : length head ≡ at
        head_long = ap length headers ∙ length-take-le at f (places cut f bytes is).within

        pub laid : AreLaid 0 cut.layout.headers (length head)
        laid = subst (AreLaid 0 cut.layout.headers) (sym head_long) (places cut f bytes is).laid

        module _ (sum : FoldAndLength) (stands : StandsFor sum own) where
          size : length head + sum.len ≡ at + length (payload_at cut f i)
          size = omega (arith, head_long, stands.1, ap length own_is)

          pub ranges : AtHeaders (IsLengthInRange (length head + sum.len)) cut.layout.headers
          ranges =
              subst (λ (z : ℕ). AtHeaders (IsLengthInRange z) cut.layout.headers) (sym size)
              (segment_ranges cut f i bytes is)

        pub segment_is : (written : List ℕ) → written ++ own ≡ segment_from cut i (head ++ own)
            → written ++ own ≡ segment_at cut f i
        segment_is written e =
            e
            ∙ ap (λ (z : List ℕ). segment_from cut i (z ++ own)) headers
            ∙ ap (λ (z : List ℕ). segment_from cut i (take at f ++ z)) own_is
