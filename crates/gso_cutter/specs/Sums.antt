-- The sum of a segment that is cut off, of which the plan may know it.
use Rattle.std.specs.Prelude.{ℕ, ◌≡◌, ◌*◌, ◌≤◌, List, length, take, drop}
use Rattle.segment_rule.specs.declared.segmentation.Segmentation.{Segmentation}
use Rattle.gso.specs.Sums.{AreSumsOf}
use Rattle.gso.specs.declared.sums.Sums.{Sums}

-- the bytes of segment i of a payload whose sums are known
pub record IsSummedSegment (sums : Sums) (cut : Segmentation) (i : ℕ) (own : List ℕ) : Type 0 where
  pub payload : List ℕ
  pub known : AreSumsOf cut.m sums payload
  pub within : length payload ≤ cut.n * cut.m
  pub is : own ≡ take cut.m (drop (i * cut.m) payload)
