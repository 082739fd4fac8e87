-- What a run has come to, and the heads of its first packet and of the next.
use Rattle.std.proofs.Common.{◌≡◌, ℕ, ◌+◌, ◌≤◌, Some, None, Option, List, ◌∷◌, length, sym, arith, ◌<◌, ◌++◌, [], length-append}
use Rattle.std.specs.Prelude.{IfSome}
use Rattle.frame_runs.specs.Frames.{IsFrontOf}
use Rattle.frame_runs.proofs.Judged.{begins}
pub use Rattle.frame_runs.proofs.Judged.{in_head}
use Rattle.inet_sum.specs.Stands.{FoldAndLength}
use Rattle.frame_layout.specs.Shape.{Layout}
use Rattle.pcap_io.specs.Capture.{Packet}
use Rattle.merge_rule.specs.declared.rule.Progress.{Progress}
use Rattle.merge_rule.specs.Next.{HasHead}
use Rattle.merge_rule.specs.Runs.{IsPlaced, IsRunOf, IsRunBy}
use Rattle.merge_rule.proofs.Knows.{run_some, placed_by, bounded, within}
use Rattle.merge_rule.proofs.Merge.{few}
use Rattle.frame_runs.specs.declared.run.Run.{Run}
use Rattle.frame_runs.specs.Engine.{Knows}

-- a frame begins with its head
pub head_of : (head f : List ℕ) (n : ℕ) → IsFrontOf head f → n ≡ length f → HasHead head n f
head_of head f n front l = record { begins = begins head f front; long = sym l }

-- a run is short
few_by : (found : Option Layout) (sum : FoldAndLength) (bits : ℕ) (state : Progress) (p : Packet) (rest : List Packet) → IsRunBy found sum bits state p (p ∷ rest) → length rest ≤ 262069
few_by None sum bits state p rest r = omega (arith, r.0)
few_by (Some layout) sum bits state p rest r = omega (arith, few p rest layout sum bits state r)

pub few_more : (item : Run) (p : Packet) (rest : List Packet) → Knows item p rest → item.more ≤ 262069
few_more item p rest k = omega (arith, k.more, few_by item.layout item.payload item.flags item.progress p rest k.is)

module _ (item : Run) (first : Packet) (rest : List Packet) (layout : Layout) (is : item.layout ≡ Some layout) (own : Knows item first rest) where
  pub known : IsRunOf layout item.payload item.flags item.progress first (first ∷ rest)
  known = run_some item.layout item.payload item.flags item.progress first (first ∷ rest) layout own.is is

  pub placed : IsPlaced layout
  placed = placed_by first.frame layout known.shape

  pub sums : (layout.payload_at ≤ item.progress.total) × (item.progress.total ≤ layout.payload_at + 262070) × (layout.payload_at ≤ 200)
  sums = bounded first rest layout item.payload item.flags item.progress known

  pub first_in_head : (head : List ℕ) → IsFrontOf head first.frame → layout.payload_at ≤ length head
  first_in_head head front = in_head head first.frame layout.payload_at front sums.2 (within first.frame layout known.shape)

-- what holds where there is something
pub if_some : {A : Type 0} (P Q : A → Type 0) (o : Option A) → ((a : A) → P a → Q a) → IfSome o P → IfSome o Q
if_some P Q None f h = tt
if_some P Q (Some a) f h = f a h

-- a run with one more packet has two more than follow its first
pub few_enough : (p x : Packet) (rest : List Packet) (more segs : ℕ) → more + 2 ≤ segs → length rest ≡ more → length (p ∷ rest ++ x ∷ []) ≤ segs
few_enough p x rest more segs few e = omega (arith, few, e, length-append rest (x ∷ []))

pub too_many : (p x : Packet) (rest : List Packet) (more segs : ℕ) → segs < more + 2 → length rest ≡ more → length (p ∷ rest ++ x ∷ []) ≤ segs → ⊥
too_many p x rest more segs many e few = omega (arith, many, few, e, length-append rest (x ∷ []))
