-- What is counted of a packet.
use Rattle.std.proofs.Common.{◌≡◌, ◌∙◌, ℕ, Bool, ap}
use Rattle.wire_model.specs.declared.counts.Counts.{Counts}
use Rattle.wire_model.specs.Counting.{counts_by}

-- by the same numbers the same is counted
pub same_counts : (a b x y n k : ℕ) (p q : Bool) (old : Counts) → a ≡ b → x ≡ y → p ≡ q → n ≡ k → counts_by a x p n old ≡ counts_by b y q k old
same_counts a b x y n k p q old first second third fourth =
    ap (λ z. counts_by z x p n old) first ∙ ap (λ z. counts_by b z p n old) second ∙ ap (λ z. counts_by b y z n old) third ∙ ap (λ z. counts_by b y q z old) fourth
