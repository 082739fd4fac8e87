-- A buffer whose first bytes were written anew.
use Rattle.std.specs.Prelude.{◌≡◌, ℕ}
use Rattle.skb.specs.SkbState.{SkbState, weighed_in, IsAlone}

-- its blocks are the same, and lie as they lay
pub record KeepsBlocks (old new : SkbState) : Type 0 where
  pub range : (new.from ≡ old.from) × (new.to ≡ old.to) × (new.rest ≡ old.rest)
  pub weighs : (h : ℕ → ℕ) → weighed_in h new ≡ weighed_in h old
  pub alone : IsAlone old → IsAlone new
