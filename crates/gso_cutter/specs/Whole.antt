-- A frame that is given as it is, or that was given, or that isn't to be.
use Rattle.std.specs.Prelude.{◌≡◌, ◌≤◌, Bool, true}
use Rattle.skb.specs.SkbState.{SkbState, buffer_least}

-- a buffer, and whether its frame is still to be given
pub record WholeState : Type 0 where
  pub skb : SkbState
  pub is_left : Bool

-- its head may be cut
abbrev pub IsWhole : WholeState → Type 0
IsWhole w = w.is_left ≡ true → 2048 ≤ buffer_least w.skb
