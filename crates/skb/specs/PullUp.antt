-- What `pull_up` answers.
use Rattle.std.specs.Prelude.{ℕ, ◌≡◌, ◌+◌, ◌-◌, ◌<◌, ◌≤◌, List, take, Ok, Err}
use Rattle.std.specs.declared.result.Result.{Result}
use Rattle.block_weight.specs.WeightRule.{full_weight}
use Rattle.raw_block.specs.Releases.{IsReleased}
use Rattle.raw_block.specs.Views.{SoleState}
use Rattle.raw_block.specs.declared.part.Released.{Released}
use Rattle.raw_block.specs.declared.part.Released.TheVariants.{Last, Left}
use Rattle.frags.specs.Account.{Account, of_sole, of_released}
use Rattle.frags.specs.OutcomesState.{OutcomesState}
use Rattle.frags.specs.PieceList.{cut_front}
use Rattle.frags.specs.declared.holder.Holder.{Holder}
use Rattle.frags.specs.declared.holder.Holder.TheVariants.{Sole, Part}
use Rattle.skb.specs.SkbState.{SkbState, buffer_bytes, buffer_size, head_size, written}
use Rattle.skb.specs.declared.pull_up.PullFault.{PullFault}
use Rattle.skb.specs.declared.pull_up.PullFault.TheVariants.{Short, TooBig}
use Rattle.skb.specs.declared.pull_up.Returned.{Returned}
use Rattle.skb.specs.declared.pull_up.Returned.TheVariants.{Unused, Gave}

-- what a head's release left: a Sole is the last
abbrev pub HeadReleased : Holder → Released → Type 0
HeadReleased (Sole s) (Last x) = x ≡ s
HeadReleased (Sole s) (Left r) = ⊥
HeadReleased (Part p) r = IsReleased p r × (p.weight ≤ full_weight)

-- a block in which bytes stand behind a headroom of 64
abbrev pub behind_headroom : SoleState → List ℕ → SoleState
behind_headroom s xs = record s { bytes = written s.bytes 64 xs }

-- the buffer whose first n bytes lie in a new head
abbrev pub pulled_up : ℕ → SkbState → SoleState → SkbState
pulled_up n a s = record {
  head = Sole (behind_headroom s (take n (buffer_bytes a)));
  from = 64;
  to = 64 + n;
  rest = cut_front (n - head_size a) a.rest;
}

abbrev pub IsPullFault : ℕ → SkbState → PullFault → Type 0
IsPullFault n a (Short h k) = (buffer_size a < n) × (h ≡ buffer_size a) × (k ≡ n)
IsPullFault n a TooBig = (n ≤ buffer_size a) × (1984 < n)

-- of the buffer and the outcomes before and after
abbrev pub IsPullUp : ℕ → SkbState → SoleState → OutcomesState → SkbState → OutcomesState
    → Result Returned (PullFault × SoleState) → Type 0
IsPullUp n a s o b q (Ok (Unused u)) = (n ≤ 1984) × (n ≤ head_size a) × (u ≡ s) × (b ≡ a) × (q ≡ o)
IsPullUp n a s o b q (Ok (Gave r)) = (n ≤ 1984) × (n ≤ buffer_size a) × (head_size a < n) × (b ≡ pulled_up n a s)
    × HeadReleased a.head r
IsPullUp n a s o b q (Err e) = IsPullFault n a e.0 × (e.1 ≡ s) × (b ≡ a) × (q ≡ o)

-- what it gives back
abbrev pub of_pulled : Result Returned (PullFault × SoleState) → Account
of_pulled (Ok (Unused s)) = of_sole s
of_pulled (Ok (Gave r)) = of_released r
of_pulled (Err e) = of_sole e.1
