-- What a contract sees of packets in a list, where they stay.
use Rattle.std.specs.Prelude.{ℕ, ◌≡◌, ◌+◌, ◌*◌, Bool, false, Result, List, length, set}
use Rattle.std.specs.Prelude.{slice_index_or, MatchResult, IfOk}
use Rattle.block_weight.specs.WeightRule.{full_weight}
use Rattle.frags.specs.Account.{Tests, KeepsMarks, every}
use Rattle.frags.specs.declared.pieces.ShareFault.{ShareFault}
use Rattle.skb.specs.SkbState.{SkbState, buffer_bytes, is_sole, of_buffer, IsClone}
use Rattle.gro.specs.declared.slot.Slot.{Slot}

-- the packets in the order in which they came, and for how many more there is room
pub record PacketsState : Type 0 where
  pub items : List Slot
  pub room : ℕ

-- ---- a packet's buffer is cloned where it lies

abbrev pub with_skb : Slot → SkbState → Slot
with_skb p s = record p { skb = s }

-- the answer of a buffer's clone, and what the buffer is then
pub record Cloned (a b : SkbState) (result : Result SkbState ShareFault) : Type 0 where
  pub clone : IsClone a b result
  pub bytes : MatchResult result (λ c. (buffer_bytes b ≡ buffer_bytes a) × (buffer_bytes c ≡ buffer_bytes a))
      (λ _. buffer_bytes b ≡ buffer_bytes a)
  pub count : MatchResult result (λ c. (length b.rest ≡ length a.rest) × (length c.rest ≡ length a.rest))
      (λ _. length b.rest ≡ length a.rest)
  pub sums : is_sole a.head ≡ false → IfOk result
      (λ c. (t : Tests) (m : ℕ) → (of_buffer b).held t m + (of_buffer c).held t m ≡ (of_buffer a).held t m)
  pub marks : MatchResult result (λ c. (bs : ℕ → Bool) (m : ℕ)
      → (of_buffer b).held (every bs) m + (of_buffer c).held (every bs) m
      ≡ (of_buffer a).held (every bs) m + full_weight * (of_buffer a).homes bs m)
      (λ _. KeepsMarks (of_buffer a) (of_buffer b))

-- of packets that one, at index i, and no other
abbrev pub ClonedAt : ℕ → List Slot → List Slot → Result SkbState ShareFault → Type 0
ClonedAt i ps qs result = (d : Slot) → (s : SkbState) × (Cloned (slice_index_or ps i d).skb s result
    × (qs ≡ set ps i (with_skb (slice_index_or ps i d) s)))
