-- What comes home to a pool, and what calls with a pool answer: of it and of a buffer, before and after.
use Rattle.std.specs.Prelude.{List, ℕ, ◌≡◌, ◌⊎◌, ◌+◌, ◌-◌, ◌<◌, ◌≤◌, [], ◌∷◌, ◌++◌, length, min, take, drop, true}
use Rattle.std.specs.Prelude.{false, Option, Some, None, Ok, ◌^◌}
use Rattle.std.specs.List.{AllByRecursion, sum_by}
use Rattle.block_weight.specs.WeightRule.{full_weight}
use Rattle.raw_block.specs.Views.{ReceiptState, SoleState}
use Rattle.raw_block.specs.declared.part.Released.TheVariants.{Last, Left}
use Rattle.frags.specs.Account.{Keeps, KeepsMarks, both, of_outcomes}
use Rattle.frags.specs.PieceList.{bytes_of, least_weight}
use Rattle.frags.specs.Growth.{Grows}
use Rattle.frags.specs.OutcomesState.{OutcomesState, IsBare}
use Rattle.frags.specs.Returns.{ReturnsHolder, ReturnsPieces}
use Rattle.frags.specs.declared.holder.Holder.TheVariants.{Sole}
use Rattle.skb.specs.SkbState.{SkbState, Owned, buffer_bytes, buffer_size, is_sole, of_buffer}
use Rattle.skb.specs.declared.sharing.Unshared.{Unshared}
use Rattle.skb.specs.declared.sharing.Unshared.TheVariants.{Unused, Gave}
use Rattle.block_pool.specs.PoolState.{PoolState, home}
use Rattle.skb.specs.Copy.{copy_need}
use Rattle.skb.specs.Cut.{IsCut}
use Rattle.skb_c.specs.Held.{Has}

-- how many blocks are home, 0 of no pool
abbrev pub home_of : Option PoolState → ℕ
home_of None = 0
home_of (Some p) = home p

-- the blocks that were given back are home, as many as there are places for
pub record BringsHome (out : OutcomesState) (before after : PoolState) : Type 0 where
  pub places : after.made ≡ before.made
  pub count : home after ≡ min (home before + length out.soles) before.made
  pub blocks : home before + length out.soles ≤ before.made → (h : SoleState → ℕ)
      → sum_by h after.blocks ≡ sum_by h before.blocks + sum_by h out.soles

-- each is of a part that others were beside
abbrev pub AreLight : List ReceiptState → Type 0
AreLight receipts = AllByRecursion (λ (r : ReceiptState). r.weight < full_weight) receipts

-- as it was, but for the number of blocks that were taken
abbrev pub IsSame : PoolState → PoolState → Type 0
IsSame p q = (q.blocks ≡ p.blocks) × (q.made ≡ p.made)

-- the block that came home last is the buffer's, with so much headroom and no bytes
abbrev pub IsNewBuffer : ℕ → PoolState → PoolState → SkbState → Type 0
IsNewBuffer headroom p q b = (s : SoleState) × (p.blocks ≡ q.blocks ++ s ∷ []) × (q.made ≡ p.made)
    × (b ≡ record { head = Sole s; from = headroom; to = headroom; rest = [] })

abbrev pub IsNew : ℕ → PoolState → PoolState → Option SkbState → ℕ → Type 0
IsNew headroom p q None code = IsSame p q
    × (((2048 < headroom) × (code ≡ 2)) ⊎ (((home p ≡ 0) × (code ≡ 4)) ⊎ (code ≡ 7)))
IsNew headroom p q (Some b) code = (headroom ≤ 2048) × IsNewBuffer headroom p q b × (code ≡ 0)

-- each block of the buffer is home, but for those that others hold
abbrev pub IsReleased : SkbState → PoolState → PoolState → Type 0
IsReleased b p q = (none : OutcomesState) × (mid : OutcomesState) × (out : OutcomesState) × IsBare none
    × ReturnsHolder b.head none mid × ReturnsPieces b.rest mid out × BringsHome out p q

abbrev pub Releases : PoolState → SkbState → PoolState → Option SkbState → ℕ → Type 0
Releases p b q None code = IsReleased b p q × (code ≡ 0)
Releases p b q (Some c) code = (c ≡ b) × (q ≡ p) × (code ≡ 7)

-- what the buffer has no more was given back, piece by piece, and is home where nobody else holds it
abbrev pub GivesBack : SkbState → SkbState → PoolState → PoolState → Type 0
GivesBack a b p q = (none : OutcomesState) × (out : OutcomesState) × IsBare none
    × Keeps (both (of_buffer a) (of_outcomes none)) (both (of_buffer b) (of_outcomes out))
    × Grows (length a.rest - length b.rest) none out × AreLight out.receipts × BringsHome out p q

-- 2 where there are fewer bytes, 7 without memory: nothing has changed
abbrev pub IsRefused : ℕ → PoolState → SkbState → PoolState → SkbState → ℕ → Type 0
IsRefused n p a q b code = (b ≡ a) × (q ≡ p) × (((buffer_size a < n) × (code ≡ 2)) ⊎ (code ≡ 7))

abbrev pub Pulls : ℕ → PoolState → SkbState → PoolState → SkbState → ℕ → Type 0
Pulls n p a q b code = (n ≤ buffer_size a) × (buffer_bytes b ≡ drop n (buffer_bytes a)) × (b.head ≡ a.head)
    × (b.from ≡ min (a.from + n) a.to) × (b.to ≡ a.to) × GivesBack a b p q × (code ≡ 0)

abbrev pub IsPulled : ℕ → PoolState → SkbState → PoolState → Option SkbState → ℕ → Type 0
IsPulled n p a q after code = Has (λ b. IsRefused n p a q b code ⊎ Pulls n p a q b code) after

abbrev pub Trims : ℕ → PoolState → SkbState → PoolState → SkbState → ℕ → Type 0
Trims n p a q b code = (n ≤ buffer_size a) × (buffer_bytes b ≡ take (buffer_size a - n) (buffer_bytes a))
    × (b.head ≡ a.head) × (b.from ≡ a.from) × GivesBack a b p q × (code ≡ 0)

abbrev pub IsTrimmed : ℕ → PoolState → SkbState → PoolState → Option SkbState → ℕ → Type 0
IsTrimmed n p a q after code = Has (λ b. IsRefused n p a q b code ⊎ Trims n p a q b code) after

-- a spare, or the block of a head that nobody holds any more
abbrev pub IsTakenBack : Unshared → PoolState → PoolState → Type 0
IsTakenBack (Unused s) p q = (q.blocks ≡ p.blocks ++ s ∷ []) × (q.made ≡ p.made)
IsTakenBack (Gave (Last s) sight) p q = (q.blocks ≡ p.blocks ++ s ∷ []) × (q.made ≡ p.made)
IsTakenBack (Gave (Left r) sight) p q = IsSame p q

-- the head is a Sole of the same bytes: it was one, or became one by a block of the pool or without
abbrev pub Unshares : PoolState → SkbState → PoolState → SkbState → Type 0
Unshares p a q b = (spare : SoleState) × (mid : PoolState) × (back : Unshared) × (p.blocks ≡ mid.blocks ++ spare ∷ [])
    × (mid.made ≡ p.made) × Owned a.head spare b.head back × IsTakenBack back mid q

abbrev pub IsUnshared : PoolState → SkbState → PoolState → Option SkbState → ℕ → Type 0
IsUnshared p a q after code = Has (λ b. ((home p ≡ 0) × (is_sole a.head ≡ false) × (b ≡ a) × (q ≡ p) × (code ≡ 4))
    ⊎ ((is_sole b.head ≡ true) × (buffer_bytes b ≡ buffer_bytes a) × (b.from ≡ a.from) × (b.to ≡ a.to)
    × (b.rest ≡ a.rest) × (((is_sole a.head ≡ true) × (b ≡ a) × (q ≡ p)) ⊎ Unshares p a q b) × (code ≡ 0))) after

-- the first bytes stay, and the rest stands behind the headroom of a block of the pool
abbrev pub IsSplit : ℕ → PoolState → SkbState → PoolState → SkbState → Option SkbState → ℕ → Type 0
IsSplit n p a q b (Some c) code = (s : SoleState) × (p.blocks ≡ q.blocks ++ s ∷ []) × (q.made ≡ p.made)
    × (c ≡ record { head = Sole s; from = 2048; to = 2048; rest = c.rest }) × IsCut n a b (Ok c.rest)
    × (buffer_bytes a ≡ buffer_bytes b ++ bytes_of c.rest) × (buffer_size b ≡ n) × (code ≡ 0)
IsSplit n p a q b None code = (b ≡ a) × IsSame p q
    × (((buffer_size a < n) × (code ≡ 2)) ⊎ (((home p ≡ 0) × (code ≡ 4)) ⊎ ((code ≡ 5) ⊎ (code ≡ 7))))

-- what both held is held, or is home
abbrev pub Attached : PoolState → SkbState → SkbState → PoolState → SkbState → Type 0
Attached p a c q b = (none : OutcomesState) × (out : OutcomesState) × IsBare none
    × KeepsMarks (both (of_buffer a) (both (of_buffer c) (of_outcomes none))) (both (of_buffer b) (of_outcomes out))
    × AreLight out.receipts × BringsHome out p q

-- the other's bytes follow, and of the other nothing is left but what is home
abbrev pub IsAttached : PoolState → SkbState → SkbState → PoolState → SkbState → Option SkbState → ℕ → Type 0
IsAttached p a c q b None code = (buffer_bytes b ≡ buffer_bytes a ++ buffer_bytes c) × (b.head ≡ a.head)
    × (b.from ≡ a.from) × (b.to ≡ a.to) × Attached p a c q b × (code ≡ 0)
IsAttached p a c q b (Some d) code = (d ≡ c) × (b ≡ a) × (q ≡ p)
    × (((2 ^ 32 ≤ buffer_size a + buffer_size c) × (code ≡ 2)) ⊎ (code ≡ 7))

-- blocks of the pool alone, which nobody else holds; where there is no copy the same blocks are home as before
abbrev pub IsCopied : SkbState → PoolState → PoolState → Option SkbState → ℕ → Type 0
IsCopied a p q (Some c) code = (buffer_bytes c ≡ buffer_bytes a) × (c.from ≡ 64) × (is_sole c.head ≡ true)
    × (least_weight c.rest ≡ full_weight)
    × (length c.rest + 1 ≡ copy_need a) × (home q + copy_need a ≡ home p) × (q.made ≡ p.made) × (code ≡ 0)
IsCopied a p q None code = (home q ≡ home p) × (q.made ≡ p.made)
    × ((h : SoleState → ℕ) → sum_by h q.blocks ≡ sum_by h p.blocks)
    × (((home p < copy_need a) × (code ≡ 4)) ⊎ (code ≡ 7))
