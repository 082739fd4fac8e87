-- Nothing is lost: by blocks, lives and marks, what was held is held, or its block's Sole is at home.
use Rattle.std.specs.Prelude.{ℕ, ◌+◌, ◌*◌, ◌≤◌, List, [], ◌∷◌, Bool, true, cond, ◌&&◌, ◌==◌}
use Rattle.block_weight.specs.WeightRule.{full_weight}
use Rattle.raw_block.specs.Views.{Life, SoleState, PartState, ReceiptState}
use Rattle.raw_block.specs.declared.part.Released.{Released}
use Rattle.raw_block.specs.declared.part.Released.TheVariants.{Last, Left}
use Rattle.frags.specs.OutcomesState.{OutcomesState}
use Rattle.frags.specs.declared.holder.Holder.{Holder}
use Rattle.frags.specs.declared.holder.Holder.TheVariants.{Sole, Part}

-- what is counted: of some blocks some lives
pub record Tests : Type 0 where
  pub blocks : ℕ → Bool
  pub lives : Life → Bool

-- all lives of some blocks
abbrev pub every : (ℕ → Bool) → Tests
every bs = record { blocks = bs; lives = λ l. true }

-- what a weight counts at the mark m
abbrev pub counted : Tests → ℕ → Life → ℕ → ℕ → ℕ
counted t m life mark weight = cond (t.blocks life.block && (t.lives life && (mark == m))) weight 0

-- what a Sole counts at the mark m: it is in no life of its block
abbrev pub at_home : (ℕ → Bool) → ℕ → ℕ → ℕ → ℕ
at_home bs m block mark = cond (bs block && (mark == m)) 1 0

-- what an object holds at a mark: the weight of some lives, and the Soles of some blocks
pub record Account : Type 0 where
  pub held : Tests → ℕ → ℕ
  pub homes : (ℕ → Bool) → ℕ → ℕ

abbrev pub both : Account → Account → Account
both a b = record { held = λ t m. a.held t m + b.held t m; homes = λ bs m. a.homes bs m + b.homes bs m }

-- no weight is made up, and what is gone has its block's Sole at home
abbrev pub Keeps : Account → Account → Type 0
Keeps a b = (t : Tests) (m : ℕ) → (b.held t m ≤ a.held t m)
    × (a.held t m + full_weight * a.homes t.blocks m ≤ b.held t m + full_weight * b.homes t.blocks m)

-- no block is made up: where none of some blocks was, as a part or at home, none is
abbrev pub KeepsBlocks : Account → Account → Type 0
KeepsBlocks a b = (bs : ℕ → Bool) (m : ℕ)
    → b.held (every bs) m + b.homes bs m ≤ a.held (every bs) m + a.homes bs m

-- as `Keeps`, over all lives of a block, where a call shares a Sole and so begins a life
abbrev pub KeepsMarks : Account → Account → Type 0
KeepsMarks a b = (bs : ℕ → Bool) (m : ℕ)
    → a.held (every bs) m + full_weight * a.homes bs m ≤ b.held (every bs) m + full_weight * b.homes bs m

abbrev pub receipts_held : Tests → ℕ → List ReceiptState → ℕ
receipts_held t m [] = 0
receipts_held t m (s ∷ ss) = counted t m s.life s.mark s.weight + receipts_held t m ss

abbrev pub soles_home : (ℕ → Bool) → ℕ → List SoleState → ℕ
soles_home bs m [] = 0
soles_home bs m (s ∷ ss) = at_home bs m s.block s.mark + soles_home bs m ss

abbrev pub of_part : PartState → Account
of_part p = record { held = λ t m. counted t m p.life p.mark p.weight; homes = λ bs m. 0 }

abbrev pub of_sole : SoleState → Account
of_sole s = record { held = λ t m. 0; homes = λ bs m. at_home bs m s.block s.mark }

abbrev pub of_receipt : ReceiptState → Account
of_receipt s = record { held = λ t m. counted t m s.life s.mark s.weight; homes = λ bs m. 0 }

abbrev pub of_outcomes : OutcomesState → Account
of_outcomes o = record { held = λ t m. receipts_held t m o.receipts; homes = λ bs m. soles_home bs m o.soles }

-- what a release left
abbrev pub of_released : Released → Account
of_released (Last s) = of_sole s
of_released (Left r) = of_receipt r

abbrev pub of_holder : Holder → Account
of_holder (Sole s) = of_sole s
of_holder (Part p) = of_part p
