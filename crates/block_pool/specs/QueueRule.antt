-- The rule of a shared pool's queue: over what it holds, and over what each pass has done. It holds items: blocks, or
-- lists of blocks.
--
-- Items are compared by weights: `sum_by h items` adds up the weights h of the items. With the weight 1 for each item
-- it counts them. With 1 for the blocks of a mark and 0 for all others it counts those of the mark. Where an item is a
-- list its weight may be what its blocks weigh together, so the rule speaks of blocks too. Two lists that weigh the
-- same under every weight have the same items.
use Rattle.std.specs.Prelude.{◌≡◌, ℕ, ◌+◌, ◌<◌, ◌≤◌, List, [], length}
use Rattle.std.specs.List.{sum_by}
use mathlib.Core.Option.{some}
use lib.ListN.{get_elem?}
use Rattle.block_pool.specs.declared.shared.rule.Tally.{Tally}

module _ {T : Type 0} where
  -- what a pass knows: its parts of the whole, what was made, and what it took and put
  abbrev pub tally : ℕ → List T → List T → List T → Tally T
  tally parts made taken put = record { parts = parts; made = made; taken = taken; put = put }

  abbrev pub parts_of : List (Tally T) → ℕ
  parts_of views = sum_by (λ (v : Tally T). v.parts) views

  abbrev pub taken_of : (T → ℕ) → List (Tally T) → ℕ
  taken_of h views = sum_by (λ (v : Tally T). sum_by h v.taken) views

  abbrev pub put_of : (T → ℕ) → List (Tally T) → ℕ
  put_of h views = sum_by (λ (v : Tally T). sum_by h v.put) views

  -- a pass without parts has taken and put nothing
  abbrev pub IdleIsEmpty : List (Tally T) → Type 0
  IdleIsEmpty views = (port : ℕ) (v : Tally T) → get_elem? views port ≡ some v → v.parts ≡ 0
      → (v.taken ≡ []) × (v.put ≡ [])

  -- what the queue holds and all that was taken is what was made and all that was put, as each pass with parts knows
  -- what was made
  abbrev pub IsEven : List T → List (Tally T) → Type 0
  IsEven items views = (h : T → ℕ) (port : ℕ) (v : Tally T) → get_elem? views port ≡ some v → 0 < v.parts
      → sum_by h items + taken_of h views ≡ sum_by h v.made + put_of h views

  abbrev pub Kept : List T → List (Tally T) → Type 0
  Kept items views = (parts_of views ≡ 65536) × IdleIsEmpty views × IsEven items views

  -- what a pass knows of the queue: it has no more than all parts, and where it has all, what it took and put is all
  -- that was taken and put, in number and item by item
  abbrev pub Balance : Tally T → List T → Type 0
  Balance v items =
      (v.parts ≤ 65536)
      × (v.parts ≡ 65536 → length items + length v.taken ≡ length v.made + length v.put)
      × (v.parts ≡ 65536 → (h : T → ℕ) → sum_by h items + sum_by h v.taken ≡ sum_by h v.made + sum_by h v.put)

  -- what a step shows a pass: an empty queue weighs nothing
  abbrev pub Shown : Tally T → List T → Type 0
  Shown v items = Balance v items × (length items ≡ 0 → (h : T → ℕ) → sum_by h items ≡ 0)
