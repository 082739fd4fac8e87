-- The weight machine: each holder has its block and a weight, and each block has a word. Nothing lists a
-- block's holders: the word is what they weigh together.
use Rattle.std.specs.Prelude.{◌≡◌, ℕ, ◌+◌, ◌-◌, ◌<◌, ◌≤◌, Bool, ◌&&◌, not, nat_eq, nat_lt, ◌==◌, if◌then◌else◌, List}
use Rattle.std.specs.Prelude.{[], ◌∷◌, length, replicate, slice_index, slice_set, Option, Some, None, is_none}
use Rattle.std.specs.Map.{lookup, remove_entry}
use Rattle.indexmap.specs.IndexMap.{insert_entry}
use Rattle.ref_core.specs.Memory.{Memory, block_size, zeroed, byte_at, with_byte}
use Rattle.block_weight.specs.WeightRule.{full_weight}
use Rattle.ref_core.specs.declared.event.Event.{Event}
use Rattle.ref_core.specs.declared.event.Event.TheVariants.{Take, Share, Read, Write, GiveBack, Claim, Join}
use Rattle.ref_core.specs.declared.event.Answer.{Answer}
use Rattle.ref_core.specs.declared.event.Answer.TheVariants.{Done, Byte, Last, Left, Yes, No, BadGive, Unlawful}
use Rattle.ref_core.specs.declared.weight_machine.Holding.{Holding}

-- a map from each live holder to its block and its weight
abbrev pub Holdings : Type 0
Holdings = List (ℕ × Holding)

abbrev pub holding_of : ℕ → Holdings → Option Holding
holding_of holder holdings = lookup (nat_eq holder) holdings

abbrev pub dropped : ℕ → Holdings → Holdings
dropped holder holdings = remove_entry (nat_eq holder) holdings

-- with this block and weight for the holder
abbrev pub with_holding : ℕ → ℕ → ℕ → Holdings → Holdings
with_holding holder block weight holdings = insert_entry nat_eq holdings holder
    (record { block = block; weight = weight })

-- what the block's holders weigh together
abbrev pub total_weight : ℕ → Holdings → ℕ
total_weight block [] = 0
total_weight block (entry ∷ holdings) = (if block == entry.1.block then entry.1.weight else 0)
    + total_weight block holdings

pub record WeightState : Type 0 where
  pub holdings : Holdings
  pub words : List ℕ
  pub memory : Memory

abbrev pub first_weights : ℕ → WeightState
first_weights blocks = record { holdings = []; words = replicate blocks 0; memory = zeroed blocks }

abbrev pub AllLive : ℕ → Holdings → Type 0
AllLive blocks [] = Unit {0}
AllLive blocks (entry ∷ holdings) = (0 < entry.1.weight) × (entry.1.block < blocks) × AllLive blocks holdings

-- Each live weight is at least 1, and a block's word is the sum of its holders' weights, at most the full
-- weight. So it is 0 exactly where the block has no holder.
pub record IsWeighed (w : WeightState) : Type 0 where
  pub blocks : length w.words ≡ length w.memory
  pub live : AllLive (length w.words) w.holdings
  pub sums : (block : ℕ) → slice_index w.words block ≡ total_weight block w.holdings
  pub bounded : (block : ℕ) → slice_index w.words block ≤ full_weight

module _ (w : WeightState) where
  abbrev pub refused : WeightState × Answer
  refused = (w, Unlawful)

  abbrev pub word_of : ℕ → ℕ
  word_of block = slice_index w.words block

  -- the holding's block is one of the machine's, and its word covers the weight
  abbrev pub IsHoldingIn : Holding → Type 0
  IsHoldingIn h = (h.block < length w.words) × (h.block < length w.memory) × (h.weight ≤ word_of h.block)

  abbrev pub is_fresh : ℕ → Bool
  is_fresh holder = is_none (holding_of holder w.holdings)

  abbrev pub can_take : ℕ → ℕ → Bool
  can_take block holder = nat_lt block (length w.memory) && (word_of block == 0) && is_fresh holder

  abbrev pub taken : ℕ → ℕ → WeightState × Answer
  taken block holder = if can_take block holder
      then (
        record w {
          holdings = with_holding holder block full_weight w.holdings;
          words = slice_set w.words block
              full_weight;
        },
        Done,
      ) else refused

  abbrev pub can_give : ℕ → ℕ → Bool
  can_give weight give = nat_lt 0 give && nat_lt give weight

  -- the next five are told what the holder holds
  abbrev pub shared : Option Holding → ℕ → ℕ → ℕ → WeightState × Answer
  shared None holder fresh give = refused
  shared (Some h) holder fresh give = if is_fresh fresh
      then (if can_give h.weight give
      then (
        record w {
          holdings = with_holding fresh h.block give
              (with_holding holder h.block (h.weight - give) w.holdings);
        },
        Done,
      ) else (w, BadGive)) else refused

  abbrev pub read : Option Holding → ℕ → WeightState × Answer
  read None place = refused
  read (Some h) place = if nat_lt place block_size then (w, Byte (byte_at w.memory h.block place)) else refused

  abbrev pub written : Option Holding → ℕ → ℕ → WeightState × Answer
  written None place byte = refused
  written (Some h) place byte = if nat_lt place block_size && (h.weight == word_of h.block)
      then (record w { memory = with_byte w.memory h.block place byte }, Done) else refused

  abbrev pub given_back : Option Holding → ℕ → WeightState × Answer
  given_back None holder = refused
  given_back (Some h) holder = (
    record w { holdings = dropped holder w.holdings; words = slice_set w.words h.block (word_of h.block - h.weight) },
    if word_of h.block - h.weight == 0 then Last else Left,
  )

  abbrev pub claimed : Option Holding → ℕ → WeightState × Answer
  claimed None holder = refused
  claimed (Some h) holder = if h.weight == word_of h.block
      then (
        record w {
          holdings = with_holding holder h.block full_weight w.holdings;
          words = slice_set w.words h.block
              full_weight;
        },
        Yes,
      ) else (w, No)

  abbrev pub joined : Option Holding → Option Holding → ℕ → ℕ → WeightState × Answer
  joined None o holder other = refused
  joined (Some h) None holder other = refused
  joined (Some h) (Some o) holder other = if not (holder == other) && (h.block == o.block)
      then (record w { holdings = with_holding holder h.block (h.weight + o.weight) (dropped other w.holdings) }, Done)
      else refused

-- one step: the state after an event, and the answer
abbrev pub weight_step : WeightState → Event → WeightState × Answer
weight_step w (Take block holder) = taken w block holder
weight_step w (Share holder fresh give) = shared w (holding_of holder w.holdings) holder fresh give
weight_step w (Read holder place) = read w (holding_of holder w.holdings) place
weight_step w (Write holder place byte) = written w (holding_of holder w.holdings) place byte
weight_step w (GiveBack holder) = given_back w (holding_of holder w.holdings) holder
weight_step w (Claim holder) = claimed w (holding_of holder w.holdings) holder
weight_step w (Join holder other) = joined w (holding_of holder w.holdings) (holding_of other w.holdings) holder other
