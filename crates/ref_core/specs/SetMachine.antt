-- The set machine: a set of pairs says who holds which block. An event that is not lawful is answered
-- `Unlawful` and changes nothing. The bytes of a block stay from holder to holder.
use Rattle.std.specs.Prelude.{ℕ, ◌+◌, ◌<◌, Bool, false, ◌&&◌, not, nat_eq, nat_lt, ◌==◌, if◌then◌else◌, List, [], ◌∷◌}
use Rattle.std.specs.Prelude.{◌++◌, length, Option, Some, None, is_none}
use Rattle.std.specs.Map.{lookup, remove_entry}
use Rattle.ref_core.specs.Memory.{Memory, block_size, zeroed, byte_at, with_byte}
use Rattle.ref_core.specs.declared.event.Event.{Event}
use Rattle.ref_core.specs.declared.event.Event.TheVariants.{Take, Share, Read, Write, GiveBack, Claim, Join}
use Rattle.ref_core.specs.declared.event.Answer.{Answer}
use Rattle.ref_core.specs.declared.event.Answer.TheVariants.{Done, Byte, Last, Left, Yes, No, Unlawful}

-- (holder, block), at most one pair for a holder
abbrev pub Pairs : Type 0
Pairs = List (ℕ × ℕ)

-- the block that a live holder holds
abbrev pub block_of : ℕ → Pairs → Option ℕ
block_of holder pairs = lookup (nat_eq holder) pairs

abbrev pub without : ℕ → Pairs → Pairs
without holder pairs = remove_entry (nat_eq holder) pairs

-- how many hold the block
abbrev pub holder_count : ℕ → Pairs → ℕ
holder_count block [] = 0
holder_count block (pair ∷ pairs) = (if block == pair.1 then 1 else 0) + holder_count block pairs

-- each pair's block is one of so many
abbrev pub AllPlaced : ℕ → Pairs → Type 0
AllPlaced blocks [] = Unit {0}
AllPlaced blocks (pair ∷ pairs) = (pair.1 < blocks) × AllPlaced blocks pairs

abbrev pub same_block : Option ℕ → Option ℕ → Bool
same_block (Some block) (Some other) = block == other
same_block (Some block) None = false
same_block None other = false

pub record SetState : Type 0 where
  pub pairs : Pairs
  pub memory : Memory

-- no pairs, and so many blocks of zeros
abbrev pub first_sets : ℕ → SetState
first_sets blocks = record { pairs = []; memory = zeroed blocks }

module _ (s : SetState) where
  abbrev pub refused : SetState × Answer
  refused = (s, Unlawful)

  abbrev pub is_fresh : ℕ → Bool
  is_fresh holder = is_none (block_of holder s.pairs)

  -- the block has no holder, and the holder is not live
  abbrev pub can_take : ℕ → ℕ → Bool
  can_take block holder = nat_lt block (length s.memory) && (holder_count block s.pairs == 0) && is_fresh holder

  abbrev pub taken : ℕ → ℕ → SetState × Answer
  taken block holder = if can_take block holder then (record s { pairs = s.pairs ++ (holder, block) ∷ [] }, Done)
      else refused

  -- the next five are told the block that the holder holds
  abbrev pub shared : Option ℕ → ℕ → SetState × Answer
  shared None fresh = refused
  shared (Some block) fresh = if is_fresh fresh then (record s { pairs = s.pairs ++ (fresh, block) ∷ [] }, Done)
      else refused

  abbrev pub read : Option ℕ → ℕ → SetState × Answer
  read None place = refused
  read (Some block) place = if nat_lt place block_size then (s, Byte (byte_at s.memory block place)) else refused

  -- only the block's only holder writes
  abbrev pub written : Option ℕ → ℕ → ℕ → SetState × Answer
  written None place byte = refused
  written (Some block) place byte = if nat_lt place block_size && (holder_count block s.pairs == 1)
      then (record s { memory = with_byte s.memory block place byte }, Done) else refused

  -- `Last` exactly where no holder of the block is left
  abbrev pub given_back : Option ℕ → ℕ → SetState × Answer
  given_back None holder = refused
  given_back (Some block) holder = (
    record s { pairs = without holder s.pairs },
    if holder_count block
        (without holder s.pairs) == 0 then Last else Left,
  )

  -- `Yes` exactly where the holder is the block's only one
  abbrev pub claimed : Option ℕ → SetState × Answer
  claimed None = refused
  claimed (Some block) = (s, if holder_count block s.pairs == 1 then Yes else No)

  -- two live holders of one block
  abbrev pub can_join : ℕ → ℕ → Bool
  can_join holder other = not (holder == other) && same_block (block_of holder s.pairs) (block_of other s.pairs)

  abbrev pub joined : ℕ → ℕ → SetState × Answer
  joined holder other = if can_join holder other then (record s { pairs = without other s.pairs }, Done) else refused

-- one step: the state after an event, and the answer
abbrev pub set_step : SetState → Event → SetState × Answer
set_step s (Take block holder) = taken s block holder
set_step s (Share holder fresh give) = shared s (block_of holder s.pairs) fresh
set_step s (Read holder place) = read s (block_of holder s.pairs) place
set_step s (Write holder place byte) = written s (block_of holder s.pairs) place byte
set_step s (GiveBack holder) = given_back s (block_of holder s.pairs) holder
set_step s (Claim holder) = claimed s (block_of holder s.pairs)
set_step s (Join holder other) = joined s holder other
