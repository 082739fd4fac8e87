-- What a contract sees of a shared pool and of its passes, and what each call does to a pass.
use Rattle.std.specs.Prelude.{◌≡◌, ℕ, ◌+◌, ◌-◌, ◌<◌, ◌≤◌, ◌^◌, List, [], ◌∷◌, ◌++◌, length, min, replicate}
use Rattle.std.specs.List.{sum_by}
use Rattle.atomic_table.specs.Seated.{TableId}
use Rattle.crossbeam_queue.specs.Passes.{Pass, view}
use Rattle.raw_block.specs.Views.{SoleState}
use Rattle.block_pool.specs.declared.shared.rule.Tally.{Tally}

-- which pool it is, how many items it was made with, and how many have a place
pub record SharedState : Type 0 where
  pub id : TableId
  pub made : ℕ
  pub places : ℕ

-- which pool's pass it is; what the pool was made with, and how many items that is; its parts of the whole; what it
-- took and put, and their numbers; how often it found the pool empty and full
pub record PassState (T : Type 0) : Type 0 where
  pub pool : TableId
  pub made : List T
  pub size : ℕ
  pub parts : ℕ
  pub taken : List T
  pub takes : ℕ
  pub put : List T
  pub puts : ℕ
  pub empties : ℕ
  pub fulls : ℕ

-- the numbers that a pass keeps are those of what it knows
pub record IsTied {T : Type 0} (pass : Pass T (Tally T)) (parts takes puts : ℕ) : Type 0 where
  pub parts_are : (view pass).parts ≡ parts
  pub takes_are : length (view pass).taken ≡ takes
  pub puts_are : length (view pass).put ≡ puts
  pub some_part : 0 < parts
  pub no_more : parts ≤ 65536
  pub at_rest : pass.me.1 ≡ []

-- a count that stays at its type's end
abbrev pub risen : ℕ → ℕ
risen n = min (n + 1) (2 ^ 64 - 1)

module _ {T : Type 0} where
  abbrev pub known : Pass T (Tally T) → Tally T
  known pass = view pass

  -- the pass is one of this pool's
  abbrev pub IsOwn : SharedState → PassState T → Type 0
  IsOwn pool pass = (pass.pool ≡ pool.id) × (pass.size ≡ pool.made)

  -- the pass is the one that it was, with as many parts
  abbrev pub IsSame : PassState T → PassState T → Type 0
  IsSame p q = (q.pool ≡ p.pool) × (q.size ≡ p.size) × (q.parts ≡ p.parts)

  -- nothing but what is named differs
  abbrev pub Took : PassState T → T → PassState T → Type 0
  Took p item q = q ≡ record p { taken = p.taken ++ item ∷ []; takes = p.takes + 1 }

  abbrev pub Put : PassState T → T → PassState T → Type 0
  Put p item q = q ≡ record p { put = p.put ++ item ∷ []; puts = p.puts + 1 }

  abbrev pub FoundEmpty : PassState T → PassState T → Type 0
  FoundEmpty p q = q ≡ record p { empties = risen p.empties }

  abbrev pub FoundFull : PassState T → PassState T → Type 0
  FoundFull p q = q ≡ record p { fulls = risen p.fulls }

  -- one part left this pass
  abbrev pub LostPart : PassState T → PassState T → Type 0
  LostPart p q = q ≡ record p { parts = p.parts - 1 }

  -- a pass of the same pool with just these parts, which has done nothing
  abbrev pub IsNew : PassState T → ℕ → PassState T → Type 0
  IsNew p parts q =
      q ≡ record p { parts = parts; taken = []; takes = 0; put = []; puts = 0; empties = 0; fulls = 0 }

  -- both passes' parts and counts in one
  abbrev pub Gathered : PassState T → PassState T → PassState T → Type 0
  Gathered p spent q =
      q ≡ record p {
        parts = p.parts + spent.parts;
        taken = p.taken ++ spent.taken;
        takes = p.takes + spent.takes;
        put = p.put ++ spent.put;
        puts = p.puts + spent.puts;
        empties = min (p.empties + spent.empties) (2 ^ 64 - 1);
        fulls = min (p.fulls + spent.fulls) (2 ^ 64 - 1);
      }

  -- the pass that a pool opens with: it has all parts
  abbrev pub IsOpening : SharedState → PassState T → Type 0
  IsOpening pool q = IsOwn pool q × IsNew q 65536 q × (length q.made ≡ q.size)

  -- n items are home: with all that were taken they are those that were made and all that were put
  abbrev pub IsHome : PassState T → ℕ → Type 0
  IsHome p n =
      (items : List T) × (length items ≡ n)
      × ((h : T → ℕ) → sum_by h items + sum_by h p.taken ≡ sum_by h p.made + sum_by h p.put)

-- a block of zeros with the mark 0
abbrev pub IsFresh : SoleState → Type 0
IsFresh block = (block.bytes ≡ replicate 2048 0) × (block.mark ≡ 0)
