-- Packets that wait for their run's item, each at its index.
use Rattle.std.specs.Prelude.{ℕ, zero, suc, ◌≡◌, ◌≤◌, Option, None, Some, List, [], ◌∷◌, length, map}
use Rattle.std.specs.List.{AllByRecursion, flat_map}
use Rattle.gro_table.specs.declared.packet.Packet.{Packet as Held}
use Rattle.gro_table.specs.declared.packet_list.PacketList.{PacketList}
use Rattle.frame_runs.specs.declared.run.Run.{Run}
use Rattle.frame_runs.specs.declared.engine.Engine.{Engine}
use Rattle.gro_table.specs.Held.{packet_of, AreHeld}
use Rattle.gro.specs.Slots.{packet_of as packet_in, AreHeld as AreSlots}
use Rattle.gro_table.specs.Lists.{held_of, ArePaired}
use Rattle.frame_runs.specs.Chains.{indices, index_sum, mark, AreDistinct}
use Rattle.frame_runs.specs.Engine.{Knows, AreRuns}

abbrev pub one_in : Option Held → List Held
one_in None = []
one_in (Some p) = p ∷ []

-- the packet that waits at an index, if one does
abbrev pub found : List (Option Held) → ℕ → List Held
found [] k = []
found (x ∷ xs) zero = one_in x
found (x ∷ xs) (suc k) = found xs k

-- those that wait at these indices
abbrev pub chosen : List (Option Held) → List ℕ → List Held
chosen xs ks = flat_map (found xs) ks

-- one waits at each of these
abbrev pub AreThere : List (Option Held) → List ℕ → Type 0
AreThere xs ks = AllByRecursion (λ k. 1 ≤ length (found xs k)) ks

-- those at these indices have been taken, and no others
pub record Empties (ks : List ℕ) (xs ys : List (Option Held)) : Type 0 where
  pub size : length ys ≡ length xs
  pub others : (k : ℕ) → index_sum (mark k) ks ≡ 0 → found ys k ≡ found xs k
  pub gone : (k : ℕ) → 1 ≤ index_sum (mark k) ks → found ys k ≡ []

-- ---- runs of packets that wait

abbrev pub held_at : List ℕ → List (Option Held) → Run → List Held
held_at next xs run = chosen xs (indices next run)

-- a run that has come to these packets
abbrev pub IsRun : Run → List Held → Type 0
IsRun run [] = ⊥
IsRun run (p ∷ ps) = Knows run (packet_of p) (map packet_of ps) × AreHeld (p ∷ ps)

-- the packets of these runs wait, and no others
pub record AreWaiting (next : List ℕ) (runs : List Run) (xs : List (Option Held)) : Type 0 where
  pub there : AreThere xs (flat_map (indices next) runs)
  pub distinct : AreDistinct (flat_map (indices next) runs)
  pub others : (k : ℕ) → index_sum (mark k) (flat_map (indices next) runs) ≡ 0 → found xs k ≡ []
  pub each : AllByRecursion (λ run. IsRun run (held_at next xs run)) runs

-- ---- the runs of a list of packets

-- all packets of a list, each at its index
abbrev pub lined_up : PacketList → List (Option Held)
lined_up l = map Some (held_of l)

abbrev pub run_held : PacketList → List ℕ → Run → List Held
run_held l next run = held_at next (lined_up l) run

abbrev pub held_in : PacketList → Engine → List (List Held)
held_in l e = map (run_held l e.next.items) e.runs.items

-- what is known of a list of packets and of the engine that has received them
pub record AreTogether (l : PacketList) (e : Engine) : Type 0 where
  pub paired : ArePaired l
  pub slots : AreSlots l.slots.items
  pub are : AreRuns (map packet_in l.slots.items) (length l.slots.items) e
