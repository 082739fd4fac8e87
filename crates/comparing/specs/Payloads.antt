-- The payloads of a run's packets that weren't read yet.
use Rattle.std.specs.Prelude.{ℕ, ◌≡◌, ◌<◌, ◌≤◌, ◌^◌, List, ◌++◌, length, map}
use Rattle.std.specs.List.{AllByRecursion}
use Rattle.gro.specs.declared.slot.Slot.{Slot}
use Rattle.frame_runs.specs.Chains.{chain_of, packet_at}
use Rattle.frame_runs.specs.MergedRun.{payloads_behind}
use Rattle.gro.specs.Slots.{packet_of, AreHeld}

-- what is left of one packet, and what n packets have behind a place, of which the first is that of index k
abbrev pub payload_left : List ℕ → ℕ → List Slot → List ℕ → ℕ → ℕ → List ℕ
payload_left own from slots next n k =
    own ++ payloads_behind from (map (packet_at (map packet_of slots)) (chain_of next n k))

-- the packet of an index has bytes behind a place
pub record HasBehind (from : ℕ) (slots : List Slot) (k : ℕ) : Type 0 where
  pub inside : k < length slots
  pub some : from < length (packet_at (map packet_of slots) k).frame

pub record IsPayloadLeft (own : List ℕ) (from : ℕ) (slots : List Slot) (next : List ℕ) (n k left : ℕ) : Type 0 where
  pub long : left ≡ length (payload_left own from slots next n k)
  pub small : left < 2 ^ 32
  pub are : AreHeld slots
  pub linked : length slots ≤ length next
  pub low : from ≤ 200
  pub behind : AllByRecursion (HasBehind from slots) (chain_of next n k)
