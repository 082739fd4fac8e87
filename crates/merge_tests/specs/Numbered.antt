-- Packets in a list, whose numbers rise.
use Rattle.std.specs.Prelude.{ℕ, ◌≡◌, ◌<◌, List, length, map}
use Rattle.std.specs.List.{AllByRecursion}
use Rattle.gro.specs.declared.slot.Slot.{Slot}
use Rattle.gro.specs.Slots.{packet_of, AreHeld}
use Rattle.frame_runs.specs.Engine.{DoRise}

-- n packets, with numbers below n
pub record AreNumbered (slots : List Slot) (n : ℕ) : Type 0 where
  pub are : AreHeld slots
  pub below : AllByRecursion (λ (s : Slot). s.number < n) slots
  pub rising : DoRise (map packet_of slots)
  pub size : length slots ≡ n
