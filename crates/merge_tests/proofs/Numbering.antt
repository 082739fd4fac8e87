-- One packet more in a list, whose number is above those before.
use Rattle.std.proofs.Common.{◌≡◌, ℕ, ◌+◌, ◌<◌, List, [], ◌∷◌, ◌++◌, map, arith, length-append}
use Rattle.std.specs.List.{AllByRecursion}
use Rattle.maximal_runs.proofs.Pass.{all_append}
use Rattle.gro.specs.declared.slot.Slot.{Slot}
use Rattle.gro.specs.Slots.{packet_of, IsHeld}
use Rattle.frame_runs.specs.Engine.{DoRise}
use Rattle.merge_tests.specs.Numbered.{AreNumbered}

rise_push : (ss : List Slot) (s : Slot) → DoRise (map packet_of ss) → AllByRecursion (λ (t : Slot). t.number < s.number) ss → DoRise (map packet_of (ss ++ (s ∷ [])))
rise_push [] s r a = tt
rise_push (t ∷ []) s r a = (a.0, tt)
rise_push (t ∷ u ∷ ss) s r a = (r.0, rise_push (u ∷ ss) s r.1 a.1)

below_more : (ss : List Slot) (n : ℕ) → AllByRecursion (λ (t : Slot). t.number < n) ss → AllByRecursion (λ (t : Slot). t.number < n + 1) ss
below_more [] n a = tt
below_more (t ∷ ss) n a = (omega (arith, a.0), below_more ss n a.1)

pub numbered_more : (ss : List Slot) (s : Slot) (n : ℕ) → s.number ≡ n → IsHeld s → AreNumbered ss n → AreNumbered (ss ++ (s ∷ [])) (n + 1)
numbered_more ss s n e is a = record {
  are = all_append IsHeld ss (s ∷ []) a.are (is, tt);
  below = all_append (λ (t : Slot). t.number < n + 1) ss (s ∷ []) (below_more ss n a.below) (omega (arith, e), tt);
  rising = rise_push ss s a.rising (below_as ss a.below);
  size = omega (arith, length-append ss (s ∷ []), a.size);
}
  where
    below_as : (ts : List Slot) → AllByRecursion (λ (t : Slot). t.number < n) ts → AllByRecursion (λ (t : Slot). t.number < s.number) ts
    below_as [] b = tt
    below_as (t ∷ ts) b = (omega (arith, b.0, e), below_as ts b.1)
