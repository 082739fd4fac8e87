use Rattle.std.proofs.Common.{◌≡◌, ◌*◌, ◌^◌, ◌≤◌, map, drop}
use Rattle.taps.specs.Clones.{packet_of}
use Rattle.check_totals.specs.Returned.{Lefts}
use Rattle.comparing.specs.KeptFlows.{AreFlows}
use Rattle.comparing.specs.Items.{AreLeft, item_at}
use Rattle.comparing.proofs.ItemTotals.{SoFar}
use Rattle.comparing.proofs.items.check_items.Given as goal

abbrev pub invariant-loop-i : goal.invariant-loop-i
invariant-loop-i l = record {
  records : l.totals.records ≤ l.i * 2 ^ 32;
  items : l.totals.items ≡ l.i;
  merged : l.totals.merged ≤ l.i;
  returned : l.totals.returned ≤ l.i * 2 ^ 32;
  flows : AreFlows (map packet_of l.kept) l.flows;
  so_far : (left : Lefts) → AreLeft (map packet_of l.kept) l.fn.flows left
      → SoFar (map packet_of l.kept) left (map (item_at l.packets l.next) l.runs) (drop l.i (map (item_at l.packets l.next) l.runs)) l.flows l.totals;
}
